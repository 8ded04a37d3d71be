use Rattle.std.proofs.Common.{ℕ, ◌≡◌, ◌∙◌, ◌++◌, length, ap, arith, subst, sym}
use Rattle.cfs_image.specs.Checks.{IsSound}
use Rattle.cfs_image.specs.Fresh.{new_image_of}
use Rattle.cfs_image.specs.Image.{header_of, words_bytes}
use Rattle.cfs_image.proofs.Freshness.{made, sound_new}
use Rattle.cfs_image.proofs.fresh.new_image.Goals as goal

made_here : (c : goal.After-from_vec) → c.from_vec.result ≡ new_image_of c.args.blocks c.args.queues
made_here c =
    let counted : c.push_words-3.new.image.len ≡ length c.push_words-3.new.image.items = omega arith in
    let head : c.push_words.new.image.items ≡ c.in_ok-image.image.items ++ words_bytes (header_of c.args.blocks c.args.queues) =
    c.in_ok-push_words.ensures.image
    ∙ ap (λ (n : ℕ). c.in_ok-image.image.items ++ words_bytes (header_of n c.from-2.result)) c.from.ensures
    ∙ ap (λ (n : ℕ). c.in_ok-image.image.items ++ words_bytes (header_of c.args.blocks n)) c.from-2.ensures in
    c.from_vec.ensures
    ∙ made c.args.blocks c.args.queues c.image_len-len.result c.push_words-3.new.image.len c.in_ok-image.image.items c.push_words.new.image.items c.push_words-2.new.image.items
    c.push_words-3.new.image.items c.resize.new.self.items c.in_ok-image.ensures.items head c.in_ok-push_words-2.ensures.image c.in_ok-push_words-3.ensures.image
    c.in_ok-resize.ensures.items counted c.image_len-len.ensures

pub returns-clause-image : goal.returns-clause-image
returns-clause-image c = made_here c

pub returns-clause-sound : goal.returns-clause-sound
returns-clause-sound c =
    subst (λ bytes. IsSound bytes) (sym (made_here c))
    (sound_new c.args.blocks c.args.queues c.requires.fewest_blocks c.requires.most_blocks c.requires.fewest_queues c.requires.most_queues)
