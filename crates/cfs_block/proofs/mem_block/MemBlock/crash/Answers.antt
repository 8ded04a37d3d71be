use Rattle.std.proofs.Common.{◌≡◌, ◌∙◌, List, ℕ, [], ◌∷◌, ap, sym, subst}
use Rattle.cfs_pmem.specs.declared.pick.Pick.{Pick}
use Rattle.cfs_pmem.specs.Draws.{after_word, byte_left, after_byte, each_left, after_each}
use Rattle.cfs_block.specs.BlockImages.{BlockStep, Content, IsBlockImage, flushed, content_now}
use Rattle.cfs_block.specs.Written.{is_set, block_left}
use Rattle.cfs_block.proofs.MemBlocks.{left_is, left_is_image}
use Rattle.cfs_block.proofs.mem_block.MemBlock.crash.Goals as goal

-- the content that stands is the one that the pick leaves
content_left : (c : goal.After-drop-self) → record { tag = c.word-self.result; bytes = c.leave.new.present.items } ≡ block_left c.args.pick.now c.args.self.now.history
content_left c =
    let was = c.args.self.now in
    let w : ℕ → Pick → ℕ → ℕ → ℕ = λ k. byte_left (is_set was.written.items k) in
    let n : ℕ → Pick → ℕ → ℕ → Pick = λ k. after_byte (is_set was.written.items k) in
    let left = left_is was.history was.dirty record { tag = was.durable_tag; bytes = was.durable.items } record { tag = was.tag; bytes = was.present.items } was.written.items c.args.pick.now was.backed in
    ap (λ (bs : List ℕ). record { tag = c.word-self.result; bytes = bs }) (c.leave.ensures.present ∙ ap (λ p. each_left w n p 0 was.durable.items was.present.items) c.word-self.ensures.pick)
    ∙ ap (λ (t : ℕ). record { tag = t; bytes = each_left w n (after_word c.args.pick.now was.durable_tag was.tag) 0 was.durable.items was.present.items }) c.word-self.ensures.word
    ∙ left.0

pub returns-clause-left : goal.returns-clause-left
returns-clause-left c = ap (λ (h : List BlockStep). record { device = c.args.self.now.device; also = []; history = h }) (c.of.ensures ∙ ap (λ (x : Content). flushed x ∷ []) (content_left c))

pub returns-clause-image : goal.returns-clause-image
returns-clause-image c =
    let was = c.args.self.now in
    let image = left_is_image was.history was.dirty record { tag = was.durable_tag; bytes = was.durable.items } record { tag = was.tag; bytes = was.present.items } was.written.items c.args.pick.now was.backed in
    subst (λ (h : List BlockStep). IsBlockImage was.history (content_now h)) (sym c.of.ensures) (subst (λ (x : Content). IsBlockImage was.history x) (sym (content_left c)) image)

pub returns-clause-pick : goal.returns-clause-pick
returns-clause-pick c =
    let was = c.args.self.now in
    let n : ℕ → Pick → ℕ → ℕ → Pick = λ k. after_byte (is_set was.written.items k) in
    let left = left_is was.history was.dirty record { tag = was.durable_tag; bytes = was.durable.items } record { tag = was.tag; bytes = was.present.items } was.written.items c.args.pick.now was.backed in
    c.leave.ensures.pick ∙ ap (λ p. after_each n p 0 was.durable.items was.present.items) c.word-self.ensures.pick ∙ left.1
