use Rattle.std.proofs.Common.{arith, ℕ, ◌≡◌, ◌*◌, ◌∙◌, All, List, length, drop, ap, subst, sym}
use Rattle.std.proofs.lemmas.List.{take_at}
use Rattle.cfs_pmem.specs.Images.{MemoryRegion, words_of}
use Rattle.cfs_image.specs.Image.{IsWord}
use Rattle.cfs_image.proofs.WordBytes.{fit_read, words_bytes-read}
use Rattle.cfs_image.proofs.read.read_region.Goals as goal

-- the region has the words that were read
words_read : (c : goal.In_ok-new) → words_of c.in_ok-new.field-0.seen ≡ c.read_u64_into.new.dst
words_read c =
    let read : List ℕ = c.read_u64_into.new.dst in
    let size : length read ≡ c.in_ok-words.words.len = omega (arith, c.in_ok-words.ensures.len) in
    ap (λ (region : MemoryRegion). words_of region.seen) c.in_ok-new.ensures.ok ∙ take_at read (drop (length read) c.in_ok-words.words.items) c.in_ok-words.words.len size

pub returns-clause-words : goal.returns-clause-words
returns-clause-words c =
    let read : List ℕ = c.read_u64_into.new.dst in
    let eights : length c.args.bytes.now ≡ 8 * length read = omega (arith, c.in_ok-words.ensures.len) in
    rw (words_read c) (words_bytes-read read c.args.bytes.now eights (λ k. omega (arith, c.type_inv.bytes k)) c.read_u64_into.ensures)

pub returns-clause-fit : goal.returns-clause-fit
returns-clause-fit c =
    subst (λ words. All IsWord words) (sym (words_read c))
    (fit_read c.read_u64_into.new.dst c.args.bytes.now (λ k. omega (arith, c.type_inv.bytes k)) c.read_u64_into.ensures)
