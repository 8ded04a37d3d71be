use Rattle.std.proofs.Common.{◌≡◌, ◌∙◌, List, ℕ, length, ap, sym, subst, arith, rules}
use Rattle.cfs_pmem.specs.Images.{IsImage, MemoryRegion, WordStep, words_now, words_kept}
use Rattle.cfs_pmem.specs.Draws.{words_left}
use Rattle.cfs_pmem.proofs.MemRegions.{backed_anew, left_is_image}
use Rattle.cfs_pmem.proofs.mem_region.MemRegion.crash.Goals as goal

pub invariant_of-self : goal.invariant_of-self
invariant_of-self c =
    rw c.of.ensures
    (backed_anew c.leave.new.durable.items c.leave.new.present.items c.none-self-inside.result c.leave.ensures.durable
    (search rules)
    c.none-self-inside.ensures.ordered
    (omega (arith, c.leave.ensures.size, c.self.invariant.differ.size, c.self.invariant.small)))

pub returns-clause-image : goal.returns-clause-image
returns-clause-image c =
    let h : List WordStep = c.self.inside.history in
    let size : length (words_kept h) ≡ length (words_now h) =
    ap (λ (ws : List ℕ). length ws) c.self.invariant.durable_is ∙ c.self.invariant.differ.size ∙ ap (λ (ws : List ℕ). length ws) (sym c.self.invariant.present_is) in
    let left : c.leave.new.present.items ≡ words_left c.args.pick.now (words_kept h) (words_now h) =
    c.leave.ensures.present ∙ ap (λ ws. words_left c.args.pick.now ws c.self.inside.present.items) (sym c.self.invariant.durable_is)
    ∙ ap (λ ws. words_left c.args.pick.now (words_kept h) ws) (sym c.self.invariant.present_is) in
    let image : IsImage h c.leave.new.present.items = subst (λ ws. IsImage h ws) (sym left) (left_is_image h c.args.pick.now size) in
    rw c.of.ensures (subst (λ history. IsImage history c.leave.new.present.items) (ap (λ (v : MemoryRegion). v.seen.history) c.self.view_is) image)
