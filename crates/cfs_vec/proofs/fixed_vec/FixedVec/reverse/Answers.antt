use Rattle.std.proofs.Common.{◌≡◌, ◌≤◌, ◌∙◌, List, length, arith, reverse, sym, ap, subst}
use Rattle.std.proofs.lemmas.List.{length-reverse}
use Rattle.std.specs.List.{refill}
use Rattle.cfs_vec.specs.Cells.{somes, AreFull}
use Rattle.cfs_vec.proofs.CellLemmas.{somes-reverse, full_reverse, refilled}
use Rattle.cfs_vec.proofs.fixed_vec.FixedVec.reverse.Goals as goal

-- the cells that the call leaves
turned : {T : Type 0} (old lent new : List T) → lent ≡ old → new ≡ reverse lent → refill (length old) old new ≡ reverse old
turned old lent new is after =
    let all : new ≡ reverse old = after ∙ ap (λ xs. reverse xs) is in
    refilled old new (ap length all ∙ length-reverse old) ∙ all

pub invariant_of-self : goal.invariant_of-self
invariant_of-self g c = record {
  full = subst (λ cells. AreFull cells) (sym (turned c.args.self.now.cells.items c.as_mut_slice.result.now c.reverse.new.self c.as_mut_slice.ensures.value c.reverse.ensures.after))
      (full_reverse c.args.self.now.cells.items c.args.self.now.full);
}

pub returns-clause-items : goal.returns-clause-items
returns-clause-items g c =
    ap (λ cells. somes cells) (turned c.args.self.now.cells.items c.as_mut_slice.result.now c.reverse.new.self c.as_mut_slice.ensures.value c.reverse.ensures.after)
    ∙ somes-reverse c.args.self.now.cells.items

pub returns-clause-fits : goal.returns-clause-fits
returns-clause-fits g c =
    let items = returns-clause-items g c in
    let few : length c.args.self.now.cells.items ≤ g.row.N = omega (arith, c.as_mut_slice.ensures.fits, ap length c.as_mut_slice.ensures.value) in
    omega (arith, few, ap length items, length-reverse (somes c.args.self.now.cells.items), c.args.self.now.full)
