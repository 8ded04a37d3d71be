use Rattle.std.proofs.Common.{refl}
use Rattle.std.specs.Prelude.{None, Some}
use Rattle.cfs_dir.proofs.Numbers.{IsNumbered-empty, seen-empty}
use Rattle.cfs_dir.proofs.nodes.Nodes.new.Goals as goal

pub invariant_of-result : goal.invariant_of-result
invariant_of-result c =
    IsNumbered-empty c.in_ok-with_capacity.field-0 c.in_ok-vec.field-0.items c.in_ok-with_capacity.ensures.empty
    (c.in_ok-vec.ensures.items_if_clones_equal (elim [ None ↦ λ h. refl | Some x ↦ λ h. absurd h ]))

pub returns : goal.returns
returns c =
    seen-empty _ c.in_ok-vec.field-0.items refl
    (c.in_ok-vec.ensures.items_if_clones_equal (elim [ None ↦ λ h. refl | Some x ↦ λ h. absurd h ]))
