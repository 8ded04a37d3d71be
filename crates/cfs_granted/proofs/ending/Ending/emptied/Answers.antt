use Rattle.std.proofs.Common.{◌∙◌, ap, refl, subst, sym, true}
use Rattle.cfs_block.specs.MemoryBlocks.{seen_of}
use Rattle.cfs_active.specs.Memory.{words_seen}
use Rattle.cfs_inode.specs.Purges.{IsZero, TellsZero}
use Rattle.cfs_inode.specs.View.{StateView, state_view}
use Rattle.cfs_granted.specs.Clean.{IsClean}
use Rattle.cfs_granted.proofs.Purgings.{done-clean, failed-ends, freed-ends}
use Rattle.cfs_granted.proofs.ending.Ending.emptied.Goals as goal

pub invariant_of-result : goal.invariant_of-result
invariant_of-result g c =
    let old = state_view words_seen seen_of c.args.self.state in
    let new = state_view words_seen seen_of c.purge.new.self in record {
      known = freed-ends true true true (seen_of c.in-Freed.block.block)
          (g.P.Power.asked c.args.power.now) old (g.P.Power.asked c.purge.new.power) new
          c.in-Freed.ensures.purges (c.in-Freed.ensures.tells c.args.self.known.tells)
          c.args.self.known;
    }

pub invariant_of-result-in-Done : goal.invariant_of-result-in-Done
invariant_of-result-in-Done g c =
    let old = state_view words_seen seen_of c.args.self.state in
    let new = state_view words_seen seen_of c.purge.new.self in
    let did = c.in-Done.ensures.purges in
    let zeros : IsZero did.0 =
    subst TellsZero did.2 (c.in-Done.ensures.tells c.args.self.known.tells) refl in record {
      clean = subst IsClean
          (sym (c.into_parts-size.ensures.size ∙ ap (λ (s : StateView). s.size) did.2))
          (done-clean true (g.P.Power.asked c.args.power.now) old
          (g.P.Power.asked c.purge.new.power) new did.0 did.1 zeros c.args.self.known);
    }

pub invariant_of-result-in-Failed : goal.invariant_of-result-in-Failed
invariant_of-result-in-Failed g c =
    let old = state_view words_seen seen_of c.args.self.state in
    let new = state_view words_seen seen_of c.purge.new.self in record {
      known = failed-ends true true true (g.P.Power.asked c.args.power.now) old
          (g.P.Power.asked c.purge.new.power) new c.in-Failed.ensures.purges
          (c.in-Failed.ensures.tells c.args.self.known.tells) c.args.self.known;
    }
