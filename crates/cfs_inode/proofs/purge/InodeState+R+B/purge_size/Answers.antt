use Rattle.std.proofs.Common.{◌∙◌, ap, Bool, [], None, refl, false, ℕ}
use Rattle.cfs_inode.specs.declared.size_answer.SizeAnswer.TheVariants as went
use Rattle.cfs_inode.specs.Finishing.{is_right}
use Rattle.cfs_inode.specs.Purges.{keeping, writing}
use Rattle.cfs_inode.proofs.News.{state-stored}
use Rattle.cfs_inode.proofs.Purges.{state-in-use, state-kept, state-zero}
use Rattle.cfs_inode.proofs.Sizings.{sizes-are}
use Rattle.cfs_inode.proofs.purge.InodeState+R+B.purge_size.Goals as goal

pub returns-in-Set : goal.returns-in-Set
returns-in-Set g c =
    let words = g.R.Region.seen in
    let seen = g.B.Block.seen in
    let state = c.args.self.now in (
      words c.set_size.new.region,
      record {
        unused = state-in-use words seen state false c.requires.unused;
        bare = state-kept words seen state None c.requires.bare;
        sets = sizes-are g.R.Region.obeys_power c.is_right-right.result state.tracker.is_sure
            state.tracker.stored 0 0 went.Set (g.P.Power.asked c.args.power.now)
            (g.P.Power.asked c.set_size.new.power) (words state.size)
            (words c.set_size.new.region)
            (c.is_right-right.ensures
            ∙ ap (λ (p : ℕ × Bool). is_right p.0 p.1 0) c.size.ensures) refl c.in-Set.ensures;
      },
      state-stored words seen state.ino c.set_size.new.region c.emptied.new.self 0 []
          c.emptied.ensures.view,
    )

pub returns-in-Unwritten : goal.returns-in-Unwritten
returns-in-Unwritten g c =
    let words = g.R.Region.seen in
    let seen = g.B.Block.seen in
    let state = c.args.self.now in (
      writing,
      (
        words c.set_size.new.region,
        record {
          unused = state-in-use words seen state false c.requires.unused;
          bare = state-kept words seen state None c.requires.bare;
          sets = sizes-are g.R.Region.obeys_power c.is_right-right.result state.tracker.is_sure
              state.tracker.stored 0 0 went.Unwritten (g.P.Power.asked c.args.power.now)
              (g.P.Power.asked c.set_size.new.power) (words state.size)
              (words c.set_size.new.region)
              (c.is_right-right.ensures
              ∙ ap (λ (p : ℕ × Bool). is_right p.0 p.1 0) c.size.ensures) refl
              c.in-Unwritten.ensures;
        },
        refl,
      ),
    )

pub returns-in-Unkept : goal.returns-in-Unkept
returns-in-Unkept g c =
    let words = g.R.Region.seen in
    let seen = g.B.Block.seen in
    let state = c.args.self.now in (
      keeping,
      (
        words c.set_size.new.region,
        record {
          unused = state-in-use words seen state false c.requires.unused;
          bare = state-kept words seen state None c.requires.bare;
          sets = sizes-are g.R.Region.obeys_power c.is_right-right.result state.tracker.is_sure
              state.tracker.stored 0 0 went.Unkept (g.P.Power.asked c.args.power.now)
              (g.P.Power.asked c.set_size.new.power) (words state.size)
              (words c.set_size.new.region)
              (c.is_right-right.ensures
              ∙ ap (λ (p : ℕ × Bool). is_right p.0 p.1 0) c.size.ensures) refl c.in-Unkept.ensures;
        },
        state-zero words seen state c.set_size.new.region c.zero_unsure.new.self
            c.zero_unsure.ensures.view,
      ),
    )
