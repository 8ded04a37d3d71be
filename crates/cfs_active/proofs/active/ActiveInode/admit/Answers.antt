use Rattle.cfs_block.specs.MemoryBlocks.{seen_of}
use Rattle.cfs_inode.specs.View.{seens_of, state_view}
use Rattle.cfs_active.specs.Memory.{words_seen}
use Rattle.cfs_active.specs.View.{ActiveView, active_view}
use Rattle.std.proofs.Common.{◌+◌, arith, refl, rules, true}
use Rattle.cfs_file.specs.declared.entry.Entry.{Entry}
use Rattle.cfs_pmem.specs.Images.{words_of}
use Rattle.cfs_slot.specs.Regions.{of_staged}
use Rattle.cfs_slot.specs.Words.{grant_of}
use Rattle.cfs_inode.specs.Admitting.{admit_end, admit_events}
use Rattle.cfs_inode.specs.Ends.{end_of}
use Rattle.cfs_inode.specs.Opening.{IsNext}
use Rattle.cfs_inode.specs.Placing.{staged_seens}
use Rattle.cfs_inode.specs.Tagging.{stock_of}
use Rattle.cfs_active.proofs.Keepings.{keeps-admit}
use Rattle.cfs_active.proofs.Knowns.{here-known, here-told, number-known, stays-known}
use Rattle.cfs_active.proofs.active.ActiveInode.admit.Goals as goal

pub invariant_of-self : goal.invariant_of-self
invariant_of-self g c =
    let old = active_view c.args.self.now in
    let new : ActiveView = record old {
      state = state_view words_seen seen_of c.admit.new.self;
    } in
    let request = c.args.request.now in
    let entry : Entry = record {
      ino = 0;
      place = old.state.tracker.count + 1;
      caller = 0;
      line = 0;
      request = request;
    } in
    let next : IsNext old.state request entry = record { place_is = refl; request_is = refl } in
    let asked_old = g.P.Power.asked c.args.power.now in
    let asked_new = g.P.Power.asked c.admit.new.power in record {
      known = stays-known (admit_events c.admit.ensures.0 entry) asked_old asked_new old new
          (keeps-admit true true true request
          (grant_of (words_of (words_seen (of_staged c.args.staged))))
          (staged_seens words_seen c.args.staged) asked_old (stock_of seen_of c.args.stock.now)
          old.state asked_new (stock_of seen_of c.admit.new.stock) new.state
          (end_of words_seen c.admit.result.settled) (admit_end words_seen c.admit.result.answer)
          c.admit.ensures.0)
          (c.admit.ensures.1 entry next old.jobs) c.args.self.now.known;
    }

pub returns : goal.returns
returns g c = record {
  did = c.admit.ensures.0;
  jobs = refl;
  makes = λ entry next. c.admit.ensures.1 entry next (active_view c.args.self.now).jobs;
}

pub admit-requires : goal.admit-requires
admit-requires g c =
    let old = active_view c.args.self.now in
    let ino = number-known old.state old.jobs c.args.self.now.known in
    let here = here-told (seens_of words_seen) c.args.self.now.state.tracker.doubt
    (here-known old.state old.jobs c.args.self.now.known) in (
      search rules,
      (
        search rules,
        (
          search rules,
          (
            search rules,
            (
              search rules,
              (
                ino,
                (
                  here,
                  (
                    c.requires.change,
                    (
                      c.requires.places,
                      (
                        omega (arith, c.requires.room),
                        (c.requires.file, (c.requires.staged, c.requires.sure)),
                      ),
                    ),
                  ),
                ),
              ),
            ),
          ),
        ),
      ),
    )
