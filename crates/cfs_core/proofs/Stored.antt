-- Each event keeps what is stored.
use Rattle.std.proofs.Common.{◌≡◌, true, false, if◌then◌else◌, None}
use Rattle.cfs_core.specs.declared.flag.Flag.TheVariants.{On, Unsure}
use Rattle.cfs_core.specs.declared.event.Event.{Event}
use Rattle.cfs_core.specs.declared.event.Event.TheVariants as events
use Rattle.cfs_core.specs.declared.inode_core.Core.{Core}
use Rattle.cfs_core.specs.Words.{is_waiting, track}
use Rattle.cfs_core.specs.May.{case}
use Rattle.cfs_core.specs.After.{after}
use Rattle.cfs_core.proofs.Kept.{IsKept, IsStored}
use Rattle.cfs_core.proofs.Order.{first_of_and}
use Rattle.cfs_core.proofs.StoredAdmit.{stored_admit, stored_query}
use Rattle.cfs_core.proofs.StoredCrash.{stored_crash, stored_mount}
use Rattle.cfs_core.proofs.StoredFinish.{stored_finish}
use Rattle.cfs_core.proofs.StoredMark.{stored_mark}
use Rattle.cfs_core.proofs.StoredQuiet.{stored_dispatch, stored_doubt, stored_serve, stored_skip, stored_unmarked}
use Rattle.cfs_core.proofs.StoredTags.{stored_tag, stored_trim}
use Rattle.cfs_core.proofs.StoredWrites.{stored_flush, stored_write}

pub stored-after : (core : Core) (event : Event) → IsKept core → case core event ≡ true →
    IsStored (after core event)
stored-after core (events.Tag block kept) k h =
    stored_tag core block (if kept then On else Unsure) k h
stored-after core (events.Admit entry grant kept) k h = stored_admit core entry grant kept k h
stored-after core (events.AdmitRead entry) k h = stored_query core entry k h
stored-after core (events.Serve place answer) k h = stored_serve core place answer k.stored_ h
stored-after core (events.Mark place by true) k h = stored_mark core place by k h
stored-after core (events.Mark place by false) k h =
    stored_unmarked core place k.stored_
    (first_of_and (is_waiting (track core.tracks place).state) _ h)
stored-after core (events.Dispatch place) k h = stored_dispatch core place k.stored_ h
stored-after core (events.BlockWrite place block left) k h = stored_write core place block left k h
stored-after core (events.Flush place block ok) k h = stored_flush core place block ok k h
stored-after core (events.Finish place end) k h = stored_finish core place end k h
stored-after core (events.Skip place) k h = stored_skip core place k.stored_ h
stored-after core (events.Trim block kept) k h = stored_trim core block kept k h
stored-after core events.Settle k h = stored_doubt core None k.stored_
stored-after core (events.Crash image) k h = stored_crash core image k h
stored-after core events.Mount k h = stored_mount core k
