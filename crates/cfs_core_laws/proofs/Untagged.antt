-- Jobs work in mapped blocks alone; a block that is not tagged in every image is zero.
use Rattle.std.proofs.Common.{◌≡◌, ℕ, ◌-◌, ◌*◌, true, false, not, if◌then◌else◌, Some, None, List, length, get_or, set, refl, sym, get_or-set_other, nat_lt, nat_le}
use Rattle.cfs_file.specs.declared.sizes.TheConstants.{BLOCK_LEN, FILE_BLOCKS}
use Rattle.cfs_core.specs.declared.flag.Flag.{Flag}
use Rattle.cfs_core.specs.declared.flag.Flag.TheVariants.{Off, On, Unsure}
use Rattle.cfs_core.specs.declared.event.Event.{Event}
use Rattle.cfs_core.specs.declared.event.Event.TheVariants as events
use Rattle.cfs_core.specs.declared.event.End.TheVariants as ends
use Rattle.cfs_core.specs.declared.event.SizeEnd.TheVariants as sizes
use Rattle.cfs_core.specs.declared.inode_core.Core.{Core}
use Rattle.cfs_core.specs.Fresh.{IsFresh}
use Rattle.cfs_core.specs.Words.{blank, has_block, is_lent, is_off, is_on, track}
use Rattle.cfs_core.specs.Jobs.{is_wanted}
use Rattle.cfs_core.specs.May.{case, may}
use Rattle.cfs_core.specs.After.{after}
use Rattle.cfs_core.proofs.Apart.{any_none, not_true}
use Rattle.cfs_core.proofs.Kept.{IsKept, at}
use Rattle.cfs_core.proofs.Legal.{both}
use Rattle.cfs_core.proofs.LoggedCrash.{tag_stays}
use Rattle.cfs_core.proofs.Order.{some_place, track_is}
use Rattle.cfs_core.proofs.StoredFrames.{in_tracks, no_clash}
use Rattle.cfs_core_laws.proofs.Along.{case-of}
use Rattle.cfs_core_laws.proofs.Finds.{Wants, job-wants, wanted-by}
use Rattle.cfs_core_laws.proofs.Lent.{Lends, had, taken, has, lends}

-- ---- what is lent is wanted

abbrev pub AreWanted : Core → Type 0
AreWanted core = (k block : ℕ) → has core k block ≡ true →
    Wants core.tags (at core k) (at core k).done block

-- a lent block stays tagged
lent-at : (core : Core) (k block : ℕ) → has core k block ≡ true →
    is_lent core.tracks block ≡ false → ⊥
lent-at core k block h none =
    no_clash (has core k block) h
    (any_none (λ t. has_block t.state block) core.tracks k none
    (in_tracks (λ s. has_block s block) core.tracks k refl h))

tagged-set : (tags : List Flag) (block other : ℕ) (flag : Flag) → (block ≡ other → ⊥) →
    is_on (get_or tags other Off) ≡ true → is_on (get_or (set tags block flag) other Off) ≡ true
tagged-set tags block other flag apart on =
    let same : get_or (set tags block flag) other Off ≡ get_or tags other Off =
    get_or-set_other tags block other flag Off (λ is. apart (sym is)) in
    rw same on

stays-tagged : (core : Core) (event : Event) → case core event ≡ true → (k block : ℕ) →
    has core k block ≡ true → is_on (get_or core.tags block Off) ≡ true →
    is_on (get_or (after core event).tags block Off) ≡ true
stays-tagged core (events.Tag other kept) h k block is on =
    let a = both (nat_lt other FILE_BLOCKS) _ h in
    let b = both (nat_lt other (length core.tags)) _ a.1 in
    let c = both (not (is_on (get_or core.tags other Off))) _ b.1 in
    tagged-set core.tags other block (if kept then On else Unsure)
    (λ same. let off : is_on (get_or core.tags block Off) ≡ false = rw (← same) (not_true _ c.0)
    in no_clash _ on off) on
stays-tagged core (events.Admit entry grant true) h k block is on = on
stays-tagged core (events.Admit entry grant false) h k block is on = on
stays-tagged core (events.AdmitRead entry) h k block is on = on
stays-tagged core (events.Serve place answer) h k block is on = on
stays-tagged core (events.Mark place by kept) h k block is on = on
stays-tagged core (events.Dispatch place) h k block is on = on
stays-tagged core (events.BlockWrite place other None) h k block is on = on
stays-tagged core (events.BlockWrite place other (Some left)) h k block is on = on
stays-tagged core (events.Flush place other true) h k block is on = on
stays-tagged core (events.Flush place other false) h k block is on = on
stays-tagged core (events.Finish place ends.Retired) h k block is on = on
stays-tagged core (events.Finish place ends.More) h k block is on = on
stays-tagged core (events.Finish place (ends.Back sizes.AsBefore gate applied)) h k block is on = on
stays-tagged core (events.Finish place (ends.Back sizes.Set gate applied)) h k block is on = on
stays-tagged core (events.Finish place (ends.Back sizes.Either gate applied)) h k block is on = on
stays-tagged core (events.Skip place) h k block is on = on
stays-tagged core (events.Trim other kept) h k block is on =
    let a = both (nat_lt other FILE_BLOCKS) _ h in
    let b = both (not (is_off (get_or core.tags other Off))) _ a.1 in
    let c = both (nat_le core.size (BLOCK_LEN * other)) _ b.1 in
    let d = both (not (is_lent core.tracks other)) _ c.1 in
    tagged-set core.tags other block (if kept then Off else Unsure)
    (λ same. lent-at core k block is (rw (← same) (not_true _ d.0))) on
stays-tagged core events.Settle h k block is on = on
stays-tagged core (events.Crash image) h k block is on = tag_stays core image block h on
stays-tagged core events.Mount h k block is on = on

wanted-of : (core : Core) (event : Event) → case core event ≡ true → AreWanted core →
    (k block : ℕ) → Lends core event k block (at (after core event) k) →
    has (after core event) k block ≡ true → Wants (after core event).tags (at (after core event) k)
    (at (after core event) k).done block
wanted-of core event h were k block (had is span done) now =
    let w = were k block is in
    record {
      file = w.file;
      above = rw done w.above;
      mapped = stays-tagged core event h k block is w.mapped;
      meeting = rw span w.meeting;
    }
wanted-of core event h were k block (taken is may_be same) now =
    let own = rw same at now in
    let w = job-wants core.tags (at core k) block own in
    let tags : (after core event).tags ≡ core.tags = rw is refl in
    record {
      file = w.file;
      above = rw same w.above;
      mapped = rw tags w.mapped;
      meeting = rw same w.meeting;
    }

pub wanted-after : (core : Core) (event : Event) → IsKept core → AreWanted core →
    may core event ≡ true → AreWanted (after core event)
wanted-after core event kept were h k block is = wanted-of core event (case-of core event h) were k
    block (lends core event (case-of core event h) k block is) is

pub wanted-fresh : (core : Core) → IsFresh core → AreWanted core
wanted-fresh core fresh k block h =
    let none : at core k ≡ blank = rw fresh.tracks refl in
    let own : has_block blank.state block ≡ true = rw none at h in
    cc

pub wanted-at : (core : Core) → AreWanted core → (place block : ℕ) →
    has_block (track core.tracks place).state block ≡ true →
    is_wanted core.tags (track core.tracks place) (track core.tracks place).done block ≡ true
wanted-at core were place block h =
    let some = some_place (λ s. has_block s block) refl core.tracks place h in
    let here : track core.tracks place ≡ at core (place - 1) = track_is core.tracks place
    (place - 1) some refl in
    rw here (wanted-by core.tags (at core (place - 1)) (at core (place - 1)).done block
    (were (place - 1) block (rw here at h)))
