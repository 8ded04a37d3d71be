-- Each event keeps the log's part of the invariant.
use Rattle.std.proofs.Common.{◌≡◌, ◌==◌, true, false, if◌then◌else◌, Some, None, length, arith, refl, ◌∙◌, nat_lt, length-set}
use Rattle.std.proofs.lemmas.Bool.Decides.{nat_tests}
use Rattle.std.proofs.lemmas.List.{length-map}
use Rattle.cfs_file.specs.declared.sizes.TheConstants.{FILE_BLOCKS}
use Rattle.cfs_core.specs.declared.flag.Flag.TheVariants.{Off, On, Unsure}
use Rattle.cfs_core.specs.declared.image.Image.{Image}
use Rattle.cfs_core.specs.declared.event.Event.{Event}
use Rattle.cfs_core.specs.declared.event.Event.TheVariants as events
use Rattle.cfs_core.specs.declared.event.End.TheVariants as ends
use Rattle.cfs_core.specs.declared.event.SizeEnd.TheVariants as sizes
use Rattle.cfs_core.specs.declared.inode_core.Core.{Core}
use Rattle.cfs_core.specs.Words.{flag_of, has_block, is_noop, is_out, is_unserved, track}
use Rattle.cfs_core.specs.Medium.{allow_bits, image_now, is_image, recovered}
use Rattle.cfs_core.specs.May.{case}
use Rattle.cfs_core.specs.After.{after}
use Rattle.cfs_core.proofs.Legal.{both}
use Rattle.cfs_core.proofs.Order.{first_of_and, serves, some_place, writes}
use Rattle.cfs_core.proofs.Kept.{IsKept, IsLogged}
use Rattle.cfs_core.proofs.Images.{tags_of_image}
use Rattle.cfs_core.proofs.LoggedFrames.{logged_beside}
use Rattle.cfs_core.proofs.LoggedTags.{logged_tag, logged_trim}
use Rattle.cfs_core.proofs.Alive.{unserved_dead}
use Rattle.cfs_core.proofs.StoredQuiet.{noop_dead}
use Rattle.cfs_core.proofs.LoggedPush.{logged_admit, logged_query}
use Rattle.cfs_core.proofs.LoggedJobs.{logged_closed, logged_dispatch, logged_finished, logged_flushed, logged_written}
use Rattle.cfs_core.proofs.LoggedMarks.{logged_marked}
use Rattle.cfs_core.proofs.LoggedCrash.{logged_crash, logged_mount}

pub logged-after : (core : Core) (event : Event) → IsKept core → case core event ≡ true →
    IsLogged (after core event)
logged-after core (events.Tag block kept) is h =
    logged_tag core block (if kept then On else Unsure) is.logged h
logged-after core (events.Admit entry grant kept) is h =
    logged_admit core entry grant kept is.ordered is.logged h
logged-after core (events.AdmitRead entry) is h = logged_query core entry is.ordered is.logged h
logged-after core (events.Serve place answer) is h =
    let asks = serves core place answer h in
    logged_closed core place (track core.tracks place).gate is.logged
    (some_place is_unserved refl core.tracks place asks)
    (unserved_dead (track core.tracks place).state asks)
logged-after core (events.Mark place by kept) is h =
    logged_marked core place by kept is.ordered is.logged h
logged-after core (events.Dispatch place) is h = logged_dispatch core place is.logged h
logged-after core (events.BlockWrite place block left) is h =
    logged_written core place block left is.logged (writes core place block left h)
logged-after core (events.Flush place block ok) is h =
    logged_flushed core place block ok is.logged
    (both (nat_lt block FILE_BLOCKS) (has_block (track core.tracks place).state block) h).1
logged-after core (events.Finish place end) is h =
    logged_finished core place end is.apart is.logged
    (first_of_and (is_out (track core.tracks place).state) _ h)
logged-after core (events.Skip place) is h =
    logged_closed core place Off is.logged (some_place is_noop refl core.tracks place h)
    (noop_dead (track core.tracks place).state h)
logged-after core (events.Trim block kept) is h =
    logged_trim core block (if kept then Off else Unsure) is.logged h
logged-after core events.Settle is h =
    logged_beside core None core.size core.sizes core.tags core.bytes core.loose core.crashed
    is.logged is.logged.mapped (λ d is. absurd (cc))
logged-after core (events.Crash image) is h = logged_crash core image is.logged h
logged-after core events.Mount is h = logged_mount core (recovered core (image_now core))

as_many_tags : (core : Core) (image : Image) → is_image core image ≡ true →
    length image.tags ≡ length core.tags
as_many_tags core image h =
    let test =
    (both (length image.tags == length core.tags) (allow_bits core.tags image.tags)
    (tags_of_image core image h)).0 in
    grind (arith, nat_tests)

-- the tags are as many as before
pub blocks-after : (core : Core) (event : Event) → IsKept core → case core event ≡ true →
    length (after core event).tags ≡ FILE_BLOCKS
blocks-after core (events.Tag block kept) is h =
    length-set core.tags block (if kept then On else Unsure) ∙ is.blocks
blocks-after core (events.Admit entry grant true) is h = is.blocks
blocks-after core (events.Admit entry grant false) is h = is.blocks
blocks-after core (events.AdmitRead entry) is h = is.blocks
blocks-after core (events.Serve place answer) is h = is.blocks
blocks-after core (events.Mark place by kept) is h = is.blocks
blocks-after core (events.Dispatch place) is h = is.blocks
blocks-after core (events.BlockWrite place block None) is h = is.blocks
blocks-after core (events.BlockWrite place block (Some left)) is h = is.blocks
blocks-after core (events.Flush place block true) is h = is.blocks
blocks-after core (events.Flush place block false) is h = is.blocks
blocks-after core (events.Finish place ends.Retired) is h = is.blocks
blocks-after core (events.Finish place ends.More) is h = is.blocks
blocks-after core (events.Finish place (ends.Back sizes.AsBefore gate applied)) is h = is.blocks
blocks-after core (events.Finish place (ends.Back sizes.Set gate applied)) is h = is.blocks
blocks-after core (events.Finish place (ends.Back sizes.Either gate applied)) is h = is.blocks
blocks-after core (events.Skip place) is h = is.blocks
blocks-after core (events.Trim block kept) is h =
    length-set core.tags block (if kept then Off else Unsure) ∙ is.blocks
blocks-after core events.Settle is h = is.blocks
blocks-after core (events.Crash image) is h =
    length-map image.tags (λ bit. flag_of bit) ∙ as_many_tags core image h ∙ is.blocks
blocks-after core events.Mount is h = is.blocks
