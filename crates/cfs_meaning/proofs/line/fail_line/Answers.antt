use Rattle.std.proofs.Common.{◌≡◌, ◌∙◌, ℕ, length, map, Bool, Option, Some, None, List, refl, sym, ap, arith}
use Rattle.std.proofs.lemmas.List.{length-map}
use Rattle.cfs_pmem.specs.declared.trace.Asked.{Asked}
use Rattle.cfs_pmem.specs.Images.{MemoryRegion}
use Rattle.cfs_block.specs.declared.mem_block.MemBlock.{MemBlock}
use Rattle.cfs_block.specs.MemoryBlocks.{seen_of}
use Rattle.cfs_dir.specs.declared.posix.Posix.TheVariants as posix
use Rattle.cfs_print.specs.declared.printed.Printed.{Printed}
use Rattle.cfs_print.specs.declared.printed.Printed.TheVariants as answers
use Rattle.cfs_words.specs.declared.device.Device.{Device}
use Rattle.cfs_meaning.specs.Drive.{Drive}
use Rattle.cfs_meaning.specs.Play.{number_in, number_of, planned}
use Rattle.cfs_meaning.specs.Real.{ChangesPower, drive_of}
use Rattle.cfs_meaning.specs.Means.{ShowsDrive}
use Rattle.cfs_meaning.specs.World.{World, with_drive}
use Rattle.cfs_meaning.specs.Ways.{Changes, Way, give, known, ◌>>=◌, ◌>>◌}
use Rattle.cfs_meaning.proofs.Follow.{means_changes, means_ends, means_follows, means_gives, means_known, means_looks, means_unknown}
use Rattle.cfs_meaning.proofs.line.fail_line.Goals as goal

-- the world's drive has the device where a store of so many regions and blocks has it
shown : (device : Device) (asked : List Asked) (rs : List MemoryRegion) (bs : List MemBlock)
    (drive : Drive) → drive ≡ drive_of asked rs bs →
    number_of device drive ≡ number_in device (length rs) (length bs)
shown device asked rs bs drive is =
    ap (number_of device) is
    ∙ ap (λ n. number_in device n (length (map seen_of bs)))
    (length-map rs (λ (r : MemoryRegion). r.seen))
    ∙ ap (number_in device (length rs)) (length-map bs seen_of)

-- the line, where the store's device has this number or none
abbrev planned_line : Device → Bool → ℕ → Option ℕ → Way Printed
planned_line device writing k number = do
  n ← known number (answers.Refused posix.InvalidArgument)
  Changes (with_drive (planned n writing k))
  give answers.Fine

-- and the number that the code has found is the world's
found : (device : Device) (asked : List Asked) (rs : List MemoryRegion) (bs : List MemBlock)
    (regions blocks : ℕ) (number : Option ℕ) → regions ≡ length rs → blocks ≡ length bs →
    number ≡ number_in device regions blocks → (w : World) → ShowsDrive (drive_of asked rs bs) w →
    number_of device w.drive ≡ number
found device asked rs bs regions blocks number regions_is blocks_is number_is w shows =
    shown device asked rs bs w.drive shows
    ∙ ap (λ n. number_in device n (length bs)) (sym regions_is)
    ∙ ap (number_in device regions) (sym blocks_is)
    ∙ sym number_is

abbrev with_asked : List Asked → Drive → Drive
with_asked asked drive = record drive { asked = asked }

-- a change of the power leaves the devices
changed : (change : Drive → Drive) (old new : List Asked) (rs : List MemoryRegion)
    (bs : List MemBlock) → ChangesPower change old new → (w : World) →
    ShowsDrive (drive_of old rs bs) w → ShowsDrive (drive_of new rs bs) (with_drive change w)
changed change old new rs bs is w shows =
    is w.drive (ap (λ d. d.asked) shows) ∙ ap (with_asked new) shows

pub returns-in_default : goal.returns-in_default
returns-in_default c =
    let rs = c.args.medium.now.regions.items in
    let bs = c.args.medium.now.blocks.items in
    let regions_is : c.len-regions.result ≡ length rs = omega (arith, c.len-regions.ensures) in
    let blocks_is : c.len-blocks.result ≡ length bs = omega (arith, c.len-blocks.ensures) in
    let number = found c.args.device _ rs bs c.len-regions.result c.len-blocks.result
    c.number_of.result regions_is blocks_is c.number_of.ensures in
    record {
      means = means_looks (λ w. number_of c.args.device w.drive)
          (planned_line c.args.device c.args.writing c.args.k) None
          (λ w shows. number w shows ∙ c.in_default.is) (means_ends (means_unknown None refl));
    }

pub returns : goal.returns
returns c =
    let rs = c.args.medium.now.regions.items in
    let bs = c.args.medium.now.blocks.items in
    let n = c.in-Some.number in
    let regions_is : c.len-regions.result ≡ length rs = omega (arith, c.len-regions.ensures) in
    let blocks_is : c.len-blocks.result ≡ length bs = omega (arith, c.len-blocks.ensures) in
    let number = found c.args.device _ rs bs c.len-regions.result c.len-blocks.result
    c.number_of.result regions_is blocks_is c.number_of.ensures in
    record {
      means = means_looks (λ w. number_of c.args.device w.drive)
          (planned_line c.args.device c.args.writing c.args.k) (Some n)
          (λ w shows. number w shows ∙ c.in-Some.is)
          (means_follows (means_known (answers.Refused posix.InvalidArgument) (Some n) n refl)
          (means_follows (means_changes (changed _ _ _ rs bs c.in_ok-plan.ensures))
          means_gives));
    }
