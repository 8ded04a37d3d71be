-- Behind a crash what is recovered stays so until the next mount.
use Rattle.std.proofs.Common.{◌≡◌, ℕ, ◌<◌, Bool, true, false, Option, List, [], ◌∷◌, length, get_or}
use Rattle.std.proofs.Common.{refl, sym, ap, ◌∙◌, subst, arith, if◌then◌else◌}
use Rattle.std.specs.Prelude.{Result, Ok, Err}
use Rattle.std.specs.List.{All}
use Rattle.cfs_pmem.specs.declared.pick.Pick.{Pick}
use Rattle.cfs_pmem.specs.declared.trace.Asked.{Asked}
use Rattle.cfs_pmem.specs.declared.trace.Asked.TheVariants.{Stopped}
use Rattle.cfs_pmem.specs.Draws.{pick_of}
use Rattle.cfs_pmem.specs.Images.{Seen, WordStep}
use Rattle.cfs_block.specs.BlockImages.{BlockStep}
use Rattle.cfs_image.specs.Crash.{after_block_of, after_region, after_regions, block_left_of}
use Rattle.cfs_image.specs.Crash.{blocks_left, region_left, regions_left}
use Rattle.cfs_print.specs.declared.printed.Printed.{Printed}
use Rattle.cfs_print.specs.declared.out_line.OutLine.{OutLine}
use Rattle.cfs_script.specs.declared.form.Form.{Form}
use Rattle.cfs_script.specs.declared.form.Form.TheVariants as forms
use Rattle.cfs_script.specs.declared.line.Line.{Line}
use Rattle.cfs_words.specs.declared.device.Device.{Device}
use Rattle.cfs_meaning.specs.Drive.{Drive}
use Rattle.cfs_meaning.specs.World.{Down, Failed, Phase, Up, World}
use Rattle.cfs_meaning.specs.Files.{has_no_power}
use Rattle.cfs_meaning.specs.Laws.{AreReached, is_mount}
use Rattle.cfs_meaning.specs.Devices.{CrashedRunsRecover, CrashesRecover, IsEven, IsEvenBlock}
use Rattle.cfs_meaning.specs.Devices.{IsEvenRegion, IsRecovered, IsSaved, IsShown}
use Rattle.cfs_meaning.specs.Play.{Step, crash_in, crashed, does, goes_on, plan, run_ends, steps_so}
use Rattle.cfs_meaning.specs.Play.{stopped, told, up, while_up}
use Rattle.cfs_meaning.specs.Ways.{Halt, Way}
use Rattle.cfs_meaning.proofs.Hoare.{Leaves, leave-changes, leave-end, leave-give, leave-known}
use Rattle.cfs_meaning.proofs.Hoare.{leave-look, leave-then, leave-weaker}
use Rattle.cfs_meaning.proofs.ShownCrash.{block-left, crash-ends, crashes-leave-less, left-at}
use Rattle.cfs_meaning.proofs.ShownCrash.{left-length, tree-less}
use Rattle.cfs_meaning.proofs.ShownFiles.{files-map, shown-files-recover}
use Rattle.cfs_meaning.proofs.Total.{IfEnds}

-- ---- a crash keeps sizes

regions-even : (pick : Pick) (seens : List (Seen WordStep)) → All IsEvenRegion seens →
    All IsEvenRegion (regions_left pick seens)
regions-even pick seens even = λ k d low.
    let within : k < length seens =
    omega (arith, low, left-length region_left after_region pick seens) in
    let there = left-at region_left after_region pick seens k d within in
    subst IsEvenRegion (sym there.1) refl

blocks-even : (pick : Pick) (seens : List (Seen BlockStep)) → All IsEvenBlock seens →
    All IsEvenBlock (blocks_left pick seens)
blocks-even pick seens even = λ k d low.
    let within : k < length seens =
    omega (arith, low, left-length block_left_of after_block_of pick seens) in
    let there = left-at block_left_of after_block_of pick seens k d within in
    let was = even k d within in
    let size = (block-left (get_or seens k d) there.0 was).size ∙ was.1 in
    subst IsEvenBlock (sym there.1) (size, size)

crash-even : (k : ℕ) (drive : Drive) → IsEven drive → IsEven (crashed k drive)
crash-even k drive even = record {
  regions = regions-even (pick_of k) drive.regions even.regions;
  blocks = blocks-even (after_regions (pick_of k) drive.regions) drive.blocks even.blocks;
}

pub crash-saved : (k : ℕ) (world : World) → IsSaved world → IsSaved (crash_in k world)
crash-saved k world saved = record {
  files = files-map (IsRecovered world.drive) (IsRecovered (crashed k world.drive))
      (λ f recovers. crashes-leave-less k world.drive f saved.even recovers) world.files
      saved.files;
  tree = tree-less k world saved.even saved.tree;
  even = crash-even k world.drive saved.even;
}

-- ---- other lines

asked-saved : (world : World) (asked : List Asked) → IsSaved world →
    IsSaved (record world { drive = record world.drive { asked = asked } })
asked-saved world asked saved = record {
  files = files-map (IsRecovered world.drive) _ (λ f recovers. recovers) world.files
      saved.files;
  tree = saved.tree;
  even = record { regions = saved.even.regions; blocks = saved.even.blocks };
}

stopped-saved : (n : ℕ) (world : World) → IsSaved world →
    IsSaved (record world { drive = stopped n world.drive })
stopped-saved n world saved = unless-off (has_no_power world.drive)
  where
    unless-off : (off : Bool) → IsSaved (record world {
      drive = if off then world.drive
          else record world.drive {
            asked = Stopped n
                ∷ world.drive.asked;
          };
    })
    unless-off true = saved
    unless-off false = asked-saved world _ saved

-- the store is not mounted, and what a crash leaves of it is recovered
abbrev Unmounted : World → Type 0
Unmounted world = (world.phase ≡ Up → ⊥) × IsSaved world

down-phase : (phase : Phase) (way : Way Printed) → (phase ≡ Up → ⊥) →
    Leaves Unmounted (λ answer. Unmounted) Unmounted (while_up phase way)
down-phase Up way down = absurd (down refl)
down-phase Down way down = leave-end (λ w holds. holds)
down-phase Failed way down = leave-end (λ w holds. holds)

down-up : {way : Way Printed} → Leaves Unmounted (λ answer. Unmounted) Unmounted (up way)
down-up {way = way} =
    leave-then {Q = λ answer. Unmounted}
    (leave-look (λ x. record {
      by = λ old end new holds rest.
          (down-phase x.phase way (λ is. holds.1.0 (ap (λ (w : World). w.phase) holds.0 ∙ is))).by
          old end new holds.1 rest;
    }))
    (λ answer. leave-give (λ w holds. holds))

down-told : {way : Way Printed} → Leaves Unmounted (λ answer. Unmounted) Unmounted way →
    Leaves Unmounted (λ answer. Unmounted) Unmounted (told way)
down-told one = leave-then {Q = λ answer. Unmounted} one (λ answer. leave-give (λ w holds. holds))

down-plan : (device : Device) (writing : Bool) (k : ℕ) →
    Leaves Unmounted (λ answer. Unmounted) Unmounted (plan device writing k)
down-plan device writing k =
    leave-look (λ x.
    leave-then {Q = λ number. Unmounted}
    (leave-weaker {P = Unmounted} (λ w holds. holds.1) (λ a w q. q.1) (λ w e. e)
    (leave-known _ _ (λ w holds. holds))) (λ number.
    leave-then {Q = λ u. Unmounted}
    (leave-changes (λ w holds. (holds.0, asked-saved w _ holds.1))) (λ u.
    leave-give (λ w holds. holds))))

same-saved : (world new : World) → new.drive ≡ world.drive → new.files ≡ world.files →
    new.names ≡ world.names → IsSaved world → IsSaved new
same-saved world new drive files names saved =
    subst (λ n. IsSaved (record new { names = n })) (sym names)
    (subst (λ f. IsSaved (record new { names = world.names; files = f })) (sym files)
    (subst (λ d. IsSaved (record new { names = world.names; files = world.files; drive = d }))
    (sym drive)
    (record { files = saved.files; tree = saved.tree; even = saved.even })))

down-line : (line : ℕ) (form : Form) → is_mount form ≡ false →
    Leaves Unmounted (λ answer. Unmounted) Unmounted (does line form)
down-line line (forms.Caller c uid gid) other =
    leave-then {Q = λ u. Unmounted}
    (leave-changes (λ w holds. (holds.0, same-saved w _ refl refl refl holds.1))) (λ u.
    leave-give (λ w holds. holds))
down-line line (forms.Open c path flags mode) other = down-up
down-line line (forms.Mkdir c path mode) other = down-up
down-line line (forms.Unlink c path) other = down-up
down-line line (forms.Rmdir c path) other = down-up
down-line line (forms.Rename c from to) other = down-up
down-line line (forms.Read c fd n) other = down-up
down-line line (forms.Write c fd bytes) other = down-up
down-line line (forms.Pread c fd offset n) other = down-up
down-line line (forms.Pwrite c fd offset bytes) other = down-up
down-line line (forms.TryPwrite c fd offset bytes) other = down-up
down-line line (forms.Lseek c fd seek) other = down-up
down-line line (forms.Ftruncate c fd n) other = down-up
down-line line (forms.Close c fd) other = down-up
down-line line (forms.Fsync c fd) other = down-up
down-line line (forms.Post c fd offset n) other = down-up
down-line line (forms.Serve c fd place) other = down-up
down-line line (forms.Dispatch ino place) other = down-up
down-line line (forms.Apply ino place) other = down-up
down-line line (forms.Finish ino place) other = down-up
down-line line (forms.Skip ino place) other = down-up
down-line line (forms.Trim ino) other = down-up
down-line line (forms.Settle ino) other = down-up
down-line line forms.Turn other = down-up
down-line line forms.Drain other = down-up
down-line line (forms.Queue c fd) other = down-up
down-line line (forms.Stop n) other =
    down-told (leave-then {Q = λ u. Unmounted}
    (leave-changes (λ w holds. (holds.0, stopped-saved n w holds.1))) (λ u.
    leave-give (λ w holds. holds)))
down-line line (forms.Crash k) other =
    down-told (leave-then {Q = λ u. Unmounted}
    (leave-changes (λ w holds. ((λ is. absurd (cc)), crash-saved k w holds.1))) (λ u.
    leave-give (λ w holds. holds)))
down-line line forms.Mount other = absurd (cc)
down-line line (forms.Fail device k) other = down-told (down-plan device true k)
down-line line (forms.FailRead device k) other = down-told (down-plan device false k)
down-line line (forms.Cut n k) other = record { by = λ old end new holds way. absurd way }

down-ends : (end : Result (Option Printed) Halt) (world : World) →
    IfEnds (λ answer. Unmounted) Unmounted end world → Unmounted world
down-ends (Ok answer) world holds = holds
down-ends (Err halt) world holds = holds

down-step : {old new : World} {line : Line} {out : List OutLine} → is_mount line.form ≡ false →
    Step line old out new → Unmounted old → Unmounted new
down-step {old} {new} {line} other (steps_so end way) holds =
    down-ends end new ((down-line line.number line.form other).by old end new holds way)

pub runs-saved : CrashedRunsRecover
runs-saved old new [] outs none run_ends down saved = saved
runs-saved old new (line ∷ lines) outs none (goes_on {mid = mid} {later = later} step rest) down
    saved =
    let next = down-step none.0 step (down, saved) in
    runs-saved mid new lines later none.1 rest next.0 next.1

-- ---- the crash of a mounted store

pub shown-saved : (world : World) → IsShown world → AreReached world → IsSaved world
shown-saved world shown reached = record {
  files = shown-files-recover world shown reached;
  tree = shown.tree;
  even = shown.even;
}

pub crashes-recover : CrashesRecover
crashes-recover old new line k out is reached shown (steps_so end way) =
    let crash : does line.number (forms.Crash k) old end new =
    subst (λ f. does line.number f old end new) is way in
    subst IsSaved (sym (crash-ends line.number k old end new crash))
    (crash-saved k old (shown-saved old shown reached))
