-- The moments of a mount, its reading among them.
use Rattle.std.proofs.Common.{◌≡◌, ◌∙◌, List, sym, ap, subst}
use Rattle.cfs_pmem.specs.declared.trace.Asked.{Asked}
use Rattle.cfs_pmem.specs.Images.{Seen, WordStep}
use Rattle.cfs_pmem.proofs.AllMomentLemmas.{all_after}
use Rattle.cfs_block.specs.BlockImages.{BlockStep}
use Rattle.cfs_dir.specs.Namespace.{Namespace}
use Rattle.cfs_home.specs.Calls.{MountMoments}
use Rattle.cfs_home.specs.Disks.{Disk, File}
use Rattle.cfs_plan.specs.Files.{files_of}
use Rattle.cfs_plan.specs.Mounts.{OnDevicesOf}
use Rattle.cfs_plan.specs.Readings.{AreReadOf, IsSurveyOf, files_in}
use Rattle.cfs_recover.specs.Begins.{Stands, both}
use Rattle.cfs_recover.specs.Held.{AreFull}
use Rattle.cfs_replay.specs.declared.plan.Plan.{Plan}
use Rattle.cfs_replay.specs.Plans.{IsBroughtHome, IsPlanFor, disk_in}
use Rattle.cfs_replay.proofs.Plans.{holds-now}
use Rattle.cfs_store_words.specs.Held.{words_held}
use Rattle.cfs_store_words.specs.Leaves.{LeavesStore}
use Rattle.cfs_survey.specs.declared.survey.Survey.{Survey}
use Rattle.cfs_survey.specs.Surveys.{Words, recovered_tree}
use Rattle.cfs_restore.specs.Held.{files_held}
use Rattle.cfs_restore.proofs.Still.{still-stands}

-- a plan for what the devices read is one for the disk that a crash leaves
pub plan-on : (files : List File) (words : Words) (plan : Plan) (start first : Disk)
    (regions : List (Seen WordStep)) (blocks : List (Seen BlockStep)) → AreFull blocks →
    OnDevicesOf words (λ these those. IsPlanFor files (disk_in these those) plan) →
    AreReadOf words regions blocks → Stands files start first regions blocks →
    IsPlanFor files first plan
plan-on files words plan start first regions blocks full planned read stands =
    subst (λ (disk : Disk). IsPlanFor files disk plan)
    (sym (holds-now first regions blocks full stands.words stands.blocks_are))
    (planned regions blocks read)

-- the files that a survey told are those that the devices hold
pub files-told : (words : Words) (survey : Survey) (regions : List (Seen WordStep))
    (blocks : List (Seen BlockStep)) → words ≡ words_held regions blocks →
    IsSurveyOf words survey → files_in survey ≡ files_held regions blocks
files-told words survey regions blocks read told =
    ap (λ (tree : Namespace). files_of tree.nodes) told.tree
    ∙ ap (λ (these : Words). files_of (recovered_tree these).nodes) read

-- calls that only read, and then others
pub reads-then : (files : List File) (start first : Disk) {asked_old asked_mid asked_new : List Asked}
    (olds mids news : List (Seen WordStep)) (blocks_old blocks_mid blocks_new : List (Seen BlockStep)) →
    Stands files start first olds blocks_old →
    LeavesStore asked_old (both olds blocks_old) asked_mid (both mids blocks_mid) →
    (Stands files start first mids blocks_mid →
    MountMoments files start asked_mid (both mids blocks_mid) asked_new (both news blocks_new)) →
    MountMoments files start asked_old (both olds blocks_old) asked_new (both news blocks_new)
reads-then files start first olds mids news blocks_old blocks_mid blocks_new stands leaves later =
    let still = still-stands files start first _ _ olds mids blocks_old blocks_mid stands leaves in
    all_after still.1 (later still.0)

-- so where the calls behind speak of the files that a survey told
pub home-then : (files told : List File) (start first : Disk)
    {asked_old asked_mid asked_new : List Asked} (olds mids news : List (Seen WordStep))
    (blocks_old blocks_mid blocks_new : List (Seen BlockStep)) → told ≡ files →
    Stands files start first olds blocks_old →
    LeavesStore asked_old (both olds blocks_old) asked_mid (both mids blocks_mid) →
    ((start first : Disk) → Stands told start first mids blocks_mid →
    MountMoments told start asked_mid (both mids blocks_mid) asked_new (both news blocks_new)) →
    MountMoments files start asked_old (both olds blocks_old) asked_new (both news blocks_new)
home-then files told start first {asked_old} {asked_mid} {asked_new} olds mids news blocks_old
    blocks_mid blocks_new same stands leaves later =
    reads-then files start first olds mids news blocks_old blocks_mid blocks_new stands leaves
    (λ still. subst (λ (these : List File). MountMoments these start asked_mid
    (both mids blocks_mid) asked_new (both news blocks_new)) same
    (later start first (subst (λ (these : List File). Stands these start first mids blocks_mid)
    (sym same) still)))

-- and what stands at the end
pub home-behind : (files told : List File) (start first : Disk) {asked_old asked_mid : List Asked}
    (olds mids news : List (Seen WordStep)) (blocks_old blocks_mid blocks_new : List (Seen BlockStep))
    → told ≡ files → Stands files start first olds blocks_old →
    LeavesStore asked_old (both olds blocks_old) asked_mid (both mids blocks_mid) →
    ((start first : Disk) → Stands told start first mids blocks_mid →
    IsBroughtHome told start first news blocks_new) →
    IsBroughtHome files start first news blocks_new
home-behind files told start first olds mids news blocks_old blocks_mid blocks_new same stands
    leaves later =
    let still = still-stands files start first _ _ olds mids blocks_old blocks_mid stands leaves in
    subst (λ (these : List File). IsBroughtHome these start first news blocks_new) same
    (later start first (subst (λ (these : List File). Stands these start first mids blocks_mid)
    (sym same) still.0))
