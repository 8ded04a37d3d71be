-- A close keeps a world shown by its devices.
use Rattle.std.proofs.Common.{◌≡◌, ℕ, Bool, true, false, Option, Some, None, List, refl, sym}
use Rattle.std.proofs.Common.{ap, ◌∙◌, subst, if◌then◌else◌}
use Rattle.std.specs.Prelude.{◌==◌, set}
use Rattle.std.proofs.lemmas.List.{append-nil}
use Rattle.cfs_grants.specs.declared.grant.Grant.{Grant}
use Rattle.cfs_grants.specs.Grants.{grant_at}
use Rattle.cfs_requests.specs.Steps.{NameAnswer, close_step}
use Rattle.cfs_requests.specs.Steps as names
use Rattle.cfs_names.specs.Recovered.{IsTreeOr, recovered}
use Rattle.cfs_meaning.specs.NameSteps.{Order, closing, tree_of}
use Rattle.cfs_meaning.specs.World.{Descriptor, World, file_in}
use Rattle.cfs_meaning.specs.Inode.{drop_read, purge, settle}
use Rattle.cfs_meaning.specs.Names.{ask, dying, free_record, log_step, purge_all}
use Rattle.cfs_meaning.specs.Names.{step_in}
use Rattle.cfs_meaning.specs.Files.{close, help_lowest, help_some, lowest, opened}
use Rattle.cfs_meaning.specs.Devices.{IsShown}
use Rattle.cfs_meaning.specs.Play.{does, steps_so}
use Rattle.cfs_meaning.specs.Stock.{AreMappedOnce, ClosesKeepShown, HaveOwnKeys}
use Rattle.cfs_meaning.specs.Ways.{Way, each, when}
use Rattle.cfs_meaning.proofs.Hoare.{Leaves, leave-changes, leave-give, leave-known, leave-look}
use Rattle.cfs_meaning.proofs.Hoare.{leave-then, leave-weaker}
use Rattle.cfs_meaning.proofs.Keeping.{Keeps}
use Rattle.cfs_meaning.proofs.KeptFiles.{kept-help}
use Rattle.cfs_meaning.proofs.KeptInode.{kept-drop, kept-purge, kept-settle}
use Rattle.cfs_meaning.proofs.Keyed.{keyed-in}
use Rattle.cfs_meaning.proofs.Mapping.{leave-mapped, mapped_law}
use Rattle.cfs_meaning.proofs.Reached.{reached_law}
use Rattle.cfs_meaning.proofs.ShownGates.{settle-shown}
use Rattle.cfs_meaning.proofs.ShownHelps.{drop-all, help-all}
use Rattle.cfs_meaning.proofs.ShownJobs.{AtWork}
use Rattle.cfs_meaning.proofs.ShownLines.{leave-up, shown-ends}
use Rattle.cfs_meaning.proofs.ShownOpen.{leave-both, leave-each, leave-repeats, leave-shrugs}
use Rattle.cfs_meaning.proofs.ShownOpen.{open-settle}
use Rattle.cfs_meaning.proofs.ShownParts.{same-shown}
use Rattle.cfs_meaning.proofs.ShownPurges.{purge-shown}
use Rattle.cfs_meaning.proofs.ShownTurns.{AllWork, at-work, leave-kept, part-all}
use Rattle.cfs_meaning.proofs.Worlds.{law_of}

-- ---- removed files are purged

-- shown, and each file mapped once
abbrev pub IsShownOnce : World → Type 0
IsShownOnce world = IsShown world × AreMappedOnce world

purge-once : (ino : ℕ) → Leaves IsShownOnce (λ u. IsShownOnce) IsShownOnce (purge ino)
purge-once ino =
    leave-weaker
    {P = λ w. (IsShown w × HaveOwnKeys (file_in w ino).blocks) × AreMappedOnce w}
    (λ w both. ((both.0, keyed-in w ino both.1), both.1)) (λ u w q. q) (λ w e. e)
    (leave-both (purge-shown ino) (leave-mapped (kept-purge (law_of (mapped_law 0)) ino)))

pub purges-shown : Leaves IsShownOnce (λ u. IsShown) IsShown purge_all
purges-shown =
    leave-look (λ x.
    leave-weaker {P = IsShownOnce} {Q = λ u. IsShownOnce} {E = IsShownOnce} (λ w holds. holds.1)
    (λ u w both. both.0) (λ w both. both.0)
    (leave-each (dying x) _ (λ ino. leave-shrugs (purge-once ino))))

-- what a request leaves that is answered and changes no file: a tree that is shown as before
pub logged-shown : (world new : World) → new.drive ≡ world.drive → new.files ≡ world.files →
    tree_of new.names.now ≡ tree_of world.names.now → new.names.doubt ≡ world.names.doubt →
    IsShown world → IsShown new
logged-shown world new drive files tree doubt shown =
    subst (λ f. IsShown (record new { files = f })) (sym files)
    (subst (λ d. IsShown (record new { files = world.files; drive = d })) (sym drive) (record {
      files = shown.files;
      apart = shown.apart;
      placed = shown.placed;
      equipped = shown.equipped;
      numbers = shown.numbers;
      even = shown.even;
      tree = λ images each.
          subst (λ t. IsTreeOr t new.names.doubt (recovered images)) (sym tree)
          (subst (λ o. IsTreeOr (tree_of world.names.now) o (recovered images)) (sym doubt)
          (shown.tree images each));
    }))

-- ---- a grant is given back

abbrev left-of : Order → Option (NameAnswer × Order) → Order
left-of order None = order
left-of order (Some step) = step.1

pub closed-tree : (order after : Order) (answer : NameAnswer) (c queue : ℕ) (grant : Option Grant) →
    close_step order c queue grant ≡ Some (answer, after) → tree_of after ≡ tree_of order
closed-tree order after answer c queue None is = absurd (cc)
closed-tree order after answer c queue (Some grant) is = by-caller (grant.caller == c) is
  where
    by-caller : (b : Bool) →
        if◌then◌else◌ {A = Option (NameAnswer × Order)} b
        (Some (names.done, record order { grants = set order.grants queue None })) None
        ≡ Some (answer, after) → tree_of after ≡ tree_of order
    by-caller true now = ap tree_of (sym (ap (left-of order) now))
    by-caller false now = absurd (cc)

close-logged : (world : World) (c line : ℕ) (d : Descriptor) (rec : Option ℕ)
    (step : NameAnswer × Order) → step_in world c (closing d.grant) rec ≡ Some step →
    IsShown world → IsShown (log_step c line (closing d.grant) rec step world)
close-logged world c line d rec step is shown =
    logged-shown world (log_step c line (closing d.grant) rec step world) refl
    (append-nil world.files)
    (closed-tree world.names.now step.1 step.0 c d.grant.queue
    (grant_at world.names.now.grants d.grant.queue) is)
    refl shown

abbrev AllOnce : World → Type 0
AllOnce world = AllWork world × AreMappedOnce world

give-back : (d : Descriptor) (c line : ℕ) →
    Leaves IsShownOnce (λ answer. IsShownOnce) IsShown (ask c line (closing d.grant))
give-back d c line =
    leave-look (λ x.
    leave-then {Q = λ step w. (step_in x c (closing d.grant) (free_record x) ≡ Some step)
    × ((w ≡ x) × IsShownOnce w)}
    (leave-known (step_in x c (closing d.grant) (free_record x)) _ (λ w holds. holds.1.0)) (λ step.
    leave-then {Q = λ u w. (step_in x c (closing d.grant) (free_record x) ≡ Some step)
    × ((w ≡ x) × IsShownOnce w)}
    (leave-give (λ w holds. holds)) (λ u.
    leave-then {Q = λ v. IsShownOnce}
    (leave-changes (λ w holds. (
      close-logged w c line d (free_record x) step
          (ap (λ y. step_in y c (closing d.grant) (free_record x)) holds.1.0 ∙ holds.0)
          holds.1.1.0,
      subst (λ files. AreMappedOnce (record w { files = files })) (sym (append-nil w.files))
          holds.1.1.1,
    ))) (λ v.
    leave-give (λ w both. both)))))

-- ---- parts that all files may be worked at in

-- a part that keeps each law
all-once : {A : Type 0} {R : A → Type 0} {way : Way A} →
    Leaves AllWork (λ a. AllWork) AllWork way → Keeps (law_of (mapped_law 0)).base R way →
    Leaves AllOnce (λ a. AllOnce) IsShown way
all-once work kept =
    leave-weaker {P = AllOnce} {Q = λ a. AllOnce} (λ w all. all) (λ a w all. all)
    (λ w all. all.0.shown) (leave-both work (leave-mapped kept))

settle-all : (ino : ℕ) → Leaves AllWork (λ u. AllWork) AllWork (settle ino)
settle-all ino =
    leave-weaker {P = λ w. AtWork ino w × AllWork w} (λ w all. (at-work w ino all, all))
    (λ u w q. q) (λ w e. e)
    (part-all (settle-shown ino) (leave-kept (kept-settle (law_of (reached_law 0)) ino))
    (open-settle ino))

drops-once : (ino : ℕ) (places : List ℕ) →
    Leaves AllOnce (λ u. AllOnce) IsShown (each places (drop_read ino))
drops-once ino places =
    leave-each places (drop_read ino) (λ place.
    all-once (drop-all ino place) (kept-drop (law_of (mapped_law 0)) ino place))

settle-when : (test : Bool) (ino : ℕ) →
    Leaves AllOnce (λ u. AllOnce) IsShown (when test (settle ino))
settle-when true ino =
    all-once (settle-all ino) (kept-settle (law_of (mapped_law 0)) ino)
settle-when false ino = leave-give (λ w all. all)

lowest-once : (d : Descriptor) → Leaves AllOnce (λ more. AllOnce) IsShown (help_lowest d)
lowest-once d =
    leave-look (λ x.
    leave-weaker {P = AllOnce} (λ w holds. holds.1) (λ a w q. q) (λ w e. e)
    (by-place (lowest x d)))
  where
    by-place : (place : Option ℕ) →
        Leaves AllOnce (λ more. AllOnce) IsShown (help_some d.grant.ino place)
    by-place None = leave-give (λ w all. all)
    by-place (Some place) =
        leave-then {Q = λ u. AllOnce}
        (all-once (help-all d.grant.ino place)
        (kept-help (law_of (mapped_law 0)) d.grant.ino place)) (λ u.
        leave-give (λ w all. all))

-- ---- the line

close-shown : (d : Descriptor) (c line : ℕ) →
    Leaves AllOnce (λ answer. IsShown) IsShown (close d c line)
close-shown d c line =
    leave-look (λ x.
    leave-weaker {P = AllOnce} (λ w holds. holds.1) (λ a w q. q) (λ w e. e)
    (leave-then {Q = λ u. AllOnce} (drops-once d.grant.ino _) (λ u.
    leave-then {Q = λ v. AllOnce} (settle-when _ d.grant.ino) (λ v.
    leave-then {Q = λ n. AllOnce} (leave-repeats (lowest-once d)) (λ n.
    leave-then {Q = λ t. IsShownOnce}
    (leave-changes (λ w all. (same-shown w _ refl refl refl all.0.shown, all.1))) (λ t.
    leave-then {Q = λ s. IsShownOnce}
    (leave-changes (λ w both. (same-shown w _ refl refl refl both.0, both.1))) (λ s.
    leave-then {Q = λ r. IsShown}
    (leave-then {Q = λ q. IsShownOnce} (give-back d c line) (λ q. purges-shown)) (λ r.
    leave-look (λ y. leave-give (λ w holds. holds.1))))))))))

pub closes-keep-shown : ClosesKeepShown
closes-keep-shown old new line out c fd is mounted open_ mapped reached shown
    (steps_so end way) =
    shown-ends end new
    ((leave-up {P = AllOnce} (λ w all. all.0.shown)
    (leave-then {Q = λ d. AllOnce} opened_once (λ d. close-shown d c line.number))).by old end new
    (record { shown = shown; reached = reached; open_ = open_ }, mapped)
    (subst (λ form. does line.number form old end new) is way))
  where
    opened_once : Leaves AllOnce (λ d. AllOnce) IsShown (opened c fd)
    opened_once =
        leave-look (λ x.
        leave-weaker {P = AllOnce} (λ w holds. holds.1) (λ d w q. q.1) (λ w e. e)
        (leave-known _ _ (λ w all. all.0.shown)))
