-- Changes of a world that are quiet: no core of a file that has not ended changes.
use Rattle.std.proofs.Common.{◌≡◌, ℕ, Bool, true, false, List, [], ◌∷◌, ◌++◌, map, filter, Option}
use Rattle.std.proofs.Common.{Some, None, refl, sym, ◌∙◌, subst, cond, if◌then◌else◌}
use Rattle.std.specs.Prelude.{find, unwrap_or, ◌==◌, ◌&&◌, is_none, not}
use Rattle.std.proofs.lemmas.Bool.{eqb-true}
use Rattle.std.proofs.lemmas.List.{length-set}
use Rattle.cfs_core.specs.declared.inode_core.Core.{Core}
use Rattle.cfs_dir.specs.declared.change.Change.{Change}
use Rattle.cfs_grants.specs.declared.grant.Grant.{Grant}
use Rattle.cfs_meaning.specs.World.{Caller, Descriptor, File, Held, Names, Queue, World, block_of}
use Rattle.cfs_meaning.specs.World.{changes_own, core_in, descriptor_in, file_in, held_at, new_file}
use Rattle.cfs_meaning.specs.World.{open_of, replaces, with_file, with_names, with_queue}
use Rattle.cfs_meaning.specs.World.{with_descriptor, with_descriptors, empty_core}
use Rattle.cfs_meaning.specs.Laws.{OfEachCore}
use Rattle.cfs_meaning.specs.Granted.{OfEach, OfEachOpen}
use Rattle.cfs_meaning.specs.Inode.{come_back, end_core, give_block, hold, map_block, take_block}
use Rattle.cfs_meaning.specs.Inode.{with_passed, with_posted, with_size_unsure}
use Rattle.cfs_meaning.specs.Files.{at_position, close_in, has_no_power, move_by, move_to, moved_by}
use Rattle.cfs_meaning.specs.Names.{doubt_settled, recorded, selected, selector_settled}
use Rattle.cfs_meaning.specs.Workers.{Item, once_more, pass_over, pass_over_all}
use Rattle.cfs_meaning.specs.Stock.{HaveOwnKeys}
use Rattle.cfs_meaning.proofs.Keeping.{AreUncrashed, IsQuiet}
use Rattle.cfs_meaning.proofs.Keyed.{files-left, keys-left, keys-more, mapped-kept}

-- ---- lists of files

abbrev pub Has : (ℕ → Core → Type 0) → File → Type 0
Has P f = f.ended ≡ false → P f.ino f.core

either : (P : ℕ → Core → Type 0) (test : Bool) (one other : File) → Has P one → Has P other →
    Has P (if test then one else other)
either P true one other h more = h
either P false one other h more = more

first-found : (P : ℕ → Core → Type 0) (test : Bool) (one : File) (later : Option File)
    (other : File) → Has P one → Has P (unwrap_or later other) →
    Has P (unwrap_or (cond test (Some one) later) other)
first-found P true one later other h more = h
first-found P false one later other h more = more

-- what holds of each core holds of the one that is looked up
found : (P : ℕ → Core → Type 0) (test : File → Bool) (files : List File) (other : File) →
    OfEachCore P files → Has P other → Has P (unwrap_or (find test files) other)
found P test [] other all last = last
found P test (first ∷ files) other all last =
    first-found P (test first) first (find test files) other all.0
    (found P test files other all.1 last)

pub file-has : (P : ℕ → Core → Type 0) (world : World) (ino : ℕ) → ((k : ℕ) → P k empty_core) →
    OfEachCore P world.files → Has P (file_in world ino)
file-has P world ino empty all =
    found P (λ f. f.ino == ino) world.files (new_file 0 0) all (λ up. empty 0)

pub replaced : (P : ℕ → Core → Type 0) (new : File) (files : List File) → Has P new →
    OfEachCore P files → OfEachCore P (map (replaces new) files)
replaced P new [] h all = tt
replaced P new (f ∷ files) h all =
    (either P (f.ino == new.ino) new f h all.0, replaced P new files h all.1)

if-kept : (P : ℕ → Core → Type 0) (test : Bool) (f : File) (files : List File) → Has P f →
    OfEachCore P files → OfEachCore P (cond test (f ∷ files) files)
if-kept P true f files h all = (h, all)
if-kept P false f files h all = all

pub filtered : (P : ℕ → Core → Type 0) (test : File → Bool) (files : List File) →
    OfEachCore P files → OfEachCore P (filter test files)
filtered P test [] all = tt
filtered P test (f ∷ files) all =
    if-kept P (test f) f (filter test files) all.0 (filtered P test files all.1)

pub joined : (P : ℕ → Core → Type 0) (one other : List File) → OfEachCore P one →
    OfEachCore P other → OfEachCore P (one ++ other)
joined P [] other all more = more
joined P (f ∷ files) other all more = (all.0, joined P files other all.1 more)

-- ---- crashes

first-up : (test : Bool) (one : File) (later : Option File) (other : File) →
    one.core.crashed ≡ false → (unwrap_or later other).core.crashed ≡ false →
    (unwrap_or (cond test (Some one) later) other).core.crashed ≡ false
first-up true one later other here rest = here
first-up false one later other here rest = rest

found-up : (test : File → Bool) (files : List File) (other : File) → AreUncrashed files →
    other.core.crashed ≡ false → (unwrap_or (find test files) other).core.crashed ≡ false
found-up test [] other all last = last
found-up test (f ∷ files) other all last =
    first-up (test f) f (find test files) other all.0 (found-up test files other all.1 last)

pub core-up : (world : World) (ino : ℕ) → AreUncrashed world.files →
    (core_in world ino).crashed ≡ false
core-up world ino all = found-up (λ f. f.ino == ino) world.files (new_file 0 0) all refl

pub replaced-up : (new : File) (files : List File) → new.core.crashed ≡ false →
    AreUncrashed files → AreUncrashed (map (replaces new) files)
replaced-up new [] up all = tt
replaced-up new (f ∷ files) up all =
    (by-test (f.ino == new.ino), replaced-up new files up all.1)
  where
    by-test : (b : Bool) → (if b then new else f).core.crashed ≡ false
    by-test true = up
    by-test false = all.0

uncrashed-kept : (world : World) (ino : ℕ) (new : File) →
    new.core.crashed ≡ (core_in world ino).crashed → AreUncrashed world.files →
    AreUncrashed (map (replaces new) world.files)
uncrashed-kept world ino new up all =
    replaced-up new world.files (up ∙ core-up world ino all) all

if-up : (test : Bool) (f : File) (files : List File) → f.core.crashed ≡ false →
    AreUncrashed files → AreUncrashed (cond test (f ∷ files) files)
if-up true f files up all = (up, all)
if-up false f files up all = all

uncrashed-left : (test : File → Bool) (files : List File) → AreUncrashed files →
    AreUncrashed (filter test files)
uncrashed-left test [] all = tt
uncrashed-left test (f ∷ files) all =
    if-up (test f) f (filter test files) all.0 (uncrashed-left test files all.1)

pub joined-up : (one other : List File) → AreUncrashed one → AreUncrashed other →
    AreUncrashed (one ++ other)
joined-up [] other all more = more
joined-up (f ∷ files) other all more = (all.0, joined-up files other all.1 more)

-- ---- lists of descriptors

-- what holds of each descriptor holds of the one that is found
in-list : (P : ℕ → Grant → Type 0) (test : Descriptor → Bool) (opened : List Descriptor)
    (d : Descriptor) → find test opened ≡ Some d → OfEach P opened → P d.fd d.grant
in-list P test [] d is all = absurd (cc)
in-list P test (o ∷ opened) d is all =
    pick (test o) (λ later. in-list P test opened d later all.1) is
  where
    pick : (b : Bool) → (find test opened ≡ Some d → P d.fd d.grant) →
        cond b (Some o) (find test opened) ≡ Some d → P d.fd d.grant
    pick true rest now =
        let same : o ≡ d = cc in subst (λ (x : Descriptor). P x.fd x.grant) same all.0
    pick false rest now = rest now

pub opened-has : (P : ℕ → ℕ → Grant → Type 0) (callers : List Caller) (c fd : ℕ)
    (d : Descriptor) →
    find (λ o. o.fd == fd) (open_of (find (λ x. x.number == c) callers)) ≡ Some d →
    OfEachOpen P callers → P c d.fd d.grant
opened-has P [] c fd d is all = absurd (cc)
opened-has P (x ∷ callers) c fd d is all =
    pick (x.number == c) refl (λ later. opened-has P callers c fd d later all.1) is
  where
    pick : (b : Bool) → (x.number == c) ≡ b →
        (find (λ o. o.fd == fd) (open_of (find (λ y. y.number == c) callers)) ≡ Some d →
        P c d.fd d.grant) →
        find (λ o. o.fd == fd) (open_of (cond b (Some x) (find (λ y. y.number == c) callers)))
        ≡ Some d → P c d.fd d.grant
    pick true own rest now =
        subst (λ n. P n d.fd d.grant) (eqb-true x.number c own)
        (in-list (P x.number) (λ o. o.fd == fd) x.descriptors d now all.0)
    pick false own rest now = rest now

pub own-changed : (P : ℕ → ℕ → Grant → Type 0) (c : ℕ)
    (change : List Descriptor → List Descriptor) (callers : List Caller) →
    ((opened : List Descriptor) → OfEach (P c) opened → OfEach (P c) (change opened)) →
    OfEachOpen P callers → OfEachOpen P (map (changes_own c change) callers)
own-changed P c change [] kept all = tt
own-changed P c change (x ∷ callers) kept all =
    (by-test (x.number == c) refl, own-changed P c change callers kept all.1)
  where
    by-test : (b : Bool) → (x.number == c) ≡ b →
        OfEach (P (if b then record x { descriptors = change x.descriptors } else x).number)
        (if b then record x { descriptors = change x.descriptors } else x).descriptors
    by-test true own =
        let same = eqb-true x.number c own in
        subst (λ n. OfEach (P n) (change x.descriptors)) (sym same)
        (kept x.descriptors (subst (λ n. OfEach (P n) x.descriptors) same all.0))
    by-test false own = all.0

all-posted : (P : ℕ → Grant → Type 0) (fd place : ℕ) (opened : List Descriptor) →
    OfEach P opened → OfEach P (map (with_posted fd place) opened)
all-posted P fd place [] all = tt
all-posted P fd place (o ∷ opened) all =
    (by-test (o.fd == fd), all-posted P fd place opened all.1)
  where
    by-test : (b : Bool) → P (if b then record o { posted = place ∷ o.posted } else o).fd
        (if b then record o { posted = place ∷ o.posted } else o).grant
    by-test true = all.0
    by-test false = all.0

one-replaced : (P : ℕ → Grant → Type 0) (d : Descriptor) (opened : List Descriptor) →
    P d.fd d.grant → OfEach P opened → OfEach P (map (λ o. if o.fd == d.fd then d else o) opened)
one-replaced P d [] here all = tt
one-replaced P d (o ∷ opened) here all =
    (by-test (o.fd == d.fd), one-replaced P d opened here all.1)
  where
    by-test : (b : Bool) → P (if b then d else o).fd (if b then d else o).grant
    by-test true = here
    by-test false = all.0

still-open : (P : ℕ → Grant → Type 0) (test : Descriptor → Bool) (opened : List Descriptor) →
    OfEach P opened → OfEach P (filter test opened)
still-open P test [] all = tt
still-open P test (o ∷ opened) all = pick (test o) (still-open P test opened all.1)
  where
    pick : (b : Bool) → OfEach P (filter test opened) →
        OfEach P (cond b (o ∷ filter test opened) (filter test opened))
    pick true rest = (all.0, rest)
    pick false rest = rest

-- ---- quiet changes

-- a file in place of another one with the same core
pub file-kept : (world : World) (ino : ℕ) (new : File) →
    ((P : ℕ → Core → Type 0) → Has P (file_in world ino) → Has P new) →
    (P : ℕ → Core → Type 0) → ((k : ℕ) → P k empty_core) → OfEachCore P world.files →
    OfEachCore P (map (replaces new) world.files)
file-kept world ino new same P empty all =
    replaced P new world.files (same P (file-has P world ino empty all)) all

pub quiet-file : (world : World) (ino : ℕ) (new : File) →
    ((P : ℕ → Core → Type 0) → Has P (file_in world ino) → Has P new) →
    new.core.crashed ≡ (core_in world ino).crashed → new.blocks ≡ (file_in world ino).blocks →
    IsQuiet world (with_file new world)
quiet-file world ino new same up blocks = record {
  drive = refl;
  phase = refl;
  cores = file-kept world ino new same;
  base = refl;
  log = refl;
  order = refl;
  queues = refl;
  opened = λ P all. all;
  uncrashed = uncrashed-kept world ino new up;
  mapped = λ all. mapped-kept world ino new (λ own. subst HaveOwnKeys (sym blocks) own) all;
}

pub quiet-same : (world : World) → IsQuiet world world
quiet-same world = record {
  drive = refl;
  phase = refl;
  cores = λ P empty all. all;
  base = refl;
  log = refl;
  order = refl;
  queues = refl;
  opened = λ P all. all;
  uncrashed = λ all. all;
  mapped = λ all. all;
}

pub quiet-back : (ino gate : ℕ) (world : World) → IsQuiet world (come_back ino gate world)
quiet-back ino gate world = record {
  drive = refl;
  phase = refl;
  cores = file-kept world ino _ (λ P h. h);
  base = refl;
  log = refl;
  order = refl;
  queues = length-set world.queues (held_at (file_in world ino) gate).queue _;
  opened = λ P all. all;
  uncrashed = uncrashed-kept world ino _ refl;
  mapped = λ all. mapped-kept world ino _ (λ own. own) all;
}

pub quiet-hold : (ino : ℕ) (h : Held) (world : World) → IsQuiet world (hold ino h world)
quiet-hold ino held world = record {
  drive = refl;
  phase = refl;
  cores = file-kept world ino _ (λ P h. h);
  base = refl;
  log = refl;
  order = refl;
  queues = length-set world.queues held.queue _;
  opened = λ P all. all;
  uncrashed = uncrashed-kept world ino _ refl;
  mapped = λ all. mapped-kept world ino _ (λ own. own) all;
}

quiet-take : (ino k b : ℕ) (world : World) → is_none (block_of (file_in world ino) k) ≡ true →
    IsQuiet world (take_block ino k b world)
quiet-take ino k b world free = record {
  drive = refl;
  phase = refl;
  cores = file-kept world ino _ (λ P h. h);
  base = refl;
  log = refl;
  order = refl;
  queues = refl;
  opened = λ P all. all;
  uncrashed = uncrashed-kept world ino _ refl;
  mapped = λ all. mapped-kept world ino _ (λ own. keys-more k b _ free own) all;
}

pub quiet-map : (ino k b : ℕ) (world : World) → IsQuiet world (map_block ino k b world)
quiet-map ino k b world = by-test (is_none (block_of (file_in world ino) k)) refl
  where
    by-test : (test : Bool) → is_none (block_of (file_in world ino) k) ≡ test →
        IsQuiet world (if test then take_block ino k b world else world)
    by-test true is = quiet-take ino k b world is
    by-test false is = quiet-same world

pub quiet-give : (ino k b : ℕ) (world : World) → IsQuiet world (give_block ino k b world)
quiet-give ino k b world = record {
  drive = refl;
  phase = refl;
  cores = file-kept world ino _ (λ P h. h);
  base = refl;
  log = refl;
  order = refl;
  queues = refl;
  opened = λ P all. all;
  uncrashed = uncrashed-kept world ino _ refl;
  mapped = λ all.
      mapped-kept world ino _ (λ own. keys-left (λ x. not (x.0 == k)) _ own) all;
}

pub quiet-passed : (ino place n : ℕ) (world : World) →
    IsQuiet world (with_file (with_passed place n (file_in world ino)) world)
quiet-passed ino place n world = quiet-file world ino _ (λ P h. h) refl refl

clash : (b : Bool) → b ≡ true → b ≡ false → ⊥
clash b is up = let wrong : true ≡ false = sym is ∙ up in absurd (cc)

pub quiet-end : (ino : ℕ) (world : World) → IsQuiet world (end_core ino world)
quiet-end ino world = quiet-file world ino _ (λ P h up. absurd (clash true refl up)) refl refl

pub quiet-unsure : (ino : ℕ) (world : World) → IsQuiet world (with_size_unsure ino world)
quiet-unsure ino world =
    quiet-file world ino _ (λ P h up. absurd (clash true refl up)) refl refl

pub quiet-gone : (test : File → Bool) (world : World) →
    IsQuiet world (record world { files = filter test world.files })
quiet-gone test world = record {
  drive = refl;
  phase = refl;
  cores = λ P empty all. filtered P test world.files all;
  base = refl;
  log = refl;
  order = refl;
  queues = refl;
  opened = λ P all. all;
  uncrashed = uncrashed-left test world.files;
  mapped = files-left (λ f. HaveOwnKeys f.blocks) test world.files;
}

-- none of a caller's descriptors is opened
pub quiet-descriptors : (c : ℕ) (change : List Descriptor → List Descriptor) (world : World) →
    ((P : ℕ → ℕ → Grant → Type 0) → OfEachOpen P world.callers → (opened : List Descriptor) →
    OfEach (P c) opened → OfEach (P c) (change opened)) →
    IsQuiet world (with_descriptors c change world)
quiet-descriptors c change world kept = record {
  drive = refl;
  phase = refl;
  cores = λ P empty all. all;
  base = refl;
  log = refl;
  order = refl;
  queues = refl;
  opened = λ P all. own-changed P c change world.callers (kept P all) all;
  uncrashed = λ all. all;
  mapped = λ all. all;
}

pub quiet-posted : (c fd place : ℕ) (world : World) →
    IsQuiet world (with_descriptors c (map (with_posted fd place)) world)
quiet-posted c fd place world =
    quiet-descriptors c _ world (λ P all opened here. all-posted (P c) fd place opened here)

pub quiet-close : (c fd : ℕ) (world : World) → IsQuiet world (close_in c fd world)
quiet-close c fd world =
    quiet-descriptors c _ world (λ P all opened here.
    still-open (P c) (λ o. not (o.fd == fd)) opened here)

pub quiet-queue : (q : ℕ) (change : Queue → Queue) (world : World) →
    IsQuiet world (with_queue q change world)
quiet-queue q change world = record {
  drive = refl;
  phase = refl;
  cores = λ P empty all. all;
  base = refl;
  log = refl;
  order = refl;
  queues = length-set world.queues q _;
  opened = λ P all. all;
  uncrashed = λ all. all;
  mapped = λ all. all;
}

-- ---- the journal's part of the names

pub quiet-names : (change : Names → Names) (world : World) →
    ((n : Names) → (change n).base ≡ n.base) → ((n : Names) → (change n).log ≡ n.log) →
    ((n : Names) → (change n).now ≡ n.now) → IsQuiet world (with_names change world)
quiet-names change world base log now = record {
  drive = refl;
  phase = refl;
  cores = λ P empty all. all;
  base = base world.names;
  log = log world.names;
  order = now world.names;
  queues = refl;
  opened = λ P all. all;
  uncrashed = λ all. all;
  mapped = λ all. all;
}

pub quiet-settled : (world : World) → IsQuiet world (with_names selector_settled world)
quiet-settled world =
    quiet-names selector_settled world (λ n. refl) (λ n. refl) (λ n. refl)

pub quiet-selected : (through : ℕ) (kept : Bool) (world : World) →
    IsQuiet world (with_names (selected through kept) world)
quiet-selected through true world =
    quiet-names (selected through true) world (λ n. refl) (λ n. refl) (λ n. refl)
quiet-selected through false world =
    quiet-names (selected through false) world (λ n. refl) (λ n. refl) (λ n. refl)

pub quiet-doubt : (world : World) → IsQuiet world (with_names doubt_settled world)
quiet-doubt world = quiet-names doubt_settled world (λ n. refl) (λ n. refl) (λ n. refl)

pub quiet-recorded : (change : Change) (kept : Bool) (world : World) →
    IsQuiet world (with_names (recorded change kept) world)
quiet-recorded change true world =
    quiet-names (recorded change true) world (λ n. refl) (λ n. refl) (λ n. refl)
quiet-recorded change false world =
    quiet-names (recorded change false) world (λ n. refl) (λ n. refl) (λ n. refl)

-- ---- positions, and items that are passed over

quiet-moved : (option : Option Descriptor) (c fd to : ℕ) (world : World) →
    descriptor_in world c fd ≡ option → IsQuiet world (moved_by option c to world)
quiet-moved None c fd to world is = quiet-same world
quiet-moved (Some d) c fd to world is = unless-off (has_no_power world.drive)
  where
    unless-off : (off : Bool) →
        IsQuiet world (if off then world else with_descriptor c (at_position to d) world)
    unless-off true = quiet-same world
    unless-off false =
        quiet-descriptors c _ world (λ P all opened here.
        one-replaced (P c) (at_position to d) opened (opened-has P world.callers c fd d is all)
        here)

pub quiet-move : (c fd to : ℕ) (world : World) → IsQuiet world (move_to c fd to world)
quiet-move c fd to world = quiet-moved _ c fd to world refl

pub quiet-by : (c : ℕ) (d : Descriptor) (moves : Bool) (place : ℕ) (world : World) →
    IsQuiet world (move_by c d moves place world)
quiet-by c d true place world = quiet-move c d.fd _ world
quiet-by c d false place world = quiet-same world

quiet-then : {one two three : World} → IsQuiet one two → IsQuiet two three → IsQuiet one three
quiet-then a b = record {
  drive = b.drive ∙ a.drive;
  phase = b.phase ∙ a.phase;
  cores = λ P empty all. b.cores P empty (a.cores P empty all);
  base = b.base ∙ a.base;
  log = b.log ∙ a.log;
  order = b.order ∙ a.order;
  queues = b.queues ∙ a.queues;
  opened = λ P all. b.opened P (a.opened P all);
  uncrashed = λ all. b.uncrashed (a.uncrashed all);
  mapped = λ all. b.mapped (a.mapped all);
}

quiet-over : (x y : Item) (world : World) → IsQuiet world (pass_over x y world)
quiet-over x y world = unless-chosen ((x.ino == y.ino) && (x.place == y.place))
  where
    unless-chosen : (same : Bool) → IsQuiet world
        (if same then world
        else with_file (with_passed y.place (once_more ((file_in world y.ino).passed y.place))
        (file_in world y.ino)) world)
    unless-chosen true = quiet-same world
    unless-chosen false = quiet-passed y.ino y.place _ world

pub quiet-all : (x : Item) (items : List Item) (world : World) →
    IsQuiet world (pass_over_all x items world)
quiet-all x [] world = quiet-same world
quiet-all x (y ∷ ys) world = quiet-then (quiet-over x y world) (quiet-all x ys _)
