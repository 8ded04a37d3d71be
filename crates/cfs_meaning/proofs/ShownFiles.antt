-- Worlds that their devices show, where one file changes.
use Rattle.std.proofs.Common.{◌≡◌, ◌≢◌, ◌⊎◌, ℕ, ◌+◌, ◌<◌, Bool, true, false, Option, Some, None}
use Rattle.std.proofs.Common.{List, [], ◌∷◌, length, map, inl, inr, refl, sym, ap, ◌∙◌, subst, cond}
use Rattle.std.proofs.Common.{if◌then◌else◌, arith}
use Rattle.std.specs.Prelude.{find, unwrap_or, ◌==◌}
use Rattle.std.specs.List.{Contains}
use Rattle.std.proofs.lemmas.Bool.{eq-eqb, eqb-false, eqb-true, ne_eqb}
use Rattle.cfs_core.specs.declared.event.Event.{Event}
use Rattle.cfs_core.specs.declared.inode_core.Core.{Core}
use Rattle.cfs_core.specs.After.{after}
use Rattle.cfs_core.specs.May.{may}
use Rattle.cfs_core.proofs.Goods.{good-kept}
use Rattle.cfs_core_laws.specs.Reached.{IsReached}
use Rattle.cfs_core_laws.proofs.Whole.{whole}
use Rattle.cfs_pmem.specs.declared.trace.Asked.{Asked}
use Rattle.cfs_medium.specs.Shows.{Shows}
use Rattle.cfs_medium.specs.World as media
use Rattle.cfs_medium.proofs.LiveLeft.{shown-recovers}
use Rattle.cfs_meaning.specs.Drive.{Drive}
use Rattle.cfs_meaning.specs.Steps.{size_word, slot}
use Rattle.cfs_meaning.specs.World.{File, Held, World, block_of, core_in, devices_of, file_in}
use Rattle.cfs_meaning.specs.World.{find_file, held_at, new_file, replaces, with_core, with_file}
use Rattle.cfs_meaning.specs.Devices.{AllApart, AreApart, HasWord, HaveOwnNumbers}
use Rattle.cfs_meaning.specs.Devices.{IsFileEquipped, IsFileShown, IsPlaced, IsRecovered, IsShown}
use Rattle.cfs_meaning.specs.Devices.{OfEachFile}
use Rattle.cfs_meaning.specs.Devices.{ShownFilesRecover, devices_of_file}
use Rattle.cfs_meaning.specs.Laws.{OfEachCore}
use Rattle.cfs_meaning.proofs.ShownNeeds.{is_modest, less-after, less-equipped}

-- ---- each file

pub files-map : (P Q : File → Type 0) → ((f : File) → P f → Q f) → (files : List File) →
    OfEachFile P files → OfEachFile Q files
files-map P Q give [] all = tt
files-map P Q give (f ∷ files) all = (give f all.0, files-map P Q give files all.1)

pub files-both : (P Q R : File → Type 0) → ((f : File) → P f → Q f → R f) → (files : List File) →
    OfEachFile P files → OfEachFile Q files → OfEachFile R files
files-both P Q R give [] all also = tt
files-both P Q R give (f ∷ files) all also =
    (give f all.0 also.0, files-both P Q R give files all.1 also.1)

-- what holds of each file holds of one that is found
pub in-files : (P : File → Type 0) (test : File → Bool) (files : List File) (f : File) →
    find test files ≡ Some f → OfEachFile P files → P f
in-files P test [] f is all = absurd (cc)
in-files P test (g ∷ files) f is all =
    pick (test g) (λ later. in-files P test files f later all.1) is
  where
    pick : (b : Bool) → (find test files ≡ Some f → P f) →
        cond b (Some g) (find test files) ≡ Some f → P f
    pick true rest now = let same : g ≡ f = cc in subst P same all.0
    pick false rest now = rest now

pub found-number : (ino : ℕ) (files : List File) (f : File) →
    find (λ g. g.ino == ino) files ≡ Some f → f.ino ≡ ino
found-number ino [] f is = absurd (cc)
found-number ino (g ∷ files) f is =
    pick (g.ino == ino) refl (λ later. found-number ino files f later) is
  where
    pick : (b : Bool) → (g.ino == ino) ≡ b →
        (find (λ h. h.ino == ino) files ≡ Some f → f.ino ≡ ino) →
        cond b (Some g) (find (λ h. h.ino == ino) files) ≡ Some f → f.ino ≡ ino
    pick true here rest now =
        let same : g ≡ f = cc in ap (λ (h : File). h.ino) (sym same) ∙ eqb-true g.ino ino here
    pick false here rest now = rest now

-- where none has the number, none is replaced
pub none-replaced : (new : File) (files : List File) →
    OfEachFile (λ f. f.ino ≢ new.ino) files → map (replaces new) files ≡ files
none-replaced new [] none = refl
none-replaced new (f ∷ files) none =
    ap (λ b. (if b then new else f) ∷ map (replaces new) files) (ne_eqb f.ino new.ino none.0)
    ∙ ap (λ rest. f ∷ rest) (none-replaced new files none.1)

pub each-replaced : (Q : File → Type 0) (new : File) (files : List File) → Q new →
    OfEachFile Q files → OfEachFile Q (map (replaces new) files)
each-replaced Q new [] here all = tt
each-replaced Q new (f ∷ files) here all =
    (by-test (f.ino == new.ino), each-replaced Q new files here all.1)
  where
    by-test : (b : Bool) → Q (if b then new else f)
    by-test true = here
    by-test false = all.0

-- the same, where what the others have is found by their numbers
pub replaced-but : (P Q : File → Type 0) (new : File) (files : List File) → Q new →
    ((f : File) → f.ino ≢ new.ino → P f → Q f) → OfEachFile P files →
    OfEachFile Q (map (replaces new) files)
replaced-but P Q new [] here give all = tt
replaced-but P Q new (f ∷ files) here give all =
    (by-test (f.ino == new.ino) refl, replaced-but P Q new files here give all.1)
  where
    by-test : (b : Bool) → (f.ino == new.ino) ≡ b → Q (if b then new else f)
    by-test true is = here
    by-test false is = give f (eqb-false f.ino new.ino is) all.0

-- what holds of each file holds of the one with a number
pub found-in : (P : File → Type 0) (world : World) (ino : ℕ) (f : File) →
    find_file world ino ≡ Some f → OfEachFile P world.files → P f
found-in P world ino f is all = in-files P (λ g. g.ino == ino) world.files f is all

abbrev Numbered : File → Type 0
Numbered f = f.ino ≢ 0

-- A file in place of the one that is looked up: what the old ones have, and what the new one has
-- by what the one in its place has.
pub one-replaced : (P Q : File → Type 0) (world : World) (ino : ℕ) (new : File) →
    new.ino ≡ (file_in world ino).ino → OfEachFile Numbered world.files →
    (P (file_in world ino) → Q new) → OfEachFile P world.files → OfEachFile Q world.files →
    OfEachFile Q (map (replaces new) world.files)
one-replaced P Q world ino new own numbers give all also =
    by-found (find (λ f. f.ino == ino) world.files) refl
  where
    by-found : (o : Option File) → find (λ f. f.ino == ino) world.files ≡ o →
        OfEachFile Q (map (replaces new) world.files)
    by-found None is =
        let zero_is : new.ino ≡ 0 = own ∙ ap (λ o. (unwrap_or o (new_file 0 0)).ino) is in
        subst (OfEachFile Q)
        (sym (none-replaced new world.files
        (files-map Numbered (λ f. f.ino ≢ new.ino) (λ f some same. some (same ∙ zero_is))
        world.files numbers))) also
    by-found (Some f) is =
        let found : file_in world ino ≡ f = ap (λ o. unwrap_or o (new_file 0 0)) is in
        each-replaced Q new world.files
        (give (subst P (sym found) (in-files P (λ g. g.ino == ino) world.files f is all))) also

-- ---- files that are apart

-- a file stands in the place of another, and has no device that this one had not
pub record IsWithin (new old : File) : Type 0 where
  pub ino : new.ino ≡ old.ino
  pub rec : new.rec ≡ old.rec
  pub held : (gate : ℕ) →
      (held_at new gate ≡ held_at old gate) ⊎ ((held_at new gate).slots ≡ [])
  pub blocks : (k : ℕ) → (block_of new k ≡ block_of old k) ⊎ (block_of new k ≡ None)

-- it has the same ones
pub still-within : (core : Core) (passed : ℕ → ℕ) (old : File) →
    IsWithin (record old { core = core; passed = passed }) old
still-within core passed old = record {
  ino = refl;
  rec = refl;
  held = λ gate. inl refl;
  blocks = λ k. inl refl;
}

none-of : (h : Held) (d : ℕ) → h.slots ≡ [] → Contains (devices_of h) d → ⊥
none-of h d none is =
    let nothing : Contains [] d =
    subst (λ (slots : List ℕ). Contains (map (slot h.queue) slots) d) none is in
    let wrong : nothing.0 < 0 = nothing.1 in
    omega (arith, wrong)

slots-within : (new old : File) → IsWithin new old → (gate d : ℕ) →
    Contains (devices_of (held_at new gate)) d → Contains (devices_of (held_at old gate)) d
slots-within new old within gate d is = elim (within.held gate) [
  | inl same ↦ subst (λ (h : Held). Contains (devices_of h) d) same is
  | inr none ↦ absurd (none-of (held_at new gate) d none is)
]

blocks-within : (new old : File) → IsWithin new old → (k b : ℕ) → block_of new k ≡ Some b →
    block_of old k ≡ Some b
blocks-within new old within k b is = elim (within.blocks k) [
  | inl same ↦ sym same ∙ is
  | inr none ↦ let wrong : None ≡ Some b = sym none ∙ is in absurd (cc)
]

pub apart-from : (g new old : File) → IsWithin new old → AreApart old g → AreApart new g
apart-from g new old within holds = record {
  records = λ same. within.ino ∙ holds.records (sym within.rec ∙ same);
  slots = λ gate other d one more.
      let both = holds.slots gate other d (slots-within new old within gate d one) more in
      (within.ino ∙ both.0, both.1);
  blocks = λ j k b one more.
      let both = holds.blocks j k b (blocks-within new old within j b one) more in
      (within.ino ∙ both.0, both.1);
}

pub apart-to : (g new old : File) → IsWithin new old → AreApart g old → AreApart g new
apart-to g new old within holds = record {
  records = λ same. holds.records (same ∙ within.rec) ∙ sym within.ino;
  slots = λ gate other d one more.
      let both = holds.slots gate other d one (slots-within new old within other d more) in
      (both.0 ∙ sym within.ino, both.1);
  blocks = λ j k b one more.
      let both = holds.blocks j k b one (blocks-within new old within k b more) in
      (both.0 ∙ sym within.ino, both.1);
}

pub still-apart : (world : World) (ino : ℕ) (new : File) → IsWithin new (file_in world ino) →
    OfEachFile Numbered world.files → AllApart world.files →
    AllApart (map (replaces new) world.files)
still-apart world ino new same numbers all =
    one-replaced (λ f. OfEachFile (AreApart f) world.files)
    (λ f. OfEachFile (AreApart f) (map (replaces new) world.files)) world ino new same.ino numbers
    (λ old. with-new new
    (files-map (AreApart (file_in world ino)) (AreApart new)
    (λ g h. apart-from g new (file_in world ino) same h) world.files old))
    all
    (files-map (λ f. OfEachFile (AreApart f) world.files)
    (λ f. OfEachFile (AreApart f) (map (replaces new) world.files))
    (λ f each. with-new f each) world.files all)
  where
    with-new : (f : File) → OfEachFile (AreApart f) world.files →
        OfEachFile (AreApart f) (map (replaces new) world.files)
    with-new f each =
        one-replaced (AreApart f) (AreApart f) world ino new same.ino numbers
        (apart-to f new (file_in world ino) same) each each

pub placed-within : (drive : Drive) (new old : File) → IsWithin new old → IsPlaced drive old →
    IsPlaced drive new
placed-within drive new old within placed = record {
  number = λ none. placed.number (sym within.ino ∙ none);
  low = subst (λ n. n < 256) (sym within.rec) placed.low;
  size = subst (λ n. HasWord drive (size_word n)) (sym within.rec) placed.size;
  slots = λ gate d is. placed.slots gate d (slots-within new old within gate d is);
  heads = λ gate s tails is. elim (within.held gate) [
    | inl same ↦ placed.heads gate s tails (sym (ap (λ (h : Held). h.slots) same) ∙ is)
    | inr none ↦ let wrong : [] ≡ s ∷ tails = sym none ∙ is in absurd (cc)
  ];
  blocks = λ k b is. placed.blocks k b (blocks-within new old within k b is);
}

pub still-placed : (world : World) (ino : ℕ) (new : File) → IsWithin new (file_in world ino) →
    OfEachFile (IsPlaced world.drive) world.files →
    OfEachFile (IsPlaced world.drive) (map (replaces new) world.files)
still-placed world ino new same all =
    one-replaced (IsPlaced world.drive) (IsPlaced world.drive) world ino new same.ino
    (files-map (IsPlaced world.drive) Numbered (λ f h. h.number) world.files all)
    (placed-within world.drive new (file_in world ino) same)
    all all

-- ---- numbers

replaced-number : (new f : File) → (replaces new f).ino ≡ f.ino
replaced-number new f = by-test (f.ino == new.ino) refl
  where
    by-test : (b : Bool) → (f.ino == new.ino) ≡ b → (if b then new else f).ino ≡ f.ino
    by-test true is = sym (eqb-true f.ino new.ino is)
    by-test false is = refl

pub own-replaced : (new : File) (files : List File) → HaveOwnNumbers files →
    HaveOwnNumbers (map (replaces new) files)
own-replaced new [] own = tt
own-replaced new (f ∷ files) own = (
  subst (λ n. OfEachFile (λ g. g.ino ≢ n) (map (replaces new) files))
      (sym (replaced-number new f)) (others files own.0),
  own-replaced new files own.1,
)
  where
    others : (rest : List File) → OfEachFile (λ g. g.ino ≢ f.ino) rest →
        OfEachFile (λ g. g.ino ≢ f.ino) (map (replaces new) rest)
    others [] all = tt
    others (g ∷ rest) all =
        (λ same. all.0 (sym (replaced-number new g) ∙ same), others rest all.1)

-- a file in its own place
pub itself-replaced : (ino : ℕ) (files : List File) (f : File) → HaveOwnNumbers files →
    find (λ g. g.ino == ino) files ≡ Some f → map (replaces f) files ≡ files
itself-replaced ino [] f own is = refl
itself-replaced ino (g ∷ files) f own is =
    pick (g.ino == ino) refl (λ later. itself-replaced ino files f own.1 later) is
  where
    pick : (b : Bool) → (g.ino == ino) ≡ b →
        (find (λ h. h.ino == ino) files ≡ Some f → map (replaces f) files ≡ files) →
        cond b (Some g) (find (λ h. h.ino == ino) files) ≡ Some f →
        map (replaces f) (g ∷ files) ≡ g ∷ files
    pick true here rest now =
        let same : g ≡ f = cc in
        ap (λ b. (if b then f else g) ∷ map (replaces f) files)
        (eq-eqb g.ino f.ino (ap (λ (h : File). h.ino) same))
        ∙ ap (λ list. f ∷ list)
        (none-replaced f files (subst (λ (h : File). OfEachFile (λ e. e.ino ≢ h.ino) files) same
        own.0))
        ∙ ap (λ (h : File). h ∷ files) (sym same)
    pick false here rest now =
        let number : f.ino ≡ ino = found-number ino files f now in
        ap (λ b. (if b then f else g) ∷ map (replaces f) files)
        (ne_eqb g.ino f.ino (λ same. eqb-false g.ino ino here (same ∙ number)))
        ∙ ap (λ list. g ∷ list) (rest now)

-- ---- the world

pub all-numbered : (world : World) → IsShown world → OfEachFile (λ f. f.ino ≢ 0) world.files
all-numbered world shown =
    files-map (IsPlaced world.drive) Numbered (λ f h. h.number) world.files shown.placed

-- one file is replaced, whose devices show its core, and no device changes
pub file-shown : (world : World) (ino : ℕ) (new : File) → IsWithin new (file_in world ino) →
    (IsFileShown world.drive (file_in world ino) → IsFileShown world.drive new) →
    (IsFileEquipped (file_in world ino) → IsFileEquipped new) →
    IsShown world → IsShown (with_file new world)
file-shown world ino new same give equips shown = record {
  files = one-replaced (IsFileShown world.drive) (IsFileShown world.drive) world ino new same.ino
      numbers give shown.files shown.files;
  apart = still-apart world ino new same numbers shown.apart;
  placed = still-placed world ino new same shown.placed;
  equipped = one-replaced IsFileEquipped IsFileEquipped world ino new same.ino numbers equips
      shown.equipped shown.equipped;
  numbers = own-replaced new world.files shown.numbers;
  even = shown.even;
  tree = shown.tree;
}
  where
    numbers : OfEachFile Numbered world.files
    numbers = all-numbered world shown

-- an event comes that no device shows
pub event-shown : (world : World) (ino : ℕ) (e : Event) → may (core_in world ino) e ≡ true →
    is_modest e ≡ true →
    ((i : ℕ) (core : Core) (devices : media.World) → Shows i core devices → may core e ≡ true →
    Shows i (after core e) devices) →
    IsShown world → IsShown (with_core ino (after (core_in world ino) e) world)
event-shown world ino e may_be modest give shown =
    file-shown world ino (record (file_in world ino) { core = after (core_in world ino) e })
    (still-within (after (core_in world ino) e) (file_in world ino).passed (file_in world ino))
    (λ old up. give (file_in world ino).ino (core_in world ino)
    (devices_of_file world.drive (file_in world ino)) (old up) may_be)
    (λ old up. less-equipped (file_in world ino) (after (core_in world ino) e)
    (less-after (core_in world ino) e modest may_be) (old up)) shown

asked-word : (drive : Drive) (asked : List Asked) (r : ℕ) → HasWord drive r →
    HasWord (record drive { asked = asked }) r
asked-word drive asked r has = record { within = has.within; word = has.word }

-- the power was asked something
pub asked-shown : (world : World) (asked : List Asked) →
    IsShown world → IsShown (record world { drive = record world.drive { asked = asked } })
asked-shown world asked shown = record {
  files = files-map (IsFileShown world.drive) _
      (λ f shows. shows) world.files shown.files;
  apart = shown.apart;
  placed = files-map
      (IsPlaced world.drive) _
      (λ f h. record {
        number = h.number;
        low = h.low;
        size = asked-word world.drive asked (size_word f.rec) h.size;
        slots = λ gate r is. asked-word world.drive asked r (h.slots gate r is);
        heads = h.heads;
        blocks = h.blocks;
      }) world.files shown.placed;
  equipped = shown.equipped;
  numbers = shown.numbers;
  even = record { regions = shown.even.regions; blocks = shown.even.blocks };
  tree = shown.tree;
}

-- ---- what a crash recovers

reached-files : (P : ℕ → Core → Type 0) (files : List File) → OfEachCore P files →
    OfEachFile (λ f. f.ended ≡ false → P f.ino f.core) files
reached-files P [] all = tt
reached-files P (f ∷ files) all = (all.0, reached-files P files all.1)

pub shown-files-recover : ShownFilesRecover
shown-files-recover world shown reached =
    files-both (IsFileShown world.drive) (λ f. f.ended ≡ false → IsReached f.core)
    (IsRecovered world.drive)
    (λ f shows known up. shown-recovers f.ino (length f.core.log + 2) f.core
    (devices_of_file world.drive f) (good-kept f.core (whole (known up)).kept) (shows up)
    (omega arith))
    world.files shown.files (reached-files (λ ino core. IsReached core) world.files reached)
