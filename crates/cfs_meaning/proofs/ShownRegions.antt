-- One region changes, of a world that its devices show.
use Rattle.std.proofs.Common.{◌≡◌, ◌≢◌, ℕ, ◌<◌, ◌≤◌, Bool, true, false}
use Rattle.std.proofs.Common.{Some, List, [], ◌∷◌, length, map, get_or, set, inl, inr}
use Rattle.std.proofs.Common.{refl, sym, ap, ◌∙◌, subst, if◌then◌else◌, arith}
use Rattle.std.specs.Prelude.{◌==◌, unwrap_or}
use Rattle.std.specs.List.{All, Contains}
use Rattle.std.proofs.Math.Path.{fun_ext}
use Rattle.std.proofs.lemmas.Bool.{eqb-false, eqb-true}
use Rattle.std.proofs.lemmas.List.{get_or-set_other, get_or-set_same, length-set, take-set-le}
use Rattle.cfs_core.specs.declared.inode_core.Core.{Core}
use Rattle.cfs_pmem.specs.declared.trace.Asked.{Asked}
use Rattle.cfs_pmem.specs.Images.{IsImage, Seen, WordStep, words_of}
use Rattle.cfs_pmem.specs.Objects.{IsEachImage}
use Rattle.cfs_medium.specs.Shows.{Shows}
use Rattle.cfs_medium.specs.WorldCalls.{with_size, with_slots}
use Rattle.cfs_medium.proofs.Has.{Has, contains-had, has-contained}
use Rattle.cfs_meaning.specs.Drive.{Drive, region_at}
use Rattle.cfs_meaning.specs.Steps.{size_word, slot}
use Rattle.cfs_meaning.specs.World.{File, Held, World, core_in, devices_of, file_in, find_file}
use Rattle.cfs_meaning.specs.World.{head_of, held_at, new_file, with_core}
use Rattle.cfs_meaning.specs.Devices.{AreApart, HasWord, IsEvenRegion, IsFileEquipped, IsFileShown}
use Rattle.cfs_meaning.specs.Devices.{IsPlaced, IsShown, OfEachFile, devices_of_file}
use Rattle.cfs_meaning.proofs.ShownFiles.{all-numbered, files-both, found-in, one-replaced}
use Rattle.cfs_meaning.proofs.ShownFiles.{own-replaced, placed-within, replaced-but, still-apart}
use Rattle.cfs_meaning.proofs.ShownFiles.{still-within}
use Rattle.cfs_meaning.proofs.ShownNeeds.{NeedsLess, less-equipped}

-- the drive with another region at a number
abbrev pub with_words : ℕ → Seen WordStep → List Asked → Drive → Drive
with_words r seen asked drive =
    record drive { asked = asked; regions = set drive.regions r seen }

-- ---- lists of regions

-- regions with other numbers
pub map-aside : (drive : Drive) (r : ℕ) (seen : Seen WordStep) (asked : List Asked)
    (numbers : List ℕ) → ((d : ℕ) → Has numbers d → d ≢ r) →
    map (region_at (with_words r seen asked drive)) numbers ≡ map (region_at drive) numbers
map-aside drive r seen asked [] other = refl
map-aside drive r seen asked (d ∷ numbers) other =
    ap (λ (s : Seen WordStep). s ∷ map (region_at (with_words r seen asked drive)) numbers)
    (get_or-set_other drive.regions r d seen _ (other d (inl refl)))
    ∙ ap (λ (list : List (Seen WordStep)). region_at drive d ∷ list)
    (map-aside drive r seen asked numbers (λ e is. other e (inr is)))

-- slots stand behind the size words, and differ where their numbers do
slots-high : (queue : ℕ) (slots : List ℕ) (d : ℕ) → Has (map (slot queue) slots) d → 323 ≤ d
slots-high queue [] d is = absurd is
slots-high queue (s ∷ slots) d is = elim is [
  | inl same ↦ omega (arith, same)
  | inr later ↦ slots-high queue slots d later
]

pub device-high : (h : Held) (d : ℕ) → Contains (devices_of h) d → 323 ≤ d
device-high h d is = slots-high h.queue h.slots d (has-contained (devices_of h) d is)

slot-among : (queue : ℕ) (slots : List ℕ) (s : ℕ) → Has (map (slot queue) slots) (slot queue s) →
    Has slots s
slot-among queue [] s is = absurd is
slot-among queue (other ∷ slots) s is = elim is [
  | inl same ↦ inl (omega (arith, same))
  | inr later ↦ inr (slot-among queue slots s later)
]

-- ---- the devices of a file

-- the region is none of the file's
pub record IsAside (r : ℕ) (g : File) : Type 0 where
  pub size : size_word g.rec ≢ r
  pub slots : (gate d : ℕ) → Contains (devices_of (held_at g gate)) d → d ≢ r

pub others-regions : (drive : Drive) (r : ℕ) (seen : Seen WordStep) (asked : List Asked)
    (g : File) →
    IsAside r g → devices_of_file (with_words r seen asked drive) g ≡ devices_of_file drive g
others-regions drive r seen asked g aside =
    ap (λ (s : Seen WordStep).
    record (devices_of_file (with_words r seen asked drive) g) { size = s })
    (get_or-set_other drive.regions r (size_word g.rec) seen _ aside.size)
    ∙ ap (λ (f : ℕ → List (Seen WordStep)). record (devices_of_file drive g) { slots = f })
    (fun_ext (λ gate.
    map-aside drive r seen asked (devices_of (held_at g gate)) (λ d is.
    aside.slots gate d (contains-had (devices_of (held_at g gate)) d is))))

-- the head of a request, which stands in no other slot of the file
pub record IsHead (drive : Drive) (f : File) (gate r : ℕ) (tails : List ℕ) : Type 0 where
  pub here : devices_of (held_at f gate) ≡ r ∷ tails
  pub word : HasWord drive r
  pub high : 323 ≤ r
  pub single : Has tails r → ⊥
  pub other : (at d : ℕ) → Contains (devices_of (held_at f at)) d → at ≢ gate → d ≢ r
  pub size : size_word f.rec ≢ r

pub own-slots : (drive : Drive) (gate r : ℕ) (tails : List ℕ) (seen : Seen WordStep)
    (asked : List Asked) (f : File) → IsHead drive f gate r tails →
    devices_of_file (with_words r seen asked drive) f
    ≡ with_slots gate (seen ∷ map (region_at drive) tails) (devices_of_file drive f)
own-slots drive gate r tails seen asked f head =
    ap (λ (s : Seen WordStep).
    record (devices_of_file (with_words r seen asked drive) f) { size = s })
    (get_or-set_other drive.regions r (size_word f.rec) seen _ head.size)
    ∙ ap (λ (g : ℕ → List (Seen WordStep)). record (devices_of_file drive f) { slots = g })
    (fun_ext (λ at. by-test at (at == gate) refl))
  where
    changed : Drive
    changed = with_words r seen asked drive

    by-test : (at : ℕ) (t : Bool) → (at == gate) ≡ t →
        map (region_at changed) (devices_of (held_at f at))
        ≡ (if t then seen ∷ map (region_at drive) tails
        else map (region_at drive) (devices_of (held_at f at)))
    by-test at true is =
        ap (λ n. map (region_at changed) (devices_of (held_at f n))) (eqb-true at gate is)
        ∙ ap (map (region_at changed)) head.here
        ∙ ap (λ (s : Seen WordStep). s ∷ map (region_at changed) tails)
        (get_or-set_same drive.regions r seen _ head.word.within)
        ∙ ap (λ (list : List (Seen WordStep)). seen ∷ list)
        (map-aside drive r seen asked tails
        (λ d is same. head.single (subst (Has tails) same is)))
    by-test at false is =
        map-aside drive r seen asked (devices_of (held_at f at)) (λ d had.
        head.other at d (contains-had (devices_of (held_at f at)) d had)
        (eqb-false at gate is))

pub own-size : (drive : Drive) (seen : Seen WordStep) (asked : List Asked) (f : File) →
    size_word f.rec < length drive.regions → f.rec < 256 →
    devices_of_file (with_words (size_word f.rec) seen asked drive) f
    ≡ with_size seen (devices_of_file drive f)
own-size drive seen asked f within low =
    ap (λ (s : Seen WordStep).
    record (devices_of_file (with_words (size_word f.rec) seen asked drive) f) { size = s })
    (get_or-set_same drive.regions (size_word f.rec) seen _ within)
    ∙ ap (λ (g : ℕ → List (Seen WordStep)).
    record (with_size seen (devices_of_file drive f)) { slots = g })
    (fun_ext (λ gate.
    map-aside drive (size_word f.rec) seen asked (devices_of (held_at f gate)) (λ d is same.
    let high : 323 ≤ d = device-high (held_at f gate) d
    (contains-had (devices_of (held_at f gate)) d is) in
    omega (arith, high, same, low))))

-- ---- the world

pub all-set : (xs : List (Seen WordStep)) (r : ℕ) (seen : Seen WordStep) → IsEvenRegion seen →
    All IsEvenRegion xs → All IsEvenRegion (set xs r seen)
all-set xs r seen here all = λ j d low. by-test j d low (j == r) refl
  where
    by-test : (j : ℕ) (d : Seen WordStep) → j < length (set xs r seen) → (t : Bool) →
        (j == r) ≡ t → IsEvenRegion (get_or (set xs r seen) j d)
    by-test j d low true is =
        let same : j ≡ r = eqb-true j r is in
        let within : r < length xs = omega (arith, length-set xs r seen) in
        subst IsEvenRegion
        (sym (ap (λ n. get_or (set xs r seen) n d) same ∙ get_or-set_same xs r seen d within)) here
    by-test j d low false is =
        subst IsEvenRegion (sym (get_or-set_other xs r j seen d (eqb-false j r is)))
        (all j d (omega (arith, length-set xs r seen)))

-- the region is even, and has as many words as the one before it
pub record IsAsLong (old new : Seen WordStep) : Type 0 where
  pub even : IsEvenRegion new
  pub long : length (words_of new) ≡ length (words_of old)

pub still-word : (drive : Drive) (r : ℕ) (seen : Seen WordStep) (asked : List Asked) →
    IsAsLong (region_at drive r) seen → (d : ℕ) → HasWord drive d →
    HasWord (with_words r seen asked drive) d
still-word drive r seen asked long d has = record {
  within = (let same = length-set drive.regions r seen in
      let low = has.within in omega (arith, same, low));
  word = by-test (d == r) refl;
}
  where
    by-test : (t : Bool) → (d == r) ≡ t →
        0 < length (words_of (region_at (with_words r seen asked drive) d))
    by-test true is =
        let same : d ≡ r = eqb-true d r is in
        let low : r < length drive.regions =
        subst (λ n. n < length drive.regions) same has.within in
        let word : 0 < length (words_of (region_at drive r)) =
        subst (λ n. 0 < length (words_of (region_at drive n))) same has.word in
        let longer : 0 < length (words_of seen) = (let as_long = long.long in
        omega (arith, word, as_long)) in
        subst (λ (s : Seen WordStep). 0 < length (words_of s))
        (sym (ap (region_at (with_words r seen asked drive)) same
        ∙ get_or-set_same drive.regions r seen _ low)) longer
    by-test false is =
        subst (λ (s : Seen WordStep). 0 < length (words_of s))
        (sym (get_or-set_other drive.regions r d seen _ (eqb-false d r is))) has.word

pub placed-changed : (drive : Drive) (r : ℕ) (seen : Seen WordStep) (asked : List Asked) →
    IsAsLong (region_at drive r) seen → (g : File) → IsPlaced drive g →
    IsPlaced (with_words r seen asked drive) g
placed-changed drive r seen asked long g placed = record {
  number = placed.number;
  low = placed.low;
  size = still-word drive r seen asked long (size_word g.rec) placed.size;
  slots = λ gate d is. still-word drive r seen asked long d (placed.slots gate d is);
  heads = placed.heads;
  blocks = placed.blocks;
}

-- A region that is no other file's becomes another, and the file's core one that its devices show
-- then.
pub region-shown : (world : World) (ino r : ℕ) (seen : Seen WordStep) (core : Core)
    (asked : List Asked) → 67 ≤ r → IsAsLong (region_at world.drive r) seen →
    ((g : File) → g.ino ≢ (file_in world ino).ino → AreApart (file_in world ino) g →
    IsPlaced world.drive g → IsAside r g) →
    OfEachFile (AreApart (file_in world ino)) world.files →
    IsPlaced world.drive (file_in world ino) →
    ((file_in world ino).ended ≡ false → Shows (file_in world ino).ino core
    (devices_of_file (with_words r seen asked world.drive) (file_in world ino))) →
    NeedsLess (core_in world ino) core → IsShown world →
    IsShown (record (with_core ino core world) { drive = with_words r seen asked world.drive })
region-shown world ino r seen core asked high long aside all old_placed shows less shown = record {
  files = replaced-but
      (λ g. IsFileShown world.drive g × (AreApart old g × IsPlaced world.drive g))
      (IsFileShown changed) new world.files shows
      (λ g other holds up. subst (Shows g.ino g.core)
      (sym (others-regions world.drive r seen asked g (aside g other holds.1.0 holds.1.1)))
      (holds.0 up))
      (files-both (IsFileShown world.drive) (λ g. AreApart old g × IsPlaced world.drive g) _
      (λ g a c. (a, c)) world.files shown.files
      (files-both (AreApart old) (IsPlaced world.drive) _ (λ g a c. (a, c)) world.files all
      shown.placed));
  apart = still-apart world ino new (still-within core old.passed old)
      (all-numbered world shown) shown.apart;
  placed = replaced-but (IsPlaced world.drive) (IsPlaced changed) new world.files
      (placed-changed world.drive r seen asked long new
      (placed-within world.drive new old (still-within core old.passed old) old_placed))
      (λ g other h. placed-changed world.drive r seen asked long g h) shown.placed;
  equipped = one-replaced IsFileEquipped IsFileEquipped world ino new refl
      (all-numbered world shown) (λ has up. less-equipped old core less (has up)) shown.equipped
      shown.equipped;
  numbers = own-replaced new world.files shown.numbers;
  even = record {
    regions = all-set world.drive.regions r seen long.even shown.even.regions;
    blocks = shown.even.blocks;
  };
  tree = λ images each. shown.tree images
      (subst (λ (regions : List (Seen WordStep)). IsEachImage IsImage regions images)
      (take-set-le 67 world.drive.regions r seen high) each);
}
  where
    old : File
    old = file_in world ino

    new : File
    new = record (file_in world ino) { core = core }

    changed : Drive
    changed = with_words r seen asked world.drive

-- ---- the head of a request

-- what is known of the slots of a request
pub record HasHead (world : World) (ino gate : ℕ) : Type 0 where
  pub r : ℕ
  pub tails : List ℕ
  pub head : IsHead world.drive (file_in world ino) gate r tails
  pub number : head_of (held_at (file_in world ino) gate) ≡ r

pub has-head : (world : World) (ino gate : ℕ) (f : File) → find_file world ino ≡ Some f →
    IsShown world → 0 < length (held_at (file_in world ino) gate).slots → HasHead world ino gate
has-head world ino gate f found shown some =
    by-slots (held_at (file_in world ino) gate).slots refl some
  where
    old : File
    old = file_in world ino

    h : Held
    h = held_at old gate

    same : old ≡ f
    same = ap (λ o. unwrap_or o (new_file 0 0)) found

    placed : IsPlaced world.drive old
    placed = subst (IsPlaced world.drive) (sym same)
        (found-in (IsPlaced world.drive) world ino f found shown.placed)

    all : OfEachFile (AreApart old) world.files
    all = subst (λ g. OfEachFile (AreApart g) world.files) (sym same)
        (found-in (λ g. OfEachFile (AreApart g) world.files) world ino f found shown.apart)

    itself : AreApart old old
    itself = subst (AreApart old) (sym same) (found-in (AreApart old) world ino f found all)

    by-slots : (slots : List ℕ) → h.slots ≡ slots → 0 < length slots → HasHead world ino gate
    by-slots [] is low = absurd (omega (arith, low))
    by-slots (s ∷ tails) is low =
        let here : devices_of h ≡ slot h.queue s ∷ map (slot h.queue) tails =
        ap (map (slot h.queue)) is in
        let among : Contains (devices_of h) (slot h.queue s) =
        subst (λ (list : List ℕ). Contains list (slot h.queue s)) (sym here)
        (contains-had (slot h.queue s ∷ map (slot h.queue) tails) (slot h.queue s) (inl refl)) in
        record {
          r = slot h.queue s;
          tails = map (slot h.queue) tails;
          head = record {
            here = here;
            word = placed.slots gate (slot h.queue s) among;
            high = omega arith;
            single = λ had.
                placed.heads gate s tails is
                (contains-had tails s (slot-among h.queue tails s had));
            other = λ at d is_there apart same_d.
                apart (itself.slots at gate (slot h.queue s)
                (subst (Contains (devices_of (held_at old at))) same_d is_there) among).1;
            size = λ same_r. (let low_rec = placed.low in omega (arith, same_r, low_rec));
          };
          number = ap (λ (list : List ℕ). slot h.queue (get_or list 0 0)) is;
        }

-- The head of a request becomes another region.
pub head-shown : (world : World) (ino gate : ℕ) (seen : Seen WordStep) (core : Core)
    (asked : List Asked) (f : File) → find_file world ino ≡ Some f →
    (has : HasHead world ino gate) →
    IsAsLong (region_at world.drive has.r) seen →
    ((file_in world ino).ended ≡ false → Shows (file_in world ino).ino core
    (with_slots gate (seen ∷ map (region_at world.drive) has.tails)
    (devices_of_file world.drive (file_in world ino)))) →
    NeedsLess (core_in world ino) core → IsShown world →
    IsShown (record (with_core ino core world) { drive = with_words has.r seen asked world.drive })
head-shown world ino gate seen core asked f found has long shows less shown =
    region-shown world ino has.r seen core asked (let high = has.head.high in omega (arith, high))
    long aside all placed
    (λ up. subst (Shows old.ino core)
    (sym (own-slots world.drive gate has.r has.tails seen asked old has.head)) (shows up)) less
    shown
  where
    old : File
    old = file_in world ino

    same : old ≡ f
    same = ap (λ o. unwrap_or o (new_file 0 0)) found

    placed : IsPlaced world.drive old
    placed = subst (IsPlaced world.drive) (sym same)
        (found-in (IsPlaced world.drive) world ino f found shown.placed)

    all : OfEachFile (AreApart old) world.files
    all = subst (λ g. OfEachFile (AreApart g) world.files) (sym same)
        (found-in (λ g. OfEachFile (AreApart g) world.files) world ino f found shown.apart)

    among : Contains (devices_of (held_at old gate)) has.r
    among = subst (λ (list : List ℕ). Contains list has.r) (sym has.head.here)
        (contains-had (has.r ∷ has.tails) has.r (inl refl))

    aside : (g : File) → g.ino ≢ old.ino → AreApart old g → IsPlaced world.drive g → IsAside has.r g
    aside g other apart g_placed = record {
      size = λ is. (let low = g_placed.low in let high = has.head.high in
          omega (arith, is, low, high));
      slots = λ at d is same_d.
          other (sym (apart.slots gate at has.r among
          (subst (Contains (devices_of (held_at g at))) same_d is)).0);
    }

-- The size word of a file becomes another region.
pub size-shown : (world : World) (ino : ℕ) (seen : Seen WordStep) (core : Core)
    (asked : List Asked) (f : File) → find_file world ino ≡ Some f →
    IsAsLong (region_at world.drive (size_word (file_in world ino).rec)) seen →
    ((file_in world ino).ended ≡ false → Shows (file_in world ino).ino core
    (with_size seen (devices_of_file world.drive (file_in world ino)))) →
    NeedsLess (core_in world ino) core → IsShown world →
    IsShown (record (with_core ino core world) {
      drive = with_words (size_word (file_in world ino).rec) seen asked world.drive;
    })
size-shown world ino seen core asked f found long shows less shown =
    region-shown world ino (size_word old.rec) seen core asked (omega arith) long aside all placed
    (λ up. subst (Shows old.ino core)
    (sym (own-size world.drive seen asked old placed.size.within placed.low)) (shows up)) less
    shown
  where
    old : File
    old = file_in world ino

    same : old ≡ f
    same = ap (λ o. unwrap_or o (new_file 0 0)) found

    placed : IsPlaced world.drive old
    placed = subst (IsPlaced world.drive) (sym same)
        (found-in (IsPlaced world.drive) world ino f found shown.placed)

    all : OfEachFile (AreApart old) world.files
    all = subst (λ g. OfEachFile (AreApart g) world.files) (sym same)
        (found-in (λ g. OfEachFile (AreApart g) world.files) world ino f found shown.apart)

    aside : (g : File) → g.ino ≢ old.ino → AreApart old g → IsPlaced world.drive g →
        IsAside (size_word old.rec) g
    aside g other apart g_placed = record {
      size = λ is. other (sym (apart.records (omega (arith, is))));
      slots = λ at d is same_d.
          (let high = device-high (held_at g at) d is in let low = placed.low in
          omega (arith, high, same_d, low));
    }
