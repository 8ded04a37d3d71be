-- The journal and the checkpoint of a new store stand for its tree.
use Rattle.std.proofs.Common.{◌≡◌, ℕ, zero, suc, ◌+◌, ◌-◌, ◌<◌, None, List, [], ◌∷◌, ◌++◌}
use Rattle.std.proofs.Common.{length, map, drop, take, get_or, replicate, refl, sym, ap, ◌∙◌, subst}
use Rattle.std.proofs.Common.{arith, false, inl, inr, if◌then◌else◌}
use Rattle.std.specs.List.{range_with_len}
use Rattle.std.proofs.lemmas.Bool.{ne_eqb}
use Rattle.std.proofs.lemmas.Bool.Decides.{nat_tests}
use Rattle.std.proofs.lemmas.List.{ext_get_or, get_or-drop, get_or-take, length-append}
use Rattle.std.proofs.lemmas.List.{length-replicate, length-take}
use Rattle.std.proofs.lemmas.List.FromFn.{get_or-map-range_with_len, length-map-range_with_len}
use Rattle.cfs_pmem.specs.AllMoments.{AreApart, AreDistinct, IsApartFrom}
use Rattle.cfs_pmem.specs.Images as regions
use Rattle.cfs_pmem.specs.Images.{AllImages, IsImage, IsSure, Seen, WordStep, devices_of, words_of}
use Rattle.cfs_pmem.specs.Objects.{all_devices, seen_at}
use Rattle.cfs_pmem.proofs.ImageLemmas.{sure_began}
use Rattle.cfs_journal.specs.Standing.{AreBlank, Standing, changes_above}
use Rattle.cfs_journal.proofs.Standings.{blank_stands}
use Rattle.cfs_ckpt.specs.Loads.{Loaded, loaded}
use Rattle.cfs_ckpt.specs.Selects.{AreFresh, Selects}
use Rattle.cfs_ckpt.proofs.LoadLemmas.{each_at}
use Rattle.cfs_ckpt.proofs.SelectLemmas.{fresh_selects}
use Rattle.cfs_image.specs.Fresh.{front_of, new_table, new_words}
use Rattle.cfs_image.specs.Layout.{region_words}
use Rattle.cfs_names.specs.Behind.{AreBehind, IsBehind}
use Rattle.cfs_meaning.specs.Drive.{Drive, region_at}
use Rattle.cfs_meaning.specs.World.{Caller}
use Rattle.cfs_meaning.specs.NameSteps.{tree_of}
use Rattle.cfs_meaning.specs.Devices.{OfEachFile}
use Rattle.cfs_meaning.specs.Mounting.{changes_in, files_of, mounted_file, mounted_world}
use Rattle.cfs_meaning.specs.Mounting.{recovered_tree, through_in, tree_words}
use Rattle.cfs_meaning.specs.Home.{new_drive}
use Rattle.cfs_meaning.specs.Trees.{NewStoresAreClear, NewStoresAreStored, front_in, records_in}
use Rattle.cfs_meaning.specs.Trees.{tables_in}
use Rattle.cfs_meaning.proofs.NewStores.{loads-new, new-size, new-stores-are-home, new_tree}
use Rattle.cfs_meaning.proofs.NewStores.{none-above, size-words}
use Rattle.cfs_meaning.proofs.NewStores.{region-new, regions-long, tree-new, words-new, zeros}

-- ---- the first regions

abbrev new_region : ℕ → Seen WordStep
new_region k = regions.began k (new_words k)

abbrev new_front : List (Seen WordStep)
new_front = map new_region (range_with_len 0 67)

front-new : (count queues : ℕ) → front_in (new_drive count queues) ≡ new_front
front-new count queues =
    let drive : Drive = new_drive count queues in
    let none : Seen WordStep = regions.began 0 [] in
    let long = regions-long count queues in
    let first = length-take 67 drive.regions in
    let size = length-map-range_with_len new_region 0 67 in
    ext_get_or none (front_in drive) new_front (omega (arith, long, first, size)) (λ k low.
    let below : k < 67 = omega (arith, low, first) in
    get_or-take 67 drive.regions k none below
    ∙ region-new count queues k none (omega (arith, below))
    ∙ sym (get_or-map-range_with_len new_region 0 67 k k none below (omega arith)))

-- ---- their devices

one-apart : (a b : ℕ) → a < b → AreApart (a ∷ []) (b ∷ [])
one-apart a b less device (inl one) (inl other) = omega (arith, one, other, less)
one-apart a b less device (inl one) (inr none) = none
one-apart a b less device (inr none) other = none

rises-apart : (a b n : ℕ) → a < b →
    IsApartFrom (a ∷ []) (map (λ k. k ∷ []) (range_with_len b n))
rises-apart a b zero less = tt
rises-apart a b (suc n) less =
    (one-apart a b less, rises-apart a (b + 1) n (omega (arith, less)))

rises-distinct : (a n : ℕ) → AreDistinct (map (λ k. k ∷ []) (range_with_len a n))
rises-distinct a zero = tt
rises-distinct a (suc n) = (rises-apart a (a + 1) n (omega arith), rises-distinct (a + 1) n)

devices-are : (numbers : List ℕ) →
    all_devices (map new_region numbers) ≡ map (λ k. k ∷ []) numbers
devices-are [] = refl
devices-are (k ∷ numbers) = ap (λ (list : List (List ℕ)). (k ∷ []) ∷ list) (devices-are numbers)

new-distinct : (a n : ℕ) → AreDistinct (all_devices (map new_region (range_with_len a n)))
new-distinct a n =
    subst AreDistinct (sym (devices-are (range_with_len a n))) (rises-distinct a n)

-- ---- the journal

record-words : (p : ℕ) → p < 64 → new_words (3 + p) ≡ zeros 16
record-words p low =
    ap (λ front. front ++ zeros (region_words (3 + p) - length front)) no_front
    ∙ ap (λ n. zeros (n - 0)) one
  where
    no_front : front_of (3 + p) ≡ []
    no_front = ap (λ b. if b then new_table else []) (ne_eqb (3 + p) 1 (λ is. omega arith))

    one : region_words (3 + p) ≡ 16
    one = grind (arith, nat_tests)

records-blank : AreBlank (drop 3 new_front)
records-blank = record {
  size = refl;
  distinct = new-distinct 3 64;
  zero = λ p low.
      subst (λ (s : Seen WordStep). AllImages s (λ image. image ≡ replicate 16 0)) (sym (at p low))
      (λ image possible.
      sure_began (3 + p) (new_words (3 + p)) image possible ∙ record-words p low);
}
  where
    at : (p : ℕ) → p < 64 → seen_at (drop 3 new_front) p ≡ new_region (3 + p)
    at p low =
        get_or-drop 3 new_front p _
        ∙ get_or-map-range_with_len new_region 0 67 (3 + p) (3 + p) _ (omega (arith, low))
        (omega arith)

-- ---- the checkpoint

table-long : (copy : ℕ) → copy < 2 → length (new_words (suc copy)) ≡ 3073
table-long zero low =
    length-append new_table (zeros 3068) ∙ ap (λ n. 5 + n) (length-replicate {A = ℕ} 3068 0)
table-long (suc zero) low = length-replicate {A = ℕ} 3073 0
table-long (suc (suc copy)) low = absurd (omega (arith, low))

tables-fresh : AreFresh (take 3 new_front)
tables-fresh = record {
  size = refl;
  distinct = new-distinct 0 3;
  selector = λ image possible. sure_began 0 (new_words 0) image possible;
  tables = λ copy low. ap (λ (s : Seen WordStep). length (words_of s)) (at copy low)
      ∙ table-long copy low;
  first = sure_began 1 (new_words 1);
}
  where
    at : (copy : ℕ) → copy < 2 → seen_at (take 3 new_front) (suc copy) ≡ new_region (suc copy)
    at zero low = refl
    at (suc zero) low = refl
    at (suc (suc copy)) low = absurd (omega (arith, low))

tables-behind : AreBehind 0 [] new_tree (take 3 new_front)
tables-behind x can =
    let first = each_at (take 3 new_front) can.images 0 can.possible (omega arith) in
    let second = each_at (take 3 new_front) can.images 1 can.possible (omega arith) in
    let is : loaded can.images ≡ record { tree = new_tree; through = 0 } =
    loads-new can.images (sure_began 0 (new_words 0) (get_or can.images 0 []) first)
    (sure_began 1 (new_words 1) (get_or can.images 1 []) second) in
    subst (λ y. IsBehind 0 [] new_tree y) (sym (sym can.loads ∙ is))
    (record { low = omega arith; high = omega arith; leads = refl })

-- ---- the whole

through-new : (count queues : ℕ) → through_in (new_drive count queues) ≡ 0
through-new count queues =
    ap (λ (x : Loaded). x.through)
    (loads-new (tree_words (new_drive count queues)) (words-new count queues 0 (omega arith))
    (words-new count queues 1 (omega arith)))

changes-new : (count queues : ℕ) → changes_in (new_drive count queues) ≡ []
changes-new count queues =
    let words : List (List ℕ) = tree_words (new_drive count queues) in
    ap (λ n. changes_above n (drop 3 words)) (through-new count queues)
    ∙ none-above (drop 3 words)
    (get_or-drop 3 words 0 [] ∙ words-new count queues 3 (omega arith))

pub new-stores-are-stored : NewStoresAreStored
new-stores-are-stored callers count queues =
    let drive : Drive = new_drive count queues in
    let front = front-new count queues in
    record {
      changes = [];
      count = ap length (sym (changes-new count queues));
      journal =
          subst (λ n. Standing n [] None (records_in drive)) (sym (through-new count queues))
          (subst (λ (list : List (Seen WordStep)). Standing 0 [] None (drop 3 list)) (sym front)
          (blank_stands records-blank));
      word = 0;
      selector =
          subst (λ (list : List (Seen WordStep)). Selects 0 false (take 3 list)) (sym front)
          (fresh_selects tables-fresh);
      behind =
          subst (λ n. AreBehind n [] (recovered_tree drive) (tables_in drive))
          (sym (through-new count queues))
          (subst (λ tree. AreBehind 0 [] tree (tables_in drive)) (sym (tree-new count queues))
          (subst (λ (list : List (Seen WordStep)). AreBehind 0 [] new_tree (take 3 list))
          (sym front) tables-behind));
      distinct = subst (λ (list : List (Seen WordStep)). AreDistinct (all_devices list))
          (sym front) (new-distinct 0 67);
      whole = (new-stores-are-home count queues).tree;
    }

-- ---- records that are not used

no-files : (callers : List Caller) (count queues : ℕ) →
    (mounted_world callers (new_drive count queues)).files ≡ []
no-files callers count queues =
    ap (λ tree. map (mounted_file (new_drive count queues)) (files_of tree))
    (tree-new count queues)

pub new-stores-are-clear : NewStoresAreClear
new-stores-are-clear callers count queues = record {
  words = λ rec unused low. new-size count queues rec low;
  clear = λ rec unused low.
      let here : region_at (new_drive count queues) (67 + rec) ≡ new_region (67 + rec) =
      region-new count queues (67 + rec) _ (omega (arith, low)) in
      subst (λ (s : Seen WordStep). AllImages s (λ words. get_or words 0 0 ≡ 0)) (sym here)
      (λ image possible.
      ap (λ (ws : List ℕ). get_or ws 0 0)
      (sure_began (67 + rec) (new_words (67 + rec)) image possible ∙ size-words rec low));
  numbers = subst (OfEachFile (λ f.
      f.ino < (tree_of (mounted_world callers (new_drive count queues)).names.now).next))
      (sym (no-files callers count queues)) tt;
}
