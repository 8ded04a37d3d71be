-- The words of a new store pass every check.
use Rattle.std.proofs.Common.{ℕ, zero, suc, ◌+◌, ◌*◌, ◌-◌, ◌/◌, ◌<◌, ◌≤◌, ◌≡◌, ◌∙◌, ◌==◌, Bool}
use Rattle.std.proofs.Common.{false, List, [], ◌∷◌, ◌++◌, length, map, get_or, take, drop, sym, ap}
use Rattle.std.proofs.Common.{refl, arith, not, ◌&&◌, ◌%◌, Contains, subst}
use Rattle.std.specs.Prelude.{None, replicate, if◌then◌else◌}
use Rattle.std.specs.List.{flat_map, range_with_len}
use Rattle.std.proofs.Math.ListN as lists
use Rattle.std.proofs.lemmas.Bool.Decides.{nat_tests}
use Rattle.std.proofs.lemmas.List.{length-replicate}
use Rattle.std.proofs.lemmas.List.FromFn.{get_or-map-range_with_len, take-map-range_with_len}
use Rattle.cfs_pmem.specs.Images.{Seen, WordStep, words_of}
use Rattle.cfs_block.specs.BlockImages.{BlockStep, Content, content_of}
use Rattle.cfs_dir.specs.Namespace.{Namespace}
use Rattle.cfs_dir.specs.Tree.{leads_to_root, root_of}
use Rattle.cfs_dir.specs.Words.{nodes_in, table_in}
use Rattle.cfs_dir.proofs.Listed.{IsTree-root}
use Rattle.cfs_image.specs.Checks.{Check, damage_of}
use Rattle.cfs_image.specs.Fresh.{new_content, new_table, new_words}
use Rattle.cfs_image.specs.Layout.{block_at, journal_at, region_count, region_words}
use Rattle.cfs_image.specs.Layout.{size_at, slot_at, table_at}
use Rattle.cfs_home.specs.Disks.{File}
use Rattle.cfs_journal.specs.Standing.{walk}
use Rattle.cfs_plan.specs.Files.{files_of}
use Rattle.cfs_plan.specs.Readings.{HasNothingPast}
use Rattle.cfs_replay.specs.Plans.{disk_in}
use Rattle.cfs_slot.specs.Words.{ino_of}
use Rattle.cfs_store_words.specs.Held.{selector_held, words_held}
use Rattle.cfs_store_words.specs.Rows.{first_word, row_at, rows_from, tag_in}
use Rattle.cfs_store_words.proofs.Stores.{words-are}
use Rattle.cfs_survey.proofs.FirstFaults.{behind_sound}
use Rattle.cfs_survey.specs.Fields.{root_checks}
use Rattle.cfs_survey.specs.Faults.{checks_from}
use Rattle.cfs_survey.specs.Journals.{changes_checks, gates_checks}
use Rattle.cfs_survey.specs.Journals.{reached, table_places}
use Rattle.cfs_survey.specs.Places.{places_checks}
use Rattle.cfs_survey.specs.Sizes.{sizes_checks}
use Rattle.cfs_survey.specs.Slots.{is_entry, open_checks, slot_checks, slots_checks}
use Rattle.cfs_survey.specs.Slots as slots
use Rattle.cfs_survey.specs.Surveys.{Words, is_mapped, namespace_checks}
use Rattle.cfs_survey.specs.Surveys.{recovered_tree, survey_checks}
use Rattle.cfs_survey.specs.Tables.{next_checks, records_checks, row_at as row_offset}
use Rattle.cfs_survey.specs.Tags.{is_file, own_checks, tag_checks, tags_checks}
use Rattle.cfs_clean.specs.Clean.{IsClean, IsTreeOf}
use Rattle.cfs_clean.specs.Laws.{HoldNew, NewStoresAreClean}

-- ---- lists

const-range : {X : Type 0} (f : ℕ → X) (x : X) (a n : ℕ) → ((k : ℕ) → a ≤ k → f k ≡ x) →
    map f (range_with_len a n) ≡ replicate n x
const-range f x a zero same = refl
const-range f x a (suc n) same =
    ap (λ y. y ∷ map f (range_with_len (a + 1) n)) (same a (omega arith))
    ∙ ap (λ ys. x ∷ ys) (const-range f x (a + 1) n (λ k less. same k (omega (arith, less))))

drop-range : {X : Type 0} (f : ℕ → X) (k a n b m : ℕ) → b ≡ k + n → m ≡ a + k →
    drop k (map f (range_with_len a b)) ≡ map f (range_with_len m n)
drop-range f zero a n b m many from =
    ap (λ c. map f (range_with_len a c)) (let e : b ≡ n = omega (arith, many) in e)
    ∙ ap (λ c. map f (range_with_len c n)) (let e : a ≡ m = omega (arith, from) in e)
drop-range f (suc k) a n b m many from =
    ap (λ c. drop (suc k) (map f (range_with_len a c)))
    (let e : b ≡ suc (k + n) = omega (arith, many) in e)
    ∙ drop-range f k (a + 1) n (k + n) m refl (omega (arith, from))

map-const : {X Y : Type 0} (f : X → Y) (x : X) (n : ℕ) → map f (replicate n x) ≡ replicate n (f x)
map-const f x zero = refl
map-const f x (suc n) = ap (λ ys. f x ∷ ys) (map-const f x n)

map-both : {X Y Z : Type 0} (g : Y → Z) (f : X → Y) (xs : List X) →
    map g (map f xs) ≡ map (λ x. g (f x)) xs
map-both g f [] = refl
map-both g f (x ∷ xs) = ap (λ ys. g (f x) ∷ ys) (map-both g f xs)

-- ---- the words that are held

abbrev words-as : Bool → ℕ → List ℕ
words-as one many =
    (if one then new_table else [])
    ++ replicate (many - length (if one then new_table else [])) 0

new-slot : (k : ℕ) → 323 ≤ k → take 6 (new_words k) ≡ replicate 6 0
new-slot k least =
    let other : (k == 1) ≡ false = grind (arith, nat_tests, least) in
    let many : region_words k ≡ 518 = grind (arith, nat_tests, least) in
    ap (λ b. take 6 (words-as b (region_words k))) other
    ∙ ap (λ n. take 6 (words-as false n)) many

-- the words of a new store, as a survey sees them
abbrev new-held : ℕ → ℕ → Words
new-held count queues = record {
  selector = 0;
  table = new_words 1;
  journal = replicate 64 (replicate 16 0);
  sizes = replicate 256 0;
  slots = replicate (16 * queues) (replicate 6 0);
  tags = replicate count 0;
}

module _ {count queues : ℕ} {regions : List (Seen WordStep)} {blocks : List (Seen BlockStep)}
    (new : HoldNew count queues regions blocks) where
  row-is : (k : ℕ) → k < 323 → row_at regions k ≡ new_words k
  row-is k less =
      sym (lists.get_or-map words_of regions k record { device = 0; also = []; history = [] })
      ∙ (ap (λ (rows : List (List ℕ)). get_or rows k []) new.words
      ∙ get_or-map-range_with_len new_words 0 (region_count queues) k k [] (omega (arith, less))
      (omega arith))

  rows-are : (first many : ℕ) → first + many ≤ 323 →
      rows_from first many regions ≡ map new_words (range_with_len first many)
  rows-are first many fits =
      let rest : ℕ = region_count queues - first in
      ap (λ (rows : List (List ℕ)). take many (drop first rows)) new.words
      ∙ (ap (take many) (drop-range new_words first 0 rest (region_count queues) first
      (omega (arith, fits)) (omega arith))
      ∙ take-map-range_with_len new_words first rest many (omega (arith, fits)))

  selector-is : selector_held regions ≡ 0
  selector-is = ap first_word (row-is 0 (omega arith))

  slots-are : map (take 6) (drop 323 (map words_of regions))
      ≡ replicate (16 * queues) (replicate 6 0)
  slots-are =
      ap (λ (rows : List (List ℕ)). map (take 6) (drop 323 rows)) new.words
      ∙ (ap (map (take 6)) (drop-range new_words 323 0 (16 * queues) (region_count queues) 323 refl refl)
      ∙ (map-both (take 6) new_words (range_with_len 323 (16 * queues))
      ∙ const-range (λ k. take 6 (new_words k)) (replicate 6 0) 323 (16 * queues)
      (λ k least. new-slot k least)))

  tags-are : map tag_in blocks ≡ replicate count 0
  tags-are =
      sym (map-both (λ (c : Content). c.tag) content_of blocks)
      ∙ (ap (map (λ (c : Content). c.tag)) new.contents
      ∙ map-const (λ (c : Content). c.tag) new_content count)

  held-are : words_held regions blocks ≡ new-held count queues
  held-are =
      words-are (words_held regions blocks) (new-held count queues) selector-is
      (ap (λ (n : ℕ). row_at regions (1 + n % 2)) selector-is ∙ row-is 1 (omega arith))
      (rows-are 3 64 (omega arith))
      (ap (map first_word) (rows-are 67 256 (omega arith)))
      slots-are tags-are

-- ---- the checks

none-from : (each : ℕ → List Check) (from n : ℕ) → ((k : ℕ) → each k ≡ []) →
    damage_of (checks_from each from n) ≡ None
unfolding checks_from
none-from each from zero none = refl
none-from each from (suc n) none =
    ap (λ (checks : List Check). damage_of (checks ++ flat_map each (range_with_len (from + 1) n)))
    (none from)
    ∙ none-from each (from + 1) n none

table-next : damage_of (next_checks (table_at 0) 2) ≡ None
unfolding next_checks
table-next = refl

table-records : damage_of (records_checks (table_at 0) (new_words 1)) ≡ None
unfolding records_checks root_checks checks_from nodes_in
table-records = refl

table-places : damage_of (places_checks (row_offset (table_at 0)) (table_in (new_words 1)).nodes)
    ≡ None
unfolding places_checks nodes_in leads_to_root
table-places = refl

none-reached : reached 0 (replicate 64 (replicate 16 0)) ≡ []
unfolding walk
none-reached = refl

gates-sound : damage_of (gates_checks (journal_at 0) (replicate 64 (replicate 16 0)) 0) ≡ None
unfolding gates_checks checks_from
gates-sound = refl

changes-sound : damage_of (changes_checks (journal_at 0) 0 (table_in (new_words 1))
    (table_places (table_at 0)) []) ≡ None
unfolding changes_checks checks_from
changes-sound = refl

tree-is : (count queues : ℕ) → recovered_tree (new-held count queues)
    ≡ record { nodes = root_of 511 0 0 ∷ []; next = 2 }
unfolding walk nodes_in
tree-is count queues = refl

sizes-sound : damage_of (sizes_checks (size_at 0) (replicate 256 0) (root_of 511 0 0 ∷ [])) ≡ None
unfolding sizes_checks
sizes-sound = refl

same-const : {X : Type 0} (n k : ℕ) (x : X) → get_or (replicate n x) k x ≡ x
same-const zero k x = refl
same-const (suc n) zero x = refl
same-const (suc n) (suc k) x = same-const n k x

tags-sound : (at count : ℕ) →
    damage_of (tags_checks at (root_of 511 0 0 ∷ []) (replicate count 0)) ≡ None
unfolding tags_checks
tags-sound at count =
    none-from (tag_checks at (root_of 511 0 0 ∷ []) (replicate count 0)) 0
    (length (replicate count 0))
    (λ k. ap (λ (tag : ℕ). if is_file (root_of 511 0 0 ∷ []) (tag / 65536)
    then own_checks at (replicate count 0) k tag else []) (same-const count k 0))

-- no gate of the slots is open
closed-const : (n k : ℕ) (ino : List ℕ → Bool) →
    ((words : List ℕ) → get_or words 0 0 ≡ 0 → ino words ≡ false) →
    ino (get_or (replicate n (replicate 6 0)) k []) ≡ false
closed-const zero k ino shut = shut [] refl
closed-const (suc n) zero ino shut = shut (replicate 6 0) refl
closed-const (suc n) (suc k) ino shut = closed-const n k ino shut

shut-entry : (row : List ℕ) → get_or row 0 0 ≡ 0 → is_entry (root_of 511 0 0 ∷ []) row ≡ false
shut-entry row closed =
    ap (λ (gate : ℕ). not (gate == 0) && is_file (root_of 511 0 0 ∷ []) (ino_of row)) closed

slots-sound : (at queues : ℕ) (mapped : ℕ → Bool) →
    damage_of (slots_checks at (root_of 511 0 0 ∷ []) mapped
    (replicate (16 * queues) (replicate 6 0))) ≡ None
unfolding slots_checks
slots-sound at queues mapped =
    none-from
    (slot_checks at (root_of 511 0 0 ∷ []) mapped (replicate (16 * queues) (replicate 6 0))) 0
    (length (replicate (16 * queues) (replicate 6 0)))
    (λ k. ap (λ (is : Bool). if is then open_checks (slots.slot_at at k) (root_of 511 0 0 ∷ [])
    mapped (replicate (16 * queues) (replicate 6 0)) k
    (get_or (replicate (16 * queues) (replicate 6 0)) k []) else [])
    (closed-const (16 * queues) k (is_entry (root_of 511 0 0 ∷ [])) shut-entry))

-- ---- all of it

names-sound : (count queues : ℕ) → damage_of (namespace_checks (new-held count queues)) ≡ None
unfolding namespace_checks
names-sound count queues =
    behind_sound (next_checks (table_at 0) 2 ++ (records_checks (table_at 0) (new_words 1)
    ++ places_checks (row_offset (table_at 0)) (table_in (new_words 1)).nodes)) _
    (behind_sound (next_checks (table_at 0) 2) _ table-next
    ∙ (behind_sound (records_checks (table_at 0) (new_words 1)) _ table-records ∙ table-places))
    ∙ ap (λ (rows : List (List ℕ)). damage_of (changes_checks (journal_at 0) 0
    (table_in (new_words 1)) (table_places (table_at 0)) rows
    ++ gates_checks (journal_at 0) (replicate 64 (replicate 16 0)) (0 + length rows))) none-reached
    ∙ behind_sound (changes_checks (journal_at 0) 0 (table_in (new_words 1))
    (table_places (table_at 0)) []) _ changes-sound
    ∙ gates-sound

sound-is : (count queues : ℕ) → damage_of (survey_checks (new-held count queues)) ≡ None
unfolding survey_checks
sound-is count queues =
    let words : Words = new-held count queues in
    let offset : ℕ = block_at (length words.slots / 16) 0 in
    behind_sound (namespace_checks words) _ (names-sound count queues)
    ∙ (ap (λ (tree : Namespace). damage_of (sizes_checks (size_at 0) words.sizes tree.nodes
    ++ (tags_checks offset tree.nodes words.tags
    ++ slots_checks (slot_at 0) tree.nodes (is_mapped words.tags) words.slots)))
    (tree-is count queues)
    ∙ (behind_sound (sizes_checks (size_at 0) words.sizes (root_of 511 0 0 ∷ [])) _ sizes-sound
    ∙ (behind_sound (tags_checks offset (root_of 511 0 0 ∷ []) words.tags) _
    (tags-sound offset count)
    ∙ slots-sound (slot_at 0) queues (is_mapped words.tags))))

pub news-clean : NewStoresAreClean
news-clean count queues regions blocks new =
    subst (λ (words : Words). IsClean words (disk_in regions blocks)) (sym (held-are new)) record {
      whole = record {
        table = refl;
        journal = refl;
        sizes = refl;
        slots = omega (arith, length-replicate (16 * queues) six, new.most_queues);
        tags = omega (arith, length-replicate count (let n : ℕ = 0 in n), new.most_blocks);
      };
      sound = sound-is count queues;
      tree = subst IsTreeOf (sym (tree-is count queues))
          (IsTree-root 511 0 0 2 (omega arith) (omega arith) (omega arith) (omega arith)
          (omega arith));
      past = subst (λ (tree : Namespace). HasNothingPast (files_of tree.nodes)
          (disk_in regions blocks)) (sym (tree-is count queues))
          (λ file position among past beside. absurd (none-among file among));
    }
  where
    six : List ℕ
    six = replicate 6 0

    none-among : (file : File) → Contains [] file → ⊥
    none-among file among = omega (arith, among.1)
