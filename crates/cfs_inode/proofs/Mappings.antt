-- All blocks that a request needs are mapped.
use Rattle.std.proofs.Common.{◌≡◌, ◌∙◌, ◌≤◌, ◌<◌, ◌+◌, ◌-◌, ◌/◌, ◌&&◌, ◌++◌, ap, arith, cond}
use Rattle.std.proofs.Common.{filter, inl, inr, List, [], ◌∷◌, length, not, Option, None, Some}
use Rattle.std.proofs.Common.{refl, set, subst, sym, true, false, zero, suc, ℕ, Bool, length-set}
use Rattle.std.specs.Prelude.{nat_lt}
use Rattle.std.specs.List.{find, list_all, range_with_len}
use Rattle.std.proofs.lemmas.Bool.{cases_Bool}
use Rattle.std.proofs.lemmas.Bool.Decides.{nat_tests}
use Rattle.std.proofs.lemmas.List.{length-append, map-append}
use Rattle.cfs_file.specs.declared.request.Request.{Request}
use Rattle.cfs_file.specs.declared.request.Request.TheVariants as requests
use Rattle.cfs_file.specs.declared.sizes.TheConstants.{BLOCK_LEN, FILE_BLOCKS, LONGEST_FILE}
use Rattle.cfs_file.specs.declared.span.Span.{Span}
use Rattle.cfs_file.specs.declared.span.Span.TheVariants.{Nothing, Range}
use Rattle.cfs_file.specs.Span.{EndFits, between, span}
use Rattle.cfs_core.specs.declared.event.Event.TheVariants as events
use Rattle.cfs_core.specs.Words.{blocks_needed, end_needed, first_needed}
use Rattle.cfs_core.specs.May.{is_change}
use Rattle.cfs_core.proofs.Apart.{not_true}
use Rattle.cfs_core.proofs.Legal.{both}
use Rattle.cfs_core.proofs.Order.{same_or_not}
use Rattle.cfs_pmem.specs.declared.trace.Asked.{Asked}
use Rattle.cfs_pmem.specs.Images.{Seen}
use Rattle.cfs_block.specs.BlockImages.{BlockStep}
use Rattle.cfs_tracker.specs.declared.cell.Cell.{Cell}
use Rattle.cfs_tracker.specs.Admit.{bare_needed, first_unmapped, is_mapped, long_after}
use Rattle.cfs_tracker.specs.Cells.{cell_at, held_in, is_bare, tagged_cell}
use Rattle.cfs_tracker.proofs.Celling.{cell-beside, cell-here}
use Rattle.cfs_tracker.proofs.Entries.{found-test}
use Rattle.cfs_inode.specs.Makes.{CallMakes}
use Rattle.cfs_inode.specs.Mapping.{MapsBlocks, Tagged, TagsEach, tag_events}
use Rattle.cfs_inode.specs.Tagging.{Blocks, IsTaken, TagMakes, Tags}
use Rattle.cfs_inode.specs.Trims.{block_at}
use Rattle.cfs_inode.specs.View.{StateView}
use Rattle.cfs_inode.proofs.Coverings.{call-then}
use Rattle.cfs_inode.proofs.Resting.{rests}
use Rattle.cfs_inode.proofs.TagTells.{none-bare}

-- ---- one more

tags-ino : (obeys keeps : Bool) (span : Span) (tries : List Tagged) (asked_old : List Asked)
    (stock_old : Blocks) (old : StateView) (asked_new : List Asked) (stock_new : Blocks)
    (new : StateView) →
    TagsEach obeys keeps span tries asked_old stock_old old asked_new stock_new new →
    new.ino ≡ old.ino
tags-ino obeys keeps span [] asked_old stock_old old asked_new stock_new new each =
    ap (λ (s : StateView). s.ino) each.1.1
tags-ino obeys keeps span (try ∷ tries) asked_old stock_old old asked_new stock_new new each =
    tags-ino obeys keeps span tries each.0 each.1 each.2 asked_new stock_new new each.4.1
    ∙ ap (λ (s : StateView). s.ino) each.4.0.new_is

tags-more : (obeys keeps : Bool) (span : Span) (tries : List Tagged) (try : Tagged)
    (asked_old : List Asked) (stock_old : Blocks) (old : StateView) (asked : List Asked)
    (stock : Blocks) (mid : StateView) (asked_new : List Asked) (stock_new : Blocks)
    (new : StateView) →
    TagsEach obeys keeps span tries asked_old stock_old old asked stock mid →
    first_unmapped mid.tracker.cells span ≡ Some try.block →
    Tags obeys keeps try.block try.kept asked stock mid asked_new stock_new new →
    TagsEach obeys keeps span (tries ++ try ∷ []) asked_old stock_old old asked_new stock_new new
tags-more obeys keeps span [] try asked_old stock_old old asked stock mid asked_new stock_new new
    each first tag = (
      asked_new,
      stock_new,
      new,
      subst (λ (s : StateView). first_unmapped s.tracker.cells span ≡ Some try.block) each.1.1
          first,
      (
        subst (λ (a : List Asked). Tags obeys keeps try.block try.kept a stock_old old asked_new
            stock_new new) each.0
            (subst (λ (b : Blocks). Tags obeys keeps try.block try.kept asked b old asked_new
            stock_new
            new) each.1.0
            (subst (λ (s : StateView). Tags obeys keeps try.block try.kept asked stock s asked_new
            stock_new new) each.1.1 tag)),
        (refl, (refl, refl)),
      ),
    )
tags-more obeys keeps span (one ∷ tries) try asked_old stock_old old asked stock mid asked_new
    stock_new new each first tag = (
      each.0,
      each.1,
      each.2,
      each.3,
      (
        each.4.0,
        tags-more obeys keeps span tries try each.0 each.1 each.2 asked stock mid asked_new
            stock_new
            new each.4.1 first tag,
      ),
    )

all-more : (tries : List Tagged) (try : Tagged) → list_all (λ t. t.kept) tries ≡ true →
    list_all (λ t. t.kept) (tries ++ try ∷ []) ≡ try.kept
all-more [] try h = one try.kept
  where
    one : (b : Bool) → (b && true) ≡ b
    one true = refl
    one false = refl
all-more (first ∷ tries) try h =
    let two = both first.kept (list_all (λ t. t.kept) tries) h in
    rw two.0 (all-more tries try two.1)

-- these tags were tried, and kept
pub record HasMapped (obeys keeps : Bool) (span : Span) (asked_old : List Asked)
    (stock_old : Blocks) (old : StateView) (asked_now : List Asked) (stock_now : Blocks)
    (now : StateView) : Type 0 where
  pub tries : List Tagged
  pub each : TagsEach obeys keeps span tries asked_old stock_old old asked_now stock_now now
  pub all : list_all (λ t. t.kept) tries ≡ true
  pub makes : CallMakes (tag_events tries) asked_old old asked_now now

pub mapped-none : (obeys keeps : Bool) (span : Span) (asked : List Asked) (stock : Blocks)
    (old : StateView) → HasMapped obeys keeps span asked stock old asked stock old
mapped-none obeys keeps span asked stock old = record {
  tries = [];
  each = (refl, (refl, refl));
  all = refl;
  makes = rests old asked;
}

makes-more : (obeys keeps : Bool) (span : Span) (block : ℕ) (kept : Bool)
    (asked_old : List Asked) (stock_old : Blocks) (old : StateView) (asked : List Asked)
    (stock : Blocks) (now : StateView) (asked_new : List Asked) (new : StateView)
    (has : HasMapped obeys keeps span asked_old stock_old old asked stock now) →
    TagMakes block kept asked now asked_new new →
    CallMakes (tag_events (has.tries ++ record { block = block; kept = kept } ∷ [])) asked_old old
    asked_new new
makes-more obeys keeps span block kept asked_old stock_old old asked stock now asked_new new has
    makes =
    let try : Tagged = record { block = block; kept = kept } in
    subst (λ es. CallMakes es asked_old old asked_new new)
    (sym (map-append (λ (t : Tagged). events.Tag t.block t.kept) has.tries (try ∷ [])))
    (call-then (tag_events has.tries) (events.Tag block kept ∷ []) asked_old old asked now asked_new
    new (tags-ino obeys keeps span has.tries asked_old stock_old old asked stock now has.each)
    has.makes makes)

pub mapped-next : (obeys keeps : Bool) (span : Span) (block : ℕ) (asked_old : List Asked)
    (stock_old : Blocks) (old : StateView) (asked : List Asked) (stock : Blocks)
    (now : StateView) (asked_new : List Asked) (stock_new : Blocks) (new : StateView) →
    HasMapped obeys keeps span asked_old stock_old old asked stock now →
    first_unmapped now.tracker.cells span ≡ Some block →
    Tags obeys keeps block true asked stock now asked_new stock_new new →
    TagMakes block true asked now asked_new new →
    HasMapped obeys keeps span asked_old stock_old old asked_new stock_new new
mapped-next obeys keeps span block asked_old stock_old old asked stock now asked_new stock_new new
    has first tag makes =
    let try : Tagged = record { block = block; kept = true } in
    record {
      tries = has.tries ++ try ∷ [];
      each = tags-more obeys keeps span has.tries try asked_old stock_old old asked stock now
          asked_new stock_new new has.each first tag;
      all = all-more has.tries try has.all;
      makes = makes-more obeys keeps span block true asked_old stock_old old asked stock now
          asked_new new has makes;
    }

pub mapped-failed : (obeys keeps : Bool) (span : Span) (block : ℕ) (asked_old : List Asked)
    (stock_old : Blocks) (old : StateView) (asked : List Asked) (stock : Blocks)
    (now : StateView) (asked_new : List Asked) (stock_new : Blocks) (new : StateView) →
    HasMapped obeys keeps span asked_old stock_old old asked stock now →
    first_unmapped now.tracker.cells span ≡ Some block →
    Tags obeys keeps block false asked stock now asked_new stock_new new →
    TagMakes block false asked now asked_new new →
    MapsBlocks obeys keeps span false asked_old stock_old old asked_new stock_new new
mapped-failed obeys keeps span block asked_old stock_old old asked stock now asked_new stock_new new
    has first tag makes =
    let try : Tagged = record { block = block; kept = false } in
    record {
      tries = has.tries ++ try ∷ [];
      each = tags-more obeys keeps span has.tries try asked_old stock_old old asked stock now
          asked_new stock_new new has.each first tag;
      all = sym (all-more has.tries try has.all);
      mapped = λ is. cc;
      makes = makes-more obeys keeps span block false asked_old stock_old old asked stock now
          asked_new new has makes;
    }

pub mapped-all : (obeys keeps : Bool) (span : Span) (asked_old : List Asked) (stock_old : Blocks)
    (old : StateView) (asked_now : List Asked) (stock_now : Blocks) (now : StateView) →
    HasMapped obeys keeps span asked_old stock_old old asked_now stock_now now →
    first_unmapped now.tracker.cells span ≡ None →
    MapsBlocks obeys keeps span true asked_old stock_old old asked_now stock_now now
mapped-all obeys keeps span asked_old stock_old old asked_now stock_now now has none = record {
  tries = has.tries;
  each = has.each;
  all = sym has.all;
  mapped = λ is. none;
  makes = has.makes;
}

-- ---- how many blocks are left

abbrev pub many_cells : {B : Type 0} → (Cell B → Bool) → List (Cell B) → List ℕ → ℕ
many_cells test cells ks = length (filter (λ k. test (cell_at cells k)) ks)

abbrev pub is_unmapped : Cell (Seen BlockStep) → Bool
is_unmapped cell = not (is_mapped cell)

pub unmapped_needed : List (Cell (Seen BlockStep)) → Span → ℕ
unmapped_needed cells span = many_cells is_unmapped cells (blocks_needed span)

one-less : (b c : Bool) (n m k : ℕ) (xs ys : List ℕ) → (c ≡ true → b ≡ true) →
    length xs ≤ length ys → length (cond c (k ∷ xs) xs) ≤ length (cond b (k ∷ ys) ys)
one-less true true n m k xs ys goes less = omega (arith, less)
one-less true false n m k xs ys goes less = omega (arith, less)
one-less false true n m k xs ys goes less =
    absurd (let clash : false ≡ true = goes refl in cc)
one-less false false n m k xs ys goes less = less

set-test : (test : Cell (Seen BlockStep) → Bool) (cells : List (Cell (Seen BlockStep)))
    (block : ℕ) (cell : Cell (Seen BlockStep)) (k : ℕ) → test cell ≡ false →
    block < length cells → test (cell_at (set cells block cell) k) ≡ true →
    test (cell_at cells k) ≡ true
set-test test cells block cell k none less h = elim (same_or_not k block) [
  | inl same ↦
      let at : test (cell_at (set cells block cell) k) ≡ false =
      ap (λ (n : ℕ). test (cell_at (set cells block cell) n)) same
      ∙ (ap test (cell-here cells block cell less) ∙ none) in
      cc
  | inr apart ↦ sym (ap test (cell-beside cells block k cell apart)) ∙ h
]

pub many-less : (test : Cell (Seen BlockStep) → Bool) (cells : List (Cell (Seen BlockStep)))
    (block : ℕ) (cell : Cell (Seen BlockStep)) (ks : List ℕ) → test cell ≡ false →
    block < length cells →
    many_cells test (set cells block cell) ks ≤ many_cells test cells ks
many-less test cells block cell [] none less = omega arith
many-less test cells block cell (k ∷ ks) none less =
    one-less (test (cell_at cells k)) (test (cell_at (set cells block cell) k)) 0 0 k
    (filter (λ j. test (cell_at (set cells block cell) j)) ks)
    (filter (λ j. test (cell_at cells j)) ks)
    (set-test test cells block cell k none less)
    (many-less test cells block cell ks none less)

one-fewer : (b c : Bool) (k : ℕ) (xs ys : List ℕ) → (c ≡ true → b ≡ true) →
    length xs < length ys → length (cond c (k ∷ xs) xs) < length (cond b (k ∷ ys) ys)
one-fewer true true k xs ys goes less = omega (arith, less)
one-fewer true false k xs ys goes less = omega (arith, less)
one-fewer false true k xs ys goes less = absurd (let clash : false ≡ true = goes refl in cc)
one-fewer false false k xs ys goes less = less

-- the block is among these
pub many-fewer : (test : Cell (Seen BlockStep) → Bool) (any : ℕ → Bool)
    (cells : List (Cell (Seen BlockStep))) (block : ℕ) (cell : Cell (Seen BlockStep))
    (ks : List ℕ) → test cell ≡ false → block < length cells →
    test (cell_at cells block) ≡ true → find any ks ≡ Some block →
    many_cells test (set cells block cell) ks < many_cells test cells ks
many-fewer test any cells block cell [] none less own found = cc
many-fewer test any cells block cell (k ∷ ks) none less own found = elim (cases_Bool (any k)) [
  | inl hit ↦
      let it : find any (k ∷ ks) ≡ Some k = rw hit refl in
      let same : k ≡ block = (let somes : Some k ≡ Some block = sym it ∙ found in cc) in
      let was : test (cell_at cells k) ≡ true =
      ap (λ (n : ℕ). test (cell_at cells n)) same ∙ own in
      let now : test (cell_at (set cells block cell) k) ≡ false =
      ap (λ (n : ℕ). test (cell_at (set cells block cell) n)) same
      ∙ (ap test (cell-here cells block cell less) ∙ none) in
      rw (was, now) (omega (arith, many-less test cells block cell ks none less))
  | inr miss ↦
      let it : find any ks ≡ Some block =
      (let skip : find any (k ∷ ks) ≡ find any ks = rw miss refl in sym skip ∙ found) in
      one-fewer (test (cell_at cells k)) (test (cell_at (set cells block cell) k)) k
      (filter (λ j. test (cell_at (set cells block cell) j)) ks)
      (filter (λ j. test (cell_at cells j)) ks)
      (set-test test cells block cell k none less)
      (many-fewer test any cells block cell ks none less own it)
]

-- one that is among these is one at least
pub many-some : {B : Type 0} (test : Cell B → Bool) (any : ℕ → Bool)
    (cells : List (Cell B)) (block : ℕ) (ks : List ℕ) →
    test (cell_at cells block) ≡ true → find any ks ≡ Some block → 0 < many_cells test cells ks
many-some test any cells block [] own found = cc
many-some test any cells block (k ∷ ks) own found = elim (cases_Bool (any k)) [
  | inl hit ↦
      let it : find any (k ∷ ks) ≡ Some k = rw hit refl in
      let same : k ≡ block = (let somes : Some k ≡ Some block = sym it ∙ found in cc) in
      let was : test (cell_at cells k) ≡ true =
      ap (λ (n : ℕ). test (cell_at cells n)) same ∙ own in
      rw was (omega arith)
  | inr miss ↦
      let it : find any ks ≡ Some block =
      (let skip : find any (k ∷ ks) ≡ find any ks = rw miss refl in sym skip ∙ found) in
      some (test (cell_at cells k)) (many-some test any cells block ks own it)
]
  where
    some : (b : Bool) → 0 < many_cells test cells ks →
        0 < length (cond b (k ∷ filter (λ j. test (cell_at cells j)) ks)
        (filter (λ j. test (cell_at cells j)) ks))
    some true less = omega arith
    some false less = less

-- ---- the first one

found-range : (any : ℕ → Bool) (from n at : ℕ) → find any (range_with_len from n) ≡ Some at →
    at < from + n
found-range any from zero at found = cc
found-range any from (suc n) at found = elim (cases_Bool (any from)) [
  | inl hit ↦
      let it : find any (range_with_len from (suc n)) ≡ Some from = rw hit refl in
      let same : from ≡ at = (let somes : Some from ≡ Some at = sym it ∙ found in cc) in
      omega (arith, same)
  | inr miss ↦
      let it : find any (range_with_len (from + 1) n) ≡ Some at =
      (let skip : find any (range_with_len from (suc n)) ≡ find any (range_with_len (from + 1) n) =
      rw miss refl in sym skip ∙ found) in
      omega (arith, found-range any (from + 1) n at it)
]

end-within : (from to block : ℕ) → to ≤ LONGEST_FILE →
    block < first_needed (between from to)
    + (end_needed (between from to) - first_needed (between from to)) → block < FILE_BLOCKS
end-within from to block short less = elim (cases_Bool (nat_lt from to)) [
  | inl some ↦
      let up : from < to = grind (arith, nat_tests) in
      let is : between from to ≡ Range from to = rw some refl in
      let low : block < from / BLOCK_LEN + ((to - 1) / BLOCK_LEN + 1 - from / BLOCK_LEN) =
      subst (λ (s : Span). block < first_needed s + (end_needed s - first_needed s)) is less in
      omega (arith, low, up, short)
  | inr none ↦
      let is : between from to ≡ Nothing = rw none refl in
      let low : block < 0 =
      subst (λ (s : Span). block < first_needed s + (end_needed s - first_needed s)) is less in
      absurd (omega (arith, low))
]

-- a block that a request needs whose file is short enough is one of the file's
pub needed-within : (any : ℕ → Bool) (request : Request) (long block : ℕ) →
    long_after long request ≤ LONGEST_FILE → is_change request ≡ true →
    find any (blocks_needed (span request long)) ≡ Some block → block < FILE_BLOCKS
needed-within any (requests.Write offset bytes) long block fits change found =
    end-within offset (offset + length bytes) block (omega (arith, fits))
    (found-range any (first_needed (between offset (offset + length bytes))) _ block found)
needed-within any (requests.Append bytes) long block fits change found =
    end-within long (long + length bytes) block (omega (arith, fits))
    (found-range any (first_needed (between long (long + length bytes))) _ block found)
needed-within any (requests.Truncate n) long block fits change found = cc
needed-within any (requests.Read offset count) long block fits change found = cc
needed-within any requests.Sync long block fits change found = cc

-- ---- the loop

-- what stands at its head
pub record IsMapping (obeys keeps : Bool) (span : Span) (asked_old : List Asked)
    (stock_old : Blocks) (old : StateView) (asked_now : List Asked) (stock_now : Blocks)
    (now : StateView) : Type 0 where
  pub has : HasMapped obeys keeps span asked_old stock_old old asked_now stock_now now
  pub long : now.tracker.long ≡ old.tracker.long
  pub many : length now.tracker.cells ≡ FILE_BLOCKS
  pub stocked : bare_needed now.tracker.cells span ≤ length stock_now

pub mapping-none : (obeys keeps : Bool) (span : Span) (asked : List Asked) (stock : Blocks)
    (old : StateView) → length old.tracker.cells ≡ FILE_BLOCKS →
    bare_needed old.tracker.cells span ≤ length stock →
    IsMapping obeys keeps span asked stock old asked stock old
mapping-none obeys keeps span asked stock old many stocked = record {
  has = mapped-none obeys keeps span asked stock old;
  long = refl;
  many = many;
  stocked = stocked;
}

-- what is left of the stock is enough for what is left to be mapped
stock-left : (cells : List (Cell (Seen BlockStep))) (block : ℕ) (home now : Seen BlockStep)
    (span : Span) (stock_old stock_new : Blocks) (held : Option (Seen BlockStep)) →
    held_in (cell_at cells block) ≡ held → IsTaken held home stock_old stock_new →
    block < length cells → first_unmapped cells span ≡ Some block →
    is_mapped (cell_at cells block) ≡ false → bare_needed cells span ≤ length stock_old →
    bare_needed (set cells block (tagged_cell now true)) span ≤ length stock_new
stock-left cells block home now span stock_old stock_new (Some x) is taken less first unmapped
    stocked =
    let same : length stock_new ≡ length stock_old = ap length taken.1 in
    omega (
      arith,
      same,
      stocked,
      many-less (λ c. is_bare c) cells block (tagged_cell now true) (blocks_needed span) refl less,
    )
stock-left cells block home now span stock_old stock_new None is taken less first unmapped stocked =
    let sizes : length stock_old ≡ length stock_new + 1 =
    ap length taken ∙ length-append stock_new (home ∷ []) in
    let bare = none-bare (cell_at cells block) unmapped is in
    omega (
      arith,
      sizes,
      stocked,
      many-fewer (λ c. is_bare c) (λ k. not (is_mapped (cell_at cells k))) cells block
          (tagged_cell now true) (blocks_needed span) refl less bare first,
    )

pub first-is : {B : Type 0} (cells : List (Cell B)) (span : Span) (block : ℕ) →
    first_unmapped cells span ≡ Some block → is_mapped (cell_at cells block) ≡ false
first-is cells span block first =
    not_true (is_mapped (cell_at cells block))
    (found-test (λ k. not (is_mapped (cell_at cells k))) (blocks_needed span) block first)

-- a bare one has a block in the stock
pub stock-some : {B : Type 0} (cells : List (Cell B)) (span : Span) (block n : ℕ) →
    first_unmapped cells span ≡ Some block → bare_needed cells span ≤ n →
    is_bare (cell_at cells block) ≡ true → 0 < n
stock-some cells span block n first stocked bare =
    omega (
      arith,
      stocked,
      many-some (λ c. is_bare c) (λ k. not (is_mapped (cell_at cells k))) cells block
          (blocks_needed span) bare first,
    )

pub mapping-next : (obeys keeps : Bool) (span : Span) (block : ℕ) (asked_old : List Asked)
    (stock_old : Blocks) (old : StateView) (asked : List Asked) (stock : Blocks)
    (now : StateView) (asked_new : List Asked) (stock_new : Blocks) (new : StateView) →
    IsMapping obeys keeps span asked_old stock_old old asked stock now →
    first_unmapped now.tracker.cells span ≡ Some block → block < FILE_BLOCKS →
    Tags obeys keeps block true asked stock now asked_new stock_new new →
    TagMakes block true asked now asked_new new →
    IsMapping obeys keeps span asked_old stock_old old asked_new stock_new new
mapping-next obeys keeps span block asked_old stock_old old asked stock now asked_new stock_new new
    is first less tag makes =
    let cells : new.tracker.cells ≡ set now.tracker.cells block (tagged_cell tag.now true) =
    ap (λ (s : StateView). s.tracker.cells) tag.new_is in
    let inside : block < length now.tracker.cells = omega (arith, less, is.many) in
    record {
      has = mapped-next obeys keeps span block asked_old stock_old old asked stock now asked_new
          stock_new new is.has first tag makes;
      long = ap (λ (s : StateView). s.tracker.long) tag.new_is ∙ is.long;
      many = ap length cells
          ∙ (length-set now.tracker.cells block (tagged_cell tag.now true) ∙ is.many);
      stocked = subst (λ cs. bare_needed cs span ≤ length stock_new) (sym cells)
          (stock-left now.tracker.cells block tag.home tag.now span stock stock_new
          (block_at now block) refl tag.taken inside first
          (first-is now.tracker.cells span block first) is.stocked);
    }

-- one block less is left
pub mapping-fewer : (obeys keeps : Bool) (span : Span) (block : ℕ) (asked : List Asked)
    (stock : Blocks) (now : StateView) (asked_new : List Asked) (stock_new : Blocks)
    (new : StateView) → length now.tracker.cells ≡ FILE_BLOCKS →
    first_unmapped now.tracker.cells span ≡ Some block → block < FILE_BLOCKS →
    Tags obeys keeps block true asked stock now asked_new stock_new new →
    unmapped_needed new.tracker.cells span < unmapped_needed now.tracker.cells span
unfolding unmapped_needed
mapping-fewer obeys keeps span block asked stock now asked_new stock_new new many first less tag =
    let cells : new.tracker.cells ≡ set now.tracker.cells block (tagged_cell tag.now true) =
    ap (λ (s : StateView). s.tracker.cells) tag.new_is in
    let inside : block < length now.tracker.cells = omega (arith, less, many) in
    let fewer = many-fewer is_unmapped (λ k. not (is_mapped (cell_at now.tracker.cells k)))
    now.tracker.cells block (tagged_cell tag.now true) (blocks_needed span) refl inside
    (ap not (first-is now.tracker.cells span block first)) first in
    subst (λ cs. many_cells is_unmapped cs (blocks_needed span)
    < many_cells is_unmapped now.tracker.cells (blocks_needed span)) (sym cells) fewer

-- ---- what is known where the file is short enough

pub end-fits : (request : Request) (long : ℕ) → long_after long request ≤ LONGEST_FILE →
    EndFits request long
end-fits (requests.Write offset bytes) long fits = omega (arith, fits)
end-fits (requests.Append bytes) long fits = omega (arith, fits)
end-fits (requests.Truncate n) long fits = tt
end-fits (requests.Read offset count) long fits = tt
end-fits requests.Sync long fits = tt
