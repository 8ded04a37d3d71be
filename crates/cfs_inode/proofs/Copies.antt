-- A block at home is taken out, read and put back.
use Rattle.std.proofs.Common.{◌≡◌, ◌∙◌, ◌+◌, ◌-◌, ◌*◌, ◌/◌, ◌%◌, ◌<◌, ◌≤◌, ◌++◌, ap, arith, drop}
use Rattle.std.proofs.Common.{false, length-append, if◌then◌else◌, inl, inr, max, nat_lt, rules}
use Rattle.std.proofs.Common.{get_or, length, List, map, min, None, Some}
use Rattle.std.proofs.Common.{refl, subst, sym, take, true, ℕ, []}
use Rattle.std.proofs.lemmas.Bool.{cases_Bool, cases_lt}
use Rattle.std.proofs.lemmas.Bool.Decides.{nat_tests}
use borrow.Rule.Slice.PartMut.{put_mid}
use Rattle.std.proofs.lemmas.List.FromFn.{get_or-map-range_with_len, length-map-range_with_len}
use Rattle.std.proofs.lemmas.List.{ext_get_or, get_or-drop, get_or-take, length-drop, length-take}
use Rattle.std.proofs.lemmas.List.{set-set}
use Rattle.std.proofs.lemmas.List.{places}
use Rattle.std.proofs.Math.Seq.{map-set_same}
use Rattle.cfs_file.specs.declared.sizes.TheConstants.{BLOCK_LEN}
use Rattle.cfs_pmem.specs.Images.{Seen, WordStep}
use Rattle.cfs_block.specs.BlockImages.{BlockStep, content_of}
use Rattle.cfs_slot.specs.declared.doubt.Doubt.{Doubt}
use Rattle.cfs_slot.specs.declared.live.Live.{Live}
use Rattle.cfs_tracker.specs.declared.cell.Cell.{Cell}
use Rattle.cfs_tracker.specs.declared.cell.Cell.TheVariants as kinds
use Rattle.cfs_tracker.specs.declared.tracker.Tracker.{Tracker}
use Rattle.cfs_tracker.specs.Cells.{cell_at, held_in, with_cell}
use Rattle.cfs_tracker.specs.Dispatch.{is_home}
use Rattle.cfs_tracker.specs.View.{TrackerView, view_of}
use Rattle.cfs_inode.specs.declared.state.State.{State}
use Rattle.cfs_inode.specs.Serves.{CellsSeen, byte_in, end_block, home_byte, home_device}
use Rattle.cfs_inode.specs.Serves.{stored_byte, stored_from}
use Rattle.cfs_inode.specs.View.{StateView, state_view, told_cell}
use Rattle.cfs_inode.proofs.Serving.{AreFull}
use Rattle.cfs_inode.proofs.States.{state-told}
use Rattle.cfs_inode.proofs.Cases.{cell-told}

pub home-is : {B : Type 0} (cell : Cell B) (home : B) → is_home cell ≡ true →
    Some home ≡ held_in cell → cell ≡ kinds.Home home
home-is kinds.Hole home own held = cc
home-is (kinds.Home block) home own held =
    (let same : home ≡ block = cc in ap kinds.Home (sym same))
home-is (kinds.Unsure block) home own held = cc
home-is (kinds.Lent place) home own held = cc
home-is (kinds.Moving is_sure) home own held = cc

pub some-home : {B : Type 0} (cell : Cell B) → is_home cell ≡ true → held_in cell ≡ None → ⊥
some-home kinds.Hole own none = cc
some-home (kinds.Home block) own none = cc
some-home (kinds.Unsure block) own none = cc
some-home (kinds.Lent place) own none = cc
some-home (kinds.Moving is_sure) own none = cc

-- the state with the block back, read or not, is seen as it was
pub state-read-back : {R B : Type 0} {g : _} (words : R → Seen WordStep)
    (bytes : B → Seen BlockStep) (state : State R B (Live R g) (Doubt R g))
    (now : Tracker (Live R g) (Doubt R g) B) (mid : TrackerView (Live R g) (Doubt R g) B)
    (k : ℕ) (out : Cell B) (was is : B) → view_of now ≡ with_cell k (kinds.Home is) mid →
    mid ≡ with_cell k out (view_of state.tracker) →
    cell_at (view_of state.tracker).cells k ≡ kinds.Home was → bytes is ≡ bytes was →
    state_view words bytes (record state { tracker = now }) ≡ state_view words bytes state
state-read-back {R} {B} {g} words bytes state now mid k out was is now_is mid_is here same =
    let cells = (view_of state.tracker).cells in
    state-told words bytes state now
    (with_cell k (kinds.Home is) (with_cell k out (view_of state.tracker)))
    (now_is ∙ ap (λ v. with_cell k (kinds.Home is) v) mid_is)
    ∙ ap (λ cs. record (state_view words bytes state) {
      tracker = record (state_view words bytes state).tracker { cells = cs };
    })
    (ap (map (told_cell bytes)) (set-set cells k out (kinds.Home is))
    ∙ map-set_same (told_cell bytes) cells k (kinds.Home is) kinds.Hole
    (ap kinds.Home same ∙ sym (ap (told_cell bytes) here)))

-- ---- what is read

pub bytes-read : (bytes out : List ℕ) (from n i : ℕ) → out ≡ take n (drop from bytes) → i < n →
    get_or out i 0 ≡ get_or bytes (from + i) 0
bytes-read bytes out from n i is less =
    ap (λ bs. get_or bs i 0) is ∙ get_or-take n (drop from bytes) i 0 less
    ∙ get_or-drop from bytes i 0

-- the cell as it is seen
pub cell-seen : {R B : Type 0} {g : _} (words : R → Seen WordStep) (bytes : B → Seen BlockStep)
    (state : State R B (Live R g) (Doubt R g)) (k : ℕ) →
    cell_at (state_view words bytes state).tracker.cells k
    ≡ told_cell bytes (cell_at (view_of state.tracker).cells k)
cell-seen words bytes state k = cell-told bytes (view_of state.tracker).cells k

told-home : {B C : Type 0} (tell : B → C) (cell : Cell B) (one : C) →
    told_cell tell cell ≡ kinds.Home one → (block : B) × (tell block ≡ one)
told-home tell kinds.Hole one is = cc
told-home tell (kinds.Home block) one is = (block, cc)
told-home tell (kinds.Unsure block) one is = cc
told-home tell (kinds.Lent place) one is = cc
told-home tell (kinds.Moving is_sure) one is = cc

-- each block at home has its bytes
pub full : {R B : Type 0} {g : _} (words : R → Seen WordStep) (bytes : B → Seen BlockStep)
    (state : State R B (Live R g) (Doubt R g)) →
    ((block : B) → length (content_of (bytes block)).bytes ≡ BLOCK_LEN) →
    AreFull (state_view words bytes state).tracker.cells
full words bytes state all = λ k seen is.
    let block = told-home bytes (cell_at (view_of state.tracker).cells k) seen
    (sym (cell-seen words bytes state k) ∙ is) in
    ap (λ s. length (content_of s).bytes) (sym block.1) ∙ all block.0

-- ---- no block at home

pub away-byte : {B : Type 0} (tell : B → Seen BlockStep) (cell : Cell B) (k : ℕ) →
    is_home cell ≡ false → home_byte (told_cell tell cell) k ≡ 0
away-byte tell kinds.Hole k away = refl
away-byte tell (kinds.Home block) k away = cc
away-byte tell (kinds.Unsure block) k away = refl
away-byte tell (kinds.Lent place) k away = refl
away-byte tell (kinds.Moving is_sure) k away = refl

pub away-device : {B : Type 0} (tell : B → Seen BlockStep) (cell : Cell B) →
    is_home cell ≡ false → home_device (told_cell tell cell) ≡ []
away-device tell kinds.Hole away = refl
away-device tell (kinds.Home block) away = cc
away-device tell (kinds.Unsure block) away = refl
away-device tell (kinds.Lent place) away = refl
away-device tell (kinds.Moving is_sure) away = refl

pub none-under : (i a : ℕ) → (if nat_lt i 0 then a else 0) ≡ 0
none-under i a =
    let none : nat_lt i 0 ≡ false = grind (arith, nat_tests) in
    rw none refl

-- ---- a block with some of the positions

pub record IsBetween (from to block : ℕ) : Type 0 where
  pub some : from < to
  pub low : BLOCK_LEN * block < to
  pub high : from < BLOCK_LEN * block + BLOCK_LEN

pub is-between : (from to block : ℕ) → from / BLOCK_LEN ≤ block → block < end_block from to →
    IsBetween from to block
is-between from to block above below = elim (cases_Bool (nat_lt from to)) [
  | inl some ↦
      let less : from < to = grind (arith, nat_tests) in
      let end_is : end_block from to ≡ (to - 1) / BLOCK_LEN + 1 = rw some refl in
      record {
        some = less;
        low = omega (arith, above, below, end_is, less);
        high = omega (arith, above, below, end_is, less);
      }
  | inr none ↦
      let end_is : end_block from to ≡ from / BLOCK_LEN = rw none refl in
      absurd (omega (arith, above, below, end_is))
]

-- behind the last one there is none
pub past-end : (from to i : ℕ) → i < to - from → from + i < BLOCK_LEN * end_block from to
past-end from to i less =
    let some : nat_lt from to ≡ true = grind (arith, nat_tests) in
    let end_is : end_block from to ≡ (to - 1) / BLOCK_LEN + 1 = rw some refl in
    rw end_is (omega (arith, less))

-- ---- a piece of what was asked for

put-below : (a k : ℕ) (xs ys : List ℕ) (i : ℕ) → i < a → a ≤ length xs →
    get_or (put_mid a k xs ys) i 0 ≡ get_or xs i 0
put-below a k xs ys i less within = search (rules, places)

put-in : (a k : ℕ) (xs ys : List ℕ) (i j : ℕ) → i ≡ a + j → j < length ys → a ≤ length xs →
    get_or (put_mid a k xs ys) i 0 ≡ get_or ys j 0
put-in a k xs ys i j is less within = rw is (search (rules, places))

pub copied-more : (cells : CellsSeen) (xs ys : List ℕ) (from to block start end : ℕ) →
    length xs ≡ to - from → IsBetween from to block →
    start ≡ max from (BLOCK_LEN * block) →
    end ≡ BLOCK_LEN * block + min BLOCK_LEN (to - BLOCK_LEN * block) → start ≤ end →
    length ys ≡ end - start →
    ((i : ℕ) → i < length xs → from + i < BLOCK_LEN * block →
    get_or xs i 0 ≡ byte_in cells (from + i)) →
    ((j : ℕ) → j < end - start →
    get_or ys j 0 ≡ home_byte (cell_at cells block) (start - BLOCK_LEN * block + j)) →
    (i : ℕ) → i < length xs → from + i < BLOCK_LEN * (block + 1) →
    get_or (put_mid (start - from) (end - from - (start - from)) xs ys) i 0
    ≡ byte_in cells (from + i)
copied-more cells xs ys from to block start end all here begins ends some long before piece i
    within low =
    let room : start - from ≤ length xs = omega (arith, all, begins, here.some, here.low) in
    elim (cases_lt i (start - from)) [
      | inl below ↦
          put-below (start - from) (end - from - (start - from)) xs ys i below room
          ∙ before i within (omega (arith, begins, below))
      | inr inside ↦
          let j = i - (start - from) in
          let less : j < end - start = omega (arith, all, begins, ends, inside, within, low) in
          let is : i ≡ start - from + j = omega (arith, inside) in
          let high : BLOCK_LEN * block ≤ from + i = omega (arith, begins, inside) in
          let number : (from + i) / BLOCK_LEN ≡ block = omega (arith, high, low) in
          let at : (from + i) % BLOCK_LEN ≡ start - BLOCK_LEN * block + j =
          omega (arith, high, low, begins, inside, number) in
          put-in (start - from) (end - from - (start - from)) xs ys i j is
          (subst (λ n. j < n) (sym long) less) room
          ∙ piece j less
          ∙ sym (ap (λ k. home_byte (cell_at cells k) ((from + i) % BLOCK_LEN)) number
          ∙ ap (λ n. home_byte (cell_at cells block) n) at)
    ]

-- ---- and past the stored size it is zeros

pub cleared : (state : StateView) (xs ys : List ℕ) (from stored : ℕ) →
    stored ≡ state.tracker.stored → length ys ≡ length xs →
    ((i : ℕ) → i < length xs → get_or xs i 0 ≡ byte_in state.tracker.cells (from + i)) →
    ((i : ℕ) → i < length xs →
    get_or ys i 0 ≡ (if nat_lt i (stored - from) then get_or xs i 0 else 0)) →
    ys ≡ stored_from state from (length xs)
cleared state xs ys from stored is long bytes clear =
    let many : length (stored_from state from (length xs)) ≡ length xs =
    length-map-range_with_len (λ p. stored_byte state p) from (length xs) in
    ext_get_or 0 ys (stored_from state from (length xs)) (long ∙ sym many) (λ i less.
    let within : i < length xs = omega (arith, less, long) in
    let want : get_or (stored_from state from (length xs)) i 0 ≡ stored_byte state (from + i) =
    get_or-map-range_with_len (λ p. stored_byte state p) from (length xs) i (from + i) 0 within
    refl in
    let same : get_or ys i 0 ≡ stored_byte state (from + i) =
    elim (cases_Bool (nat_lt i (stored - from))) [
      | inl low ↦
          let under : nat_lt (from + i) state.tracker.stored ≡ true = grind (arith, nat_tests) in
          clear i within ∙ rw (low, under) (bytes i within)
      | inr past ↦
          let over : nat_lt (from + i) state.tracker.stored ≡ false = grind (arith, nat_tests) in
          clear i within ∙ rw (past, over) refl
    ] in
    same ∙ sym want)

pub put-long : (a k : ℕ) (xs ys : List ℕ) → a + k ≤ length xs → length ys ≡ k →
    length (put_mid a k xs ys) ≡ length xs
put-long a k xs ys room long =
    omega (
      arith,
      room,
      long,
      length-append (take a xs) (ys ++ drop k (drop a xs)),
      length-append ys (drop k (drop a xs)),
      length-take a xs,
      length-drop k (drop a xs),
      length-drop a xs,
    )

pub part-long : (a k : ℕ) (xs : List ℕ) → a + k ≤ length xs → length (take k (drop a xs)) ≡ k
part-long a k xs room = omega (arith, room, length-take k (drop a xs), length-drop a xs)

pub end-above : (from to : ℕ) → from / BLOCK_LEN ≤ end_block from to
end-above from to = elim (cases_Bool (nat_lt from to)) [
  | inl some ↦
      let less : from < to = grind (arith, nat_tests) in
      let end_is : end_block from to ≡ (to - 1) / BLOCK_LEN + 1 = rw some refl in
      omega (arith, end_is, less)
  | inr none ↦
      let end_is : end_block from to ≡ from / BLOCK_LEN = rw none refl in
      omega (arith, end_is)
]

pub some-same : {X : Type 0} (one other : X) → Some one ≡ Some other → one ≡ other
some-same one other same = cc

-- the piece of a block with some of the positions
pub record IsPiece (from to block start end : ℕ) : Type 0 where
  pub some : start ≤ end
  pub room : start - from + (end - from - (start - from)) ≤ to - from
  pub long : end - from - (start - from) ≡ end - start

pub is-piece : (from to block start end : ℕ) → IsBetween from to block →
    start ≡ max from (BLOCK_LEN * block) →
    end ≡ BLOCK_LEN * block + min BLOCK_LEN (to - BLOCK_LEN * block) →
    IsPiece from to block start end
is-piece from to block start end here begins ends = record {
  some = omega (arith, here.some, here.low, here.high, begins, ends);
  room = omega (arith, here.some, here.low, here.high, begins, ends);
  long = omega (arith, here.some, here.low, here.high, begins, ends);
}
