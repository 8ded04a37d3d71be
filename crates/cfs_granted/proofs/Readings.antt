-- Reads are asked for and end, and of each it is kept under which grant.
use Rattle.std.proofs.Common.{◌≡◌, ◌∙◌, ◌+◌, ◌++◌, ◌<◌, ◌≤◌, ◌==◌, ◌&&◌, ◌||◌, ℕ, Bool, true, false, not}
use Rattle.std.proofs.Common.{List, [], ◌∷◌, Option, Some, None, ap, arith, drop, filter, find, get_or}
use Rattle.std.proofs.Common.{inl, inr, length, map, refl, subst, suc, sym}
use Rattle.std.specs.Prelude.{is_some}
use Rattle.std.proofs.lemmas.Bool.{and_from, cases_Bool, eq-eqb, ne_eqb, or_left, or_right, true≢false}
use Rattle.std.proofs.lemmas.List.{map-append}
use Rattle.std.proofs.lemmas.List.Folds.{list_all-append}
use Rattle.cfs_file.specs.declared.request.Request.{Request}
use Rattle.cfs_tracker.specs.declared.reading.Reading.{Reading}
use Rattle.cfs_tracker.specs.Follows.{Rise}
use Rattle.cfs_tracker.specs.View.{is_read_at, read_at, reading_place}
use Rattle.cfs_inode.specs.Reads.{with_read, without_read}
use Rattle.cfs_inode.specs.View.{StateView}
use Rattle.cfs_granted.specs.declared.reader.Reader.{Reader}
use Rattle.cfs_granted.specs.Granted.{IsGranted}
use Rattle.cfs_granted.specs.Readers.{is_reader_at, is_under, places_under, reader_place}
use Rattle.cfs_granted.specs.Readers.{without_reader}
use Rattle.cfs_granted.specs.Rows.{Rows, is_numbered, may_ask, stands}
use Rattle.cfs_granted.proofs.Standing.{all-filter}

-- a grant that may ask stands
pub asker-stands : (is_sync : Bool) (number : ℕ) (rows : Rows) →
    may_ask is_sync number rows ≡ true → stands number rows ≡ true
asker-stands is_sync number [] asks = asks
asker-stands is_sync number (None ∷ rows) asks = asker-stands is_sync number rows asks
asker-stands is_sync number (Some grant ∷ rows) asks =
    elim (cases_Bool (is_numbered number (Some grant))) [
      | inl same ↦ or_left (is_numbered number (Some grant)) (stands number rows) same
      | inr other ↦ or_right (is_numbered number (Some grant)) (stands number rows)
          (asker-stands is_sync number rows
          (sym (ap (λ b. (b && (is_sync || grant.reads)) || may_ask is_sync number rows) other)
          ∙ asks))
    ]

-- ---- one is asked for

pub asked-granted : (rows : Rows) (readers now : List Reader) (old new : StateView)
    (request : Request) (grant : ℕ) → stands grant rows ≡ true → new ≡ with_read request old →
    now ≡ readers ++ record { place = old.tracker.count + 1; grant = grant } ∷ [] →
    IsGranted rows readers old → IsGranted rows now new
asked-granted rows readers now old new request grant there is are known =
    rw is (rw are (record {
      many = known.many;
      places = map-append reader_place readers _
          ∙ ap (λ ps. ps ++ (old.tracker.count + 1) ∷ []) known.places
          ∙ sym (map-append reading_place old.tracker.reads _);
      reads = list_all-append (λ (r : Reader). stands r.grant rows) readers _
          ∙ and_from _ _ known.reads (and_from (stands grant rows) true there refl);
      entries = known.entries;
      doubt = known.doubt;
      word = known.word;
    }))

-- ---- one ends

-- what is kept by its number alone
map-kept : {X : Type 0} (number : X → ℕ) (keeps : ℕ → Bool) (xs : List X) →
    map number (filter (λ x. keeps (number x)) xs) ≡ filter keeps (map number xs)
map-kept number keeps [] = refl
map-kept number keeps (x ∷ xs) = elim (cases_Bool (keeps (number x))) [
  | inl passes ↦ rw passes (ap (λ ns. number x ∷ ns) (map-kept number keeps xs))
  | inr fails ↦ rw fails (map-kept number keeps xs)
]

pub ended-granted : (rows : Rows) (readers now : List Reader) (old new : StateView) (place : ℕ) →
    new ≡ without_read place old → now ≡ without_reader place readers →
    IsGranted rows readers old → IsGranted rows now new
ended-granted rows readers now old new place is are known =
    rw is (rw are (record {
      many = known.many;
      places = map-kept reader_place (λ n. not (n == place)) readers
          ∙ ap (λ ns. filter (λ (n : ℕ). not (n == place)) ns) known.places
          ∙ sym (map-kept reading_place (λ n. not (n == place)) old.tracker.reads);
      reads = all-filter (λ (r : Reader). stands r.grant rows) _ readers known.reads;
      entries = known.entries;
      doubt = known.doubt;
      word = known.word;
    }))

-- ---- those under a grant

pub some-none : {X : Type 0} (x : X) → Some x ≡ None → ⊥
some-none x is = true≢false (ap (λ o. is_some o) is)

some-is : {X : Type 0} (x y : X) → Some x ≡ Some y → x ≡ y
some-is x y is = ap (λ o. or_else x o) is
  where
    or_else : {X : Type 0} → X → Option X → X
    or_else x None = x
    or_else x (Some y) = y

-- the read of one that is kept is pending
pub found-pending : (number : ℕ) (readers : List Reader) (reads : List Reading) (reader : Reader) →
    map reader_place readers ≡ map reading_place reads →
    find (λ r. is_under number r) readers ≡ Some reader →
    is_some (read_at reads reader.place) ≡ true
found-pending number [] reads reader same found = absurd (some-none reader (sym found))
found-pending number (x ∷ xs) [] reader same found =
    absurd (omega (arith, ap (λ ns. length ns) same))
found-pending number (x ∷ xs) (y ∷ ys) reader same found =
    let heads : x.place ≡ y.place = ap (λ ns. get_or ns 0 0) same in
    let tails : map reader_place xs ≡ map reading_place ys = ap (λ ns. drop 1 ns) same in
    elim (cases_Bool (is_under number x)) [
      | inl own ↦
          let first : find (λ r. is_under number r) (x ∷ xs) ≡ Some x = rw own refl in
          let is : x ≡ reader = some-is x reader (sym first ∙ found) in
          let here : is_read_at reader.place y ≡ true =
          eq-eqb y.place reader.place (sym heads ∙ ap (λ (r : Reader). r.place) is) in
          rw here refl
      | inr other ↦
          let later : find (λ r. is_under number r) (x ∷ xs) ≡ find (λ r. is_under number r) xs =
          rw other refl in
          let rest = found-pending number xs ys reader tails (sym later ∙ found) in
          elim (cases_Bool (is_read_at reader.place y)) [
            | inl here ↦ rw here refl
            | inr there ↦ rw there rest
          ]
    ]

-- and without it there are fewer
pub found-fewer : (number : ℕ) (readers : List Reader) (reader : Reader) →
    find (λ r. is_under number r) readers ≡ Some reader →
    length (without_reader reader.place readers) < length readers
found-fewer number [] reader found = absurd (some-none reader (sym found))
found-fewer number (x ∷ xs) reader found =
    elim (cases_Bool (is_reader_at reader.place x)) [
      | inl here ↦
          let shorter : length (without_reader reader.place (x ∷ xs))
          ≡ length (without_reader reader.place xs) = rw here refl in
          omega (arith, shorter, length-without reader.place xs)
      | inr there ↦
          let longer : length (without_reader reader.place (x ∷ xs))
          ≡ suc (length (without_reader reader.place xs)) = rw there refl in
          omega (arith, longer, found-fewer number xs reader (elsewhere x xs found there))
    ]
  where
    length-without : (place : ℕ) (xs : List Reader) →
        length (without_reader place xs) ≤ length xs
    length-without place [] = omega arith
    length-without place (x ∷ xs) = elim (cases_Bool (is_reader_at place x)) [
      | inl here ↦
          let shorter : length (without_reader place (x ∷ xs)) ≡ length (without_reader place xs) =
          rw here refl in omega (arith, shorter, length-without place xs)
      | inr there ↦
          let longer : length (without_reader place (x ∷ xs))
          ≡ suc (length (without_reader place xs)) = rw there refl in
          omega (arith, longer, length-without place xs)
    ]

    elsewhere : (x : Reader) (xs : List Reader) →
        find (λ r. is_under number r) (x ∷ xs) ≡ Some reader →
        is_reader_at reader.place x ≡ false → find (λ r. is_under number r) xs ≡ Some reader
    elsewhere x xs found there = elim (cases_Bool (is_under number x)) [
      | inl own ↦
          let first : find (λ r. is_under number r) (x ∷ xs) ≡ Some x = rw own refl in
          let is : x ≡ reader = some-is x reader (sym first ∙ found) in
          absurd (true≢false (sym (eq-eqb x.place reader.place (ap (λ (r : Reader). r.place) is))
          ∙ there))
      | inr other ↦
          let later : find (λ r. is_under number r) (x ∷ xs) ≡ find (λ r. is_under number r) xs =
          rw other refl in sym later ∙ found
    ]

-- none is under the grant any more
pub none-under : (number : ℕ) (readers : List Reader) →
    find (λ r. is_under number r) readers ≡ None → places_under number readers ≡ []
none-under number [] none = refl
none-under number (x ∷ xs) none = elim (cases_Bool (is_under number x)) [
  | inl own ↦
      let first : find (λ r. is_under number r) (x ∷ xs) ≡ Some x = rw own refl in
      absurd (some-none x (sym first ∙ none))
  | inr other ↦
      let later : find (λ r. is_under number r) (x ∷ xs) ≡ find (λ r. is_under number r) xs =
      rw other refl in
      rw other (none-under number xs (sym later ∙ none))
]

-- those behind a place are not at it
without-behind : (place low : ℕ) (xs : List Reader) → place ≤ low → Rise reader_place low xs →
    without_reader place xs ≡ xs
without-behind place low [] le rise = refl
without-behind place low (x ∷ xs) le rise =
    let there : is_reader_at place x ≡ false = ne_eqb x.place place (λ same. omega (arith, same, le, rise.0)) in
    let kept : without_reader place (x ∷ xs) ≡ x ∷ without_reader place xs = rw there refl in
    kept ∙ ap (λ rs. x ∷ rs) (without-behind place x.place xs (omega (arith, le, rise.0)) rise.1)

-- the first one under a grant goes, and the others stay
pub first-goes : (number low : ℕ) (readers : List Reader) (reader : Reader) →
    Rise reader_place low readers → find (λ r. is_under number r) readers ≡ Some reader →
    places_under number readers
    ≡ reader.place ∷ places_under number (without_reader reader.place readers)
first-goes number low [] reader rise found = absurd (some-none reader (sym found))
first-goes number low (x ∷ xs) reader rise found =
    elim (cases_Bool (is_under number x)) [
      | inl own ↦
          let first : find (λ r. is_under number r) (x ∷ xs) ≡ Some x = rw own refl in
          let is : x ≡ reader = some-is x reader (sym first ∙ found) in
          let here : is_reader_at x.place x ≡ true = eq-eqb x.place x.place refl in
          let all : places_under number (x ∷ xs) ≡ x.place ∷ places_under number xs =
          rw own refl in
          let gone : without_reader x.place (x ∷ xs) ≡ without_reader x.place xs =
          rw here refl in
          let rest : without_reader x.place (x ∷ xs) ≡ xs =
          gone ∙ without-behind x.place x.place xs (omega arith) rise.1 in
          all ∙ sym (ap (λ rs. x.place ∷ places_under number rs) rest)
          ∙ ap (λ (r : Reader). r.place ∷ places_under number (without_reader r.place (x ∷ xs))) is
      | inr other ↦
          let later : find (λ r. is_under number r) (x ∷ xs) ≡ find (λ r. is_under number r) xs =
          rw other refl in
          let all : places_under number (x ∷ xs) ≡ places_under number xs = rw other refl in
          all ∙ first-goes number x.place xs reader rise.1 (sym later ∙ found)
          ∙ ap (λ ps. reader.place ∷ ps) (sym (beside number reader.place x xs other))
    ]
  where
    beside : (number place : ℕ) (x : Reader) (xs : List Reader) → is_under number x ≡ false →
        places_under number (without_reader place (x ∷ xs))
        ≡ places_under number (without_reader place xs)
    beside number place x xs other = elim (cases_Bool (is_reader_at place x)) [
      | inl here ↦
          let gone : without_reader place (x ∷ xs) ≡ without_reader place xs = rw here refl in
          ap (λ rs. places_under number rs) gone
      | inr there ↦
          let stays : without_reader place (x ∷ xs) ≡ x ∷ without_reader place xs =
          rw there refl in
          let passed : places_under number (x ∷ without_reader place xs)
          ≡ places_under number (without_reader place xs) = rw other refl in
          ap (λ rs. places_under number rs) stays ∙ passed
    ]

-- they rise as the pending reads do
pub readers-rise : (low : ℕ) (readers : List Reader) (reads : List Reading) →
    map reader_place readers ≡ map reading_place reads → Rise reading_place low reads →
    Rise reader_place low readers
readers-rise low [] reads same rise = tt
readers-rise low (x ∷ xs) [] same rise = absurd (omega (arith, ap (λ ns. length ns) same))
readers-rise low (x ∷ xs) (y ∷ ys) same rise =
    let heads : x.place ≡ y.place = ap (λ ns. get_or ns 0 0) same in (
      omega (arith, heads, rise.0),
      readers-rise x.place xs ys (ap (λ ns. drop 1 ns) same)
          (subst (λ (n : ℕ). Rise reading_place n ys) (sym heads) rise.1),
    )
