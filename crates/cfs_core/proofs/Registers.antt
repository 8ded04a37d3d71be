-- What decides a file: at each position the last entry that has it gives the byte, and the last
-- entry that speaks of the length tells whether the file is longer.
use Rattle.std.proofs.Common.{◌≡◌, ◌⊎◌, inl, inr, ℕ, suc, zero, ◌+◌, ◌-◌, ◌<◌, ◌≤◌, Bool, true, false, ◌&&◌, if◌then◌else◌, Option, Some, None, List, [], ◌∷◌, ◌++◌, length, take, get_or, nat_lt, nat_le, max, arith, refl, sym, ap, subst, ◌∙◌, ext_get_or}
use Rattle.std.specs.List.{slice_get}
use Rattle.std.proofs.lemmas.Bool.{cases_lt, lt-ltb, ltb-true}
use Rattle.std.proofs.lemmas.Bool.Decides.{nat_tests}
use Rattle.std.proofs.lemmas.List.{get_or_past, take_all}
use Rattle.std.proofs.lemmas.Option.{slice_get_within}
use Rattle.cfs_file.specs.declared.entry.Entry.{Entry}
use Rattle.cfs_file.specs.declared.request.Request.{Request}
use Rattle.cfs_file.specs.declared.request.Request.TheVariants as requests
use Rattle.cfs_file.specs.declared.span.Span.{Span}
use Rattle.cfs_file.specs.declared.span.Span.TheVariants.{Nothing, Range, From}
use Rattle.cfs_file.specs.File.{effect, put, resized}
use Rattle.cfs_file.specs.Log.{file_of}
use Rattle.cfs_file.specs.Span.{Holds, between, span}
use Rattle.cfs_file.proofs.Logs.{file_of-append}
use Rattle.cfs_file.proofs.Positions.{put-writes, resized-resizes}
use Rattle.cfs_core.specs.declared.inode_core.Core.{Core}
use Rattle.cfs_core.specs.Words.{byte_at, payload, payload_of}
use Rattle.cfs_core.specs.Medium.{file, placed}
use Rattle.cfs_core.specs.May.{is_change, is_query}
use Rattle.cfs_core.proofs.Kept.{Alters, IsChange, IsLast, IsLogged, at, byte_of, decides, file_at, is_changing}
use Rattle.cfs_core.proofs.Legal.{both}
use Rattle.cfs_core.proofs.Order.{IsOrdered}

-- ---- what one entry does

-- what an entry of that span makes of a file
abbrev pub effect_by : List ℕ → List ℕ → Span → List ℕ
effect_by file bytes Nothing = file
effect_by file bytes (Range from to) = put file from bytes
effect_by file bytes (From from) = resized file from

-- a change with these bytes may have that span
abbrev pub IsShaped : List ℕ → Span → Type 0
IsShaped bytes Nothing = ⊥
IsShaped bytes (Range from to) = (from < to) × (to ≡ from + length bytes)
IsShaped bytes (From from) = Unit {0}

-- it has a position
abbrev pub IsFull : Span → Type 0
IsFull Nothing = ⊥
IsFull (Range from to) = from < to
IsFull (From from) = Unit {0}

pub shaped-full : (bytes : List ℕ) (span : Span) → IsShaped bytes span → IsFull span
shaped-full bytes Nothing shaped = shaped
shaped-full bytes (Range from to) shaped = shaped.0
shaped-full bytes (From from) shaped = tt

-- an entry of that span decides whether the file has the position
abbrev pub Settles : Span → ℕ → Type 0
Settles span p = (b : Bool) × (decides p span ≡ Some b)

pub holds-or-not : (span : Span) (p : ℕ) → Holds span p ⊎ (Holds span p → ⊥)
holds-or-not Nothing p = inr (λ h. h)
holds-or-not (Range from to) p = elim (cases_lt p from) [
  | inl before ↦ inr (λ h. omega arith)
  | inr up ↦
      elim (cases_lt p to) [ inl within ↦ inl (up, within) | inr past ↦ inr (λ h. omega arith) ]
]
holds-or-not (From from) p =
    elim (cases_lt p from) [ inl before ↦ inr (λ h. omega arith) | inr up ↦ inl up ]

pub settled : (o : Option Bool) → ((b : Bool) × (o ≡ Some b)) ⊎ (((b : Bool) × (o ≡ Some b)) → ⊥)
settled None = inr (λ s. let is : None ≡ Some s.0 = s.1 in cc)
settled (Some b) = inl (b, refl)

pub unsettled : (o : Option Bool) → (((b : Bool) × (o ≡ Some b)) → ⊥) → o ≡ None
unsettled None none = refl
unsettled (Some b) none = absurd (none (b, refl))

pub none-settles : (o : Option Bool) → o ≡ None → ((b : Bool) × (o ≡ Some b)) → ⊥
none-settles o none some = let is : o ≡ Some some.0 = some.1 in cc

pub byte_written : (file : List ℕ) (bytes : List ℕ) (from p : ℕ) → from ≤ p →
    p < from + length bytes → get_or (put file from bytes) p 0 ≡ get_or bytes (p - from) 0
byte_written file bytes from p low high =
    let here : from + (p - from) ≡ p = omega arith in
    rw here at ((put-writes file from bytes).written (p - from) (omega arith))

pub byte_beside : (file : List ℕ) (bytes : List ℕ) (from p : ℕ) →
    (p < from) ⊎ (from + length bytes ≤ p) → get_or (put file from bytes) p 0 ≡ get_or file p 0
byte_beside file bytes from p side = elim (cases_lt p (length file)) [
  | inl within ↦ (put-writes file from bytes).kept p within side
  | inr past ↦
      let none : get_or file p 0 ≡ 0 = get_or_past file p 0 past in
      elim side [
        | inl before ↦ (put-writes file from bytes).gap p past before ∙ sym none
        | inr behind ↦
            get_or_past (put file from bytes) p 0 (omega (arith, (put-writes file from bytes).size))
            ∙ sym none
      ]
]

byte_resized : (file : List ℕ) (n p : ℕ) → p < n → get_or (resized file n) p 0 ≡ get_or file p 0
byte_resized file n p below = elim (cases_lt p (length file)) [
  | inl within ↦ (resized-resizes file n).kept p below within
  | inr past ↦ (resized-resizes file n).grown p below past ∙ sym (get_or_past file p 0 past)
]

pub byte_in : (file : List ℕ) (bytes : List ℕ) (span : Span) (p : ℕ) → IsShaped bytes span →
    Holds span p → get_or (effect_by file bytes span) p 0 ≡ byte_at bytes span p
byte_in file bytes Nothing p shaped holds = absurd shaped
byte_in file bytes (Range from to) p shaped holds =
    byte_written file bytes from p holds.0 (omega arith)
byte_in file bytes (From from) p shaped holds =
    get_or_past (resized file from) p 0 (omega (arith, (resized-resizes file from).is_size))

pub byte_out : (file : List ℕ) (bytes : List ℕ) (span : Span) (p : ℕ) → IsShaped bytes span →
    (Holds span p → ⊥) → get_or (effect_by file bytes span) p 0 ≡ get_or file p 0
byte_out file bytes Nothing p shaped out = absurd shaped
byte_out file bytes (Range from to) p shaped out = elim (cases_lt p from) [
  | inl before ↦ byte_beside file bytes from p (inl before)
  | inr up ↦ elim (cases_lt p to) [
    | inl within ↦ absurd (out (up, within))
    | inr past ↦ byte_beside file bytes from p (inr (omega arith))
  ]
]
byte_out file bytes (From from) p shaped out = elim (cases_lt p from) [
  | inl before ↦ byte_resized file from p before
  | inr up ↦ absurd (out up)
]

if_some : (test : Bool) (b : Bool) → (if test then Some true else None) ≡ Some b →
    (test ≡ true) × (b ≡ true)
if_some true b is = (refl, cc)
if_some false b is = cc

pub if_none : (test : Bool) → (if test then Some true else None) ≡ None → test ≡ false
if_none true is = cc
if_none false is = refl

pub long_set : (file : List ℕ) (bytes : List ℕ) (span : Span) (p : ℕ) (b : Bool) →
    IsShaped bytes span → decides p span ≡ Some b →
    nat_lt p (length (effect_by file bytes span)) ≡ b
long_set file bytes Nothing p b shaped is = absurd shaped
long_set file bytes (Range from to) p b shaped is =
    let parts = if_some (nat_lt p to) b is in
    let below : p < to = ltb-true p to parts.0 in
    lt-ltb p (length (put file from bytes)) (omega (arith, (put-writes file from bytes).size))
    ∙ sym parts.1
long_set file bytes (From from) p b shaped is =
    let size : length (resized file from) ≡ from = (resized-resizes file from).is_size in
    let own : nat_lt p from ≡ b = cc in
    rw size own

pub long_kept : (file : List ℕ) (bytes : List ℕ) (span : Span) (p : ℕ) → IsShaped bytes span →
    (Settles span p → ⊥) → nat_lt p (length (effect_by file bytes span)) ≡ nat_lt p (length file)
long_kept file bytes Nothing p shaped out = absurd shaped
long_kept file bytes (Range from to) p shaped out =
    let past : nat_lt p to ≡ false =
    if_none (nat_lt p to) (unsettled (decides p (Range from to)) out) in
    let size : length (put file from bytes) ≡ max (length file) (from + length bytes) =
    (put-writes file from bytes).size in
    same_test p (length (put file from bytes)) (length file) (omega_le past shaped.1 size)
  where
    omega_le : nat_lt p to ≡ false → to ≡ from + length bytes →
        length (put file from bytes) ≡ max (length file) (from + length bytes) →
        (p < length (put file from bytes) → p < length file)
        × (p < length file → p < length (put file from bytes))
    omega_le past is size = (λ less. grind (arith, nat_tests), λ less. omega arith)

    same_test : (q a b : ℕ) → ((q < a → q < b) × (q < b → q < a)) → nat_lt q a ≡ nat_lt q b
    same_test q a b way = elim (cases_lt q a) [
      | inl less ↦ lt-ltb q a less ∙ sym (lt-ltb q b (way.0 less))
      | inr up ↦ elim (cases_lt q b) [
        | inl also ↦ absurd (let less : q < a = way.1 also in omega arith)
        | inr up_too ↦ grind (arith, nat_tests)
      ]
    ]
long_kept file bytes (From from) p shaped out = absurd (out (nat_lt p from, refl))

-- two entries that decide the length otherwise share a position from there on
pub clash : (a b : Span) (p : ℕ) → decides p a ≡ Some true → decides p b ≡ Some false → IsFull a →
    (q : ℕ) × ((p ≤ q) × (Holds a q × Holds b q))
clash Nothing b p first second full = cc
clash (Range from to) Nothing p first second full = cc
clash (Range from to) (Range start end) p first second full =
    absurd (true_no (if_some (nat_lt p end) false second).1)
  where
    true_no : false ≡ true → ⊥
    true_no is = cc
clash (Range from to) (From n) p first second full =
    let below : p < to = ltb-true p to (if_some (nat_lt p to) true first).0 in
    let some : from < to = full in
    let short : nat_lt p n ≡ false = cc in
    let up : n ≤ p = grind (arith, nat_tests) in
    (max p from, (omega arith, ((omega arith, omega arith), omega arith)))
clash (From k) Nothing p first second full = cc
clash (From k) (Range start end) p first second full =
    absurd (true_no (if_some (nat_lt p end) false second).1)
  where
    true_no : false ≡ true → ⊥
    true_no is = cc
clash (From k) (From n) p first second full =
    let long : nat_lt p k ≡ true = cc in
    let below : p < k = ltb-true p k long in
    let short : nat_lt p n ≡ false = cc in
    let up : n ≤ p = grind (arith, nat_tests) in
    (k, (omega arith, (omega arith, omega arith)))

-- ---- two lists are one

pub same-bits : (xs ys : List ℕ) → ((p : ℕ) → get_or xs p 0 ≡ get_or ys p 0) →
    ((p : ℕ) → nat_lt p (length xs) ≡ nat_lt p (length ys)) → xs ≡ ys
same-bits xs ys bytes bits =
    ext_get_or 0 xs ys (same_length (length xs) (length ys) bits) (λ p within. bytes p)
  where
    below : (a b : ℕ) → ((p : ℕ) → nat_lt p a ≡ nat_lt p b) → b < a → ⊥
    below a b same less =
        let first : nat_lt b a ≡ true = lt-ltb b a less in
        let other : nat_lt b b ≡ true = sym (same b) ∙ first in
        let own : b < b = ltb-true b b other in
        omega arith

    same_length : (a b : ℕ) → ((p : ℕ) → nat_lt p a ≡ nat_lt p b) → a ≡ b
    same_length a b same = elim (cases_lt a b) [
      | inl less ↦ absurd (below b a (λ p. sym (same p)) less)
      | inr up ↦
          elim (cases_lt b a) [ inl more ↦ absurd (below a b same more) | inr down ↦ omega arith ]
    ]

-- ---- the log, index by index

-- the entry at an index, on a file
abbrev pub step : Core → ℕ → List ℕ → List ℕ
step core k file = effect_by file (payload (slice_get core.log k)) (at core k).span

-- a file taken through the entries before an index that a test picks
abbrev pub made : Core → (ℕ → Bool) → List ℕ → ℕ → List ℕ
made core picks base zero = base
made core picks base (suc k) =
    if picks k then step core k (made core picks base k) else made core picks base k

-- the test that picks the changes
abbrev pub changes : Core → ℕ → Bool
changes core k = is_changing (slice_get core.log k)

an-entry : (o : Option Entry) → is_changing o ≡ true → (entry : Entry) × (o ≡ Some entry)
an-entry None h = cc
an-entry (Some entry) h = (entry, refl)

pub change-entry : (core : Core) (k : ℕ) → IsChange core k →
    (entry : Entry) × ((slice_get core.log k ≡ Some entry) × (is_change entry.request ≡ true))
change-entry core k change =
    let found = an-entry (slice_get core.log k) change in
    let is : slice_get core.log k ≡ Some found.0 = found.1 in
    let own : is_change found.0.request ≡ true = rw is at change in
    (found.0, (is, own))

pub change-within : (core : Core) (k : ℕ) → IsChange core k → k < length core.log
change-within core k change =
    let found = change-entry core k change in slice_get_within core.log k found.0 found.1.0

pub between-some : (from to : ℕ) → from < to → between from to ≡ Range from to
between-some from to less = let test : nat_lt from to ≡ true = lt-ltb from to less in rw test refl

pub some_bytes : (n most : ℕ) → (nat_le 1 n && nat_le n most) ≡ true → 1 ≤ n
some_bytes n most h =
    let first : nat_le 1 n ≡ true = (both (nat_le 1 n) (nat_le n most) h).0 in
    grind (arith, nat_tests)

pub shaped-request : (request : Request) (size : ℕ) → is_change request ≡ true →
    IsShaped (payload_of request) (span request size)
shaped-request (requests.Write offset bytes) size h =
    let some = some_bytes (length bytes) _ h in
    let is = between-some offset (offset + length bytes) (omega arith) in
    rw is (omega arith, refl)
shaped-request (requests.Append bytes) size h =
    let some = some_bytes (length bytes) _ h in
    let is = between-some size (size + length bytes) (omega arith) in
    rw is (omega arith, refl)
shaped-request (requests.Truncate n) size h = tt
shaped-request (requests.Read offset count) size h = cc
shaped-request requests.Sync size h = cc

pub change-effect : (request : Request) (file : List ℕ) → is_change request ≡ true →
    effect file request ≡ effect_by file (payload_of request) (span request (length file))
change-effect (requests.Write offset bytes) file h =
    let some = some_bytes (length bytes) _ h in
    rw (between-some offset (offset + length bytes) (omega arith)) refl
change-effect (requests.Append bytes) file h =
    let some = some_bytes (length bytes) _ h in
    rw (between-some (length file) (length file + length bytes) (omega arith)) refl
change-effect (requests.Truncate n) file h = refl
change-effect (requests.Read offset count) file h = cc
change-effect requests.Sync file h = cc

-- a request as its slot holds it does the same to any file
pub placed-effect : (request : Request) (file : List ℕ) (size : ℕ) → is_change request ≡ true →
    effect file (placed (span request size) request)
    ≡ effect_by file (payload_of request) (span request size)
placed-effect (requests.Write offset bytes) file size h =
    let some = some_bytes (length bytes) _ h in
    rw (between-some offset (offset + length bytes) (omega arith)) refl
placed-effect (requests.Append bytes) file size h =
    let some = some_bytes (length bytes) _ h in
    rw (between-some size (size + length bytes) (omega arith)) refl
placed-effect (requests.Truncate n) file size h = refl
placed-effect (requests.Read offset count) file size h = cc
placed-effect requests.Sync file size h = cc

pub query-effect : (request : Request) (file : List ℕ) → is_query request ≡ true →
    effect file request ≡ file
query-effect (requests.Write offset bytes) file h = cc
query-effect (requests.Append bytes) file h = cc
query-effect (requests.Truncate n) file h = cc
query-effect (requests.Read offset count) file h = refl
query-effect requests.Sync file h = refl

pub query-no_change : (request : Request) → is_query request ≡ true → is_change request ≡ false
query-no_change (requests.Write offset bytes) h = cc
query-no_change (requests.Append bytes) h = cc
query-no_change (requests.Truncate n) h = cc
query-no_change (requests.Read offset count) h = refl
query-no_change requests.Sync h = refl

pub change-shaped : (core : Core) → IsLogged core → (k : ℕ) → IsChange core k →
    IsShaped (payload (slice_get core.log k)) (at core k).span
change-shaped core logged k change =
    let found = change-entry core k change in
    let is : slice_get core.log k ≡ Some found.0 = found.1.0 in
    let its : (at core k).span ≡ span found.0.request (length (file_at core k)) =
    logged.spans k found.0 is in
    rw (is, its) (shaped-request found.0.request (length (file_at core k)) found.1.1)

pub change-full : (core : Core) → IsLogged core → (k : ℕ) → IsChange core k →
    IsFull (at core k).span
change-full core logged k change =
    shaped-full (payload (slice_get core.log k)) (at core k).span
    (change-shaped core logged k change)

pub take-next : (log : List Entry) (k : ℕ) (entry : Entry) → slice_get log k ≡ Some entry →
    take (suc k) log ≡ take k log ++ entry ∷ []
take-next [] k entry is = cc
take-next (x ∷ xs) zero entry is = let same : x ≡ entry = cc in rw same refl
take-next (x ∷ xs) (suc k) entry is = ap (λ (l : List Entry). x ∷ l) (take-next xs k entry is)

pub file_at-next : (core : Core) (k : ℕ) (entry : Entry) → slice_get core.log k ≡ Some entry →
    file_at core (suc k) ≡ effect (file_at core k) entry.request
file_at-next core k entry is =
    rw (take-next core.log k entry is) (file_of-append core.base (take k core.log) (entry ∷ []))

picked : {A : Type 0} (b : Bool) (x y z : A) → b ≡ true → z ≡ x → z ≡ (if b then x else y)
picked b x y z is same = rw is same

left_out : {A : Type 0} (b : Bool) (x y z : A) → b ≡ false → z ≡ y → z ≡ (if b then x else y)
left_out b x y z is same = rw is same

pub an-entry-at : (log : List Entry) (k : ℕ) → k < length log →
    (entry : Entry) × (slice_get log k ≡ Some entry)
an-entry-at [] k less = absurd (omega arith)
an-entry-at (x ∷ xs) zero less = (x, refl)
an-entry-at (x ∷ xs) (suc k) less = an-entry-at xs k (omega arith)

pub file_at-made : (core : Core) → IsLogged core → (v : ℕ) → v ≤ length core.log →
    file_at core v ≡ made core (changes core) core.base v
file_at-made core logged zero within = refl
file_at-made core logged (suc k) within =
    let is_within : k < length core.log = omega arith in
    let entry = an-entry-at core.log k is_within in
    let is : slice_get core.log k ≡ Some entry.0 = entry.1 in
    let before : file_at core k ≡ made core (changes core) core.base k =
    file_at-made core logged k (omega arith) in
    let whole : file_at core (suc k) ≡ effect (file_at core k) entry.0.request =
    file_at-next core k entry.0 is in
    elim (logged.kinds k entry.0 is) [
      | inl change ↦
          let its : (at core k).span ≡ span entry.0.request (length (file_at core k)) =
          logged.spans k entry.0 is in
          let test : changes core k ≡ true = rw is change in
          let does : effect (file_at core k) entry.0.request ≡ step core k (file_at core k) =
          rw (is, its) (change-effect entry.0.request (file_at core k) change) in
          let same : step core k (file_at core k)
          ≡ step core k (made core (changes core) core.base k) = ap (step core k) before in
          picked (changes core k) (step core k (made core (changes core) core.base k))
          (made core (changes core) core.base k) (file_at core (suc k)) test
          (whole ∙ (does ∙ same))
      | inr query ↦
          let test : changes core k ≡ false = rw is (query-no_change entry.0.request query) in
          left_out (changes core k) (step core k (made core (changes core) core.base k))
          (made core (changes core) core.base k) (file_at core (suc k)) test
          (whole ∙ (query-effect entry.0.request (file_at core k) query ∙ before))
    ]

pub file_at-all : (core : Core) → file_at core (length core.log) ≡ file core
file_at-all core =
    ap (λ (l : List Entry). file_of core.base l) (take_all (length core.log) core.log (omega arith))

-- ---- the last one decides

-- what is seen of the file once the last entry that changes it was picked
last-made : {V : Type 0} (core : Core) (picks : ℕ → Bool) (base : List ℕ) (look : List ℕ → V)
    (hits : ℕ → Type 0) (value : V) (m : ℕ) → picks m ≡ true →
    ((f : List ℕ) → look (step core m f) ≡ value) →
    ((k : ℕ) → picks k ≡ true → (hits k → ⊥) → (f : List ℕ) → look (step core k f) ≡ look f) →
    (v : ℕ) → m < v → ((j : ℕ) → m < j → j < v → picks j ≡ true → hits j → ⊥) →
    look (made core picks base v) ≡ value
last-made core picks base look hits value m is hit miss zero less none = absurd (omega arith)
last-made core picks base look hits value m is hit miss (suc k) less none = elim (cases_lt m k) [
  | inl before ↦
      let old : look (made core picks base k) ≡ value =
      last-made core picks base look hits value m is hit miss k before
      (λ j low high. none j low (omega arith)) in
      pass k (picks k) refl (none k before (omega arith)) (made core picks base k) old
  | inr up ↦ let same : k ≡ m = omega arith in rw (same, is) (hit (made core picks base m))
]
  where
    pass : (j : ℕ) (b : Bool) → picks j ≡ b → (picks j ≡ true → hits j → ⊥) → (f : List ℕ) →
        look f ≡ value → look (if b then step core j f else f) ≡ value
    pass j true is_b never f old = miss j is_b (never is_b) f ∙ old
    pass j false is_b never f old = old

none-made : {V : Type 0} (core : Core) (picks : ℕ → Bool) (base : List ℕ) (look : List ℕ → V)
    (hits : ℕ → Type 0) →
    ((k : ℕ) → picks k ≡ true → (hits k → ⊥) → (f : List ℕ) → look (step core k f) ≡ look f) →
    (v : ℕ) → ((j : ℕ) → j < v → picks j ≡ true → hits j → ⊥) →
    look (made core picks base v) ≡ look base
none-made core picks base look hits miss zero none = refl
none-made core picks base look hits miss (suc k) none =
    let old : look (made core picks base k) ≡ look base =
    none-made core picks base look hits miss k (λ j less. none j (omega arith)) in
    pass k (picks k) refl (none k (omega arith)) (made core picks base k) old
  where
    pass : (j : ℕ) (b : Bool) → picks j ≡ b → (picks j ≡ true → hits j → ⊥) → (f : List ℕ) →
        look f ≡ look base → look (if b then step core j f else f) ≡ look base
    pass j true is_b never f old = miss j is_b (never is_b) f ∙ old
    pass j false is_b never f old = old

-- the last index below a bound with a property
pub find : (P : ℕ → Type 0) → ((k : ℕ) → P k ⊎ (P k → ⊥)) → (v : ℕ) →
    ((m : ℕ) × ((m < v) × (P m × ((j : ℕ) → m < j → j < v → P j → ⊥))))
    ⊎ ((j : ℕ) → j < v → P j → ⊥)
find P either zero = inr (λ j less p. omega arith)
find P either (suc k) = elim (either k) [
  | inl here ↦ inl (k, (omega arith, (here, λ j low high p. omega arith)))
  | inr not_here ↦ elim (find P either k) [
    | inl found ↦
        inl (
          found.0,
          (
            omega arith,
            (
              found.1.1.0,
              λ j low high p.
                  within j high not_here (λ less. found.1.1.1 j low less p) p,
            ),
          ),
        )
    | inr none ↦ inr (λ j less p. within j less not_here (λ below. none j below p) p)
  ]
]
  where
    within : (j : ℕ) → j < suc k → (P k → ⊥) → (j < k → ⊥) → P j → ⊥
    within j high not_here below p = elim (cases_lt j k) [
      | inl less ↦ below less
      | inr up ↦ let same : j ≡ k = omega arith in not_here (subst P same p)
    ]

-- ---- bytes

pub made-last : (core : Core) → IsLogged core → (picks : ℕ → Bool) →
    ((k : ℕ) → picks k ≡ true → IsChange core k) → (base : List ℕ) (v p m : ℕ) →
    m < v → picks m ≡ true → Holds (at core m).span p →
    ((j : ℕ) → m < j → j < v → picks j ≡ true → Holds (at core j).span p → ⊥) →
    get_or (made core picks base v) p 0 ≡ byte_of core m p
made-last core logged picks change base v p m less is holds none =
    last-made core picks base (λ f. get_or f p 0) (λ k. Holds (at core k).span p)
    (byte_of core m p) m is
    (λ f. byte_in f (payload (slice_get core.log m)) (at core m).span p
    (change-shaped core logged m (change m is)) holds)
    (λ k is_k out f.
    byte_out f (payload (slice_get core.log k)) (at core k).span p
    (change-shaped core logged k (change k is_k)) out)
    v less none

pub made-none : (core : Core) → IsLogged core → (picks : ℕ → Bool) →
    ((k : ℕ) → picks k ≡ true → IsChange core k) → (base : List ℕ) (v p : ℕ) →
    ((j : ℕ) → j < v → picks j ≡ true → Holds (at core j).span p → ⊥) →
    get_or (made core picks base v) p 0 ≡ get_or base p 0
made-none core logged picks change base v p none =
    none-made core picks base (λ f. get_or f p 0) (λ k. Holds (at core k).span p)
    (λ k is_k out f.
    byte_out f (payload (slice_get core.log k)) (at core k).span p
    (change-shaped core logged k (change k is_k)) out)
    v none

pub alters-or-not : (core : Core) (p k : ℕ) → Alters core k p ⊎ (Alters core k p → ⊥)
alters-or-not core p k = test (changes core k) refl
  where
    test : (b : Bool) → changes core k ≡ b → Alters core k p ⊎ (Alters core k p → ⊥)
    test true is = elim (holds-or-not (at core k).span p) [
      | inl holds ↦ inl (is, holds)
      | inr out ↦ inr (λ alters. out alters.1)
    ]
    test false is = inr (λ alters. let on : changes core k ≡ true = alters.0 in cc)

pub find-last : (core : Core) (v p : ℕ) →
    ((m : ℕ) × IsLast core v p m) ⊎ ((j : ℕ) → j < v → Alters core j p → ⊥)
find-last core v p = elim (find (λ k. Alters core k p) (alters-or-not core p) v) [
  | inl found ↦ inl (found.0, (found.1.0, found.1.1.0, found.1.1.1))
  | inr none ↦ inr none
]

pub file_at-last : (core : Core) → IsLogged core → IsOrdered core → (v p m : ℕ) →
    v ≤ length core.log → IsLast core v p m →
    get_or (file_at core v) p 0 ≡ byte_of core m p
file_at-last core logged ordered v p m within last =
    rw (file_at-made core logged v within)
    (made-last core logged (changes core) (λ k is. is) core.base v p m last.0 last.1.0 last.1.1
    (λ j low high is holds. last.2 j low high (is, holds)))

pub file_at-none : (core : Core) → IsLogged core → IsOrdered core → (v p : ℕ) →
    v ≤ length core.log → ((j : ℕ) → j < v → Alters core j p → ⊥) →
    get_or (file_at core v) p 0 ≡ get_or core.base p 0
file_at-none core logged ordered v p within none =
    rw (file_at-made core logged v within)
    (made-none core logged (changes core) (λ k is. is) core.base v p
    (λ j less is holds. none j less (is, holds)))

-- ---- lengths

pub made-longer_last : (core : Core) → IsLogged core → (picks : ℕ → Bool) →
    ((k : ℕ) → picks k ≡ true → IsChange core k) → (base : List ℕ) (v p m : ℕ) (b : Bool) →
    m < v → picks m ≡ true → decides p (at core m).span ≡ Some b →
    ((j : ℕ) → m < j → j < v → picks j ≡ true → Settles (at core j).span p → ⊥) →
    nat_lt p (length (made core picks base v)) ≡ b
made-longer_last core logged picks change base v p m b less is way none =
    last-made core picks base (λ f. nat_lt p (length f)) (λ k. Settles (at core k).span p) b m is
    (λ f. long_set f (payload (slice_get core.log m)) (at core m).span p b
    (change-shaped core logged m (change m is)) way)
    (λ k is_k out f.
    long_kept f (payload (slice_get core.log k)) (at core k).span p
    (change-shaped core logged k (change k is_k)) out)
    v less none

pub made-longer_none : (core : Core) → IsLogged core → (picks : ℕ → Bool) →
    ((k : ℕ) → picks k ≡ true → IsChange core k) → (base : List ℕ) (v p : ℕ) →
    ((j : ℕ) → j < v → picks j ≡ true → Settles (at core j).span p → ⊥) →
    nat_lt p (length (made core picks base v)) ≡ nat_lt p (length base)
made-longer_none core logged picks change base v p none =
    none-made core picks base (λ f. nat_lt p (length f)) (λ k. Settles (at core k).span p)
    (λ k is_k out f.
    long_kept f (payload (slice_get core.log k)) (at core k).span p
    (change-shaped core logged k (change k is_k)) out)
    v none

-- the last entry before a view that decides whether the file has the position
abbrev pub IsDecider : Core → ℕ → ℕ → ℕ → Bool → Type 0
IsDecider core v p m b =
    (m < v) × IsChange core m × (decides p (at core m).span ≡ Some b)
    × ((j : ℕ) → m < j → j < v → IsChange core j → decides p (at core j).span ≡ None)

-- a change that decides it
abbrev pub Rules : Core → ℕ → ℕ → Type 0
Rules core p k = IsChange core k × Settles (at core k).span p

pub rules-or-not : (core : Core) (p k : ℕ) → Rules core p k ⊎ (Rules core p k → ⊥)
rules-or-not core p k = test (changes core k) refl
  where
    test : (b : Bool) → changes core k ≡ b → Rules core p k ⊎ (Rules core p k → ⊥)
    test true is = elim (settled (decides p (at core k).span)) [
      | inl some ↦ inl (is, some)
      | inr out ↦ inr (λ rules. out rules.1)
    ]
    test false is = inr (λ rules. let on : changes core k ≡ true = rules.0 in cc)

pub find-decider : (core : Core) (v p : ℕ) →
    ((m : ℕ) × ((b : Bool) × IsDecider core v p m b))
    ⊎ ((j : ℕ) → j < v → IsChange core j → decides p (at core j).span ≡ None)
find-decider core v p = elim (find (Rules core p) (rules-or-not core p) v) [
  | inl found ↦
      inl (
        found.0,
        (
          found.1.1.0.1.0,
          (
            found.1.0,
            found.1.1.0.0,
            found.1.1.0.1.1,
            λ j low high change.
                unsettled (decides p (at core j).span) (λ some. found.1.1.1 j low high (change, some)),
          ),
        ),
      )
  | inr none ↦
      inr (λ j less change.
      unsettled (decides p (at core j).span) (λ some. none j less (change, some)))
]

pub longer-last : (core : Core) → IsLogged core → IsOrdered core → (v p m : ℕ) (b : Bool) →
    v ≤ length core.log → IsDecider core v p m b →
    nat_lt p (length (file_at core v)) ≡ b
longer-last core logged ordered v p m b within last =
    rw (file_at-made core logged v within)
    (made-longer_last core logged (changes core) (λ k is. is) core.base v p m b last.0 last.1 last.2
    (λ j low high is some. none-settles (decides p (at core j).span) (last.3 j low high is) some))

pub longer-none : (core : Core) → IsLogged core → IsOrdered core → (v p : ℕ) → v ≤ length core.log →
    ((j : ℕ) → j < v → IsChange core j → decides p (at core j).span ≡ None) →
    nat_lt p (length (file_at core v)) ≡ nat_lt p (length core.base)
longer-none core logged ordered v p within none =
    rw (file_at-made core logged v within)
    (made-longer_none core logged (changes core) (λ k is. is) core.base v p
    (λ j less is some. none-settles (decides p (at core j).span) (none j less is) some))
