-- The live entries of one file, among those of all files by inode number and gate, are its live
-- entries by gate.
use Rattle.std.proofs.Common.{◌≡◌, ◌≢◌, ◌∙◌, ◌==◌, ℕ}
use Rattle.std.proofs.Common.{◌<◌, ◌≤◌, Bool, true, false, nat_le, if◌then◌else◌}
use Rattle.std.proofs.Common.{Option, Some, None, List, [], ◌∷◌, refl, sym, ap}
use Rattle.std.proofs.Common.{arith}
use Rattle.std.proofs.lemmas.Bool.Decides.{nat_tests}
use Rattle.std.specs.List.{cons_option, filter_map}
use Rattle.cfs_file.specs.declared.request.Request.{Request}
use Rattle.cfs_medium.specs.Store.{by_gate, put_by_gate}
use Rattle.cfs_survey.specs.declared.live_entry.LiveEntry.{LiveEntry}
use Rattle.cfs_survey.specs.Live.{in_order, is_before, put_live}

apart : (a b : ℕ) → (a == b) ≡ false → a ≢ b
apart a b test same = grind (arith, nat_tests)

-- ---- lists in the order of inode numbers

-- no inode number is below this one
abbrev IsFrom : ℕ → List LiveEntry → Type 0
IsFrom ino [] = Unit {0}
IsFrom ino (entry ∷ entries) = (ino ≤ entry.ino) × IsFrom ino entries

abbrev Rises : List LiveEntry → Type 0
Rises [] = Unit {0}
Rises (entry ∷ entries) = IsFrom entry.ino entries × Rises entries

from-lower : (low ino : ℕ) (entries : List LiveEntry) → low ≤ ino → IsFrom ino entries →
    IsFrom low entries
from-lower low ino [] less from = tt
from-lower low ino (entry ∷ entries) less from =
    (omega arith, from-lower low ino entries less from.1)

from-put : (ino : ℕ) (entry : LiveEntry) (entries : List LiveEntry) → ino ≤ entry.ino →
    IsFrom ino entries → IsFrom ino (put_live entry entries)
from-put ino entry [] low from = (low, tt)
from-put ino entry (first ∷ rest) low from =
    split (is_before first entry) (from-put ino entry rest low from.1)
  where
    split : (b : Bool) → IsFrom ino (put_live entry rest) →
        IsFrom ino (if b then first ∷ put_live entry rest else entry ∷ first ∷ rest)
    split true deeper = (from.0, deeper)
    split false deeper = (low, from)

-- the numbers of an entry that comes before another one, and of one that does not
before-ino : (first entry : LiveEntry) → is_before first entry ≡ true → first.ino ≤ entry.ino
before-ino first entry before = grind (arith, nat_tests)

behind-ino : (first entry : LiveEntry) → is_before first entry ≡ false → entry.ino ≤ first.ino
behind-ino first entry behind = grind (arith, nat_tests)

rises-put : (entry : LiveEntry) (entries : List LiveEntry) → Rises entries →
    Rises (put_live entry entries)
rises-put entry [] rises = (tt, tt)
rises-put entry (first ∷ rest) rises =
    split (is_before first entry) refl (rises-put entry rest rises.1)
  where
    split : (b : Bool) → is_before first entry ≡ b → Rises (put_live entry rest) →
        Rises (if b then first ∷ put_live entry rest else entry ∷ first ∷ rest)
    split true is deeper =
        (from-put first.ino entry rest (before-ino first entry is) rises.0, deeper)
    split false is deeper =
        let low = behind-ino first entry is in
        ((low, from-lower entry.ino first.ino rest low rises.0), rises)

rises-in_order : (entries : List LiveEntry) → Rises (in_order entries)
rises-in_order [] = tt
rises-in_order (entry ∷ entries) =
    rises-put entry (in_order entries) (rises-in_order entries)

-- ---- those of one file, each with its request

-- the request of an entry, which has its gate, where it is one of a file
abbrev pub own : (LiveEntry → Request) → ℕ → LiveEntry → Option (ℕ × Request)
own request ino entry = if entry.ino == ino then Some (entry.gate, request entry) else None

abbrev owned : (LiveEntry → Request) → ℕ → List LiveEntry → List (ℕ × Request)
owned request ino entries = filter_map (own request ino) entries

own-as : (request : LiveEntry → Request) (ino : ℕ) (entry : LiveEntry) (b : Bool) →
    (entry.ino == ino) ≡ b →
    own request ino entry ≡ (if b then Some (entry.gate, request entry) else None)
own-as request ino entry b is =
    ap (λ (b : Bool). if b then Some (entry.gate, request entry) else None) is

-- an entry of the file or of another one is put in front
owned-own : (request : LiveEntry → Request) (ino : ℕ) (entry : LiveEntry)
    (entries : List LiveEntry) → entry.ino ≡ ino →
    owned request ino (entry ∷ entries)
    ≡ (entry.gate, request entry) ∷ owned request ino entries
owned-own request ino entry entries same =
    let test : (entry.ino == ino) ≡ true = grind (arith, nat_tests) in
    ap (λ found. cons_option found (owned request ino entries))
    (own-as request ino entry true test)

owned-other : (request : LiveEntry → Request) (ino : ℕ) (entry : LiveEntry)
    (entries : List LiveEntry) → entry.ino ≢ ino →
    owned request ino (entry ∷ entries) ≡ owned request ino entries
owned-other request ino entry entries other =
    let test : (entry.ino == ino) ≡ false = grind (arith, nat_tests) in
    ap (λ found. cons_option found (owned request ino entries))
    (own-as request ino entry false test)

-- none of a file is among those of higher numbers
none-owned : (request : LiveEntry → Request) (ino low : ℕ) (entries : List LiveEntry) →
    ino < low → IsFrom low entries → owned request ino entries ≡ []
none-owned request ino low [] less from = refl
none-owned request ino low (entry ∷ entries) less from =
    owned-other request ino entry entries (λ same. omega arith)
    ∙ none-owned request ino low entries less from.1

put-front : (entry : ℕ × Request) (first : ℕ × Request) (rest : List (ℕ × Request)) →
    entry.0 ≤ first.0 → put_by_gate entry (first ∷ rest) ≡ entry ∷ first ∷ rest
put-front entry first rest low =
    let test : nat_le entry.0 first.0 ≡ true = grind (arith, nat_tests) in
    ap (λ (b : Bool). if b then entry ∷ (first ∷ rest) else first ∷ put_by_gate entry rest) test

put-behind : (entry : ℕ × Request) (first : ℕ × Request) (rest : List (ℕ × Request)) →
    first.0 < entry.0 → put_by_gate entry (first ∷ rest) ≡ first ∷ put_by_gate entry rest
put-behind entry first rest high =
    let test : nat_le entry.0 first.0 ≡ false = grind (arith, nat_tests) in
    ap (λ (b : Bool). if b then entry ∷ (first ∷ rest) else first ∷ put_by_gate entry rest) test

before-gate : (first entry : LiveEntry) → is_before first entry ≡ true → first.ino ≡ entry.ino →
    first.gate < entry.gate
before-gate first entry before same = grind (arith, nat_tests)

behind-gate : (first entry : LiveEntry) → is_before first entry ≡ false →
    first.ino ≡ entry.ino → entry.gate ≤ first.gate
behind-gate first entry behind same = grind (arith, nat_tests)

-- one more entry, of the file
owned-put-own : (request : LiveEntry → Request) (ino : ℕ) (entry : LiveEntry)
    (entries : List LiveEntry) → entry.ino ≡ ino → Rises entries →
    owned request ino (put_live entry entries)
    ≡ put_by_gate (entry.gate, request entry) (owned request ino entries)
owned-put-own request ino entry [] same rises = owned-own request ino entry [] same
owned-put-own request ino entry (first ∷ rest) same rises =
    split (is_before first entry) refl (first.ino == ino) refl
    (owned-put-own request ino entry rest same rises.1)
  where
    e : ℕ × Request
    e = (entry.gate, request entry)

    split : (b : Bool) → is_before first entry ≡ b → (o : Bool) → (first.ino == ino) ≡ o →
        owned request ino (put_live entry rest) ≡ put_by_gate e (owned request ino rest) →
        owned request ino (if b then first ∷ put_live entry rest else entry ∷ first ∷ rest)
        ≡ put_by_gate e (owned request ino (first ∷ rest))
    split true is true here deeper =
        let own_first : first.ino ≡ ino = grind (arith, nat_tests) in
        owned-own request ino first (put_live entry rest) own_first
        ∙ (ap (λ (xs : List (ℕ × Request)). (first.gate, request first) ∷ xs) deeper
        ∙ (sym (put-behind e (first.gate, request first) (owned request ino rest)
        (before-gate first entry is (own_first ∙ sym same)))
        ∙ ap (put_by_gate e) (sym (owned-own request ino first rest own_first))))
    split true is false here deeper =
        let other : first.ino ≢ ino = apart first.ino ino here in
        owned-other request ino first (put_live entry rest) other
        ∙ (deeper ∙ ap (put_by_gate e) (sym (owned-other request ino first rest other)))
    split false is true here deeper =
        let own_first : first.ino ≡ ino = grind (arith, nat_tests) in
        owned-own request ino entry (first ∷ rest) same
        ∙ (ap (λ (xs : List (ℕ × Request)). e ∷ xs)
        (owned-own request ino first rest own_first)
        ∙ (sym (put-front e (first.gate, request first) (owned request ino rest)
        (behind-gate first entry is (own_first ∙ sym same)))
        ∙ ap (put_by_gate e) (sym (owned-own request ino first rest own_first))))
    split false is false here deeper =
        let other : first.ino ≢ ino = apart first.ino ino here in
        let low = behind-ino first entry is in
        let above : ino < first.ino = grind (arith, other) in
        let none : owned request ino (first ∷ rest) ≡ [] =
        owned-other request ino first rest other
        ∙ none-owned request ino first.ino rest above rises.0 in
        owned-own request ino entry (first ∷ rest) same
        ∙ (ap (λ (xs : List (ℕ × Request)). e ∷ xs) none
        ∙ ap (put_by_gate e) (sym none))

-- and one of another file
owned-put-other : (request : LiveEntry → Request) (ino : ℕ) (entry : LiveEntry)
    (entries : List LiveEntry) → entry.ino ≢ ino →
    owned request ino (put_live entry entries) ≡ owned request ino entries
owned-put-other request ino entry [] other = owned-other request ino entry [] other
owned-put-other request ino entry (first ∷ rest) other =
    split (is_before first entry) (owned-put-other request ino entry rest other)
  where
    split : (b : Bool) → owned request ino (put_live entry rest) ≡ owned request ino rest →
        owned request ino (if b then first ∷ put_live entry rest else entry ∷ first ∷ rest)
        ≡ owned request ino (first ∷ rest)
    split true deeper = ap (cons_option (own request ino first)) deeper
    split false deeper = owned-other request ino entry (first ∷ rest) other

-- ---- all of them

pub owned-in_order : (request : LiveEntry → Request) (ino : ℕ) (entries : List LiveEntry) →
    owned request ino (in_order entries) ≡ by_gate (owned request ino entries)
owned-in_order request ino [] = refl
owned-in_order request ino (entry ∷ entries) =
    split (entry.ino == ino) refl (owned-in_order request ino entries)
  where
    split : (b : Bool) → (entry.ino == ino) ≡ b →
        owned request ino (in_order entries) ≡ by_gate (owned request ino entries) →
        owned request ino (put_live entry (in_order entries))
        ≡ by_gate (owned request ino (entry ∷ entries))
    split true is deeper =
        let same : entry.ino ≡ ino = grind (arith, nat_tests) in
        owned-put-own request ino entry (in_order entries) same (rises-in_order entries)
        ∙ (ap (put_by_gate (entry.gate, request entry)) deeper
        ∙ ap by_gate (sym (owned-own request ino entry entries same)))
    split false is deeper =
        let other : entry.ino ≢ ino = apart entry.ino ino is in
        owned-put-other request ino entry (in_order entries) other
        ∙ (deeper ∙ ap by_gate (sym (owned-other request ino entry entries other)))
