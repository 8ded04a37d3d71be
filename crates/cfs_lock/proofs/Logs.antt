-- Logs and books: what a change by one number leaves of all others.
use Rattle.std.proofs.Common.{◌≡◌, ◌≢◌, ℕ, ◌+◌, ◌<◌, ◌≤◌, ◌==◌, All, List, [], ◌∷◌, ◌++◌, cond, eqb, length, get_or, refl, sym, ap, ◌∙◌, append_assoc, ne_eqb, arith}
use Rattle.std.proofs.lemmas.Bool.Decides.{nat_tests}
use Rattle.std.proofs.lemmas.List.{append-nil}
use Rattle.std.proofs.lemmas.List.Elements.{All-cons, All-head, All-nil, All-tail, filter-append}
use Rattle.std.proofs.lemmas.List.Sums.{count_by-le-length, sum_by-cons, sum_by-append, get_or-le-sum_by}
use Rattle.cfs_lock.specs.declared.view.Book.{Book}
use Rattle.cfs_lock.specs.Log.{BeginsWith, Entry, Grows, Log, Part, entries_by}
use Rattle.cfs_lock.specs.Views.{IsOf, first_number, kept, rewritten}

-- none of the entries has the number
none_by : (number : ℕ) (log : Log) → All (λ entry. entry.0 ≢ number) log → entries_by number log ≡ []
none_by number [] h = refl
none_by number (entry ∷ log) h =
    ap (λ b. cond b (entry ∷ entries_by number log) (entries_by number log)) (ne_eqb entry.0 number (All-head (λ (e : Entry). e.0 ≢ number) entry log h))
    ∙ none_by number log (All-tail (λ (e : Entry). e.0 ≢ number) entry log h)

module _ {X : Type 0} (log : X → Log) (part : X → ℕ → Part) where
  -- a front of the log before is a front of the log after
  pub front_grows : (number : ℕ) (x y : X) → Grows log part number x y → (front : Log) → BeginsWith (log x) front → BeginsWith (log y) front
  front_grows number x y g front b = (b.0 ++ g.added, g.longer ∙ (ap (λ l. l ++ g.added) b.1 ∙ append_assoc front b.0 g.added))

  -- the entries of another number stay
  pub others_stay : (number : ℕ) (x y : X) → Grows log part number x y → (other : ℕ) → other ≢ number → entries_by other (log y) ≡ entries_by other (log x)
  others_stay number x y g other n =
      ap (entries_by other) g.longer
      ∙ (filter-append (λ (entry : Entry). entry.0 == other) (log x) g.added
      ∙ (ap (λ l. entries_by other (log x) ++ l) (none_by other g.added (λ k d h. λ e. n (sym e ∙ g.by_it k d h))) ∙ append-nil (entries_by other (log x))))

  -- a book of another number stays right
  pub book_stays : (number : ℕ) (x y : X) → Grows log part number x y → (book : Book) → book.number ≢ number → IsOf log part x book → IsOf log part y book
  book_stays number x y g book n h = (others_stay number x y g book.number n ∙ h.0, g.parts book.number n ∙ h.1)

  pub absent : (number : ℕ) (books : List Book) → kept number books ≡ 0 → (k : ℕ) (d : Book) → k < length books → (get_or books k d).number ≢ number
  absent number books none k d h same =
      let t = get_or-le-sum_by (λ (book : Book). cond (eqb book.number number) 1 0) books k d h in grind (arith, nat_tests)

  -- books without the number stay right
  pub books_stay : (number : ℕ) (x y : X) → Grows log part number x y → (books : List Book) → kept number books ≡ 0 → All (IsOf log part x) books → All (IsOf log part y) books
  books_stay number x y g books none h k d lt = book_stays number x y g (get_or books k d) (absent number books none k d lt) (h k d lt)

  -- the books of the pass itself, whose number stands once among them
  pub books_rewritten : (x y : X) (books : List Book) → Grows log part (first_number books) x y → kept (first_number books) books ≤ 1 → All (IsOf log part x) books
      → All (IsOf log part y) (rewritten (entries_by (first_number books) (log y)) (part y (first_number books)) books)
  books_rewritten x y [] g once h = All-nil (IsOf log part y)
  books_rewritten x y (book ∷ books) g once h =
      let count = sum_by-cons (λ (other : Book). cond (eqb other.number book.number) 1 0) book books in
      let none : kept book.number books ≡ 0 = grind (arith, nat_tests) in
      All-cons (IsOf log part y) (record { number = book.number; own = entries_by book.number (log y); part = part y book.number }) books (refl, refl)
      (books_stay book.number x y g books none (All-tail (IsOf log part x) book books h))

pub rewritten-length : (own : Log) (part : Part) (books : List Book) → length (rewritten own part books) ≡ length books
rewritten-length own part [] = refl
rewritten-length own part (book ∷ books) = refl

pub rewritten-kept : (number : ℕ) (own : Log) (part : Part) (books : List Book) → kept number (rewritten own part books) ≡ kept number books
rewritten-kept number own part [] = refl
rewritten-kept number own part (book ∷ books) = refl

-- the first book's number is kept
pub first_kept : (books : List Book) → 0 < length books → 0 < kept (first_number books) books
first_kept [] h = absurd (omega arith)
first_kept (book ∷ books) h = let count = sum_by-cons (λ (other : Book). cond (eqb other.number book.number) 1 0) book books in grind (arith, nat_tests)

pub kept-append : (number : ℕ) (books more : List Book) → kept number (books ++ more) ≡ kept number books + kept number more
kept-append number books more = sum_by-append (λ (book : Book). cond (eqb book.number number) 1 0) books more

-- a kept number is one of the books
pub kept-length : (number : ℕ) (books : List Book) → kept number books ≤ length books
kept-length number books = count_by-le-length (λ (book : Book). eqb book.number number) books
