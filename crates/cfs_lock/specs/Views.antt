-- What a pass knows, and how it changes.
use Rattle.std.specs.Prelude.{◌≡◌, ℕ, ◌+◌, ◌-◌, ◌==◌, ◌≤◌, All, List, [], ◌∷◌, ◌++◌, count_by}
use Rattle.cfs_lock.specs.declared.view.Book.{Book}
use Rattle.cfs_lock.specs.declared.view.Stage.{Stage}
use Rattle.cfs_lock.specs.declared.view.Stage.TheVariants.{Idle}
use Rattle.cfs_lock.specs.declared.view.View.{View}
use Rattle.cfs_lock.specs.Log.{BeginsWith, Log, Part, entries_by}

-- the book of a number that has no entry and no part
abbrev pub blank : ℕ → Book
blank number = record { number = number; own = []; part = [] }

-- the number of the first book, which is the pass's own
abbrev pub first_number : List Book → ℕ
first_number [] = 0
first_number (book ∷ books) = book.number

-- how often the books have a number
abbrev pub kept : ℕ → List Book → ℕ
kept number books = count_by (λ (book : Book). book.number == number) books

-- the first book has these entries and this part
abbrev pub rewritten : Log → Part → List Book → List Book
rewritten own part [] = []
rewritten own part (book ∷ books) = record { number = book.number; own = own; part = part } ∷ books

module _ {X : Type 0} where
  -- the first pass of a lock
  abbrev pub opening : Log → ℕ → View X
  opening log passes = record {
    stage = Idle;
    seen = log ∷ [];
    books = blank 0 ∷ [];
    left = passes - 1;
    base = log;
    bound = passes;
  }

  -- a pass that was given away
  abbrev pub spent : View X
  spent = record { stage = Idle; seen = []; books = []; left = 0; base = []; bound = 0 }

  abbrev pub at_stage : Stage X → View X → View X
  at_stage stage view = record view { stage = stage }

  -- the number that the next split gives
  abbrev pub next_number : View X → ℕ
  next_number view = view.bound - view.left

  -- after a split: one number less to give
  abbrev pub cut_left : View X → View X
  cut_left view = record view { left = view.left - 1 }

  -- the new pass has seen the same, under a number of its own
  abbrev pub cut_right : View X → View X
  cut_right view = record {
    stage = Idle;
    seen = view.seen;
    books = blank (next_number view) ∷ [];
    left = 0;
    base = view.base;
    bound = view.bound;
  }

  -- what both have seen, and the books of both
  abbrev pub joined : View X → View X → View X
  joined view other = record view {
    seen = view.seen ++ other.seen;
    books = view.books ++ other.books;
    left = view.left + other.left;
  }

  module _ (log : X → Log) (part : X → ℕ → Part) where
    -- the book has the value's entries and part of its number
    abbrev pub IsOf : X → Book → Type 0
    IsOf value book =
        (entries_by book.number (log value) ≡ book.own) × (part value book.number ≡ book.part)

    -- what is found by a pass: the log begins with all that it has seen, its books are right, and
    -- the entries of numbers that no pass has are those at the start
    pub record Finds (view : View X) (value : X) : Type 0 where
      pub fronts : All (λ front. BeginsWith (log value) front) view.seen
      pub books : All (IsOf value) view.books
      pub others : (number : ℕ) → view.bound ≤ number
          → entries_by number (log value) ≡ entries_by number view.base

    -- after the value was left
    abbrev pub left_with : X → View X → View X
    left_with value view =
        let number = first_number view.books in
        record view {
          stage = Idle;
          seen = log value ∷ [];
          books = rewritten (entries_by number (log value)) (part value number) view.books;
        }
