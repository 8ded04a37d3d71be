-- Which item of work comes before which (own).
use Rattle.std.specs.Prelude.{ℕ, ◌≡◌, ◌<◌, ◌≤◌, ◌⊎◌, List, Some, slice_get, nat_le, if◌then◌else◌}
use Rattle.cfs_sched.specs.declared.summary.Summary.{Summary}

-- how urgent an item is: from 64 times on as often as it was passed over, else 1 where a read
-- waits for it, and else 0
abbrev pub urgency : Summary → ℕ
urgency item =
    if nat_le 64 item.passed then item.passed else (if item.read_waits then 1 else 0)

-- the lower record comes first, and of one record the lower place
abbrev pub StandsBefore : Summary → Summary → Type 0
StandsBefore a b = (a.rec < b.rec) ⊎ ((a.rec ≡ b.rec) × (a.place < b.place))

-- the more urgent item comes first, and of two as urgent the one that stands before
abbrev pub ComesBefore : Summary → Summary → Type 0
ComesBefore a b =
    (urgency b < urgency a) ⊎ ((urgency a ≡ urgency b) × StandsBefore a b)

-- the item at this index: no item comes before it, and those at lower indices come after it
pub record IsFirst (work : List Summary) (index : ℕ) (item : Summary) : Type 0 where
  pub there : slice_get work index ≡ Some item
  pub first : (k : ℕ) (other : Summary) → slice_get work k ≡ Some other →
      ¬ ComesBefore other item
  pub earliest : (k : ℕ) (other : Summary) → k < index → slice_get work k ≡ Some other →
      ComesBefore item other

-- an item that was passed over 64 times or more comes before every item passed over less often
abbrev pub PassedOverComesFirst : Type 0
PassedOverComesFirst =
    (often seldom : Summary) → 64 ≤ often.passed → seldom.passed < often.passed →
    ComesBefore often seldom
