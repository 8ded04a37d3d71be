-- What the search for a job's next block finds.
use Rattle.std.proofs.Common.{◌≡◌, inl, inr, ℕ, suc, zero, ◌+◌, ◌<◌, ◌≤◌, Bool, true, false, ◌&&◌, cond, if◌then◌else◌, Option, Some, None, List, length, get_or, arith, refl, nat_lt}
use Rattle.std.specs.List.{find, range_with_len}
use Rattle.std.proofs.lemmas.Bool.{cases_lt}
use Rattle.std.proofs.lemmas.Bool.Decides.{nat_tests}
use Rattle.cfs_file.specs.Span.{meets}
use Rattle.cfs_file.specs.declared.sizes.TheConstants.{FILE_BLOCKS}
use Rattle.cfs_core.specs.declared.flag.Flag.{Flag}
use Rattle.cfs_core.specs.declared.flag.Flag.TheVariants.{Off}
use Rattle.cfs_core.specs.declared.state.State.TheVariants.{Out}
use Rattle.cfs_core.specs.declared.track.Track.{Track}
use Rattle.cfs_core.specs.Words.{block_span, has_block, is_lease, is_on}
use Rattle.cfs_core.specs.Jobs.{is_above, is_wanted, job_from, lease_of, next_block, next_job}
use Rattle.cfs_core.proofs.Legal.{both, same_number}
use Rattle.cfs_core.proofs.StoredFrames.{or_cases}

same-some : (a b : ℕ) → Some a ≡ Some b → a ≡ b
same-some a b h = cc

-- ---- the first number of a range that passes

pub find-passes : (test : ℕ → Bool) (a n m : ℕ) → find test (range_with_len a n) ≡ Some m →
    test m ≡ true
find-passes test a zero m is = cc
find-passes test a (suc n) m is = pick (test a) refl (find-passes test (a + 1) n m) is
  where
    pick : (b : Bool) → test a ≡ b → (find test (range_with_len (a + 1) n) ≡ Some m → test m ≡ true)
        →
        cond b (Some a) (find test (range_with_len (a + 1) n)) ≡ Some m → test m ≡ true
    pick true here rest now = let same : a ≡ m = same-some a m now in rw (← same) here
    pick false here rest now = rest now

pub find-first : (test : ℕ → Bool) (a n m b : ℕ) → find test (range_with_len a n) ≡ Some m → a ≤ b →
    b < m → test b ≡ false
find-first test a zero m b is low less = cc
find-first test a (suc n) m b is low less =
    pick (test a) refl (λ now more. find-first test (a + 1) n m b now more less) is
  where
    pick : (c : Bool) → test a ≡ c →
        (find test (range_with_len (a + 1) n) ≡ Some m → a + 1 ≤ b → test b ≡ false) →
        cond c (Some a) (find test (range_with_len (a + 1) n)) ≡ Some m → test b ≡ false
    pick true here rest now = let same : a ≡ m = same-some a m now in absurd (omega arith)
    pick false here rest now = elim (cases_lt a b) [
      | inl more ↦ rest now (omega arith)
      | inr up ↦ let same : b ≡ a = omega arith in rw same here
    ]

pub find-none : (test : ℕ → Bool) (a n b : ℕ) → find test (range_with_len a n) ≡ None → a ≤ b →
    b < a + n → test b ≡ false
find-none test a zero b is low less = absurd (omega arith)
find-none test a (suc n) b is low less =
    pick (test a) refl (λ now more. find-none test (a + 1) n b now more (omega arith)) is
  where
    pick : (c : Bool) → test a ≡ c →
        (find test (range_with_len (a + 1) n) ≡ None → a + 1 ≤ b → test b ≡ false) →
        cond c (Some a) (find test (range_with_len (a + 1) n)) ≡ None → test b ≡ false
    pick true here rest now = cc
    pick false here rest now = elim (cases_lt a b) [
      | inl more ↦ rest now (omega arith)
      | inr up ↦ let same : b ≡ a = omega arith in rw same here
    ]

-- ---- the blocks that are wanted

pub record Wants (tags : List Flag) (t : Track) (done : Option ℕ) (block : ℕ) : Type 0 where
  pub file : nat_lt block FILE_BLOCKS ≡ true
  pub above : is_above done block ≡ true
  pub mapped : is_on (get_or tags block Off) ≡ true
  pub meeting : meets t.span (block_span block) ≡ true

pub wants : (tags : List Flag) (t : Track) (done : Option ℕ) (block : ℕ) →
    is_wanted tags t done block ≡ true → Wants tags t done block
wants tags t done block h =
    let a = both (nat_lt block FILE_BLOCKS)
    (is_above done block && (is_on (get_or tags block Off) && meets t.span (block_span block)))
    h in
    let b = both (is_above done block)
    (is_on (get_or tags block Off) && meets t.span (block_span block)) a.1 in
    let c = both (is_on (get_or tags block Off)) (meets t.span (block_span block)) b.1 in
    record { file = a.0; above = b.0; mapped = c.0; meeting = c.1 }

pub wanted-by : (tags : List Flag) (t : Track) (done : Option ℕ) (block : ℕ) →
    Wants tags t done block → is_wanted tags t done block ≡ true
wanted-by tags t last block w = rw (w.file, w.above, w.mapped, w.meeting) refl

pub above-more : (done : Option ℕ) (m b : ℕ) → is_above done m ≡ true → m < b →
    is_above done b ≡ true
above-more None m b h less = refl
above-more (Some last) m b h less = up last m b h less
  where
    up : (l x y : ℕ) → nat_lt l x ≡ true → x < y → nat_lt l y ≡ true
    up l x y is more = grind (arith, nat_tests)

pub is-below : (a b : ℕ) → nat_lt a b ≡ true → a < b
is-below a b h = grind (arith, nat_tests)

pub lease-is : (n b : ℕ) → is_lease (lease_of (Some n)) b ≡ true → n ≡ b
lease-is n b h = same_number n b h

-- what a job takes was wanted
pub job-wants : (tags : List Flag) (t : Track) (block : ℕ) →
    has_block (Out (next_job tags t)) block ≡ true → Wants tags t t.done block
job-wants tags t block h = at t.applied (next_block tags t t.done) refl h
  where
    second : (m : ℕ) → Wants tags t t.done m → (o : Option ℕ) → next_block tags t (Some m) ≡ o →
        is_lease (lease_of o) block ≡ true → Wants tags t t.done block
    second m first None found has = cc
    second m first (Some n) found has =
        let same : n ≡ block = lease-is n block has in
        let w = wants tags t (Some m) n
        (find-passes (is_wanted tags t (Some m)) 0 (length tags) n found) in
        let up : is_above t.done n ≡ true = above-more t.done m n first.above (is-below m n w.above)
        in
        rw (← same) (record { file = w.file; above = up; mapped = w.mapped; meeting = w.meeting })

    at : (applied : Bool) (o : Option ℕ) → next_block tags t t.done ≡ o →
        has_block
        (Out (if applied then record { first = None; second = None } else job_from tags t o)) block
        ≡ true →
        Wants tags t t.done block
    at true o found has = cc
    at false None found has = cc
    at false (Some m) found has =
        let first =
        wants tags t t.done m (find-passes (is_wanted tags t t.done) 0 (length tags) m found) in
        elim (or_cases (is_lease (lease_of (Some m)) block)
        (is_lease (lease_of (next_block tags t (Some m))) block) has) [
          | inl one ↦ let same : m ≡ block = lease-is m block one in rw (← same) first
          | inr two ↦ second m first (next_block tags t (Some m)) refl two
        ]
