-- The blocks that a job has still to write or flush, and those that it has written.
use Rattle.std.proofs.Common.{◌≡◌, inl, inr, ℕ, ◌+◌, ◌-◌, ◌*◌, ◌/◌, ◌<◌, ◌≤◌, ◌==◌, Bool, true, false, ◌&&◌, ◌||◌, not, if◌then◌else◌, Option, Some, None, List, length, take, drop, get_or, max, min, arith, refl, sym, ap, ◌∙◌, nat_lt, length-take, length-drop}
use Rattle.std.proofs.lemmas.Bool.{cases_lt}
use Rattle.std.proofs.lemmas.Bool.Decides.{nat_tests}
use Rattle.std.proofs.lemmas.List.{get_or-drop, get_or-replicate, get_or-take, length-replicate}
use Rattle.cfs_file.specs.declared.sizes.TheConstants.{BLOCK_LEN}
use Rattle.cfs_file.specs.declared.span.Span.{Span}
use Rattle.cfs_file.specs.declared.span.Span.TheVariants.{Nothing, Range, From}
use Rattle.cfs_file.specs.Span.{Holds}
use Rattle.cfs_core.specs.declared.flag.Flag.{Flag}
use Rattle.cfs_core.specs.declared.state.State.{State}
use Rattle.cfs_core.specs.declared.state.State.TheVariants.{Waiting, Out, Noop, Unserved, Closed}
use Rattle.cfs_core.specs.declared.state.Lease.{Lease}
use Rattle.cfs_core.specs.declared.track.Track.{Track}
use Rattle.cfs_core.specs.Words.{byte_at, has_block, is_done, is_lease, is_out, is_through, piece_in, start_in}
use Rattle.cfs_core.specs.Jobs.{done_after, is_above, is_wanted, job_from, last_of, lease_flushed, lease_of, lease_written, next_block, next_job, note_flush, note_write, state_flushed, state_written}
use Rattle.cfs_core.proofs.Legal.{both, neither, or_right}
use Rattle.cfs_core.proofs.Order.{same_or_not}
use Rattle.cfs_core.proofs.Registers.{IsShaped}
use Rattle.cfs_core.proofs.StoredFrames.{no_clash, or_cases, same_test}
use Rattle.cfs_core_laws.proofs.Finds.{above-more, find-first, find-none, is-below, wanted-by, wants}

-- ---- what is still to be done

abbrev pub is_undone_lease : Option Lease → ℕ → Bool
is_undone_lease None b = false
is_undone_lease (Some lease) b = (lease.block == b) && not (lease.written && lease.flushed)

-- the job has the block, and has not written and then flushed it
abbrev pub is_undone : State → ℕ → Bool
is_undone (Out job) b = is_undone_lease job.first b || is_undone_lease job.second b
is_undone _ b = false

abbrev pub is_put_lease : Option Lease → ℕ → Bool
is_put_lease None b = false
is_put_lease (Some lease) b = (lease.block == b) && lease.written

-- the job has written the block, and that did not fail
abbrev pub is_put : State → ℕ → Bool
is_put (Out job) b = is_put_lease job.first b || is_put_lease job.second b
is_put _ b = false

undone-lease : (o : Option Lease) (b : ℕ) → is_undone_lease o b ≡ true → is_lease o b ≡ true
undone-lease None b h = cc
undone-lease (Some lease) b h = (both (lease.block == b) _ h).0

put-lease : (o : Option Lease) (b : ℕ) → is_put_lease o b ≡ true → is_lease o b ≡ true
put-lease None b h = cc
put-lease (Some lease) b h = (both (lease.block == b) _ h).0

or-left : (a b : Bool) → a ≡ true → (a || b) ≡ true
or-left true b h = refl
or-left false b h = cc

pub undone-has : (s : State) (b : ℕ) → is_undone s b ≡ true → has_block s b ≡ true
undone-has Waiting b h = cc
undone-has (Out job) b h =
    elim (or_cases (is_undone_lease job.first b) (is_undone_lease job.second b) h) [
      | inl one ↦ or-left (is_lease job.first b) (is_lease job.second b)
          (undone-lease job.first b one)
      | inr two ↦ or_right (is_lease job.first b) (is_lease job.second b)
          (undone-lease job.second b two)
    ]
undone-has Noop b h = cc
undone-has Unserved b h = cc
undone-has Closed b h = cc

pub put-out : (s : State) (b : ℕ) → is_put s b ≡ true → is_out s ≡ true
put-out Waiting b h = cc
put-out (Out job) b h = refl
put-out Noop b h = cc
put-out Unserved b h = cc
put-out Closed b h = cc

-- a job that is through has done all
done-lease : (o : Option Lease) (b : ℕ) → is_done o ≡ true → is_undone_lease o b ≡ false
done-lease None b h = refl
done-lease (Some lease) b h = off (lease.block == b) (lease.written && lease.flushed) h
  where
    off : (here ready : Bool) → ready ≡ true → (here && not ready) ≡ false
    off true true is = refl
    off false true is = refl
    off here false is = cc

pub through-done : (s : State) (b : ℕ) → is_through s ≡ true → is_undone s b ≡ false
through-done Waiting b h = refl
through-done (Out job) b h =
    let parts = both (is_done job.first) (is_done job.second) h in
    rw (done-lease job.first b parts.0, done-lease job.second b parts.1) refl
through-done Noop b h = refl
through-done Unserved b h = refl
through-done Closed b h = refl

-- ---- a write

unlike : (a b : ℕ) → (a ≡ b → ⊥) → (a == b) ≡ false
unlike a b is = grind (arith, nat_tests)

-- what a lease is at a block after a change of another block
written-beside : (block : ℕ) (ok : Bool) (o : Option Lease) (b : ℕ) → (b ≡ block → ⊥) →
    (is_undone_lease (note_write block ok o) b ≡ is_undone_lease o b) ×
    (is_put_lease (note_write block ok o) b ≡ is_put_lease o b)
written-beside block ok None b apart = (refl, refl)
written-beside block ok (Some lease) b apart = elim (same_or_not lease.block block) [
  | inl here ↦
      let test : (lease.block == block) ≡ true = same_test lease.block block here in
      let off : (lease.block == b) ≡ false = unlike lease.block b (λ same. apart (sym same ∙ here))
      in
      (rw (test, off) refl, rw (test, off) refl)
  | inr there ↦
      let test : (lease.block == block) ≡ false = unlike lease.block block there in
      (rw test refl, rw test refl)
]

pub written-other : (s : State) (block : ℕ) (ok : Bool) (b : ℕ) → (b ≡ block → ⊥) →
    (is_undone (state_written block ok s) b ≡ is_undone s b) ×
    (is_put (state_written block ok s) b ≡ is_put s b)
written-other Waiting block ok b apart = (refl, refl)
written-other (Out job) block ok b apart =
    let one = written-beside block ok job.first b apart in
    let two = written-beside block ok job.second b apart in
    (rw (one.0, two.0) refl, rw (one.1, two.1) refl)
written-other Noop block ok b apart = (refl, refl)
written-other Unserved block ok b apart = (refl, refl)
written-other Closed block ok b apart = (refl, refl)

-- the block that was written is to be flushed
here-undone : (block : ℕ) (ok : Bool) (o : Option Lease) → is_lease o block ≡ true →
    is_undone_lease (note_write block ok o) block ≡ true
here-undone block ok None h = cc
here-undone block ok (Some lease) h = rw h (by ok)
  where
    by : (k : Bool) → ((lease.block == block) && not (k && false)) ≡ true
    by true = rw h refl
    by false = rw h refl

pub written-undone : (s : State) (block : ℕ) (ok : Bool) → has_block s block ≡ true →
    is_undone (state_written block ok s) block ≡ true
written-undone Waiting block ok h = cc
written-undone (Out job) block ok h =
    elim (or_cases (is_lease job.first block) (is_lease job.second block) h) [
      | inl one ↦ or-left (is_undone_lease (note_write block ok job.first) block)
          (is_undone_lease (note_write block ok job.second) block)
          (here-undone block ok job.first one)
      | inr two ↦ or_right (is_undone_lease (note_write block ok job.first) block)
          (is_undone_lease (note_write block ok job.second) block)
          (here-undone block ok job.second two)
    ]
written-undone Noop block ok h = cc
written-undone Unserved block ok h = cc
written-undone Closed block ok h = cc

failed-lease : (block : ℕ) (o : Option Lease) →
    is_put_lease (note_write block false o) block ≡ false
failed-lease block None = refl
failed-lease block (Some lease) = by (lease.block == block) refl
  where
    by : (here : Bool) → (lease.block == block) ≡ here →
        is_put_lease
        (Some (if here then record { block = lease.block; written = false; flushed = false }
        else lease)) block ≡ false
    by true is = rw is refl
    by false is = rw is refl

pub failed-unput : (s : State) (block : ℕ) → is_put (state_written block false s) block ≡ false
failed-unput Waiting block = refl
failed-unput (Out job) block = rw (failed-lease block job.first, failed-lease block job.second) refl
failed-unput Noop block = refl
failed-unput Unserved block = refl
failed-unput Closed block = refl

-- ---- a flush

flushed-lease-put : (block : ℕ) (o : Option Lease) (b : ℕ) →
    is_put_lease (note_flush block o) b ≡ is_put_lease o b
flushed-lease-put block None b = refl
flushed-lease-put block (Some lease) b = by (lease.block == block)
  where
    by : (here : Bool) →
        is_put_lease
        (Some (if here then record {
          block = lease.block;
          written = lease.written;
          flushed =
              lease.written;
        } else lease)) b ≡ is_put_lease (Some lease) b
    by true = refl
    by false = refl

pub flushed-put : (s : State) (block b : ℕ) → is_put (state_flushed block s) b ≡ is_put s b
flushed-put Waiting block b = refl
flushed-put (Out job) block b =
    rw (flushed-lease-put block job.first b, flushed-lease-put block job.second b) refl
flushed-put Noop block b = refl
flushed-put Unserved block b = refl
flushed-put Closed block b = refl

flushed-beside : (block : ℕ) (o : Option Lease) (b : ℕ) → (b ≡ block → ⊥) →
    is_undone_lease (note_flush block o) b ≡ is_undone_lease o b
flushed-beside block None b apart = refl
flushed-beside block (Some lease) b apart = elim (same_or_not lease.block block) [
  | inl here ↦
      let test : (lease.block == block) ≡ true = same_test lease.block block here in
      let off : (lease.block == b) ≡ false = unlike lease.block b (λ same. apart (sym same ∙ here))
      in
      rw (test, off) refl
  | inr there ↦ let test : (lease.block == block) ≡ false = unlike lease.block block there in
      rw test refl
]

pub flushed-other : (s : State) (block b : ℕ) → (b ≡ block → ⊥) →
    is_undone (state_flushed block s) b ≡ is_undone s b
flushed-other Waiting block b apart = refl
flushed-other (Out job) block b apart =
    rw (flushed-beside block job.first b apart, flushed-beside block job.second b apart) refl
flushed-other Noop block b apart = refl
flushed-other Unserved block b apart = refl
flushed-other Closed block b apart = refl

-- where the flush leaves nothing to do, the block was written
here-put : (block : ℕ) (o : Option Lease) → is_lease o block ≡ true →
    is_undone_lease (note_flush block o) block ≡ false → is_put_lease o block ≡ true
here-put block None h done = cc
here-put block (Some lease) h done = by lease.written (rw h at done)
  where
    by : (w : Bool) → ((lease.block == block) && not (w && w)) ≡ false →
        ((lease.block == block) && w) ≡ true
    by true is = rw h refl
    by false is = let own : true ≡ false = rw h at is in cc

pub flushed-was_put : (s : State) (block : ℕ) → has_block s block ≡ true →
    is_undone (state_flushed block s) block ≡ false → is_put s block ≡ true
flushed-was_put Waiting block h done = cc
flushed-was_put (Out job) block h done =
    let parts = neither (is_undone_lease (note_flush block job.first) block)
    (is_undone_lease (note_flush block job.second) block) done in
    elim (or_cases (is_lease job.first block) (is_lease job.second block) h) [
      | inl one ↦ or-left (is_put_lease job.first block) (is_put_lease job.second block)
          (here-put block job.first one parts.0)
      | inr two ↦ or_right (is_put_lease job.first block) (is_put_lease job.second block)
          (here-put block job.second two parts.1)
    ]
flushed-was_put Noop block h done = cc
flushed-was_put Unserved block h done = cc
flushed-was_put Closed block h done = cc

-- ---- the last block that is done stays

pub last-written : (done : Option ℕ) (s : State) (block : ℕ) (ok : Bool) →
    done_after done (state_written block ok s) ≡ done_after done s
last-written last Waiting block ok = refl
last-written last (Out job) block ok = by job.first job.second
  where
    number : (lease : Lease) → (lease_written block ok lease).block ≡ lease.block
    number lease = pick (lease.block == block)
      where
        pick : (here : Bool) →
            (if here then record { block = lease.block; written = ok; flushed = false } else
            lease).block ≡ lease.block
        pick true = refl
        pick false = refl

    by : (first second : Option Lease) →
        last_of last (note_write block ok first) (note_write block ok second) ≡ last_of last first
        second
    by None None = refl
    by (Some one) None = ap (λ (n : ℕ). Some n) (number one)
    by None (Some two) = ap (λ (n : ℕ). Some n) (number two)
    by (Some one) (Some two) = ap (λ (n : ℕ). Some n) (number two)
last-written last Noop block ok = refl
last-written last Unserved block ok = refl
last-written last Closed block ok = refl

pub last-flushed : (done : Option ℕ) (s : State) (block : ℕ) →
    done_after done (state_flushed block s) ≡ done_after done s
last-flushed last Waiting block = refl
last-flushed last (Out job) block = by job.first job.second
  where
    number : (lease : Lease) → (lease_flushed block lease).block ≡ lease.block
    number lease = pick (lease.block == block)
      where
        pick : (here : Bool) →
            (if here then record {
              block = lease.block;
              written = lease.written;
              flushed =
                  lease.written;
            } else lease).block ≡ lease.block
        pick true = refl
        pick false = refl

    by : (first second : Option Lease) →
        last_of last (note_flush block first) (note_flush block second) ≡ last_of last first second
    by None None = refl
    by (Some one) None = ap (λ (n : ℕ). Some n) (number one)
    by None (Some two) = ap (λ (n : ℕ). Some n) (number two)
    by (Some one) (Some two) = ap (λ (n : ℕ). Some n) (number two)
last-flushed last Noop block = refl
last-flushed last Unserved block = refl
last-flushed last Closed block = refl

-- ---- a job begins

unput-lease : (o : Option ℕ) (b : ℕ) → is_put_lease (lease_of o) b ≡ false
unput-lease None b = refl
unput-lease (Some n) b = off (n == b)
  where
    off : (here : Bool) → (here && false) ≡ false
    off true = refl
    off false = refl

pub begins-unput : (tags : List Flag) (t : Track) (b : ℕ) → is_put (Out (next_job tags t)) b ≡ false
begins-unput tags t b = by t.applied (next_block tags t t.done)
  where
    by : (applied : Bool) (o : Option ℕ) →
        is_put (Out (if applied then record { first = None; second = None } else job_from tags t o))
        b ≡ false
    by true o = refl
    by false None = refl
    by false (Some m) = rw (unput-lease (Some m) b, unput-lease (next_block tags t (Some m)) b) refl

fresh-undone : (n b : ℕ) → n ≡ b → is_undone_lease (lease_of (Some n)) b ≡ true
fresh-undone n b same = let test : (n == b) ≡ true = same_test n b same in rw test refl

-- a wanted block up to the last one that a new job has is one that it has still to write
pub begins-undone : (tags : List Flag) (t : Track) (b : ℕ) → t.applied ≡ false →
    is_wanted tags t t.done b ≡ true → b < length tags →
    is_above (done_after t.done (Out (next_job tags t))) b ≡ false →
    is_undone (Out (next_job tags t)) b ≡ true
begins-undone tags t b idle wanted within below =
    let same : next_job tags t ≡ job_from tags t (next_block tags t t.done) = rw idle refl in
    rw same (by (next_block tags t t.done) refl (rw same at below))
  where
    second : (m : ℕ) → m < b → (o : Option ℕ) → next_block tags t (Some m) ≡ o →
        is_above (last_of t.done (lease_of (Some m)) (lease_of o)) b ≡ false →
        is_undone_lease (lease_of o) b ≡ true
    second m less o found last =
        let w = wants tags t t.done b wanted in
        let test : nat_lt m b ≡ true = grind (arith, nat_tests) in
        let more : is_wanted tags t (Some m) b ≡ true = wanted-by tags t (Some m) b
        (record { file = w.file; above = test; mapped = w.mapped; meeting = w.meeting }) in
        pick o found last test more
      where
        pick : (o : Option ℕ) → next_block tags t (Some m) ≡ o →
            is_above (last_of t.done (lease_of (Some m)) (lease_of o)) b ≡ false →
            nat_lt m b ≡ true →
            is_wanted tags t (Some m) b ≡ true → is_undone_lease (lease_of o) b ≡ true
        pick None found last test more = absurd (no_clash (nat_lt m b) test last)
        pick (Some n) found last test more = elim (cases_lt b n) [
          | inl early ↦ absurd
              (no_clash (is_wanted tags t (Some m) b) more
              (find-first (is_wanted tags t (Some m)) 0 (length tags) n b found (omega arith)
              early))
          | inr up ↦ elim (same_or_not n b) [
            | inl same ↦ fresh-undone n b same
            | inr other ↦ let own : nat_lt n b ≡ true = grind (arith, nat_tests) in
                absurd (no_clash (nat_lt n b) own last)
          ]
        ]

    by : (o : Option ℕ) → next_block tags t t.done ≡ o →
        is_above (done_after t.done (Out (job_from tags t o))) b ≡ false →
        is_undone (Out (job_from tags t o)) b ≡ true
    by None found last =
        absurd (no_clash (is_wanted tags t t.done b) wanted
        (find-none (is_wanted tags t t.done) 0 (length tags) b found (omega arith) (omega arith)))
    by (Some m) found last = elim (cases_lt b m) [
      | inl early ↦ absurd
          (no_clash (is_wanted tags t t.done b) wanted
          (find-first (is_wanted tags t t.done) 0 (length tags) m b found (omega arith) early))
      | inr up ↦ elim (same_or_not m b) [
        | inl same ↦ or-left (is_undone_lease (lease_of (Some m)) b)
            (is_undone_lease (lease_of (next_block tags t (Some m))) b) (fresh-undone m b same)
        | inr other ↦ or_right (is_undone_lease (lease_of (Some m)) b)
            (is_undone_lease (lease_of (next_block tags t (Some m))) b)
            (second m (omega arith) (next_block tags t (Some m)) refl last)
      ]
    ]

-- ---- a job ends

-- up to the blocks that were done before, a job has nothing to do
pub back-below : (done : Option ℕ) (s : State) (b : ℕ) →
    ((n : ℕ) → has_block s n ≡ true → is_above done n ≡ true) → is_above done b ≡ false →
    (is_above (done_after done s) b ≡ false) × (is_undone s b ≡ false)
back-below last s b wanted below = (above s wanted, undone (is_undone s b) refl)
  where
    undone : (u : Bool) → is_undone s b ≡ u → u ≡ false
    undone true is = absurd (no_clash (is_above last b) (wanted b (undone-has s b is)) below)
    undone false is = refl

    behind : (n : ℕ) → is_above last n ≡ true → nat_lt n b ≡ false
    behind n up = by (nat_lt n b) refl
      where
        by : (u : Bool) → nat_lt n b ≡ u → u ≡ false
        by true is =
            absurd (no_clash (is_above last b) (above-more last n b up (is-below n b is)) below)
        by false is = refl

    above : (t : State) → ((n : ℕ) → has_block t n ≡ true → is_above last n ≡ true) →
        is_above (done_after last t) b ≡ false
    above Waiting w = below
    above (Out job) w = by job.first job.second (λ n h. w n h)
      where
        by : (first second : Option Lease) →
            ((n : ℕ) → (is_lease first n || is_lease second n) ≡ true → is_above last n ≡ true) →
            is_above (last_of last first second) b ≡ false
        by None None w = below
        by (Some one) None w =
            behind one.block
            (w one.block
            (or-left (one.block == one.block) false (same_test one.block one.block refl)))
        by None (Some two) w = behind two.block (w two.block (same_test two.block two.block refl))
        by (Some one) (Some two) w =
            behind two.block
            (w two.block
            (or_right (one.block == two.block) (two.block == two.block)
            (same_test two.block two.block refl)))
    above Noop w = below
    above Unserved w = below
    above Closed w = below

-- ---- the bytes that are written

pub record IsPiece (bytes : List ℕ) (span : Span) (block p : ℕ) : Type 0 where
  pub low : start_in span block ≤ p
  pub high : p < start_in span block + length (piece_in bytes span block)
  pub byte : get_or (piece_in bytes span block) (p - start_in span block) 0 ≡ byte_at bytes span p

pub piece-at : (bytes : List ℕ) (span : Span) (block p : ℕ) → IsShaped bytes span → Holds span p →
    p / BLOCK_LEN ≡ block → IsPiece bytes span block p
piece-at bytes Nothing block p shaped holds here = absurd shaped
piece-at bytes (Range from to) block p shaped holds here =
    let start : ℕ = max from (BLOCK_LEN * block) in
    let end : ℕ = min to (BLOCK_LEN * block + BLOCK_LEN) in
    let lasts : length (take (end - start) (drop (start - from) bytes)) ≡ min (end - start)
    (length (drop (start - from) bytes)) = length-take (end - start) (drop (start - from) bytes)
    in
    let rest : length (drop (start - from) bytes) ≡ length bytes - (start - from) =
    length-drop (start - from) bytes in
    let first : get_or (take (end - start) (drop (start - from) bytes)) (p - start) 0 ≡ get_or
    (drop (start - from) bytes) (p - start) 0 =
    get_or-take (end - start) (drop (start - from) bytes) (p - start) 0 (omega arith) in
    let then_ : get_or (drop (start - from) bytes) (p - start) 0 ≡ get_or bytes
    (start - from + (p - start)) 0 = get_or-drop (start - from) bytes (p - start) 0 in
    let number : start - from + (p - start) ≡ p - from = omega arith in
    record {
      low = omega arith;
      high = omega arith;
      byte = first
          ∙ (then_ ∙ ap (λ (n : ℕ). get_or bytes n 0) number);
    }
piece-at bytes (From from) block p shaped holds here =
    let start : ℕ = max from (BLOCK_LEN * block) in
    let lasts : length (piece_in bytes (From from) block) ≡ BLOCK_LEN * block + BLOCK_LEN - start =
    length-replicate {A = ℕ} (BLOCK_LEN * block + BLOCK_LEN - start) 0 in
    record {
      low = omega arith;
      high = omega arith;
      byte =
          get_or-replicate (BLOCK_LEN * block + BLOCK_LEN - start) (p - start) 0 0 (omega arith);
    }
