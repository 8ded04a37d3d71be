-- A job as its steps leave it.
use Rattle.std.proofs.Common.{ℕ, ◌+◌, ◌-◌, ◌≡◌, ◌&&◌, Bool, true, false, not, nat_lt, if◌then◌else◌}
use Rattle.std.proofs.Common.{Option, Some, None, Result, Ok, Err, OnOk, OnErr, List, [], ◌∷◌}
use Rattle.std.proofs.Common.{length, is_ok, is_some, refl, sym, ap, subst, arith}
use Rattle.std.proofs.Props.{props}
use Rattle.cfs_file.specs.declared.span.Span.{Span}
use Rattle.cfs_core.proofs.Legal.{both}
use Rattle.cfs_pmem.specs.declared.trace.Asked.{Asked}
use Rattle.cfs_pmem.specs.Images.{Seen, WordStep}
use Rattle.cfs_block.specs.BlockImages.{BlockStep, content_of}
use Rattle.cfs_job.specs.declared.tile.Tile.{Tile}
use Rattle.cfs_job.specs.declared.lent.Lent.{Lent}
use Rattle.cfs_job.specs.Ops.{count_in, place_in}
use Rattle.cfs_job.specs.Tiles.{lent_in, tile_in, tile_of}
use Rattle.cfs_job.proofs.OpLemmas.{ranged_from_same}
use Rattle.cfs_job.specs.declared.turn.Turn.{Turn}
use Rattle.cfs_job.specs.declared.turn.Turn.TheVariants as turns
use Rattle.cfs_job.specs.Stands.{IsDurable, IsOpen, IsOpenFor, IsSound, IsSpanFor, IsSpanOf, Keeps}
use Rattle.cfs_job.specs.Stands.{ReadsAsNoted, StaysOutside, TileKeeps, are_touched, is_touched}
use Rattle.cfs_job.specs.Stands.{is_touched_by}
use Rattle.cfs_job.specs.Steps.{Flushes, Writes, is_unflushed, is_unwritten, next_turn, one_if, steps_left}
use Rattle.cfs_job.specs.Views.{JobView, TileView, anew_tile, payload_seen}
use Rattle.cfs_job.proofs.KeepLemmas.{flush_keeps, write_keeps}

-- ---- which turn it is, by the tests: a block is not written, or not flushed

abbrev turn_by : Bool → Bool → Bool → Bool → Turn
turn_by a b c d =
    if a then turns.WriteFirst
    else (if b then turns.WriteSecond else (if c then turns.FlushFirst else (if d then turns.FlushSecond else turns.Nothing)))

write_first_is : (a b c d : Bool) → turns.WriteFirst ≡ turn_by a b c d → a ≡ true
write_first_is true b c d e = refl
write_first_is false true c d e = absurd (cc)
write_first_is false false true d e = absurd (cc)
write_first_is false false false true e = absurd (cc)
write_first_is false false false false e = absurd (cc)

write_second_is : (a b c d : Bool) → turns.WriteSecond ≡ turn_by a b c d → b ≡ true
write_second_is true b c d e = absurd (cc)
write_second_is false true c d e = refl
write_second_is false false true d e = absurd (cc)
write_second_is false false false true e = absurd (cc)
write_second_is false false false false e = absurd (cc)

flush_first_is : (a b c d : Bool) → turns.FlushFirst ≡ turn_by a b c d → (a ≡ false) × (c ≡ true)
flush_first_is true b c d e = absurd (cc)
flush_first_is false true c d e = absurd (cc)
flush_first_is false false true d e = (refl, refl)
flush_first_is false false false true e = absurd (cc)
flush_first_is false false false false e = absurd (cc)

flush_second_is : (a b c d : Bool) → turns.FlushSecond ≡ turn_by a b c d → (b ≡ false) × (d ≡ true)
flush_second_is true b c d e = absurd (cc)
flush_second_is false true c d e = absurd (cc)
flush_second_is false false true d e = absurd (cc)
flush_second_is false false false true e = (refl, refl)
flush_second_is false false false false e = absurd (cc)

nothing_is : (a b c d : Bool) → turns.Nothing ≡ turn_by a b c d → (one_if a + one_if b) + (one_if c + one_if d) ≡ 0
nothing_is true b c d e = absurd (cc)
nothing_is false true c d e = absurd (cc)
nothing_is false false true d e = absurd (cc)
nothing_is false false false true e = absurd (cc)
nothing_is false false false false e = refl

pub turn_write_first : (job : JobView) → turns.WriteFirst ≡ next_turn job → is_unwritten job.first ≡ true
turn_write_first job e = write_first_is (is_unwritten job.first) (is_unwritten job.second) (is_unflushed job.first) (is_unflushed job.second) e

pub turn_write_second : (job : JobView) → turns.WriteSecond ≡ next_turn job → is_unwritten job.second ≡ true
turn_write_second job e = write_second_is (is_unwritten job.first) (is_unwritten job.second) (is_unflushed job.first) (is_unflushed job.second) e

pub turn_flush_first : (job : JobView) → turns.FlushFirst ≡ next_turn job → (is_unwritten job.first ≡ false) × (is_unflushed job.first ≡ true)
turn_flush_first job e = flush_first_is (is_unwritten job.first) (is_unwritten job.second) (is_unflushed job.first) (is_unflushed job.second) e

pub turn_flush_second : (job : JobView) → turns.FlushSecond ≡ next_turn job → (is_unwritten job.second ≡ false) × (is_unflushed job.second ≡ true)
turn_flush_second job e = flush_second_is (is_unwritten job.first) (is_unwritten job.second) (is_unflushed job.first) (is_unflushed job.second) e

pub turn_nothing : (job : JobView) → turns.Nothing ≡ next_turn job → steps_left job ≡ 0
turn_nothing job e = nothing_is (is_unwritten job.first) (is_unwritten job.second) (is_unflushed job.first) (is_unflushed job.second) e

-- ---- what is known of a block by its tests

not_true : (b : Bool) → not b ≡ true → b ≡ false
not_true true e = cc
not_true false e = refl

not_false : (b : Bool) → not b ≡ false → b ≡ true
not_false true e = refl
not_false false e = cc

pub unwritten_is : (tile : Option TileView) (was : TileView) → tile ≡ Some was → is_unwritten tile ≡ true → was.written ≡ false
unwritten_is tile was is e = not_true was.written (subst (λ t. is_unwritten t ≡ true) is e)

pub written_is : (tile : Option TileView) (was : TileView) → tile ≡ Some was → is_unwritten tile ≡ false → was.written ≡ true
written_is tile was is e = not_false was.written (subst (λ t. is_unwritten t ≡ false) is e)

pub unflushed_is : (tile : Option TileView) (was : TileView) → tile ≡ Some was → is_unflushed tile ≡ true → was.flushed ≡ false
unflushed_is tile was is e = not_true was.flushed (subst (λ t. is_unflushed t ≡ true) is e)

-- ---- the blocks that a sound job has

pub touched_first : {slots : List (Seen WordStep)} {place : ℕ} {s : Span} {was : TileView} (second : Option TileView) → IsSound slots place s (Some was) second → is_touched s was.at ≡ true
touched_first None h = h.touched
touched_first {slots} {place} {s} {was} (Some tile) h = (both (is_touched s was.at) (is_touched s tile.at && nat_lt was.at tile.at) h.touched).0

pub touched_second : {slots : List (Seen WordStep)} {place : ℕ} {s : Span} {was : TileView} (first : Option TileView) → IsSound slots place s first (Some was) → is_touched s was.at ≡ true
touched_second {slots} {place} {s} {was} None h = let none = h.touched in cc
touched_second {slots} {place} {s} {was} (Some tile) h =
    (both (is_touched s was.at) (nat_lt tile.at was.at) (both (is_touched s tile.at) (is_touched s was.at && nat_lt tile.at was.at) h.touched).1).0

same_first : (s : Span) (was now : TileView) (second : Option TileView) → now.at ≡ was.at → are_touched s (Some was) second ≡ true → are_touched s (Some now) second ≡ true
same_first s was now None at h = subst (λ n. is_touched s n ≡ true) (sym at) h
same_first s was now (Some tile) at h = subst (λ n. (is_touched s n && (is_touched s tile.at && nat_lt n tile.at)) ≡ true) (sym at) h

same_second : (s : Span) (was now : TileView) (first : Option TileView) → now.at ≡ was.at → are_touched s first (Some was) ≡ true → are_touched s first (Some now) ≡ true
same_second s was now None at h = h
same_second s was now (Some tile) at h = subst (λ n. (is_touched s tile.at && (is_touched s n && nat_lt tile.at n)) ≡ true) (sym at) h

-- and the positions of its request

has_first : (s : Span) (was : TileView) (first : Option TileView) →
    are_touched s first (Some was) ≡ true → is_some first ≡ true
has_first s was None touched = cc
has_first s was (Some tile) touched = refl

spans_second : {slots : List (Seen WordStep)} {place : ℕ} {s : Span} (was : TileView)
    (first : Option TileView) → IsSound slots place s first (Some was) → IsSpanOf s slots
spans_second {slots} {place} {s} was first h = h.spans (has_first s was first h.touched)

pub sound_first : {slots : List (Seen WordStep)} {place : ℕ} {s : Span} {second : Option TileView} (was now : TileView) → now.at ≡ was.at
    → (TileKeeps (payload_seen slots) s was → TileKeeps (payload_seen slots) s now) → IsSound slots place s (Some was) second → IsSound slots place s (Some now) second
sound_first {slots} {place} {s} {second} was now at keeps h = record {
  spans = h.spans;
  touched = same_first s was now second at h.touched;
  opened = h.opened;
  of_first = keeps h.of_first;
  of_second = h.of_second;
}

pub sound_second : {slots : List (Seen WordStep)} {place : ℕ} {s : Span} {first : Option TileView} (was now : TileView) → now.at ≡ was.at
    → (TileKeeps (payload_seen slots) s was → TileKeeps (payload_seen slots) s now) → IsSound slots place s first (Some was) → IsSound slots place s first (Some now)
sound_second {slots} {place} {s} {first} was now at keeps h = record {
  spans = h.spans;
  touched = same_second s was now first at h.touched;
  opened = h.opened;
  of_first = h.of_first;
  of_second = keeps h.of_second;
}

-- ---- and behind a step of each kind

pub sound_write_first : {T E : Type 0} {obeys_slots obeys_block keeps : Bool} {slots : List (Seen WordStep)} {place : ℕ} {s : Span} {second : Option TileView}
    {asked_old asked_new : List Asked} (was now : TileView) (result : Result T E) → length (content_of was.seen).bytes ≡ 4096
    → Writes obeys_slots obeys_block keeps slots s result asked_old was asked_new now → IsSound slots place s (Some was) second → IsSound slots place s (Some now) second
sound_write_first {T} {E} {obeys_slots} {obeys_block} {keeps} {slots} {place} {s} {second} was now result full w h =
    sound_first was now (ap (λ (t : TileView). t.at) w.noted)
    (write_keeps was now result (h.spans refl) (touched_first second h) full w) h

pub sound_write_second : {T E : Type 0} {obeys_slots obeys_block keeps : Bool} {slots : List (Seen WordStep)} {place : ℕ} {s : Span} {first : Option TileView}
    {asked_old asked_new : List Asked} (was now : TileView) (result : Result T E) → length (content_of was.seen).bytes ≡ 4096
    → Writes obeys_slots obeys_block keeps slots s result asked_old was asked_new now → IsSound slots place s first (Some was) → IsSound slots place s first (Some now)
sound_write_second {T} {E} {obeys_slots} {obeys_block} {keeps} {slots} {place} {s} {first} was now result full w h =
    sound_second was now (ap (λ (t : TileView). t.at) w.noted)
    (write_keeps was now result (spans_second was first h) (touched_second first h) full w) h

pub sound_flush_first : {T E : Type 0} {obeys_block keeps : Bool} {slots : List (Seen WordStep)} {place : ℕ} {s : Span} {second : Option TileView}
    {asked_old asked_new : List Asked} (was now : TileView) (result : Result T E) → was.written ≡ true
    → Flushes obeys_block keeps result asked_old was asked_new now → IsSound slots place s (Some was) second → IsSound slots place s (Some now) second
sound_flush_first {T} {E} {obeys_block} {keeps} {slots} {place} {s} {second} was now result written f h =
    sound_first was now (ap (λ (t : TileView). t.at) f.noted) (flush_keeps was now result written f) h

pub sound_flush_second : {T E : Type 0} {obeys_block keeps : Bool} {slots : List (Seen WordStep)} {place : ℕ} {s : Span} {first : Option TileView}
    {asked_old asked_new : List Asked} (was now : TileView) (result : Result T E) → was.written ≡ true
    → Flushes obeys_block keeps result asked_old was asked_new now → IsSound slots place s first (Some was) → IsSound slots place s first (Some now)
sound_flush_second {T} {E} {obeys_block} {keeps} {slots} {place} {s} {first} was now result written f h =
    sound_second was now (ap (λ (t : TileView). t.at) f.noted) (flush_keeps was now result written f) h

-- ---- how many steps are left

pub record IsCounted {T E : Type 0} (result : Result T E) (old new : ℕ) : Type 0 where
  pub ok : OnOk result (new ≡ old - 1)
  pub err : OnErr result (new ≡ old)

one : (b : Bool) → b ≡ false → one_if (not b) ≡ 1
one b e = ap (λ x. one_if (not x)) e

none : (b : Bool) → b ≡ true → one_if (not b) ≡ 0
none b e = ap (λ x. one_if (not x)) e

pub count_written : {T E : Type 0} (result : Result T E) (w f w_new f_new : Bool) (b d : ℕ) → w ≡ false → f ≡ false → w_new ≡ is_ok result → f_new ≡ false
    → IsCounted result ((one_if (not w) + b) + (one_if (not f) + d)) ((one_if (not w_new) + b) + (one_if (not f_new) + d))
count_written (Ok t) w f w_new f_new b d e1 e2 e3 e4 =
    let a1 = one w e1 in let a2 = one f e2 in let a3 = none w_new e3 in let a4 = one f_new e4 in
    record { ok = omega arith; err = tt }
count_written (Err e) w f w_new f_new b d e1 e2 e3 e4 =
    let a1 = one w e1 in let a2 = one f e2 in let a3 = one w_new e3 in let a4 = one f_new e4 in
    record { ok = tt; err = omega arith }

pub count_flushed : {T E : Type 0} (result : Result T E) (f f_new : Bool) (u d : ℕ) → f ≡ false → f_new ≡ is_ok result
    → IsCounted result (u + (one_if (not f) + d)) (u + (one_if (not f_new) + d))
count_flushed (Ok t) f f_new u d e1 e2 = let a1 = one f e1 in let a2 = none f_new e2 in record { ok = omega arith; err = tt }
count_flushed (Err e) f f_new u d e1 e2 = let a1 = one f e1 in let a2 = one f_new e2 in record { ok = tt; err = omega arith }

pub swapped : {T E : Type 0} {result : Result T E} (a b c d a_new c_new : ℕ) → IsCounted result ((a + b) + (c + d)) ((a_new + b) + (c_new + d))
    → IsCounted result ((b + a) + (d + c)) ((b + a_new) + (d + c_new))
swapped {T} {E} {result} a b c d a_new c_new h =
    let old : (a + b) + (c + d) ≡ (b + a) + (d + c) = omega arith in
    let new : (a_new + b) + (c_new + d) ≡ (b + a_new) + (d + c_new) = omega arith in
    subst (λ n. IsCounted result n ((b + a_new) + (d + c_new))) old (subst (λ n. IsCounted result ((a + b) + (c + d)) n) new h)

-- ---- a new job

keeps_new : {B : Type 0} (seen : B → Seen BlockStep) (number : B → ℕ) (payload : List ℕ) (s : Span) (lent : Option (Lent B)) → Keeps payload s (tile_of seen number lent)
keeps_new seen number payload s None = tt
keeps_new seen number payload s (Some lent) = record {
  others = ranged_from_same (seen lent.block) (place_in s lent.at) (count_in s lent.at);
  order = λ e. absurd (cc);
  written = λ e. absurd (cc);
  flushed = λ e. absurd (cc);
}

opened_new : {B : Type 0} (seen : B → Seen BlockStep) (number : B → ℕ) (slots : List (Seen WordStep)) (place : ℕ) (lent : Option (Lent B))
    → IsOpenFor lent slots place → IsOpenFor (tile_of seen number lent) slots place
opened_new seen number slots place None h = tt
opened_new seen number slots place (Some lent) h = h

spans_new : {B : Type 0} (seen : B → Seen BlockStep) (number : B → ℕ)
    (slots : List (Seen WordStep)) (s : Span) (lent : Option (Lent B)) → IsSpanFor lent s slots →
    IsSpanFor (tile_of seen number lent) s slots
spans_new seen number slots s None h = λ some. absurd (cc)
spans_new seen number slots s (Some lent) h = h

pub sound_new : {B : Type 0} (seen : B → Seen BlockStep) (number : B → ℕ) (slots : List (Seen WordStep)) (place : ℕ) (s : Span) (first second : Option (Lent B))
    → IsSpanFor first s slots →
    are_touched s (tile_of seen number first) (tile_of seen number second) ≡ true →
    IsOpenFor first slots place
    → IsSound slots place s (tile_of seen number first) (tile_of seen number second)
sound_new seen number slots place s first second spans touched opened = record {
  spans = spans_new seen number slots s first spans;
  touched = touched;
  opened = opened_new seen number slots place first opened;
  of_first = keeps_new seen number (payload_seen slots) s first;
  of_second = keeps_new seen number (payload_seen slots) s second;
}

-- ---- a block that was not written is one that the span touches

pub touched_by_first : {slots : List (Seen WordStep)} {place : ℕ} {s : Span} {second : Option TileView} (first : Option TileView)
    → IsSound slots place s first second → is_unwritten first ≡ true → is_touched_by s first ≡ true
touched_by_first None h e = absurd (cc)
touched_by_first {slots} {place} {s} {second} (Some was) h e = touched_first second h

pub touched_by_second : {slots : List (Seen WordStep)} {place : ℕ} {s : Span} {first : Option TileView} (second : Option TileView)
    → IsSound slots place s first second → is_unwritten second ≡ true → is_touched_by s second ≡ true
touched_by_second None h e = absurd (cc)
touched_by_second {slots} {place} {s} {first} (Some was) h e = touched_second first h

pub spans_by_first : {slots : List (Seen WordStep)} {place : ℕ} {s : Span}
    {second : Option TileView} (first : Option TileView) → IsSound slots place s first second →
    is_unwritten first ≡ true → IsSpanOf s slots
spans_by_first None h e = absurd (cc)
spans_by_first (Some was) h e = h.spans refl

pub spans_by_second : {slots : List (Seen WordStep)} {place : ℕ} {s : Span}
    {first : Option TileView} (second : Option TileView) → IsSound slots place s first second →
    is_unwritten second ≡ true → IsSpanOf s slots
spans_by_second None h e = absurd (cc)
spans_by_second {slots} {place} {s} {first} (Some was) h e = spans_second was first h

-- ---- what stands between the steps

pub stays_outside : (payload : List ℕ) (s : Span) (tile : Option TileView) → Keeps payload s tile → StaysOutside s tile
stays_outside payload s None h = tt
stays_outside payload s (Some tile) h = λ image i. ∣ h.others image i ∣₁

pub reads_noted : (payload : List ℕ) (s : Span) (tile : Option TileView) → Keeps payload s tile → ReadsAsNoted payload s tile
reads_noted payload s None h = tt
reads_noted payload s (Some tile) h = record { order = h.order; reads = h.written }

flushed_up : (b : Bool) → one_if (not b) ≡ 0 → b ≡ true
flushed_up true e = refl
flushed_up false e = absurd (omega (arith, e))

pub is_durable : (payload : List ℕ) (s : Span) (tile : Option TileView) → one_if (is_unflushed tile) ≡ 0 → Keeps payload s tile → IsDurable payload s tile
is_durable payload s None e h = tt
is_durable payload s (Some tile) e h = h.flushed (flushed_up tile.flushed e)

-- each of these has one proof at most

pub outside_prop : (s : Span) (tile : Option TileView) → IsProp (StaysOutside s tile)
outside_prop s None = hlevel props
outside_prop s (Some tile) = hlevel props

pub reads_prop : (payload : List ℕ) (s : Span) (tile : Option TileView) → IsProp (ReadsAsNoted payload s tile)
reads_prop payload s None = hlevel props
reads_prop payload s (Some tile) = hlevel props

pub durable_prop : (payload : List ℕ) (s : Span) (tile : Option TileView) → IsProp (IsDurable payload s tile)
durable_prop payload s None = hlevel props
durable_prop payload s (Some tile) = hlevel props

open_prop : (slots : List (Seen WordStep)) (place : ℕ) → IsProp (IsOpen slots place)
open_prop [] place = hlevel props
open_prop (head ∷ tails) place = hlevel props

pub opened_prop : {A : Type 0} (block : Option A) (slots : List (Seen WordStep)) (place : ℕ) → IsProp (IsOpenFor block slots place)
opened_prop None slots place = hlevel props
opened_prop (Some block) slots place = open_prop slots place

pub opened_in : {B : Type 0} (seen : B → Seen BlockStep) (number : B → ℕ) (slots : List (Seen WordStep)) (place : ℕ) (tile : Option (Tile B))
    → IsOpenFor (tile_in seen number tile) slots place → IsOpenFor (lent_in tile) slots place
opened_in seen number slots place None h = tt
opened_in seen number slots place (Some tile) h = h

-- none is left
pub none_unflushed : (a b c d : Bool) → (one_if a + one_if b) + (one_if c + one_if d) ≡ 0 → (one_if c ≡ 0) × (one_if d ≡ 0)
none_unflushed a b c d e = (omega (arith, e), omega (arith, e))

-- ---- a job that is taken apart

pub given_anew : {B : Type 0} (seen : B → Seen BlockStep) (number : B → ℕ) (tile : Option (Tile B)) → tile_of seen number (lent_in tile) ≡ anew_tile (tile_in seen number tile)
given_anew seen number None = refl
given_anew seen number (Some tile) = refl
