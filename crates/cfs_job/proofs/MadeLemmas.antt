-- One step of a job, by its turn.
use Rattle.std.proofs.Common.{ℕ, ◌+◌, ◌≡◌, ◌∙◌, Bool, true, false, not, Option, Some, None, Result, List, length, if◌then◌else◌, is_ok, refl, sym, ap, subst}
use Rattle.std.proofs.Props.{props}
use Rattle.std.proofs.Math.Logic.{∥∥₁_elim, ∥∥₁_map}
use Rattle.cfs_file.specs.declared.span.Span.{Span}
use Rattle.cfs_pmem.specs.declared.trace.Asked.{Asked}
use Rattle.cfs_pmem.specs.Images.{Seen, WordStep}
use Rattle.cfs_block.specs.BlockImages.{BlockStep, content_of}
use Rattle.cfs_core.specs.declared.state.Job.{Job}
use Rattle.cfs_core.specs.Jobs.{job_flushed, job_written}
use Rattle.cfs_job.specs.declared.tile.Tile.{Tile}
use Rattle.cfs_job.specs.declared.turn.Turn.TheVariants as turns
use Rattle.cfs_job.specs.Stands.{IsFull, IsSound, TileKeeps, are_touched}
use Rattle.cfs_job.specs.Steps.{Flushes, IsStepOn, MakesTurn, Writes, at_of, core_job, is_unflushed, is_unwritten, lease_in, next_turn, noted, one_if, steps_left}
use Rattle.cfs_job.specs.Tiles.{tile_in, tile_view}
use Rattle.cfs_job.specs.Views.{JobView, TileView}
use Rattle.cfs_job.proofs.NoteLemmas.{flush_notes_first, flush_notes_second, not_at_first, not_at_second, write_notes_first, write_notes_second}
use Rattle.cfs_job.proofs.JobLemmas.{IsCounted, count_flushed, count_written, sound_flush_first, sound_flush_second, sound_write_first, sound_write_second, swapped, turn_flush_first, turn_flush_second, turn_write_first, turn_write_second, unflushed_is, unwritten_is, written_is}

-- all that is said of a step
pub record Made {T E : Type 0} (obeys_slots obeys_block keeps : Bool) (result : Result T E) (asked_old : List Asked) (old : JobView)
    (asked_new : List Asked) (new : JobView) : Type 0 where
  pub makes : MakesTurn obeys_slots obeys_block keeps (next_turn old) result asked_old old asked_new new
  pub counted : IsCounted result (steps_left old) (steps_left new)
  pub notes : core_job new ≡ noted (next_turn old) (is_ok result) old
  pub sound : ∥ IsSound new.slots new.place new.span new.first new.second ∥₁

-- a block has 4096 bytes
pub full_in : {B : Type 0} (seen : B → Seen BlockStep) (number : B → ℕ) → ((block : B) → length (content_of (seen block)).bytes ≡ 4096)
    → (tile : Option (Tile B)) (was : TileView) → tile_in seen number tile ≡ Some was → length (content_of was.seen).bytes ≡ 4096
full_in seen number full None was is = absurd (cc)
full_in seen number full (Some tile) was is =
    let same : tile_view seen number tile ≡ was = cc in
    subst (λ (t : TileView). length (content_of t.seen).bytes ≡ 4096) same (full tile.block)

pub full_tile : {B : Type 0} (seen : B → Seen BlockStep) (number : B → ℕ)
    → ((block : B) → length (content_of (seen block)).bytes ≡ 4096)
    → (tile : Option (Tile B)) → IsFull (tile_in seen number tile)
full_tile seen number full None = tt
full_tile seen number full (Some tile) = full tile.block

-- what was not written was not flushed
not_flushed : {payload : List ℕ} {s : Span} (was : TileView) → TileKeeps payload s was → was.written ≡ false → was.flushed ≡ false
not_flushed was h e = go was.flushed refl
  where
    go : (f : Bool) → was.flushed ≡ f → f ≡ false
    go true is = let up : was.written ≡ true = h.order is in cc
    go false is = refl

abbrev job_of : Option TileView → Option TileView → Job
job_of first second = record { first = lease_in first; second = lease_in second }

abbrev left_of : Option TileView → Option TileView → ℕ
left_of first second = (one_if (is_unwritten first) + one_if (is_unwritten second)) + (one_if (is_unflushed first) + one_if (is_unflushed second))

pub write_first : {T E : Type 0} {obeys_slots obeys_block keeps : Bool} {result : Result T E} {asked_old asked_new : List Asked}
    (old : JobView) (place : ℕ) (slots : List (Seen WordStep)) (first : Option TileView) → turns.WriteFirst ≡ next_turn old
    → ∥ IsSound old.slots old.place old.span old.first old.second ∥₁ → place ≡ old.place → slots ≡ old.slots
    → ((was : TileView) → old.first ≡ Some was → length (content_of was.seen).bytes ≡ 4096)
    → IsStepOn (λ was now. Writes obeys_slots obeys_block keeps old.slots old.span result asked_old was asked_new now) old.first (λ now. Some now) first
    → Made obeys_slots obeys_block keeps result asked_old old asked_new (record { ino = old.ino; place = place; span = old.span; slots = slots; first = first; second = old.second })
write_first {T} {E} {obeys_slots} {obeys_block} {keeps} {result} {asked_old} {asked_new} old place slots first turn sound at same full h =
    let was : TileView = h.was in
    let now : TileView = h.now in
    let known : ∥ IsSound old.slots old.place old.span (Some was) old.second ∥₁ =
    subst (λ f. ∥ IsSound old.slots old.place old.span f old.second ∥₁) h.here sound in
    let unwritten : was.written ≡ false = unwritten_is old.first was h.here (turn_write_first old turn) in
    let unflushed : was.flushed ≡ false = ∥∥₁_elim known (hlevel props) (λ k. not_flushed was k.of_first unwritten) in
    let fit : length (content_of was.seen).bytes ≡ 4096 = full was h.here in
    let after : ∥ IsSound old.slots old.place old.span (Some now) old.second ∥₁ =
    ∥∥₁_map known (λ k. sound_write_first was now result fit h.step k) in
    let counted : IsCounted result
    ((one_if (not was.written) + one_if (is_unwritten old.second)) + (one_if (not was.flushed) + one_if (is_unflushed old.second)))
    ((one_if (not now.written) + one_if (is_unwritten old.second)) + (one_if (not now.flushed) + one_if (is_unflushed old.second))) =
    count_written result was.written was.flushed now.written now.flushed (one_if (is_unwritten old.second)) (one_if (is_unflushed old.second))
    unwritten unflushed (ap (λ (t : TileView). t.written) h.step.noted) (ap (λ (t : TileView). t.flushed) h.step.noted) in
    let touched : are_touched old.span (Some was) old.second ≡ true = ∥∥₁_elim known (hlevel props) (λ k. k.touched) in
    record {
      makes = subst (λ t. MakesTurn obeys_slots obeys_block keeps t result asked_old old asked_new
          (record { ino = old.ino; place = place; span = old.span; slots = slots; first = first; second = old.second })) turn
          record {
            was = was;
            now = now;
            here = h.here;
            is = ap (λ p. record { ino = old.ino; place = p; span = old.span; slots = slots; first = first; second = old.second }) at
                ∙ ap (λ ss. record { ino = old.ino; place = old.place; span = old.span; slots = ss; first = first; second = old.second }) same
                ∙ ap (λ f. record { ino = old.ino; place = old.place; span = old.span; slots = old.slots; first = f; second = old.second }) h.is;
            step = h.step;
          };
      counted = subst (λ f. IsCounted result (left_of f old.second) (left_of first old.second)) (sym h.here)
          (subst (λ f. IsCounted result (left_of (Some was) old.second) (left_of f old.second)) (sym h.is) counted);
      notes = subst (λ t. job_of first old.second ≡ noted t (is_ok result) old) turn
          (ap (λ f. job_of f old.second) h.is ∙ ap (λ (t : TileView). job_of (Some t) old.second) h.step.noted
          ∙ write_notes_first was.at was.written was.flushed (is_ok result) (lease_in old.second) (not_at_second old.span was old.second touched)
          ∙ ap (λ f. job_written (at_of f) (is_ok result) (job_of f old.second)) (sym h.here));
      sound = subst (λ p. ∥ IsSound slots p old.span first old.second ∥₁) (sym at)
          (subst (λ ss. ∥ IsSound ss old.place old.span first old.second ∥₁) (sym same)
          (subst (λ f. ∥ IsSound old.slots old.place old.span f old.second ∥₁) (sym h.is) after));
    }

pub write_second : {T E : Type 0} {obeys_slots obeys_block keeps : Bool} {result : Result T E} {asked_old asked_new : List Asked}
    (old : JobView) (place : ℕ) (slots : List (Seen WordStep)) (second : Option TileView) → turns.WriteSecond ≡ next_turn old
    → ∥ IsSound old.slots old.place old.span old.first old.second ∥₁ → place ≡ old.place → slots ≡ old.slots
    → ((was : TileView) → old.second ≡ Some was → length (content_of was.seen).bytes ≡ 4096)
    → IsStepOn (λ was now. Writes obeys_slots obeys_block keeps old.slots old.span result asked_old was asked_new now) old.second (λ now. Some now) second
    → Made obeys_slots obeys_block keeps result asked_old old asked_new (record { ino = old.ino; place = place; span = old.span; slots = slots; first = old.first; second = second })
write_second {T} {E} {obeys_slots} {obeys_block} {keeps} {result} {asked_old} {asked_new} old place slots second turn sound at same full h =
    let was : TileView = h.was in
    let now : TileView = h.now in
    let known : ∥ IsSound old.slots old.place old.span old.first (Some was) ∥₁ =
    subst (λ f. ∥ IsSound old.slots old.place old.span old.first f ∥₁) h.here sound in
    let unwritten : was.written ≡ false = unwritten_is old.second was h.here (turn_write_second old turn) in
    let unflushed : was.flushed ≡ false = ∥∥₁_elim known (hlevel props) (λ k. not_flushed was k.of_second unwritten) in
    let fit : length (content_of was.seen).bytes ≡ 4096 = full was h.here in
    let after : ∥ IsSound old.slots old.place old.span old.first (Some now) ∥₁ =
    ∥∥₁_map known (λ k. sound_write_second was now result fit h.step k) in
    let counted : IsCounted result
    ((one_if (is_unwritten old.first) + one_if (not was.written)) + (one_if (is_unflushed old.first) + one_if (not was.flushed)))
    ((one_if (is_unwritten old.first) + one_if (not now.written)) + (one_if (is_unflushed old.first) + one_if (not now.flushed))) =
    swapped (one_if (not was.written)) (one_if (is_unwritten old.first)) (one_if (not was.flushed)) (one_if (is_unflushed old.first)) (one_if (not now.written)) (one_if (not now.flushed))
    (count_written result was.written was.flushed now.written now.flushed (one_if (is_unwritten old.first)) (one_if (is_unflushed old.first))
    unwritten unflushed (ap (λ (t : TileView). t.written) h.step.noted) (ap (λ (t : TileView). t.flushed) h.step.noted)) in
    let touched : are_touched old.span old.first (Some was) ≡ true = ∥∥₁_elim known (hlevel props) (λ k. k.touched) in
    record {
      makes = subst (λ t. MakesTurn obeys_slots obeys_block keeps t result asked_old old asked_new
          (record { ino = old.ino; place = place; span = old.span; slots = slots; first = old.first; second = second })) turn
          record {
            was = was;
            now = now;
            here = h.here;
            is = ap (λ p. record { ino = old.ino; place = p; span = old.span; slots = slots; first = old.first; second = second }) at
                ∙ ap (λ ss. record { ino = old.ino; place = old.place; span = old.span; slots = ss; first = old.first; second = second }) same
                ∙ ap (λ f. record { ino = old.ino; place = old.place; span = old.span; slots = old.slots; first = old.first; second = f }) h.is;
            step = h.step;
          };
      counted = subst (λ f. IsCounted result (left_of old.first f) (left_of old.first second)) (sym h.here)
          (subst (λ f. IsCounted result (left_of old.first (Some was)) (left_of old.first f)) (sym h.is) counted);
      notes = subst (λ t. job_of old.first second ≡ noted t (is_ok result) old) turn
          (ap (λ f. job_of old.first f) h.is ∙ ap (λ (t : TileView). job_of old.first (Some t)) h.step.noted
          ∙ write_notes_second was.at was.written was.flushed (is_ok result) (lease_in old.first) (not_at_first old.span was old.first touched)
          ∙ ap (λ f. job_written (at_of f) (is_ok result) (job_of old.first f)) (sym h.here));
      sound = subst (λ p. ∥ IsSound slots p old.span old.first second ∥₁) (sym at)
          (subst (λ ss. ∥ IsSound ss old.place old.span old.first second ∥₁) (sym same)
          (subst (λ f. ∥ IsSound old.slots old.place old.span old.first f ∥₁) (sym h.is) after));
    }

pub flush_first : {T E : Type 0} {obeys_slots obeys_block keeps : Bool} {result : Result T E} {asked_old asked_new : List Asked}
    (old : JobView) (first : Option TileView) → turns.FlushFirst ≡ next_turn old
    → ∥ IsSound old.slots old.place old.span old.first old.second ∥₁
    → IsStepOn (λ was now. Flushes obeys_block keeps result asked_old was asked_new now) old.first (λ now. Some now) first
    → Made obeys_slots obeys_block keeps result asked_old old asked_new (record { ino = old.ino; place = old.place; span = old.span; slots = old.slots; first = first; second = old.second })
flush_first {T} {E} {obeys_slots} {obeys_block} {keeps} {result} {asked_old} {asked_new} old first turn sound h =
    let was : TileView = h.was in
    let now : TileView = h.now in
    let known : ∥ IsSound old.slots old.place old.span (Some was) old.second ∥₁ =
    subst (λ f. ∥ IsSound old.slots old.place old.span f old.second ∥₁) h.here sound in
    let tests = turn_flush_first old turn in
    let written : was.written ≡ true = written_is old.first was h.here tests.0 in
    let unflushed : was.flushed ≡ false = unflushed_is old.first was h.here tests.1 in
    let after : ∥ IsSound old.slots old.place old.span (Some now) old.second ∥₁ =
    ∥∥₁_map known (λ k. sound_flush_first was now result written h.step k) in
    let kept : now.written ≡ was.written = ap (λ (t : TileView). t.written) h.step.noted in
    let flushed : IsCounted result
    ((one_if (not was.written) + one_if (is_unwritten old.second)) + (one_if (not was.flushed) + one_if (is_unflushed old.second)))
    ((one_if (not was.written) + one_if (is_unwritten old.second)) + (one_if (not now.flushed) + one_if (is_unflushed old.second))) =
    count_flushed result was.flushed now.flushed (one_if (not was.written) + one_if (is_unwritten old.second)) (one_if (is_unflushed old.second))
    unflushed (ap (λ (t : TileView). t.flushed) h.step.noted) in
    let counted : IsCounted result (left_of (Some was) old.second) (left_of (Some now) old.second) =
    subst (λ w. IsCounted result (left_of (Some was) old.second) ((one_if (not w) + one_if (is_unwritten old.second)) + (one_if (not now.flushed) + one_if (is_unflushed old.second)))) (sym kept) flushed in
    let touched : are_touched old.span (Some was) old.second ≡ true = ∥∥₁_elim known (hlevel props) (λ k. k.touched) in
    record {
      makes = subst (λ t. MakesTurn obeys_slots obeys_block keeps t result asked_old old asked_new
          (record { ino = old.ino; place = old.place; span = old.span; slots = old.slots; first = first; second = old.second })) turn
          record {
            was = was;
            now = now;
            here = h.here;
            is = ap (λ f. record { ino = old.ino; place = old.place; span = old.span; slots = old.slots; first = f; second = old.second }) h.is;
            step = h.step;
          };
      counted = subst (λ f. IsCounted result (left_of f old.second) (left_of first old.second)) (sym h.here)
          (subst (λ f. IsCounted result (left_of (Some was) old.second) (left_of f old.second)) (sym h.is) counted);
      notes = subst (λ t. job_of first old.second ≡ noted t (is_ok result) old) turn
          (ap (λ f. job_of f old.second) h.is ∙ ap (λ (t : TileView). job_of (Some t) old.second) h.step.noted
          ∙ flush_notes_first was.at was.written was.flushed (is_ok result) (lease_in old.second) (not_at_second old.span was old.second touched) written unflushed
          ∙ ap (λ f. if◌then◌else◌ {A = Job} (is_ok result) (job_flushed (at_of f) (job_of f old.second)) (job_of f old.second)) (sym h.here));
      sound = subst (λ f. ∥ IsSound old.slots old.place old.span f old.second ∥₁) (sym h.is) after;
    }

pub flush_second : {T E : Type 0} {obeys_slots obeys_block keeps : Bool} {result : Result T E} {asked_old asked_new : List Asked}
    (old : JobView) (second : Option TileView) → turns.FlushSecond ≡ next_turn old
    → ∥ IsSound old.slots old.place old.span old.first old.second ∥₁
    → IsStepOn (λ was now. Flushes obeys_block keeps result asked_old was asked_new now) old.second (λ now. Some now) second
    → Made obeys_slots obeys_block keeps result asked_old old asked_new (record { ino = old.ino; place = old.place; span = old.span; slots = old.slots; first = old.first; second = second })
flush_second {T} {E} {obeys_slots} {obeys_block} {keeps} {result} {asked_old} {asked_new} old second turn sound h =
    let was : TileView = h.was in
    let now : TileView = h.now in
    let known : ∥ IsSound old.slots old.place old.span old.first (Some was) ∥₁ =
    subst (λ f. ∥ IsSound old.slots old.place old.span old.first f ∥₁) h.here sound in
    let tests = turn_flush_second old turn in
    let written : was.written ≡ true = written_is old.second was h.here tests.0 in
    let unflushed : was.flushed ≡ false = unflushed_is old.second was h.here tests.1 in
    let after : ∥ IsSound old.slots old.place old.span old.first (Some now) ∥₁ =
    ∥∥₁_map known (λ k. sound_flush_second was now result written h.step k) in
    let kept : now.written ≡ was.written = ap (λ (t : TileView). t.written) h.step.noted in
    let flushed : IsCounted result
    ((one_if (is_unwritten old.first) + one_if (not was.written)) + (one_if (is_unflushed old.first) + one_if (not was.flushed)))
    ((one_if (is_unwritten old.first) + one_if (not was.written)) + (one_if (is_unflushed old.first) + one_if (not now.flushed))) =
    swapped (one_if (not was.written)) (one_if (is_unwritten old.first)) (one_if (not was.flushed)) (one_if (is_unflushed old.first)) (one_if (not was.written)) (one_if (not now.flushed))
    (count_flushed result was.flushed now.flushed (one_if (not was.written) + one_if (is_unwritten old.first)) (one_if (is_unflushed old.first))
    unflushed (ap (λ (t : TileView). t.flushed) h.step.noted)) in
    let counted : IsCounted result (left_of old.first (Some was)) (left_of old.first (Some now)) =
    subst (λ w. IsCounted result (left_of old.first (Some was)) ((one_if (is_unwritten old.first) + one_if (not w)) + (one_if (is_unflushed old.first) + one_if (not now.flushed)))) (sym kept) flushed in
    let touched : are_touched old.span old.first (Some was) ≡ true = ∥∥₁_elim known (hlevel props) (λ k. k.touched) in
    record {
      makes = subst (λ t. MakesTurn obeys_slots obeys_block keeps t result asked_old old asked_new
          (record { ino = old.ino; place = old.place; span = old.span; slots = old.slots; first = old.first; second = second })) turn
          record {
            was = was;
            now = now;
            here = h.here;
            is = ap (λ f. record { ino = old.ino; place = old.place; span = old.span; slots = old.slots; first = old.first; second = f }) h.is;
            step = h.step;
          };
      counted = subst (λ f. IsCounted result (left_of old.first f) (left_of old.first second)) (sym h.here)
          (subst (λ f. IsCounted result (left_of old.first (Some was)) (left_of old.first f)) (sym h.is) counted);
      notes = subst (λ t. job_of old.first second ≡ noted t (is_ok result) old) turn
          (ap (λ f. job_of old.first f) h.is ∙ ap (λ (t : TileView). job_of old.first (Some t)) h.step.noted
          ∙ flush_notes_second was.at was.written was.flushed (is_ok result) (lease_in old.first) (not_at_first old.span was old.first touched) written unflushed
          ∙ ap (λ f. if◌then◌else◌ {A = Job} (is_ok result) (job_flushed (at_of f) (job_of old.first f)) (job_of old.first f)) (sym h.here));
      sound = subst (λ f. ∥ IsSound old.slots old.place old.span old.first f ∥₁) (sym h.is) after;
    }
