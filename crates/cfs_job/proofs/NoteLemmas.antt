-- What the core notes of a step.
use Rattle.std.proofs.Common.{ℕ, ◌<◌, ◌≡◌, ◌∙◌, ◌==◌, ◌&&◌, Bool, true, false, nat_lt, Option, Some, None, if◌then◌else◌, refl, sym, ap, arith, eq-eqb}
use Rattle.std.proofs.lemmas.Bool.{ltb-true, ne_eqb}
use Rattle.cfs_file.specs.declared.span.Span.{Span}
use Rattle.cfs_core.specs.declared.state.Job.{Job}
use Rattle.cfs_core.specs.declared.state.Lease.{Lease}
use Rattle.cfs_core.specs.Jobs.{job_flushed, job_written, lease_flushed, lease_written, note_flush, note_write}
use Rattle.cfs_core.proofs.Legal.{both}
use Rattle.cfs_job.specs.Stands.{are_touched, is_touched}
use Rattle.cfs_job.specs.Steps.{lease_in}
use Rattle.cfs_job.specs.Views.{TileView}

-- a lease is of another block
abbrev pub NotAt : ℕ → Option Lease → Type 0
NotAt at None = Unit {0}
NotAt at (Some lease) = (lease.block == at) ≡ false

pub not_at_second : (s : Span) (was : TileView) (second : Option TileView) → are_touched s (Some was) second ≡ true → NotAt was.at (lease_in second)
not_at_second s was None h = tt
not_at_second s was (Some tile) h =
    let less : was.at < tile.at = ltb-true was.at tile.at (both (is_touched s tile.at) (nat_lt was.at tile.at) (both (is_touched s was.at) (is_touched s tile.at && nat_lt was.at tile.at) h).1).1 in
    ne_eqb tile.at was.at (λ e. absurd (omega (arith, e)))

pub not_at_first : (s : Span) (was : TileView) (first : Option TileView) → are_touched s first (Some was) ≡ true → NotAt was.at (lease_in first)
not_at_first s was None h = tt
not_at_first s was (Some tile) h =
    let less : tile.at < was.at = ltb-true tile.at was.at (both (is_touched s was.at) (nat_lt tile.at was.at) (both (is_touched s tile.at) (is_touched s was.at && nat_lt tile.at was.at) h).1).1 in
    ne_eqb tile.at was.at (λ e. absurd (omega (arith, e)))

-- a write

own_write : (at : ℕ) (w f ok : Bool) → lease_written at ok (record { block = at; written = w; flushed = f }) ≡ record { block = at; written = ok; flushed = false }
own_write at w f ok =
    ap (λ (b : Bool). if◌then◌else◌ {A = Lease} b (record { block = at; written = ok; flushed = false }) (record { block = at; written = w; flushed = f })) (eq-eqb at at refl)

other_write : (at : ℕ) (ok : Bool) (other : Option Lease) → NotAt at other → note_write at ok other ≡ other
other_write at ok None h = refl
other_write at ok (Some l) h =
    ap (λ (b : Bool). Some (if◌then◌else◌ {A = Lease} b (record { block = l.block; written = ok; flushed = false }) l)) h

pub write_notes_first : (at : ℕ) (w f ok : Bool) (second : Option Lease) → NotAt at second
    → ◌≡◌ {A = Job} (record { first = Some (record { block = at; written = ok; flushed = false }); second = second }) (job_written at ok (record { first = Some (record { block = at; written = w; flushed = f }); second = second }))
write_notes_first at w f ok second h =
    let own = own_write at w f ok in
    let other = other_write at ok second h in
    sym (ap (λ (l : Lease). record { first = Some l; second = note_write at ok second }) own ∙ ap (λ o. record { first = Some (record { block = at; written = ok; flushed = false }); second = o }) other)

pub write_notes_second : (at : ℕ) (w f ok : Bool) (first : Option Lease) → NotAt at first
    → ◌≡◌ {A = Job} (record { first = first; second = Some (record { block = at; written = ok; flushed = false }) }) (job_written at ok (record { first = first; second = Some (record { block = at; written = w; flushed = f }) }))
write_notes_second at w f ok first h =
    let own = own_write at w f ok in
    let other = other_write at ok first h in
    sym (ap (λ (l : Lease). record { first = note_write at ok first; second = Some l }) own ∙ ap (λ o. record { first = o; second = Some (record { block = at; written = ok; flushed = false }) }) other)

-- a flush of what was written

own_flush : (at : ℕ) (w f : Bool) → lease_flushed at (record { block = at; written = w; flushed = f }) ≡ record { block = at; written = w; flushed = w }
own_flush at w f =
    ap (λ (b : Bool). if◌then◌else◌ {A = Lease} b (record { block = at; written = w; flushed = w }) (record { block = at; written = w; flushed = f })) (eq-eqb at at refl)

other_flush : (at : ℕ) (other : Option Lease) → NotAt at other → note_flush at other ≡ other
other_flush at None h = refl
other_flush at (Some l) h =
    ap (λ (b : Bool). Some (if◌then◌else◌ {A = Lease} b (record { block = l.block; written = l.written; flushed = l.written }) l)) h

pub flush_notes_first : (at : ℕ) (w f ok : Bool) (second : Option Lease) → NotAt at second → w ≡ true → f ≡ false
    → ◌≡◌ {A = Job} (record { first = Some (record { block = at; written = w; flushed = ok }); second = second })
    (if◌then◌else◌ {A = Job} ok (job_flushed at (record { first = Some (record { block = at; written = w; flushed = f }); second = second }))
    (record { first = Some (record { block = at; written = w; flushed = f }); second = second }))
flush_notes_first at w f true second h up down =
    let own = own_flush at w f in
    let other = other_flush at second h in
    ap (λ x. record { first = Some (record { block = at; written = w; flushed = x }); second = second }) (sym up)
    ∙ sym (ap (λ (l : Lease). record { first = Some l; second = note_flush at second }) own ∙ ap (λ o. record { first = Some (record { block = at; written = w; flushed = w }); second = o }) other)
flush_notes_first at w f false second h up down =
    ap (λ x. record { first = Some (record { block = at; written = w; flushed = x }); second = second }) (sym down)

pub flush_notes_second : (at : ℕ) (w f ok : Bool) (first : Option Lease) → NotAt at first → w ≡ true → f ≡ false
    → ◌≡◌ {A = Job} (record { first = first; second = Some (record { block = at; written = w; flushed = ok }) })
    (if◌then◌else◌ {A = Job} ok (job_flushed at (record { first = first; second = Some (record { block = at; written = w; flushed = f }) }))
    (record { first = first; second = Some (record { block = at; written = w; flushed = f }) }))
flush_notes_second at w f true first h up down =
    let own = own_flush at w f in
    let other = other_flush at first h in
    ap (λ x. record { first = first; second = Some (record { block = at; written = w; flushed = x }) }) (sym up)
    ∙ sym (ap (λ (l : Lease). record { first = note_flush at first; second = Some l }) own ∙ ap (λ o. record { first = o; second = Some (record { block = at; written = w; flushed = w }) }) other)
flush_notes_second at w f false first h up down =
    ap (λ x. record { first = first; second = Some (record { block = at; written = w; flushed = x }) }) (sym down)
