-- A step of a job, as an event of the core asks for it.
use Rattle.std.proofs.Common.{ℕ, zero, suc, ◌+◌, ◌*◌, ◌<◌, ◌≤◌, ◌≡◌, ◌⊎◌, ◌∙◌, Bool, true, Result, Ok, Err, List, [], ◌∷◌, ◌++◌, length, map, drop, inl, inr, refl, ap, subst, arith}
use Rattle.std.proofs.lemmas.List.{drop-map}
use Rattle.cfs_file.specs.declared.sizes.TheConstants.{BLOCK_LEN}
use Rattle.cfs_file.specs.declared.span.Span.{Span}
use Rattle.cfs_core.specs.Words.{end_in, piece_in, start_in}
use Rattle.cfs_pmem.specs.declared.trace.Asked.{Asked}
use Rattle.cfs_pmem.specs.declared.trace.Asked.TheVariants.{Step, Stopped, Planned, Revived}
use Rattle.cfs_pmem.specs.Asks.{AreStepsOn}
use Rattle.cfs_pmem.specs.Images.{Seen, WordStep}
use Rattle.cfs_pmem.specs.Moments.{Moments}
use Rattle.cfs_pmem.specs.Operations.{LastFails}
use Rattle.cfs_block.specs.BlockImages.{BlockStep, IsBlockImage, content_of, kept, unflushed, with_bytes}
use Rattle.cfs_slot.specs.Payload.{SlotRead}
use Rattle.cfs_job.specs.Ops.{JobFails, count_in, devices_seen, flush_ops, get_word, job_done, piece_reads, place_in, write_ops}
use Rattle.cfs_job.specs.Stands.{IsSpanOf, is_touched}
use Rattle.cfs_job.specs.Steps.{Flushes, Writes}
use Rattle.cfs_job.specs.Views.{TileView, payload_seen}
use Rattle.cfs_job.proofs.KeepLemmas.{piece_size, write_done}
use Rattle.cfs_job.proofs.OpLemmas.{reads_leave}
use Rattle.cfs_job.proofs.PieceLemmas.{IsWithin, within}

-- ---- where the request's positions in a block stand

pub record IsPlaced (s : Span) (at : ℕ) : Type 0 where
  pub starts : start_in s at ≡ BLOCK_LEN * at + place_in s at
  pub ends : end_in s at ≡ BLOCK_LEN * at + place_in s at + count_in s at
  pub fits : place_in s at + count_in s at ≤ BLOCK_LEN

pub placed_in : (s : Span) (at : ℕ) → is_touched s at ≡ true → IsPlaced s at
placed_in s at touched =
    let w : IsWithin s at = within s at touched in
    record { starts = omega (arith, w.starts); ends = omega (arith, w.starts, w.some); fits = omega (arith, w.starts, w.some, w.ends) }

-- ---- what stands in a block behind a write

pub wrote_piece : {T E : Type 0} {obeys_slots obeys_block keeps : Bool} {slots : List (Seen WordStep)} {s : Span} {asked_old asked_new : List Asked} {was now : TileView} (t : T)
    → Writes {T = T} {E = E} obeys_slots obeys_block keeps slots s (Ok t) asked_old was asked_new now
    → content_of now.seen ≡ with_bytes (place_in s was.at) (piece_in (payload_seen slots) s was.at) (content_of was.seen)
wrote_piece {T} {E} {obeys_slots} {obeys_block} {keeps} {slots} {s} {asked_old} {asked_new} {was} {now} t w = write_done slots s was.at t w.works

-- some bytes stand at the request's positions
pub record IsLeft (s : Span) (was now : TileView) : Type 0 where
  pub left : List ℕ
  pub size : length left ≡ count_in s was.at
  pub is : content_of now.seen ≡ with_bytes (place_in s was.at) left (content_of was.seen)

reads_stopped : (keeps : Bool) (reads : List SlotRead) (old new : Seen BlockStep) → LastFails job_done (JobFails keeps) (map get_word reads) old new → new ≡ old
reads_stopped keeps [] old new h = absurd h
reads_stopped keeps (read ∷ reads) old new h = h ∙ reads_leave reads old

-- one that failed came to nothing, or left some bytes there
pub write_left : {T E : Type 0} {obeys_slots obeys_block keeps : Bool} {slots : List (Seen WordStep)} {s : Span} {asked_old asked_new : List Asked} {was now : TileView} (e : E)
    → IsSpanOf s slots → is_touched s was.at ≡ true
    → Writes {T = T} {E = E} obeys_slots obeys_block keeps slots s (Err e) asked_old was asked_new now
    → (now.seen ≡ was.seen) ⊎ IsLeft s was now
write_left {T} {E} {obeys_slots} {obeys_block} {keeps} {slots} {s} {asked_old} {asked_new} {was} {now} e spans touched w =
    stops w.works.stopped.left w.works.stopped.state
  where
    stops : (left : ℕ) → LastFails job_done (JobFails keeps) (drop left (write_ops slots s was.at)) was.seen now.seen → (now.seen ≡ was.seen) ⊎ IsLeft s was now
    stops zero h = inr (record {
      left = h.torn.left;
      size = h.torn.size ∙ piece_size slots s was.at spans touched;
      is = ap (λ (b : Seen BlockStep). content_of b) h.torn.is
          ∙ ap (λ (b : Seen BlockStep). with_bytes (place_in s was.at) h.torn.left (content_of b)) (reads_leave (piece_reads (devices_seen slots) s was.at) was.seen);
    })
    stops (suc left) h =
        let reads : List SlotRead = piece_reads (devices_seen slots) s was.at in
        inl (reads_stopped keeps (drop left reads) was.seen now.seen
        (subst (λ ops. LastFails job_done (JobFails keeps) ops was.seen now.seen) (drop-map get_word left reads) h))

-- ---- a flush

pub flush_kept : {T E : Type 0} {obeys_block keeps : Bool} {asked_old asked_new : List Asked} {was now : TileView} (t : T)
    → Flushes {T = T} {E = E} obeys_block keeps (Ok t) asked_old was asked_new now → now.seen ≡ kept was.seen
flush_kept t f = f.works.ok

pub flush_stalled : {T E : Type 0} {obeys_block keeps : Bool} {asked_old asked_new : List Asked} {was now : TileView} (e : E)
    → Flushes {T = T} {E = E} obeys_block keeps (Err e) asked_old was asked_new now → now.seen ≡ unflushed was.seen
flush_stalled {T} {E} {obeys_block} {keeps} {asked_old} {asked_new} {was} {now} e f = stops f.works.stopped.left f.works.stopped.within f.works.stopped.state
  where
    stops : (left : ℕ) → left < 1 → LastFails job_done (JobFails keeps) (drop left flush_ops) was.seen now.seen → now.seen ≡ unflushed was.seen
    stops zero l h = h
    stops (suc left) l h = absurd (omega arith)

none_made : (made : List Asked) → AreStepsOn [] made → made ≡ []
none_made [] h = refl
none_made (Step device writing allowed ∷ before) h = absurd h.0
none_made (Stopped n ∷ before) h = absurd h.0
none_made (Planned device writing k ∷ before) h = absurd h.0
none_made (Revived ∷ before) h = absurd h.0

-- no slot was read before it
pub flush_moments : {T E : Type 0} {obeys_block keeps : Bool} {asked_old asked_new : List Asked} {was now : TileView} (result : Result T E)
    → Flushes obeys_block keeps result asked_old was asked_new now → Moments IsBlockImage (IsBlockImage was.seen.history) asked_old was.seen asked_new now.seen
flush_moments {T} {E} {obeys_block} {keeps} {asked_old} {asked_new} {was} {now} result f =
    let here : f.works.between ≡ asked_old = f.works.reads.is ∙ ap (λ made. made ++ asked_old) (none_made f.works.reads.made f.works.reads.own) in
    subst (λ asked. Moments IsBlockImage (IsBlockImage was.seen.history) asked was.seen asked_new now.seen) here f.works.moments
