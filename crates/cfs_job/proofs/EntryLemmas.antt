-- The bytes that a job reads from its slots are the entry's bytes in the core.
use Rattle.std.proofs.Common.{ℕ, ◌≡◌, ◌∙◌, ◌==◌, Bool, true, false, List, [], ◌∷◌, map, if◌then◌else◌, refl, sym, ap, subst}
use Rattle.cfs_file.specs.declared.request.Request.{Request}
use Rattle.cfs_file.specs.declared.request.Request.TheVariants as requests
use Rattle.cfs_core.specs.Medium.{placed}
use Rattle.cfs_file.specs.declared.span.Span.{Span}
use Rattle.cfs_file.specs.declared.span.Span.TheVariants.{From}
use Rattle.cfs_file.specs.Span.{span}
use Rattle.cfs_job.specs.Stands.{IsSpanOf}
use Rattle.cfs_core.specs.Words.{payload_of, piece_in, start_of}
use Rattle.cfs_pmem.specs.Images.{Seen, WordStep, words_of}
use Rattle.cfs_slot.specs.Words as slots
use Rattle.cfs_job.specs.Views.{payload_seen, request_seen}

-- of a write the request's bytes are the payload's
written : (cuts : Bool) (off : ℕ) (bytes : List ℕ) (at : ℕ) (own : List ℕ) → requests.Write at own ≡ (if cuts then requests.Truncate off else requests.Write off bytes) → own ≡ bytes
written true off bytes at own e = absurd (cc)
written false off bytes at own e = cc

written_in : (seens : List (Seen WordStep)) (at : ℕ) (own : List ℕ) → requests.Write at own ≡ request_seen seens → own ≡ payload_seen seens
written_in [] at own e = absurd (cc)
written_in (head ∷ tails) at own e =
    written (slots.kind_of (words_of head) == 2) (slots.offset_of (words_of head)) (slots.payload_of (words_of head) (map words_of tails)) at own e

no_read_in : (cuts : Bool) (off : ℕ) (bytes : List ℕ) (offset count : ℕ) → requests.Read offset count ≡ (if cuts then requests.Truncate off else requests.Write off bytes) → ⊥
no_read_in true off bytes offset count e = cc
no_read_in false off bytes offset count e = cc

no_read : (seens : List (Seen WordStep)) (offset count : ℕ) → requests.Read offset count ≡ request_seen seens → ⊥
no_read [] offset count e = cc
no_read (head ∷ tails) offset count e =
    no_read_in (slots.kind_of (words_of head) == 2) (slots.offset_of (words_of head)) (slots.payload_of (words_of head) (map words_of tails)) offset count e

-- Where slots hold the request of an entry as it was placed, what a job writes of it in a block is
-- the entry's piece: that of the payload for a write, and zeros for a truncate.
pub payload_of_entry : (seens : List (Seen WordStep)) (s : Span) (request : Request) (at : ℕ) → IsSpanOf s seens → placed s request ≡ request_seen seens
    → piece_in (payload_of request) s at ≡ piece_in (payload_seen seens) s at
payload_of_entry seens s (requests.Write offset bytes) at spans e = ap (λ bs. piece_in bs s at) (written_in seens offset bytes e)
payload_of_entry seens s (requests.Append bytes) at spans e = ap (λ bs. piece_in bs s at) (written_in seens (start_of s) bytes e)
payload_of_entry seens s (requests.Truncate n) at spans e =
    let cut : s ≡ From n = spans ∙ ap (λ r. span r 0) (sym e) in
    subst (λ p. piece_in [] p at ≡ piece_in (payload_seen seens) p at) (sym cut) refl
payload_of_entry seens s (requests.Read offset count) at spans e = absurd (no_read seens offset count e)
payload_of_entry seens s requests.Sync at spans e = subst (λ p. piece_in [] p at ≡ piece_in (payload_seen seens) p at) (sym (spans ∙ ap (λ r. span r 0) (sym e))) refl
