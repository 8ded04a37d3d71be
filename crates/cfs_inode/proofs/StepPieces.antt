-- What stands in a block behind a write that failed.
use Rattle.std.proofs.Common.{◌≡◌, ◌∙◌, ◌+◌, ◌≤◌, ◌++◌, ap, arith, drop, inl, inr, length, List}
use Rattle.std.proofs.Common.{Err, subst, sym, take, true, ℕ, Bool}
use Rattle.std.proofs.lemmas.List.{drop-drop, length-drop, length-take-le, take-append-drop}
use Rattle.cfs_file.specs.declared.sizes.TheConstants.{BLOCK_LEN}
use Rattle.cfs_file.specs.declared.span.Span.{Span}
use Rattle.cfs_pmem.specs.declared.trace.Asked.{Asked}
use Rattle.cfs_pmem.specs.Images.{Seen, WordStep, patched}
use Rattle.cfs_block.specs.BlockImages.{BlockStep, Content, content_of, with_bytes}
use Rattle.cfs_job.specs.Ops.{count_in, place_in}
use Rattle.cfs_job.specs.Stands.{IsSpanOf, is_touched}
use Rattle.cfs_job.specs.Steps.{Writes}
use Rattle.cfs_job.specs.Views.{TileView}
use Rattle.cfs_job.proofs.EventLemmas.{IsLeft, IsPlaced, placed_in, write_left}
use Rattle.cfs_job.proofs.KeepLemmas.{read_back}

-- what was read, written over itself
self-patched : (words : List ℕ) (from n : ℕ) → from + n ≤ length words →
    patched words from (take n (drop from words)) ≡ words
self-patched words from n fits =
    let long : length (take n (drop from words)) ≡ n =
    length-take-le n (drop from words) (omega (arith, fits, length-drop from words)) in
    ap (λ k. take from words ++ (take n (drop from words) ++ drop (from + k) words)) long
    ∙ ap (λ ds. take from words ++ (take n (drop from words) ++ ds)) (sym (drop-drop n from words))
    ∙ ap (λ ds. take from words ++ ds) (take-append-drop n (drop from words))
    ∙ take-append-drop from words

-- these bytes stand at the request's positions
pub record IsAsLeft (s : Span) (at : ℕ) (was now : Seen BlockStep) (left : List ℕ) : Type 0 where
  pub size : length left ≡ count_in s at
  pub is : content_of now ≡ with_bytes (place_in s at) left (content_of was)

same-left : (s : Span) (at : ℕ) (was now : Seen BlockStep) → is_touched s at ≡ true →
    length (content_of was).bytes ≡ BLOCK_LEN → now ≡ was →
    IsAsLeft s at was now (take (count_in s at) (drop (place_in s at) (content_of now).bytes))
same-left s at was now touched full same =
    let p : IsPlaced s at = placed_in s at touched in
    let bytes = (content_of was).bytes in
    let room : place_in s at + count_in s at ≤ length bytes = omega (arith, p.fits, full) in
    subst (λ (b : Seen BlockStep).
    IsAsLeft s at was b (take (count_in s at) (drop (place_in s at) (content_of b).bytes)))
    (sym same)
    (record {
      size = length-take-le (count_in s at) (drop (place_in s at) bytes)
          (omega (arith, room, length-drop (place_in s at) bytes));
      is = ap (λ (xs : List ℕ). record (content_of was) { bytes = xs })
          (sym (self-patched bytes (place_in s at) (count_in s at) room));
    })

torn-left : (s : Span) (was now : TileView) → is_touched s was.at ≡ true →
    length (content_of was.seen).bytes ≡ BLOCK_LEN → IsLeft s was now →
    IsAsLeft s was.at was.seen now.seen
    (take (count_in s was.at) (drop (place_in s was.at) (content_of now.seen).bytes))
torn-left s was now touched full torn =
    let p : IsPlaced s was.at = placed_in s was.at touched in
    let place = place_in s was.at in
    let bytes = (content_of was.seen).bytes in
    let room : place + length torn.left ≤ length bytes =
    omega (arith, p.fits, full, torn.size) in
    let here : (content_of now.seen).bytes ≡ patched bytes place torn.left =
    ap (λ (c : Content). c.bytes) torn.is in
    let same : torn.left ≡ take (count_in s was.at) (drop place (content_of now.seen).bytes) =
    sym (ap (λ xs. take (count_in s was.at) (drop place xs)) here
    ∙ ap (λ n. take n (drop place (patched bytes place torn.left))) (sym torn.size)
    ∙ read_back bytes torn.left place room) in
    subst (λ left. IsAsLeft s was.at was.seen now.seen left) same
    (record { size = torn.size; is = torn.is })

-- A write that failed left what is read now.
pub failed-left : {T E : Type 0} {obeys_slots obeys_block keeps : Bool}
    {slots : List (Seen WordStep)} {s : Span} {asked_old asked_new : List Asked}
    {was now : TileView} (e : E) → IsSpanOf s slots → is_touched s was.at ≡ true →
    length (content_of was.seen).bytes ≡ BLOCK_LEN →
    Writes {T = T} {E = E} obeys_slots obeys_block keeps slots s (Err e) asked_old was asked_new
    now →
    IsAsLeft s was.at was.seen now.seen
    (take (count_in s was.at) (drop (place_in s was.at) (content_of now.seen).bytes))
failed-left {T} {E} {obeys_slots} {obeys_block} {keeps} {slots} {s} {asked_old} {asked_new} {was}
    {now} e spans touched full writes =
    elim (write_left e spans touched writes) [
      | inl same ↦ same-left s was.at was.seen now.seen touched full same
      | inr torn ↦ torn-left s was now touched full torn
    ]
