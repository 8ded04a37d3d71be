use Rattle.std.proofs.Common.{ℕ, ◌<◌, ◌≡◌, ◌∙◌, Bool, true, false, Option, Some, None, List, length, if◌then◌else◌, sym, ap, arith, get_or-set_same}
use Rattle.std.proofs.lemmas.Simd.{map-map}
use Rattle.cfs_file.specs.declared.request.Request.{Request}
use Rattle.cfs_pmem.specs.Images.{MemoryRegion, Seen, WordStep, words_of}
use Rattle.cfs_slot.specs.Regions.{of_live, tails_of_live, tails_of_staged, words_in}
use Rattle.cfs_slot.specs.Words.{gate_of, ino_of, is_live, live_entry, request_of}
use Rattle.cfs_device_tests.proofs.job.open_staged.Goals as goal

if_live : (live : Bool) (gate place : ℕ) (own request : Request) → if◌then◌else◌ {A = Option (ℕ × Request)} live (Some (gate, own)) None ≡ Some (place, request) → own ≡ request
if_live true gate place own request e = let same : (gate, own) ≡ (place, request) = cc in ap (λ (p : ℕ × Request). p.1) same
if_live false gate place own request e = absurd (cc)

entry_request : (ino : ℕ) (words : List ℕ) (tails : List (List ℕ)) (place : ℕ) (request : Request) → live_entry ino words tails ≡ Some (place, request) → request_of words tails ≡ request
entry_request ino words tails place request e = if_live (is_live ino words) (gate_of words) place (request_of words tails) request e

pub returns-in-Ok-clause-request : goal.returns-in-Ok-clause-request
returns-in-Ok-clause-request c =
    let seen = λ (r : MemoryRegion). r.seen in
    let live = c.in-Ok.live in
    ap (λ ts. request_of (words_of (seen (of_live live))) ts) (map-map words_of seen (tails_of_live live))
    ∙ ap (λ rs. request_of (words_of (seen (of_live live))) (words_in seen rs)) c.in-Ok.ensures.tails
    ∙ entry_request (ino_of (words_of (seen c.args.staged.region))) (words_of (seen (of_live live))) (words_in seen (tails_of_staged c.args.staged)) 7
    (request_of (words_of (seen c.args.staged.region)) (words_in seen (tails_of_staged c.args.staged))) c.in-Ok.ensures.entry

pub returns-in-Ok-clause-opened : goal.returns-in-Ok-clause-opened
returns-in-Ok-clause-opened c = λ image h.
    let old = c.args.staged.region.seen in
    let some : 0 < length (words_of old) = omega (arith, c.args.staged.size) in
    ap (λ ws. gate_of ws) (c.in-Ok.ensures.set.sure image h)
    ∙ ap (λ (s : Seen WordStep). gate_of (words_of s)) c.in-Ok.ensures.set.ok
    ∙ get_or-set_same (words_of old) 0 7 0 some ∙ sym c.in-Ok.ensures.place
