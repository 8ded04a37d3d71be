use Rattle.std.proofs.Common.{ℕ, ◌-◌, ◌+◌, ◌<◌, ◌≤◌, ◌≡◌, ◌∙◌, List, Ok, Err, OnErr, inl, inr, length, map, take, drop, refl, sym, ap, subst, rules}
use Rattle.std.proofs.lemmas.List.{length-replicate}
use Rattle.cfs_core.specs.Words.{piece_in, start_in}
use Rattle.cfs_pmem.specs.Images.{Seen, WordStep}
use Rattle.std.specs.List.{flat_map}
use Rattle.cfs_pmem.specs.Images.{devices_of}
use Rattle.cfs_pmem.specs.declared.trace.Asked.{Asked}
use Rattle.cfs_pmem.specs.declared.fault.DeviceFault.{DeviceFault}
use Rattle.cfs_job.proofs.CauseLemmas.{nothing_failed}
use Rattle.cfs_job.proofs.OpLemmas.{nothing_asked}
use Rattle.cfs_slot.specs.Payload.{DoesReads, payload_reads}
use Rattle.cfs_slot.specs.Reads.{payload_in, regions_of}
use Rattle.cfs_slot.specs.Regions.{devices_in}
use Rattle.cfs_job.specs.Ops.{count_in, devices_seen, piece_reads}
use Rattle.cfs_job.specs.Views.{payload_seen}
use Rattle.cfs_job.proofs.PieceLemmas.{devices_same, not_nothing, ok_also, payload_same, piece_read, read_room, reads_are, reads_some, no_reads, zeros_are}
use Rattle.cfs_job.proofs.piece.fetch.Goals as goal

pub start_in-requires : goal.start_in-requires
start_in-requires g c =
    let r = read_room (map g.R.Region.seen (regions_of c.args.request.now)) c.args.span c.args.at c.in-Range.from c.in-Range.to c.in-Range.is c.requires.spans c.requires.touched in
    r.below

pub read_payload-requires : goal.read_payload-requires
read_payload-requires g c =
    let slots : List (Seen WordStep) = map g.R.Region.seen (regions_of c.args.request.now) in
    let r = read_room slots c.args.span c.args.at c.in-Range.from c.in-Range.to c.in-Range.is c.requires.spans c.requires.touched in
    let size : length c.args.out.now ≡ count_in c.args.span c.args.at = ap (λ (xs : List ℕ). length xs) c.requires.zeros ∙ length-replicate {A = ℕ} (count_in c.args.span c.args.at) 0 in
    let start : c.start_in.result ≡ start_in c.args.span c.args.at = c.start_in.ensures ∙ ap (λ s. start_in s c.args.at) (sym c.in-Range.is) in
    let room : (start_in c.args.span c.args.at - c.in-Range.from) + length c.args.out.now ≤ length (payload_in g.R.Region.seen c.args.request.now) =
    subst (λ (xs : List ℕ). (start_in c.args.span c.args.at - c.in-Range.from) + length c.args.out.now ≤ length xs) (sym (payload_same g.R.Region.seen c.args.request.now))
    (subst (λ n. (start_in c.args.span c.args.at - c.in-Range.from) + n ≤ length (payload_seen slots)) (sym size) r.room) in
    let some : 0 < length c.args.out.now = subst (λ n. 0 < n) (sym size) r.some in
    let few : length c.args.out.now ≤ 4096 = subst (λ n. n ≤ 4096) (sym size) r.few in
    let within : (c.start_in.result - c.in-Range.from) + length c.args.out.now ≤ length (payload_in g.R.Region.seen c.args.request.now) =
    subst (λ n. (n - c.in-Range.from) + length c.args.out.now ≤ length (payload_in g.R.Region.seen c.args.request.now)) (sym start) room in
    (search rules, (some, (few, within)))

pub returns-in-Range-clause-bytes : goal.returns-in-Range-clause-bytes
returns-in-Range-clause-bytes g c =
    let slots : List (Seen WordStep) = map g.R.Region.seen (regions_of c.args.request.now) in
    let size : length c.args.out.now ≡ count_in c.args.span c.args.at = ap (λ (xs : List ℕ). length xs) c.requires.zeros ∙ length-replicate {A = ℕ} (count_in c.args.span c.args.at) 0 in
    let start : c.start_in.result ≡ start_in c.args.span c.args.at = c.start_in.ensures ∙ ap (λ s. start_in s c.args.at) (sym c.in-Range.is) in
    let is : take (length c.args.out.now) (drop (c.start_in.result - c.in-Range.from) (payload_in g.R.Region.seen c.args.request.now)) ≡ piece_in (payload_seen slots) c.args.span c.args.at =
    ap (λ n. take n (drop (c.start_in.result - c.in-Range.from) (payload_in g.R.Region.seen c.args.request.now))) size
    ∙ ap (λ n. take (count_in c.args.span c.args.at) (drop (n - c.in-Range.from) (payload_in g.R.Region.seen c.args.request.now))) start
    ∙ ap (λ xs. take (count_in c.args.span c.args.at) (drop (start_in c.args.span c.args.at - c.in-Range.from) xs)) (payload_same g.R.Region.seen c.args.request.now)
    ∙ piece_read (payload_seen slots) c.args.span c.args.at c.in-Range.from c.in-Range.to c.in-Range.is in
    ok_also c.read_payload.result (λ e. e ∙ is) c.read_payload.ensures.bytes

pub returns-in-Range-clause-does : goal.returns-in-Range-clause-does
returns-in-Range-clause-does g c =
    let slots : List (Seen WordStep) = map g.R.Region.seen (regions_of c.args.request.now) in
    let size : length c.args.out.now ≡ count_in c.args.span c.args.at = ap (λ (xs : List ℕ). length xs) c.requires.zeros ∙ length-replicate {A = ℕ} (count_in c.args.span c.args.at) 0 in
    let start : c.start_in.result ≡ start_in c.args.span c.args.at = c.start_in.ensures ∙ ap (λ s. start_in s c.args.at) (sym c.in-Range.is) in
    let is : payload_reads (devices_in g.R.Region.seen (regions_of c.args.request.now)) (c.start_in.result - c.in-Range.from) (length c.args.out.now)
    ≡ piece_reads (devices_seen slots) c.args.span c.args.at =
    ap (λ ds. payload_reads ds (c.start_in.result - c.in-Range.from) (length c.args.out.now)) (devices_same g.R.Region.seen (regions_of c.args.request.now))
    ∙ ap (λ n. payload_reads (devices_seen slots) (n - c.in-Range.from) (length c.args.out.now)) start
    ∙ ap (λ n. payload_reads (devices_seen slots) (start_in c.args.span c.args.at - c.in-Range.from) n) size
    ∙ reads_are (devices_seen slots) c.args.span c.args.at c.in-Range.from c.in-Range.to c.in-Range.is in
    λ o. subst (λ rs. DoesReads rs c.read_payload.result (g.P.Power.asked c.args.power.now) (g.P.Power.asked c.read_payload.new.power)) is (c.read_payload.ensures.does o)

pub returns-in-Range-clause-some : goal.returns-in-Range-clause-some
returns-in-Range-clause-some g c =
    let slots : List (Seen WordStep) = map g.R.Region.seen (regions_of c.args.request.now) in
    let r = read_room slots c.args.span c.args.at c.in-Range.from c.in-Range.to c.in-Range.is c.requires.spans c.requires.touched in
    let more : 0 < length (piece_reads (devices_seen slots) c.args.span c.args.at) =
    reads_some (devices_seen slots) c.args.span c.args.at c.in-Range.from c.in-Range.to c.in-Range.is r.some in
    elim c.read_payload.result as (λ res. OnErr res (0 < length (piece_reads (devices_seen slots) c.args.span c.args.at))) [ Ok t ↦ tt | Err e ↦ more ]

pub returns-in-Nothing : goal.returns-in-Nothing
returns-in-Nothing g c =
    let slots : List (Seen WordStep) = map g.R.Region.seen (regions_of c.args.request.now) in
    let asked : List Asked = g.P.Power.asked c.args.power.now in
    elim c.in-Nothing.is [
      | inl none ↦ absurd (not_nothing c.args.span c.args.at none c.requires.touched)
      | inr cut ↦
          record {
            bytes = c.requires.zeros ∙ zeros_are c.args.span c.args.at cut.0 (payload_seen slots) cut.1;
            size = ap (λ (xs : List ℕ). length xs) c.requires.zeros ∙ length-replicate {A = ℕ} (count_in c.args.span c.args.at) 0;
            seen = refl;
            place = refl;
            does = λ o. subst (λ rs. DoesReads {T = Unit {0}} {E = DeviceFault} rs (Ok tt) asked asked) (sym (no_reads (devices_seen slots) c.args.span c.args.at cut.0 cut.1)) (record { all = refl; front = tt });
            some = tt;
            asks = nothing_asked (flat_map devices_of slots) asked;
            cause = nothing_failed (map g.R.Region.faults (regions_of c.args.request.now)) tt;
          }
    ]
