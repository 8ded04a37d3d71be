use Rattle.std.proofs.Common.{ℕ, ◌+◌, ◌≤◌, ◌<◌, ◌≡◌, ◌∙◌, List, map, length, take, get_or}
use Rattle.std.proofs.Common.{refl, ap, sym, subst, arith}
use Rattle.std.specs.List.{flat_map}
use Rattle.std.proofs.lemmas.List.{length-map, length-take-le}
use Rattle.std.proofs.lemmas.Result.{err_from_is_err_and}
use Rattle.cfs_file.specs.declared.request.Request.TheVariants.{Write}
use Rattle.cfs_pmem.specs.Images.{Seen, WordStep}
use Rattle.cfs_pmem.specs.Objects.{all_devices}
use Rattle.cfs_block.specs.BlockImages.{Content, content_of}
use Rattle.cfs_medium.specs.Depicts.{content_at}
use Rattle.cfs_slot.specs.declared.fields.Found.{Found}
use Rattle.cfs_slot.specs.Words.{area_of}
use Rattle.cfs_recover.specs.declared.piece.Piece.{Piece}
use Rattle.cfs_recover.specs.Brought.{AreAllPieces}
use Rattle.cfs_recover.specs.Held.{AreFull}
use Rattle.cfs_recover.specs.Pieces.{LiesWithin}
use Rattle.cfs_recover.specs.Pieces.{with_writes}
use Rattle.cfs_recover.proofs.BlockCalls.{on-ok}
use Rattle.cfs_recover.proofs.Lists.{distinct-front, full-all}
use Rattle.cfs_recover.proofs.Only.{have-read}
use Rattle.cfs_replay.specs.Entries.{IsTakenUp}
use Rattle.cfs_replay.specs.Pieces.{tags_in, write_pieces}
use Rattle.cfs_replay.specs.Reading.{places_of, words_at}
use Rattle.cfs_replay.proofs.Cutting.{write-pieces-are, write-within}
use Rattle.cfs_replay.proofs.OneEntry.{brings-home, failed-front, few-count, places-in}
use Rattle.cfs_replay.proofs.OneEntry.{reads-fail, reads-then, tags-are, tags-flushes, tags-writes}
use Rattle.cfs_replay.proofs.OneEntry.{write-taken}
use Rattle.cfs_replay.proofs.one.bring_write.Goals as goal

pub read_payload-requires-clause-places : goal.read_payload-requires-clause-places
read_payload-requires-clause-places g c =
    subst (λ (ps : List ℕ). (k : ℕ) → k < length ps →
    get_or ps k 0 < length c.args.regions.now)
    (sym (c.deref.ensures.0 ∙ c.places_of-places.ensures))
    (λ k less. let in_slots = places-in c.args.pending.slot c.args.head.tails
    (length c.args.regions.now) c.requires.queue k less in
    omega (arith, in_slots.1.0, in_slots.1.1))

pub read_payload-requires-clause-size : goal.read_payload-requires-clause-size
read_payload-requires-clause-size g c =
    let olds : List (Seen WordStep) = map g.R.Region.seen c.args.regions.now in
    subst (λ (ps : List ℕ). (k : ℕ) → k < length ps →
    length (words_at olds (get_or ps k 0)) ≡ 518)
    (sym (c.deref.ensures.0 ∙ c.places_of-places.ensures))
    (λ k less. let in_slots = places-in c.args.pending.slot c.args.head.tails
    (length c.args.regions.now) c.requires.queue k less in
    ap (λ (p : ℕ). length (words_at olds p)) in_slots.1.0
    ∙ c.requires.slots in_slots.0
    (omega (arith, in_slots.1.1, length-map c.args.regions.now g.R.Region.seen)))

pub read_payload-requires-clause-distinct : goal.read_payload-requires-clause-distinct
read_payload-requires-clause-distinct g c =
    distinct-front (all_devices (map g.R.Region.seen c.args.regions.now))
    (all_devices (map g.B.Block.seen c.args.blocks.now)) c.requires.distinct

pub returns-in_err-read_payload-clause-home : goal.returns-in_err-read_payload-clause-home
returns-in_err-read_payload-clause-home g c =
    let failed = err_from_is_err_and c.from_residual.result c.from_residual.ensures.1 in
    reads-fail c.args.pending failed.0 failed.1 (map g.R.Region.seen c.args.regions.now)
    (map g.R.Region.seen c.read_payload.new.regions) (map g.B.Block.seen c.args.blocks.now)
    c.read_payload.ensures.leaves

pub returns-in_err-read_payload-clause-cause : goal.returns-in_err-read_payload-clause-cause
returns-in_err-read_payload-clause-cause g c =
    let failed = err_from_is_err_and c.from_residual.result c.from_residual.ensures.1 in
    failed-front (map g.R.Region.faults c.args.regions.now)
    (map g.R.Region.faults c.read_payload.new.regions)
    (map g.B.Block.faults c.args.blocks.now) failed.0 failed.1
    c.in_err-read_payload.ensures.cause.later c.in_err-read_payload.ensures.cause.failed

pub bring_home-requires-clause-within : goal.bring_home-requires-clause-within
bring_home-requires-clause-within g c =
    let seens = map g.B.Block.seen c.args.blocks.now in
    let head = c.args.head in
    let cut : List Piece = write_pieces c.args.found.now c.args.pending.ino head.offset head.count
    in
    let words : List ℕ =
    words_at (map g.R.Region.seen c.args.regions.now) (323 + c.args.pending.slot) in
    let kind : head.kind ≡ _ = ap (λ (f : Found). f.kind) c.requires.taken.reads in
    let offset : head.offset ≡ _ = ap (λ (f : Found). f.offset) c.requires.taken.reads in
    let count : head.count ≡ _ = ap (λ (f : Found). f.count) c.requires.taken.reads in
    let few = few-count words in
    let fits : head.offset + head.count ≤ 1048576 =
    let room = c.requires.whole.fits (λ two. c.requires.kind (kind ∙ two)) in
    omega (arith, room, offset, count) in
    let long : length (take head.count c.read_payload.new.buffer) ≡ head.count =
    length-take-le head.count c.read_payload.new.buffer
    (omega (arith, few, count, c.read_payload.ensures.buffer)) in
    subst (λ (ps : List Piece). (k : ℕ) (d : Piece) → k < length ps →
    LiesWithin (length c.args.blocks.now)
    (length (take head.count c.read_payload.new.buffer)) (get_or ps k d))
    (sym (c.deref-2.ensures.0 ∙ c.write_pieces-pieces.ensures))
    (subst (λ (n : ℕ). (k : ℕ) (d : Piece) → k < length cut →
    LiesWithin (length c.args.blocks.now) n (get_or cut k d)) (sym long)
    (subst (λ (n : ℕ). (k : ℕ) (d : Piece) → k < length cut →
    LiesWithin n head.count (get_or cut k d))
    (length-map seens (λ block. (content_of block).tag)
    ∙ length-map c.args.blocks.now g.B.Block.seen)
    (write-within c.args.pending.ino c.args.found.now (tags_in seens) head.offset head.count
    c.requires.finds fits)))

pub returns-clause-home : goal.returns-clause-home
returns-clause-home g c =
    let olds : List (Seen WordStep) = map g.R.Region.seen c.args.regions.now in
    let mids : List (Seen WordStep) = map g.R.Region.seen c.read_payload.new.regions in
    let seens = map g.B.Block.seen c.args.blocks.now in
    let head = c.args.head in
    let bytes : List ℕ = take head.count c.read_payload.new.buffer in
    let words : List ℕ = words_at olds (323 + c.args.pending.slot) in
    let kind : head.kind ≡ _ = ap (λ (f : Found). f.kind) c.requires.taken.reads in
    let offset : head.offset ≡ _ = ap (λ (f : Found). f.offset) c.requires.taken.reads in
    let count : head.count ≡ _ = ap (λ (f : Found). f.count) c.requires.taken.reads in
    let few = few-count words in
    let long : length bytes ≡ head.count =
    length-take-le head.count c.read_payload.new.buffer
    (omega (arith, few, count, c.read_payload.ensures.buffer)) in
    let fits : head.offset + length bytes ≤ 1048576 =
    let room = c.requires.whole.fits (λ two. c.requires.kind (kind ∙ two)) in
    omega (arith, room, offset, count, long) in
    let full : AreFull seens = full-all g.B.Block.seen c.args.blocks.now g.met.B.Block.full in
    let taken : IsTakenUp c.args.pending head c.args.size mids =
    subst (IsTakenUp c.args.pending head c.args.size) (sym c.read_payload.ensures.leaves.same)
    c.requires.taken in
    let read : bytes ≡ take head.count
    (flat_map area_of (map (words_at mids) (places_of c.args.pending.slot head.tails))) =
    c.in_ok-read_payload.ensures.bytes
    ∙ (ap (λ (ps : List ℕ). take head.count (flat_map area_of (map (words_at olds) ps)))
    (c.deref.ensures.0 ∙ c.places_of-places.ensures)
    ∙ ap (λ (ss : List (Seen WordStep)). take head.count
    (flat_map area_of (map (words_at ss) (places_of c.args.pending.slot head.tails))))
    (sym c.read_payload.ensures.leaves.same)) in
    reads-then c.args.pending c.bring_home.result olds mids
    (map g.R.Region.seen c.bring_home.new.regions) seens
    (map g.B.Block.seen c.bring_home.new.blocks) c.read_payload.ensures.leaves
    (brings-home c.args.pending
    (record {
      slot = c.args.pending.slot;
      node = c.args.pending.node;
      size = c.args.size;
      size_after = c.max.result;
    })
    bytes c.deref-2.result.now c.bring_home.result mids
    (map g.R.Region.seen c.bring_home.new.regions) seens
    (map g.B.Block.seen c.bring_home.new.blocks) c.requires.taken.node refl full
    (λ files start first stands next.
    write-taken c.args.pending head c.args.size mids seens taken files start first _ bytes
    c.deref-2.result.now stands next c.requires.kind read long
    (ap (λ (n : ℕ). record {
      slot = c.args.pending.slot;
      node = c.args.pending.node;
      size = c.args.size;
      size_after = n;
    }) c.max.ensures)
    (subst (λ (ps : List Piece). AreAllPieces c.args.pending.ino (Write head.offset bytes)
    first.blocks bytes ps)
    (ap (write_pieces c.args.found.now c.args.pending.ino head.offset) long
    ∙ sym (c.deref-2.ensures.0 ∙ c.write_pieces-pieces.ensures))
    (write-pieces-are c.args.pending.ino c.args.found.now first.blocks (tags_in seens)
    (λ at. ap (λ (cs : List Content). (content_at cs at).tag)
    (sym (have-read first seens full stands.blocks_are)) ∙ tags-are seens at)
    c.requires.finds head.offset bytes fits)))
    c.bring_home.ensures.moments c.bring_home.ensures.stands c.bring_home.ensures.regions
    c.bring_home.ensures.lengths
    (on-ok c.bring_home.result
    (λ is. ap tags_in is
    ∙ (tags-flushes c.deref-2.result.now (with_writes c.deref-2.result.now bytes seens)
    ∙ tags-writes c.deref-2.result.now bytes seens))
    c.bring_home.ensures.blocks)
    c.bring_home.ensures.devices)
