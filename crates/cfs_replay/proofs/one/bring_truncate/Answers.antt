use Rattle.std.proofs.Common.{ℕ, ◌<◌, ◌∙◌, List, map, length, get_or, refl, ap, sym, subst}
use Rattle.std.proofs.lemmas.List.{length-map}
use Rattle.cfs_file.specs.declared.request.Request.TheVariants.{Truncate}
use Rattle.cfs_block.specs.BlockImages.{Content, content_of}
use Rattle.cfs_medium.specs.Depicts.{content_at}
use Rattle.cfs_recover.specs.declared.blocks.TheConstants.{ZEROS}
use Rattle.cfs_recover.specs.declared.piece.Piece.{Piece}
use Rattle.cfs_recover.specs.Brought.{AreAllPieces}
use Rattle.cfs_recover.specs.Held.{AreFull}
use Rattle.cfs_recover.specs.Pieces.{LiesWithin}
use Rattle.cfs_recover.proofs.BlockCalls.{on-ok}
use Rattle.cfs_recover.proofs.Lists.{full-all}
use Rattle.cfs_recover.proofs.Only.{have-read}
use Rattle.cfs_replay.specs.Pieces.{tags_in, zero_pieces}
use Rattle.cfs_replay.proofs.Cutting.{zero-pieces-are, zeros-within}
use Rattle.cfs_replay.proofs.OneEntry.{brings-home, tags-are, tags-through, truncate-taken}
use Rattle.cfs_replay.proofs.one.bring_truncate.Goals as goal

pub zero_home-requires-clause-within : goal.zero_home-requires-clause-within
zero_home-requires-clause-within g c =
    let seens = map g.B.Block.seen c.args.blocks.now in
    let cut : List Piece =
    zero_pieces c.args.found.now c.args.pending.ino c.args.head.offset in
    subst (λ (ps : List Piece). (k : ℕ) (d : Piece) → k < length ps →
    LiesWithin (length c.args.blocks.now) 4096 (get_or ps k d))
    (sym (c.deref.ensures.0 ∙ c.zero_pieces-pieces.ensures))
    (subst (λ (n : ℕ). (k : ℕ) (d : Piece) → k < length cut →
    LiesWithin n 4096 (get_or cut k d))
    (length-map seens (λ block. (content_of block).tag)
    ∙ length-map c.args.blocks.now g.B.Block.seen)
    (zeros-within c.args.pending.ino c.args.found.now (tags_in seens) c.args.head.offset
    c.requires.finds))

pub returns-clause-home : goal.returns-clause-home
returns-clause-home g c =
    let olds = map g.R.Region.seen c.args.regions.now in
    let seens = map g.B.Block.seen c.args.blocks.now in
    let full : AreFull seens = full-all g.B.Block.seen c.args.blocks.now g.met.B.Block.full in
    brings-home c.args.pending
    (record {
      slot = c.args.pending.slot;
      node = c.args.pending.node;
      size = c.args.size;
      size_after = c.args.head.offset;
    })
    ZEROS c.deref.result.now c.zero_home.result olds
    (map g.R.Region.seen c.zero_home.new.regions) seens
    (map g.B.Block.seen c.zero_home.new.blocks) c.requires.taken.node refl full
    (λ files start first stands next.
    truncate-taken c.args.pending c.args.head c.args.size olds seens c.requires.taken files start
    first _ ZEROS c.deref.result.now stands next c.requires.kind refl
    (subst (λ (ps : List Piece). AreAllPieces c.args.pending.ino (Truncate c.args.head.offset)
    first.blocks ZEROS ps) (sym (c.deref.ensures.0 ∙ c.zero_pieces-pieces.ensures))
    (zero-pieces-are c.args.pending.ino c.args.found.now first.blocks (tags_in seens)
    (λ at. ap (λ (cs : List Content). (content_at cs at).tag)
    (sym (have-read first seens full stands.blocks_are)) ∙ tags-are seens at)
    c.requires.finds c.args.head.offset)))
    c.zero_home.ensures.moments c.zero_home.ensures.stands c.zero_home.ensures.regions
    c.zero_home.ensures.lengths
    (on-ok c.zero_home.result
    (λ is. ap tags_in is ∙ tags-through c.deref.result.now ZEROS seens)
    c.zero_home.ensures.blocks)
    c.zero_home.ensures.devices
