use Rattle.std.proofs.Common.{◌≡◌, ◌∙◌, length, ap, arith, refl, subst}
use Rattle.std.proofs.lemmas.Result.{err_from_is_err_and}
use Rattle.cfs_block.specs.declared.free_block.TheConstants.{ZEROS}
use Rattle.cfs_block.specs.BlockImages.{content_of, zeros, wrote, WriteFails}
use Rattle.cfs_pmem.proofs.MomentLemmas.{at_end}
use Rattle.cfs_block.proofs.BlockLemmas.{now_is_image, zeroed}
use Rattle.cfs_block.proofs.CallsOnBlocks.{write_torn, zeros_unflushed, zeros_stand}
use Rattle.cfs_block.proofs.free_block.clear.Goals as goal

are_zeros : ZEROS ≡ zeros
unfolding zeros
are_zeros = refl

pub returns-in_err-write-clause-cleared : goal.returns-in_err-write-clause-cleared
returns-in_err-write-clause-cleared g c =
    let p = err_from_is_err_and c.from_residual.result c.from_residual.ensures.1 in
    let old = g.B.Block.seen c.args.block.now in
    let new = g.B.Block.seen c.write.new.self in
    let torn : WriteFails g.B.Block.keeps_refused 0 (length zeros) old new =
    subst (λ zs. WriteFails g.B.Block.keeps_refused 0 (length zs) old new) are_zeros c.in_err-write.ensures.err in
    write_torn p.0 p.1 (g.met.B.Block.full c.args.block.now) c.requires torn c.write.ensures.asks c.in_err-write.ensures.asked

pub returns-in_err-write-clause-untagged : goal.returns-in_err-write-clause-untagged
returns-in_err-write-clause-untagged g c = at_end (returns-in_err-write-clause-cleared g c).moments

pub returns-in_err-flush-clause-cleared : goal.returns-in_err-flush-clause-cleared
returns-in_err-flush-clause-cleared g c =
    let p = err_from_is_err_and c.from_residual-in_err-flush.result c.from_residual-in_err-flush.ensures.1 in
    let old = g.B.Block.seen c.args.block.now in
    zeros_unflushed p.0 p.1 (g.met.B.Block.full c.args.block.now) (g.met.B.Block.full c.write.new.self) c.requires
    (c.in_ok-write.ensures.ok ∙ ap (λ zs. wrote 0 zs old) are_zeros) c.write.ensures.asks c.in_ok-write.ensures.asked
    c.in_err-flush.ensures.err c.flush.ensures.asks c.in_err-flush.ensures.asked

pub returns-in_err-flush-clause-untagged : goal.returns-in_err-flush-clause-untagged
returns-in_err-flush-clause-untagged g c =
    at_end (returns-in_err-flush-clause-cleared g c).moments

pub returns-clause-cleared : goal.returns-clause-cleared
returns-clause-cleared g c =
    let old = g.B.Block.seen c.args.block.now in
    zeros_stand tt (g.met.B.Block.full c.args.block.now) (g.met.B.Block.full c.write.new.self) c.requires
    (c.in_ok-write.ensures.ok ∙ ap (λ zs. wrote 0 zs old) are_zeros) c.write.ensures.asks c.in_ok-write.ensures.asked
    c.in_ok-flush.ensures.ok c.flush.ensures.asks c.in_ok-flush.ensures.asked

pub returns-clause-zero : goal.returns-clause-zero
returns-clause-zero g c =
    let old = g.B.Block.seen c.args.block.now in
    let full : length (content_of old).bytes ≡ 4096 = g.met.B.Block.full c.args.block.now in
    let none : (content_of old).tag ≡ 0 = c.requires (content_of old) (now_is_image old.history (omega arith)) in
    zeroed old (g.B.Block.seen c.write.new.self) full none (c.in_ok-write.ensures.ok ∙ ap (λ zs. wrote 0 zs old) are_zeros) c.in_ok-flush.ensures.ok

pub returns-clause-untagged : goal.returns-clause-untagged
returns-clause-untagged g c = at_end (returns-clause-cleared g c).moments
