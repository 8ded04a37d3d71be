use Rattle.std.proofs.Common.{◌<◌, ◌≤◌, ◌≡◌, ◌∙◌, length, get_or, ap, arith, rules}
use Rattle.std.proofs.lemmas.List.{get_or_read}
use Rattle.cfs_pmem.specs.Draws.{word_left, after_word}
use Rattle.cfs_pmem.proofs.Crashes.{leaving_none, leaving_more, leaving_all}
use Rattle.cfs_pmem.proofs.mem_region.leave.Goals as goal

pub loop-i-init : goal.loop-i-init
loop-i-init c = leaving_none (λ k. word_left) (λ k. after_word) c.args.pick.now c.args.durable.now.items c.args.present.now.items c.requires

pub loop-i-preserved : goal.loop-i-preserved
loop-i-preserved c =
    let within : c.loop-i.i < length c.args.present.now.items = search rules in
    let d : c.index.result.now ≡ get_or c.loop-i.durable.items c.loop-i.i 0 =
    get_or_read c.loop-i.durable.items c.loop-i.i c.index.result.now (omega (arith, c.loop-i.invariant.durable_size)) c.index.ensures 0 in
    let p : c.index-in-loop-i.result.now ≡ get_or c.loop-i.present.items c.loop-i.i 0 =
    get_or_read c.loop-i.present.items c.loop-i.i c.index-in-loop-i.result.now (omega (arith, c.loop-i.invariant.present_size)) c.index-in-loop-i.ensures 0 in
    leaving_more (λ k. word_left) (λ k. after_word) c.args.pick.now c.args.durable.now.items c.args.present.now.items c.loop-i.pick c.word-word.new.self c.loop-i.durable.items c.loop-i.present.items c.loop-i.i c.word-word.result
    c.loop-i.invariant within
    (c.word-word.ensures.word ∙ ap (λ v. word_left c.loop-i.pick v c.index-in-loop-i.result.now) d ∙ ap (λ v. word_left c.loop-i.pick (get_or c.loop-i.durable.items c.loop-i.i 0) v) p)
    (c.word-word.ensures.pick ∙ ap (λ v. after_word c.loop-i.pick v c.index-in-loop-i.result.now) d ∙ ap (λ v. after_word c.loop-i.pick (get_or c.loop-i.durable.items c.loop-i.i 0) v) p)

pub returns : goal.returns
returns c =
    let end : length c.args.present.now.items ≤ c.loop-i.i = search rules in
    let all = leaving_all (λ k. word_left) (λ k. after_word) c.args.pick.now c.args.durable.now.items c.args.present.now.items c.loop-i.pick c.loop-i.durable.items c.loop-i.present.items c.loop-i.i c.loop-i.invariant end in
    record { present = all.0; durable = all.1; size = c.loop-i.invariant.present_size; pick = all.2 }
