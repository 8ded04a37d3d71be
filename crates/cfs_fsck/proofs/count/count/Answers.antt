use Rattle.std.proofs.Common.{◌≡◌, ◌∙◌, ℕ, List, length, subst, arith}
use Rattle.std.specs.List.{count_by}
use Rattle.cfs_dir.specs.declared.node.Node.{Node}
use Rattle.cfs_survey.specs.Slots.{is_live_entry}
use Rattle.cfs_survey.specs.Tags.{is_file}
use Rattle.cfs_fsck.specs.Files.{AreKinds}
use Rattle.cfs_fsck.specs.Reports.{is_noop, is_tag_of}
use Rattle.cfs_fsck.proofs.Counting.{live_counted, noops_counted, tags_counted}
use Rattle.cfs_fsck.proofs.count.count.Goals as goal

pub returns : goal.returns
returns c =
    let nodes : List Node = c.args.survey.now.tree.nodes.items in
    let slots : List (List ℕ) = c.args.words.now.slots.items in
    let tags : List ℕ = c.args.words.now.tags.items in
    let are : AreKinds nodes c.in_ok-kinds.kinds =
    subst (λ (ns : List Node). AreKinds ns c.in_ok-kinds.kinds) c.deref.ensures.value
    c.in_ok-kinds.ensures in
    let count : c.len.result ≡ length nodes =
    omega (arith, c.len.ensures, c.args.survey.now.tree.nodes.ok.0) in
    let live : c.len-2.result ≡ count_by (is_live_entry nodes) slots =
    let all : c.len-2.result ≡ length c.args.survey.now.entries.items =
    omega (arith, c.len-2.ensures, c.args.survey.now.entries.ok.0) in
    all ∙ live_counted nodes slots c.args.survey.now.entries.items c.requires in
    let noop : c.count_noops.result ≡ count_by (is_noop (is_file nodes)) slots =
    noops_counted nodes c.in_ok-kinds.kinds slots c.deref-2.result.now c.count_noops.result are
    c.deref-2.ensures.value c.count_noops.ensures in
    let blocks : c.count_tags.result ≡ count_by (is_tag_of (is_file nodes)) tags =
    tags_counted nodes c.in_ok-kinds.kinds tags c.deref-3.result.now c.count_tags.result are
    c.deref-3.ensures.value c.count_tags.ensures in
    cc
