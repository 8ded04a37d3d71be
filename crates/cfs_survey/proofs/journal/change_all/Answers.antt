use Rattle.std.proofs.Common.{◌≡◌, ◌∙◌, ◌<◌, ◌++◌, ◌∷◌, [], List, length, sym, ap, ap₂, refl, subst}
use Rattle.std.proofs.Common.{arith}
use Rattle.std.proofs.lemmas.Result.{err_from_is_err_and}
use Rattle.cfs_dir.specs.declared.change.Change.{Change}
use Rattle.cfs_image.specs.Checks.{Check, damage_of}
use Rattle.cfs_survey.specs.Faults.{checks_from}
use Rattle.cfs_survey.specs.Journals.{changes_checks, reached, reached_checks}
use Rattle.cfs_survey.specs.Refusals.{Refuses}
use Rattle.cfs_survey.specs.SoFar.{places_of, tree_of}
use Rattle.cfs_survey.proofs.FirstFaults.{none_yet, sound_more}
use Rattle.cfs_survey.proofs.ReachedLemmas.{checks_are, so_far_more, told_more}
use Rattle.cfs_survey.proofs.RefusalLemmas.{refused_at, refused_with}
use Rattle.cfs_survey.proofs.journal.change_all.Goals as goal

pub loop-k-init : goal.loop-k-init
loop-k-init c = record {
  sound = none_yet
      (reached_checks c.args.at c.args.through (tree_of c.args.tree.now) (places_of c.args.tree.now)
      (reached c.args.through c.args.journal.now)) 0;
  so_far = record { tree_is = refl; places_are = refl };
  told = c.in_ok-changes.ensures.items;
}

pub returns-in_err-change_tree-clause-named : goal.returns-in_err-change_tree-clause-named
unfolding changes_checks
returns-in_err-change_tree-clause-named c =
    let each =
    reached_checks c.args.at c.args.through (tree_of c.args.tree.now)
    (places_of c.args.tree.now) (reached c.args.through c.args.journal.now) in
    let p = err_from_is_err_and c.from_residual-in_err-change_tree.result
    c.from_residual-in_err-change_tree.ensures.1 in
    let refusal = c.in_err-change_tree.field-0.0 in
    let below : c.loop-k.k < length (reached c.args.through c.args.journal.now) =
    omega (arith, c.requires.count) in
    let residual = c.from_residual-in_err-change_tree in
    refused_with residual.result
    (checks_from each 0 (length (reached c.args.through c.args.journal.now))) p.0 refusal p.1
    p.2
    (refused_at each 0 c.loop-k.k (length (reached c.args.through c.args.journal.now)) c.loop-k.k
    refusal (omega arith) below c.loop-k.invariant.sound
    (subst (λ (checks : List Check). Refuses checks refusal)
    (checks_are c.args.at c.args.through (tree_of c.args.tree.now) (places_of c.args.tree.now)
    c.args.journal.now c.loop-k.k (tree_of c.loop-k.tree) (places_of c.loop-k.tree) below
    c.loop-k.invariant.so_far)
    c.in_err-change_tree.ensures.named))

pub loop-k-preserved : goal.loop-k-preserved
loop-k-preserved c =
    let each =
    reached_checks c.args.at c.args.through (tree_of c.args.tree.now)
    (places_of c.args.tree.now) (reached c.args.through c.args.journal.now) in
    let below : c.loop-k.k < length (reached c.args.through c.args.journal.now) =
    omega (arith, c.requires.count) in
    record {
      sound = sound_more each 0 c.loop-k.k c.loop-k.k (omega arith) c.loop-k.invariant.sound
          (ap damage_of
          (sym (checks_are c.args.at c.args.through (tree_of c.args.tree.now)
          (places_of c.args.tree.now) c.args.journal.now c.loop-k.k (tree_of c.loop-k.tree)
          (places_of c.loop-k.tree) below c.loop-k.invariant.so_far))
          ∙ c.in_ok-change_tree.ensures.sound);
      so_far = so_far_more c.args.at c.args.through (tree_of c.args.tree.now)
          (places_of c.args.tree.now) c.args.journal.now c.loop-k.k
          (tree_of c.loop-k.tree) (tree_of c.change_tree.new.tree) (places_of c.loop-k.tree)
          (places_of c.change_tree.new.tree) below c.loop-k.invariant.so_far
          c.in_ok-change_tree.ensures.tree c.in_ok-change_tree.ensures.offsets;
      told = c.in_ok-push.ensures.items
          ∙ ap₂ (λ (changes : List Change) (change : Change). changes ++ change ∷ [])
          c.loop-k.invariant.told c.in_ok-change_tree.ensures.told
          ∙ sym (told_more c.args.through c.args.journal.now c.loop-k.k below);
    }

pub returns-clause-sound : goal.returns-clause-sound
unfolding changes_checks
returns-clause-sound c =
    let each =
    reached_checks c.args.at c.args.through (tree_of c.args.tree.now)
    (places_of c.args.tree.now) (reached c.args.through c.args.journal.now) in
    let all : c.loop-k.k ≡ length (reached c.args.through c.args.journal.now) =
    omega (arith, c.requires.count) in
    ap (λ n. damage_of (checks_from each 0 n)) (sym all) ∙ c.loop-k.invariant.sound
