-- What a selector, two copies of a table and a journal that hold a store's words stand for.
use Rattle.std.proofs.Common.{◌≡◌, ◌∙◌, ℕ, suc, ◌-◌, ◌/◌, ◌%◌, ◌^◌, ◌<◌, false, List, []}
use Rattle.std.proofs.Common.{◌∷◌, length, drop, get_or, None, sym, ap, arith}
use Rattle.cfs_dir.specs.declared.change.Change.{Change}
use Rattle.cfs_dir.specs.Change.{changed_by}
use Rattle.cfs_dir.specs.Namespace.{Namespace}
use Rattle.cfs_dir.specs.Words.{table_in}
use Rattle.cfs_image.specs.Checks.{damage_of}
use Rattle.cfs_pmem.specs.Images.{Seen, WordStep, words_of}
use Rattle.cfs_pmem.specs.Objects.{seen_at}
use Rattle.cfs_pmem.proofs.ImageLemmas.{now_is_image}
use Rattle.cfs_ckpt.specs.Loads.{CanLoad, Loaded, word_in}
use Rattle.cfs_ckpt.specs.Selects.{Selects}
use Rattle.cfs_ckpt.proofs.LoadLemmas.{each_at}
use Rattle.cfs_journal.specs.Standing.{Standing, changes_above}
use Rattle.cfs_names.specs.Behind.{AreBehind}
use Rattle.cfs_image.specs.Layout.{journal_at}
use Rattle.cfs_survey.specs.Journals.{changes_checks, gates_checks, last_reached, reached}
use Rattle.cfs_survey.specs.Journals.{table_places}
use Rattle.cfs_survey.specs.Surveys.{Words, namespace_checks, selected_at, survey_checks, through_of}
use Rattle.cfs_survey.specs.Tables.{table_checks}
use Rattle.cfs_survey.proofs.FirstFaults.{sound_parts}
use Rattle.cfs_mount.specs.Front.{HoldFront}
use Rattle.cfs_mount.proofs.Distinct.{first_distinct, second_distinct}
use Rattle.cfs_mount.proofs.Standings.{checked-stands}

-- the selector's word chooses a copy that is sure
pub selects : (words : Words) (selector : Seen WordStep) (tables records : List (Seen WordStep)) →
    HoldFront words selector tables records → Selects words.selector false (selector ∷ tables)
selects words selector tables records front = record {
  size = omega (arith, front.copies);
  distinct = first_distinct (selector ∷ tables) records front.distinct;
  selector = front.word (words_of selector) (now_is_image selector.history);
  tables = front.long;
  settled = λ settled image possible.
      front.word image possible
      ∙ sym (front.word (words_of selector) (now_is_image selector.history));
  chosen = λ image possible. front.sure (word_in image % 2) (omega arith);
}

-- what is loaded of these devices is the selected copy
pub loads : (words : Words) (selector : Seen WordStep) (tables records : List (Seen WordStep)) →
    HoldFront words selector tables records → (x : Loaded) → CanLoad (selector ∷ tables) x →
    x ≡ record { tree = table_in words.table; through = through_of words.selector }
loads words selector tables records front x can =
    let word : word_in (get_or can.images 0 []) ≡ words.selector =
    ap (λ ws. word_in ws) (front.word (get_or can.images 0 [])
    (each_at (selector ∷ tables) can.images 0 can.possible (omega (arith, front.copies)))) in
    let copy : ℕ = words.selector % 2 in
    let image : get_or can.images (suc copy) [] ≡ words.table =
    front.sure copy (omega arith) (get_or can.images (suc copy) [])
    (each_at (selector ∷ tables) can.images (suc copy) can.possible
    (omega (arith, front.copies))) ∙ front.selected in
    sym can.loads
    ∙ ap (λ w. record {
      tree = table_in (get_or can.images (suc (w % 2)) []);
      through = w / 2;
    }) word
    ∙ ap (λ ws. record { tree = table_in ws; through = words.selector / 2 }) image

-- and the journal leads from there to the tree
pub is-behind : (words : Words) (selector : Seen WordStep) (tables records : List (Seen WordStep)) →
    HoldFront words selector tables records → (changes : List Change) (tree : Namespace) →
    changed_by (table_in words.table) changes ≡ tree →
    AreBehind (through_of words.selector) changes tree (selector ∷ tables)
is-behind words selector tables records front changes tree leads x can =
    let is = loads words selector tables records front x can in
    let through : x.through ≡ through_of words.selector = ap (λ l. l.through) is in
    let nothing : x.through - through_of words.selector ≡ 0 = omega (arith, through) in
    record {
      low = omega (arith, through);
      high = omega (arith, through);
      leads = ap (λ n. changed_by x.tree (drop n changes)) nothing
          ∙ ap (λ t. changed_by t changes) (ap (λ l. l.tree) is) ∙ leads;
    }

-- the journal stands
pub journal-stands : (words : Words) (selector : Seen WordStep)
    (tables records : List (Seen WordStep)) → HoldFront words selector tables records →
    (at : ℕ) → length words.journal ≡ 64 → words.selector < 2 ^ 64 →
    damage_of (gates_checks at words.journal
    (last_reached (through_of words.selector) words.journal)) ≡ None →
    Standing (through_of words.selector)
    (changes_above (through_of words.selector) words.journal) None records
journal-stands words selector tables records front at places low sound =
    checked-stands at (through_of words.selector) words.journal records places (omega (arith, low))
    (λ position within.
    ap (λ ws. length ws) (sym (front.journal.each position (omega (arith, within, places))
    (words_of (seen_at records position)) (now_is_image (seen_at records position).history)))
    ∙ front.sizes position within)
    (second_distinct (selector ∷ tables) records front.distinct) front.journal sound

-- the two walks over all gates are among the checks of a store
pub gates-sound : (words : Words) → damage_of (survey_checks words) ≡ None →
    damage_of (gates_checks (journal_at 0) words.journal
    (last_reached (through_of words.selector) words.journal)) ≡ None
unfolding survey_checks namespace_checks
gates-sound words sound =
    let names = (sound_parts (namespace_checks words) _ sound).0 in
    let journal = (sound_parts (table_checks (selected_at words.selector) words.table) _ names).1 in
    (sound_parts (changes_checks (journal_at 0) (through_of words.selector) (table_in words.table)
    (table_places (selected_at words.selector)) (reached (through_of words.selector) words.journal))
    _ journal).1
