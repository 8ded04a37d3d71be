use Rattle.std.proofs.Common.{ℕ, ◌+◌, ◌-◌, ◌%◌, ◌≡◌, ◌∙◌, List, length, map, sym, subst, ap}
use Rattle.std.proofs.Common.{arith}
use Rattle.std.proofs.lemmas.List.{length-map}
use Rattle.cfs_pmem.specs.Images.{IsImage, Seen, WordStep}
use Rattle.cfs_pmem.specs.AllMoments.{AreDistinct}
use Rattle.cfs_pmem.specs.Objects.{all_devices}
use Rattle.cfs_survey.specs.Surveys.{AreWhole}
use Rattle.cfs_store_words.specs.Held.{selector_held}
use Rattle.cfs_store_words.specs.Rows.{first_word, row_at, rows_from}
use Rattle.cfs_store_words.proofs.Both.{blocks-behind, both-well, cause-front, distinct-back}
use Rattle.cfs_store_words.proofs.Both.{distinct-front, regions-alone, stops, stops-behind}
use Rattle.cfs_store_words.proofs.Both.{stops-first}
use Rattle.cfs_store_words.proofs.Calls.{leaves-after}
use Rattle.cfs_store_words.proofs.Stores.{fewest, journal-is, record-after, size-after}
use Rattle.cfs_store_words.proofs.Stores.{slot-after, slots-are, table-after, whole, words-are}
use Rattle.cfs_store_words.proofs.store.read_words.Goals as goal

pub read_word-requires-clause-distinct : goal.read_word-requires-clause-distinct
read_word-requires-clause-distinct g c =
    distinct-front (all_devices (map g.R.Region.seen c.args.regions.now))
    (all_devices (map g.B.Block.seen c.args.blocks.now)) c.requires.distinct

pub returns-in_err-selector-clause-leaves : goal.returns-in_err-selector-clause-leaves
returns-in_err-selector-clause-leaves g c =
    regions-alone (map g.B.Block.seen c.args.blocks.now) c.requires.distinct
    c.read_word.ensures.leaves

pub returns-in_err-selector-clause-cause : goal.returns-in_err-selector-clause-cause
returns-in_err-selector-clause-cause g c =
    cause-front _ _ (map g.B.Block.faults c.args.blocks.now) _
    (stops-first _ _ c.in_err-selector.field-0.0 _ c.from_residual.ensures.1
    c.in_err-selector.ensures.cause)

pub returns-in_err-table-clause-leaves : goal.returns-in_err-table-clause-leaves
returns-in_err-table-clause-leaves g c =
    regions-alone (map g.B.Block.seen c.args.blocks.now) c.requires.distinct
    (leaves-after IsImage c.read_word.ensures.leaves c.read_table.ensures.leaves)

pub returns-in_err-table-clause-cause : goal.returns-in_err-table-clause-cause
returns-in_err-table-clause-cause g c =
    cause-front _ _ (map g.B.Block.faults c.args.blocks.now) _
    (stops _ _ _ c.in_err-table.field-0.0 _ c.from_residual-in_err-table.ensures.1
    (c.in_ok-selector.ensures.cause.passed) c.in_err-table.ensures.cause)

pub returns-in_err-journal-clause-leaves : goal.returns-in_err-journal-clause-leaves
returns-in_err-journal-clause-leaves g c =
    regions-alone (map g.B.Block.seen c.args.blocks.now) c.requires.distinct
    (leaves-after IsImage (leaves-after IsImage c.read_word.ensures.leaves
    c.read_table.ensures.leaves) c.read_fronts.ensures.leaves)

pub returns-in_err-journal-clause-cause : goal.returns-in_err-journal-clause-cause
returns-in_err-journal-clause-cause g c =
    cause-front _ _ (map g.B.Block.faults c.args.blocks.now) _
    (stops _ _ _ c.in_err-journal.field-0.0 _ c.from_residual-in_err-journal.ensures.1
    (c.in_ok-table.ensures.cause.passed ∙ c.in_ok-selector.ensures.cause.passed)
    c.in_err-journal.ensures.cause)

pub returns-in_err-sizes-clause-leaves : goal.returns-in_err-sizes-clause-leaves
returns-in_err-sizes-clause-leaves g c =
    regions-alone (map g.B.Block.seen c.args.blocks.now) c.requires.distinct
    (leaves-after IsImage (leaves-after IsImage (leaves-after IsImage c.read_word.ensures.leaves
    c.read_table.ensures.leaves) c.read_fronts.ensures.leaves) c.read_sizes.ensures.leaves)

pub returns-in_err-sizes-clause-cause : goal.returns-in_err-sizes-clause-cause
returns-in_err-sizes-clause-cause g c =
    cause-front _ _ (map g.B.Block.faults c.args.blocks.now) _
    (stops _ _ _ c.in_err-sizes.field-0.0 _ c.from_residual-in_err-sizes.ensures.1
    (c.in_ok-journal.ensures.cause.passed ∙ (c.in_ok-table.ensures.cause.passed ∙
    c.in_ok-selector.ensures.cause.passed)) c.in_err-sizes.ensures.cause)

pub returns-in_err-slots-clause-leaves : goal.returns-in_err-slots-clause-leaves
returns-in_err-slots-clause-leaves g c =
    regions-alone (map g.B.Block.seen c.args.blocks.now) c.requires.distinct
    (leaves-after IsImage (leaves-after IsImage (leaves-after IsImage (leaves-after IsImage
    c.read_word.ensures.leaves c.read_table.ensures.leaves) c.read_fronts.ensures.leaves)
    c.read_sizes.ensures.leaves) c.read_fronts-2.ensures.leaves)

pub returns-in_err-slots-clause-cause : goal.returns-in_err-slots-clause-cause
returns-in_err-slots-clause-cause g c =
    cause-front _ _ (map g.B.Block.faults c.args.blocks.now) _
    (stops _ _ _ c.in_err-slots.field-0.0 _ c.from_residual-in_err-slots.ensures.1
    (c.in_ok-sizes.ensures.cause.passed ∙ (c.in_ok-journal.ensures.cause.passed ∙
    (c.in_ok-table.ensures.cause.passed ∙ c.in_ok-selector.ensures.cause.passed)))
    c.in_err-slots.ensures.cause)

pub read_table-requires-clause-within : goal.read_table-requires-clause-within
read_table-requires-clause-within g c =
    table-after c.requires.store c.read_word.ensures.leaves.same c.in_ok-selector.selector

pub read_fronts-requires : goal.read_fronts-requires
read_fronts-requires g c =
    let leaves = leaves-after IsImage c.read_word.ensures.leaves c.read_table.ensures.leaves in (
      omega arith,
      (
        omega (
          arith,
          fewest c.requires.store,
          c.read_word.auto.regions,
          c.read_table.auto.regions,
          length-map c.args.regions.now g.R.Region.seen,
        ),
        (
          λ k less. record-after c.requires.store leaves.same k less,
          (
            omega arith,
            subst (λ (seens : List (Seen WordStep)). AreDistinct (all_devices seens)) (sym
                leaves.same)
                leaves.moments.distinct,
          ),
        ),
      ),
    )

pub read_sizes-requires-clause-within : goal.read_sizes-requires-clause-within
read_sizes-requires-clause-within g c =
    let leaves = leaves-after IsImage (leaves-after IsImage c.read_word.ensures.leaves
    c.read_table.ensures.leaves) c.read_fronts.ensures.leaves in
    λ k less. size-after c.requires.store leaves.same k less

pub read_fronts-requires-2 : goal.read_fronts-requires-2
read_fronts-requires-2 g c =
    let leaves = leaves-after IsImage (leaves-after IsImage (leaves-after IsImage
    c.read_word.ensures.leaves c.read_table.ensures.leaves) c.read_fronts.ensures.leaves)
    c.read_sizes.ensures.leaves in
    let many : length c.read_sizes.new.regions ≡ length (map g.R.Region.seen c.args.regions.now) =
    sym (length-map c.read_sizes.new.regions g.R.Region.seen)
    ∙ ap (λ (seens : List (Seen WordStep)). length seens) leaves.same in (
      omega arith,
      (
        omega (arith, fewest c.requires.store, many),
        (
          λ k less. slot-after c.requires.store leaves.same k (omega (arith, less, many)),
          (
            omega arith,
            subst (λ (seens : List (Seen WordStep)). AreDistinct (all_devices seens)) (sym
                leaves.same)
                leaves.moments.distinct,
          ),
        ),
      ),
    )

pub read_tags-requires : goal.read_tags-requires
read_tags-requires g c = record {
  distinct = distinct-back (all_devices (map g.R.Region.seen c.args.regions.now))
      (all_devices (map g.B.Block.seen c.args.blocks.now)) c.requires.distinct;
}

pub returns-in_err-tags-clause-leaves : goal.returns-in_err-tags-clause-leaves
returns-in_err-tags-clause-leaves g c =
    blocks-behind c.requires.distinct
    (leaves-after IsImage (leaves-after IsImage (leaves-after IsImage (leaves-after IsImage
    c.read_word.ensures.leaves c.read_table.ensures.leaves) c.read_fronts.ensures.leaves)
    c.read_sizes.ensures.leaves) c.read_fronts-2.ensures.leaves)
    c.read_tags.ensures.leaves

pub returns-in_err-tags-clause-cause : goal.returns-in_err-tags-clause-cause
returns-in_err-tags-clause-cause g c =
    stops-behind _ _ _ _ c.in_err-tags.field-0.0 _ c.from_residual-in_err-tags.ensures.1
    (c.in_ok-slots.ensures.cause.passed ∙ (c.in_ok-sizes.ensures.cause.passed ∙
    (c.in_ok-journal.ensures.cause.passed ∙ (c.in_ok-table.ensures.cause.passed ∙
    c.in_ok-selector.ensures.cause.passed))))
    c.in_err-tags.ensures.cause

pub returns-clause-read : goal.returns-clause-read
returns-clause-read g c =
    let olds : List (Seen WordStep) = map g.R.Region.seen c.args.regions.now in
    let selector : c.in_ok-selector.selector ≡ selector_held olds =
    c.in_ok-selector.ensures.word in
    let third = leaves-after IsImage (leaves-after IsImage c.read_word.ensures.leaves
    c.read_table.ensures.leaves) c.read_fronts.ensures.leaves in
    let fourth = leaves-after IsImage (leaves-after IsImage (leaves-after IsImage
    c.read_word.ensures.leaves c.read_table.ensures.leaves) c.read_fronts.ensures.leaves)
    c.read_sizes.ensures.leaves in
    let many : length c.read_sizes.new.regions ≡ length olds =
    sym (length-map c.read_sizes.new.regions g.R.Region.seen)
    ∙ ap (λ (seens : List (Seen WordStep)). length seens) fourth.same in
    words-are _ _ selector
    (c.in_ok-table.ensures.table
    ∙ (ap (λ (seens : List (Seen WordStep)). row_at seens (1 + c.in_ok-selector.selector % 2))
    c.read_word.ensures.leaves.same
    ∙ ap (λ (n : ℕ). row_at olds (1 + n % 2)) selector))
    (c.in_ok-journal.ensures.rows
    ∙ journal-is c.requires.store (leaves-after IsImage c.read_word.ensures.leaves
    c.read_table.ensures.leaves).same)
    (c.in_ok-sizes.ensures.sizes
    ∙ ap (λ (seens : List (Seen WordStep)). map first_word (rows_from 67 256 seens)) third.same)
    (c.in_ok-slots.ensures.rows
    ∙ slots-are c.requires.store (length c.read_sizes.new.regions - 323) fourth.same
    (omega (arith, many)))
    c.in_ok-tags.ensures.tags

pub returns-clause-whole : goal.returns-clause-whole
returns-clause-whole g c =
    subst AreWhole (sym (returns-clause-read g c)) (whole c.requires.store)

pub returns-clause-leaves : goal.returns-clause-leaves
returns-clause-leaves g c =
    blocks-behind c.requires.distinct
    (leaves-after IsImage (leaves-after IsImage (leaves-after IsImage (leaves-after IsImage
    c.read_word.ensures.leaves c.read_table.ensures.leaves) c.read_fronts.ensures.leaves)
    c.read_sizes.ensures.leaves) c.read_fronts-2.ensures.leaves)
    c.read_tags.ensures.leaves

pub returns-clause-cause : goal.returns-clause-cause
returns-clause-cause g c =
    both-well _ _ _ _ _
    (c.in_ok-slots.ensures.cause.passed ∙ (c.in_ok-sizes.ensures.cause.passed ∙
    (c.in_ok-journal.ensures.cause.passed ∙ (c.in_ok-table.ensures.cause.passed ∙
    c.in_ok-selector.ensures.cause.passed))))
    c.in_ok-tags.ensures.cause.passed
