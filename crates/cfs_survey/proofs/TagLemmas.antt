-- A map of the blocks of tags, block by block.
use Rattle.std.proofs.Common.{◌≡◌, ◌≢◌, ℕ, ◌+◌, ◌/◌, List, [], ◌∷◌, get_or, true, false}
use Rattle.std.proofs.Common.{cond, inl, inr, refl, sym, ◌∙◌, ap, arith}
use Rattle.std.specs.Prelude.{Option, Some, None, find, nat_eq, is_none, unwrap_or, ◌==◌}
use Rattle.std.specs.HashMap.{get}
use Rattle.std.specs.Map.{lookup}
use Rattle.std.specs.List.{range_with_len}
use Rattle.std.specs.Option.{option_or}
use Rattle.std.proofs.lemmas.Bool.{cases_Bool, eqb-true}
use Rattle.std.proofs.lemmas.List.Folds.{find-append}
use Rattle.cfs_dir.specs.declared.node.Node.{Node}
use Rattle.cfs_survey.specs.Mapped.{BlockMap, IsBlockMap}
use Rattle.cfs_image.specs.Checks.{check, damage_of}
use Rattle.cfs_survey.specs.Tags.{block_of, is_block_tag, is_file, own_checks, tag_at}
use Rattle.cfs_survey.proofs.FirstFaults.{passed, range_more, sound_parts}
use Rattle.cfs_survey.proofs.RootLemmas.{unequal}

-- the blocks with one more
block_more : (tags : List ℕ) (n tag : ℕ) →
    block_of tags (n + 1) tag ≡ option_or (block_of tags n tag)
    (cond (get_or tags n 0 == tag) (Some n) None)
block_more tags n tag =
    ap (find (λ block. get_or tags block 0 == tag)) (range_more 0 n n (omega arith))
    ∙ find-append (λ block. get_or tags block 0 == tag) (range_with_len 0 n) (n ∷ [])

or_none : (found : Option ℕ) → option_or found None ≡ found
or_none None = refl
or_none (Some x) = refl

block_other : (tags : List ℕ) (n tag : ℕ) → get_or tags n 0 ≢ tag →
    block_of tags (n + 1) tag ≡ block_of tags n tag
block_other tags n tag other =
    block_more tags n tag
    ∙ ap (λ b. option_or (block_of tags n tag) (cond b (Some n) None))
    (unequal (get_or tags n 0) tag other)
    ∙ or_none (block_of tags n tag)

-- no block yet
pub none_mapped : (nodes : List Node) (tags : List ℕ) (blocks : BlockMap) → blocks.entries ≡ [] →
    IsBlockMap nodes tags 0 blocks
none_mapped nodes tags blocks empty tag file = ap (λ entries. lookup (nat_eq tag) entries) empty

-- a block whose tag is not that of a file
pub block_skipped : (nodes : List Node) (tags : List ℕ) (n : ℕ) (blocks : BlockMap) →
    is_file nodes (get_or tags n 0 / 65536) ≡ false
    → IsBlockMap nodes tags n blocks → IsBlockMap nodes tags (n + 1) blocks
block_skipped nodes tags n blocks other before tag file =
    before tag file
    ∙ sym (block_other tags n tag
    (λ e. (let clash = sym file ∙ ap (λ t. is_file nodes (t / 65536)) (sym e) ∙ other in cc)))

-- and one whose tag is new
pub block_noted : (nodes : List Node) (tags : List ℕ) (n : ℕ) (old new : BlockMap)
    → ((tag : ℕ) → get nat_eq new tag
    ≡ cond (nat_eq (get_or tags n 0) tag) (Some n) (get nat_eq old tag))
    → block_of tags n (get_or tags n 0) ≡ None → IsBlockMap nodes tags n old →
    IsBlockMap nodes tags (n + 1) new
block_noted nodes tags n old new updated free before tag file =
    elim (cases_Bool (nat_eq (get_or tags n 0) tag)) [
      | inl t ↦
          updated tag ∙ ap (λ b. cond b (Some n) (get nat_eq old tag)) t
          ∙ sym (block_more tags n tag
          ∙ ap (λ b. option_or (block_of tags n tag) (cond b (Some n) None)) t
          ∙ ap (λ found. option_or found (Some n))
          (ap (block_of tags n) (sym (eqb-true (get_or tags n 0) tag t)) ∙ free))
      | inr f ↦
          updated tag ∙ ap (λ b. cond b (Some n) (get nat_eq old tag)) f
          ∙ before tag file
          ∙ sym (block_more tags n tag
          ∙ ap (λ b. option_or (block_of tags n tag) (cond b (Some n) None)) f
          ∙ or_none (block_of tags n tag))
    ]

none_found : (found : Option ℕ) → is_none found ≡ true → found ≡ None
none_found None h = refl
none_found (Some x) h = absurd (cc)

-- a tag that passes its checks has no lower block
pub own_free : (at : ℕ) (tags : List ℕ) (block tag : ℕ) →
    damage_of (own_checks at tags block tag) ≡ None → block_of tags block tag ≡ None
own_free at tags block tag sound =
    let first = check (is_block_tag tag) (tag_at at block) tag 256 in
    let lower =
    check (is_none (block_of tags block tag)) (tag_at at block) tag
    (unwrap_or (block_of tags block tag) 0) in
    none_found (block_of tags block tag)
    (passed lower (sound_parts (first ∷ []) (lower ∷ []) sound).1)
