-- Blocks that are found by their tags: no tag of a file stands twice.
use Rattle.std.proofs.Common.{◌≡◌, ◌∙◌, ℕ, ◌<◌, Bool, true}
use Rattle.std.proofs.Common.{Option, Some, None, List, [], ◌∷◌, get_or, length, arith}
use Rattle.std.proofs.Common.{refl, sym, ap, if◌then◌else◌, eq-eqb, inl, inr, cond}
use Rattle.std.specs.Prelude.{◌==◌, ◌/◌, find, is_some, nat_eq}
use Rattle.std.specs.HashMap.{get}
use Rattle.std.specs.List.{range_with_len}
use Rattle.std.proofs.lemmas.Bool.{cases_lt, eqb-true}
use Rattle.std.specs.Option.{option_or}
use Rattle.std.proofs.lemmas.List.{get_or_past}
use Rattle.std.proofs.lemmas.List.Folds.{find-append}
use Rattle.cfs_dir.specs.declared.node.Node.{Node}
use Rattle.cfs_image.specs.Checks.{damage_of}
use Rattle.cfs_medium.specs.Store.{tag_of}
use Rattle.cfs_replay.specs.Pieces.{FindsBlocks}
use Rattle.cfs_survey.specs.Mapped.{BlockMap, IsBlockMap}
use Rattle.cfs_survey.specs.Surveys.{is_mapped}
use Rattle.cfs_survey.specs.Tags.{block_of, is_file, own_checks, tag_checks, tags_checks}
use Rattle.cfs_survey.proofs.FirstFaults.{holds_at, range_around}
use Rattle.cfs_survey.proofs.TagLemmas.{own_free}
use Rattle.cfs_plan.proofs.Members.{find-has, range-has}

some-one : {X : Type 0} {x y : X} → Some x ≡ Some y → x ≡ y
some-one same = cc

-- a block that is found has the tag
pub block-has : (tags : List ℕ) (n tag at : ℕ) → block_of tags n tag ≡ Some at →
    (at < n) × (get_or tags at 0 ≡ tag)
block-has tags n tag at found =
    let among = find-has (λ block. get_or tags block 0 == tag) (range_with_len 0 n) at found in
    let inside = (range-has 0 n at among.0).1 in
    (omega (arith, inside), eqb-true (get_or tags at 0) tag among.1)

-- a mapped tag stands at a block
pub mapped-at : (tags : List ℕ) (tag : ℕ) → is_mapped tags tag ≡ true →
    (at : ℕ) × ((at < length tags) × (get_or tags at 0 ≡ tag))
mapped-at tags tag is = split (block_of tags (length tags) tag) refl is
  where
    split : (o : Option ℕ) → block_of tags (length tags) tag ≡ o → is_some o ≡ true →
        (at : ℕ) × ((at < length tags) × (get_or tags at 0 ≡ tag))
    split None found is = absurd (cc)
    split (Some at) found is = (at, block-has tags (length tags) tag at found)

-- the first block that has it is found
first-found : (tags : List ℕ) (n tag at : ℕ) → at < n → get_or tags at 0 ≡ tag →
    block_of tags at tag ≡ None → block_of tags n tag ≡ Some at
first-found tags n tag at below has lower =
    let around = range_around 0 at n at (omega arith) below in
    let test : ℕ → Bool = λ block. get_or tags block 0 == tag in
    ap (find test) around.1
    ∙ find-append test (range_with_len 0 at) (at ∷ around.0)
    ∙ ap (λ o. option_or o (find test (at ∷ around.0))) lower
    ∙ ap (λ b. cond b (Some at) (find test around.0)) (eq-eqb (get_or tags at 0) tag has)

-- The checks of tags: no lower block has the tag of a file.
pub tag-free : (offset : ℕ) (nodes : List Node) (tags : List ℕ) (at : ℕ) →
    damage_of (tags_checks offset nodes tags) ≡ None → at < length tags →
    is_file nodes (get_or tags at 0 / 65536) ≡ true →
    block_of tags at (get_or tags at 0) ≡ None
unfolding tags_checks
tag-free offset nodes tags at sound below file =
    let here : damage_of (tag_checks offset nodes tags at) ≡ None =
    holds_at (tag_checks offset nodes tags) 0 (length tags) at at (omega arith) below sound in
    own_free offset tags at (get_or tags at 0)
    (ap (λ (b : Bool). damage_of (if b then own_checks offset tags at (get_or tags at 0) else []))
    (sym file) ∙ here)

-- the map finds the blocks of each file
pub finds-blocks : (offset : ℕ) (nodes : List Node) (tags : List ℕ) (found : BlockMap) (ino : ℕ) →
    damage_of (tags_checks offset nodes tags) ≡ None → is_file nodes ino ≡ true →
    IsBlockMap nodes tags (length tags) found → FindsBlocks ino found tags
finds-blocks offset nodes tags found ino sound file map block at low =
    let tag : ℕ = tag_of ino block in
    let own : tag / 65536 ≡ ino = omega (arith, low) in
    let of_file : is_file nodes (tag / 65536) ≡ true = ap (is_file nodes) own ∙ file in
    let looks : get nat_eq found tag ≡ block_of tags (length tags) tag = map tag of_file in (
      λ is. (block-has tags (length tags) tag at (sym looks ∙ is)).1,
      λ has. elim (cases_lt at (length tags)) [
        | inl below ↦
            let here : is_file nodes (get_or tags at 0 / 65536) ≡ true =
            ap (λ t. is_file nodes (t / 65536)) has ∙ of_file in
            looks ∙ first-found tags (length tags) tag at below has
            (ap (block_of tags at) (sym has) ∙ tag-free offset nodes tags at sound below here)
        | inr past ↦
            let none = get_or_past tags at 0 past in
            absurd (omega (arith, none, has))
      ],
    )
