-- Blocks that are handed to records.
use Rattle.std.proofs.Common.{◌≡◌, ◌≢◌, ◌∙◌, ℕ, zero, suc, ◌+◌, ◌-◌, ◌/◌, ◌%◌, ◌<◌, ◌≤◌, inl, inr}
use Rattle.std.proofs.Common.{Bool, true, false, cond, nat_eq}
use Rattle.std.proofs.Common.{Option, Some, None, List, [], ◌∷◌, ◌++◌, length, map, get_or, set, arith}
use Rattle.std.proofs.Common.{append_assoc, refl, sym, ap}
use Rattle.std.specs.Prelude.{◌==◌, filter}
use Rattle.std.specs.HashMap.{get}
use Rattle.std.specs.List.{range_with_len}
use Rattle.std.specs.Option.{option_map_or}
use Rattle.std.proofs.lemmas.Bool.Decides.{nat_tests}
use Rattle.std.proofs.lemmas.List.{append-nil, get_or-map, length-map, map-append, map-set}
use Rattle.std.proofs.lemmas.List.Elements.{filter-append}
use Rattle.cfs_pmem.specs.Images.{Seen}
use Rattle.cfs_block.specs.BlockImages.{BlockStep, content_of}
use Rattle.cfs_inode.specs.New.{MappedSeen}
use Rattle.cfs_survey.specs.Mapped.{BlockMap}
use Rattle.cfs_states.specs.declared.share.Share.{Share}
use Rattle.cfs_states.specs.Shares.{IsKnown, ShareView, handed, is_at, mapped_of, record_of}
use Rattle.cfs_states.specs.Shares.{share_at, share_view, with_mapped}

abbrev Block : Type 0
Block = Seen BlockStep

-- ---- one block

at-by : BlockMap → ℕ → Option ℕ → Bool
at-by records node o = option_map_or (λ other. other == node) o false

share-other : (records : BlockMap) (node : ℕ) (seen : Block) → is_at records node seen ≡ false →
    share_at records node (seen ∷ []) ≡ []
share-other records node seen other =
    ap (λ (b : Bool). map mapped_of (cond b (seen ∷ []) [])) other

share-own : (records : BlockMap) (node : ℕ) (seen : Block) → is_at records node seen ≡ true →
    share_at records node (seen ∷ []) ≡ mapped_of seen ∷ []
share-own records node seen own =
    ap (λ (b : Bool). map mapped_of (cond b (seen ∷ []) [])) own

pub is-other : (records : BlockMap) (node k : ℕ) (seen : Block) → record_of records seen ≡ Some k →
    k ≢ node → is_at records node seen ≡ false
is-other records node k seen is differs =
    ap (λ (o : Option ℕ). option_map_or (λ other. other == node) o false) is
    ∙ (let test : (k == node) ≡ false = grind (arith, nat_tests) in test)

pub is-own : (records : BlockMap) (node k : ℕ) (seen : Block) → record_of records seen ≡ Some k →
    k ≡ node → is_at records node seen ≡ true
is-own records node k seen is same =
    ap (λ (o : Option ℕ). option_map_or (λ other. other == node) o false) is
    ∙ (let test : (k == node) ≡ true = grind (arith, nat_tests) in test)

pub is-none : (records : BlockMap) (node : ℕ) (seen : Block) → record_of records seen ≡ None →
    is_at records node seen ≡ false
is-none records node seen is =
    ap (λ (o : Option ℕ). option_map_or (λ other. other == node) o false) is

no-more : (share : ShareView) → with_mapped [] share ≡ share
no-more share =
    ap (λ (blocks : List MappedSeen). record share { blocks = blocks }) (append-nil share.blocks)

-- ---- it is handed to nobody

unhanded : (records : BlockMap) (seen : Block) (node : ℕ) (shares : List ShareView) →
    ((k : ℕ) → node ≤ k → is_at records k seen ≡ false) →
    handed records (seen ∷ []) node shares ≡ shares
unhanded records seen node [] none = refl
unhanded records seen node (share ∷ shares) none =
    ap (λ (more : List MappedSeen).
    with_mapped more share ∷ handed records (seen ∷ []) (node + 1) shares)
    (share-other records node seen (none node (omega arith)))
    ∙ (ap (λ (s : ShareView). s ∷ handed records (seen ∷ []) (node + 1) shares) (no-more share)
    ∙ ap (λ (l : List ShareView). share ∷ l)
    (unhanded records seen (node + 1) shares (λ k low. none k (omega arith))))

pub handed-none : (records : BlockMap) (seen : Block) (shares : List ShareView) →
    record_of records seen ≡ None → shares ≡ handed records (seen ∷ []) 0 shares
handed-none records seen shares is =
    sym (unhanded records seen 0 shares (λ k low. is-none records k seen is))

-- ---- or to one of them

handed-at : (records : BlockMap) (seen : Block) (k node i : ℕ) (d : ShareView)
    (shares : List ShareView) → record_of records seen ≡ Some k → node + i ≡ k →
    i < length shares →
    handed records (seen ∷ []) node shares
    ≡ set shares i (with_mapped (mapped_of seen ∷ []) (get_or shares i d))
handed-at records seen k node i d [] is at less = absurd (omega arith)
handed-at records seen k node zero d (share ∷ shares) is at less =
    ap (λ (more : List MappedSeen).
    with_mapped more share ∷ handed records (seen ∷ []) (node + 1) shares)
    (share-own records node seen (is-own records node k seen is (omega arith)))
    ∙ ap (λ (l : List ShareView). with_mapped (mapped_of seen ∷ []) share ∷ l)
    (unhanded records seen (node + 1) shares
    (λ j low. is-other records j k seen is (λ same. absurd (omega arith))))
handed-at records seen k node (suc i) d (share ∷ shares) is at less =
    ap (λ (more : List MappedSeen).
    with_mapped more share ∷ handed records (seen ∷ []) (node + 1) shares)
    (share-other records node seen
    (is-other records node k seen is (λ same. absurd (omega arith))))
    ∙ (ap (λ (s : ShareView). s ∷ handed records (seen ∷ []) (node + 1) shares) (no-more share)
    ∙ ap (λ (l : List ShareView). share ∷ l)
    (handed-at records seen k (node + 1) i d shares is (omega arith) (omega arith)))

pub handed-one : (records : BlockMap) (seen : Block) (k : ℕ) (d : ShareView)
    (shares : List ShareView) → record_of records seen ≡ Some k → k < length shares →
    set shares k (with_mapped (mapped_of seen ∷ []) (get_or shares k d))
    ≡ handed records (seen ∷ []) 0 shares
handed-one records seen k d shares is less =
    sym (handed-at records seen k 0 k d shares is (omega arith) less)

-- ---- one after another

share-more : (records : BlockMap) (node : ℕ) (xs ys : List Block) →
    share_at records node (xs ++ ys) ≡ share_at records node xs ++ share_at records node ys
share-more records node xs ys =
    ap (map mapped_of) (filter-append (is_at records node) xs ys)
    ∙ map-append mapped_of (filter (is_at records node) xs) (filter (is_at records node) ys)

pub handed-more : (records : BlockMap) (xs ys : List Block) (node : ℕ) (shares : List ShareView) →
    handed records ys node (handed records xs node shares)
    ≡ handed records (xs ++ ys) node shares
handed-more records xs ys node [] = refl
handed-more records xs ys node (share ∷ shares) =
    ap (λ (blocks : List MappedSeen).
    record share { blocks = blocks }
    ∷ handed records ys (node + 1) (handed records xs (node + 1) shares))
    (append_assoc share.blocks (share_at records node xs) (share_at records node ys)
    ∙ ap (λ (more : List MappedSeen). share.blocks ++ more) (sym (share-more records node xs ys)))
    ∙ ap (λ (l : List ShareView). with_mapped (share_at records node (xs ++ ys)) share ∷ l)
    (handed-more records xs ys (node + 1) shares)

pub handed-long : (records : BlockMap) (xs : List Block) (node : ℕ) (shares : List ShareView) →
    length (handed records xs node shares) ≡ length shares
handed-long records xs node [] = refl
handed-long records xs node (share ∷ shares) = ap suc (handed-long records xs (node + 1) shares)

-- each record has its blocks then
pub handed-range : (records : BlockMap) (xs : List Block) (f : ℕ → ShareView) (node n : ℕ) →
    handed records xs node (map f (range_with_len node n))
    ≡ map (λ k. with_mapped (share_at records k xs) (f k)) (range_with_len node n)
handed-range records xs f node zero = refl
handed-range records xs f node (suc n) =
    ap (λ (l : List ShareView). with_mapped (share_at records node xs) (f node) ∷ l)
    (handed-range records xs f (node + 1) n)

pub handed-nothing : (records : BlockMap) (node : ℕ) (shares : List ShareView) →
    handed records [] node shares ≡ shares
handed-nothing records node [] = refl
handed-nothing records node (share ∷ shares) =
    ap (λ (s : ShareView). s ∷ handed records [] (node + 1) shares) (no-more share)
    ∙ ap (λ (l : List ShareView). share ∷ l) (handed-nothing records (node + 1) shares)

-- ---- what a call does

pub free-none : (records : BlockMap) (seen : Block) (word : ℕ) → word ≡ (content_of seen).tag →
    word ≡ 0 → record_of records seen ≡ None
free-none records seen word is none =
    let test : ((content_of seen).tag == 0) ≡ true = grind (arith, nat_tests) in rw test refl

pub tagged-some : (records : BlockMap) (seen : Block) (word k : ℕ) →
    word ≡ (content_of seen).tag → word ≢ 0 → Some k ≡ get nat_eq records (word / 65536) →
    record_of records seen ≡ Some k
tagged-some records seen word k is some found =
    let test : ((content_of seen).tag == 0) ≡ false = grind (arith, nat_tests) in
    rw test (ap (λ (w : ℕ). get nat_eq records (w / 65536)) (sym is) ∙ sym found)

pub known-some : (records : BlockMap) (seen : Block) (word : ℕ) →
    word ≡ (content_of seen).tag → word ≢ 0 → IsKnown records seen →
    (k : ℕ) × (get nat_eq records (word / 65536) ≡ Some k)
known-some records seen word is some known =
    let test : ((content_of seen).tag == 0) ≡ false = grind (arith, nat_tests) in
    elim known.record_is [
      | inl free ↦ absurd (cc)
      | inr belongs ↦
          let found = rw test at belongs.1 in
          (belongs.0, ap (λ (w : ℕ). get nat_eq records (w / 65536)) is ∙ found)
    ]

pub handed-set : (records : BlockMap) (seen : Block) (word k : ℕ) (items : List Share)
    (old new : Share) → word ≡ (content_of seen).tag → record_of records seen ≡ Some k →
    k < length items → old ≡ get_or items k old →
    share_view new
    ≡ with_mapped (record { at = (word - 1) % 65536; block = seen } ∷ []) (share_view old) →
    map share_view (set items k new) ≡ handed records (seen ∷ []) 0 (map share_view items)
handed-set records seen word k items old new is found less here view =
    map-set share_view items k new
    ∙ (ap (λ (s : ShareView). set (map share_view items) k s)
    (view
    ∙ (ap (λ (w : ℕ).
    with_mapped (record { at = (w - 1) % 65536; block = seen } ∷ []) (share_view old)) is
    ∙ ap (λ (s : ShareView). with_mapped (mapped_of seen ∷ []) s)
    (ap share_view here
    ∙ sym (get_or-map share_view items k old (share_view old) less))))
    ∙ handed-one records seen k (share_view old) (map share_view items) found
    (omega (arith, less, length-map items share_view)))

-- one more block was handed out
pub handed-push : {B : Type 0} (see : B → Block) (records : BlockMap) (yielded : List B) (block : B)
    (old now new : List ShareView) → now ≡ handed records (map see yielded) 0 old →
    new ≡ handed records (see block ∷ []) 0 now →
    new ≡ handed records (map see (yielded ++ block ∷ [])) 0 old
handed-push see records yielded block old now new was is =
    is ∙ ap (λ (l : List ShareView). handed records (see block ∷ []) 0 l) was
    ∙ handed-more records (map see yielded) (see block ∷ []) 0 old
    ∙ ap (λ (l : List Block). handed records l 0 old)
    (sym (map-append see yielded (block ∷ [])))

pub free-more : {B : Type 0} (free : B → Bool) (yielded : List B) (block : B)
    (old now new : List B) → now ≡ old ++ filter free yielded →
    new ≡ now ++ filter free (block ∷ []) →
    new ≡ old ++ filter free (yielded ++ block ∷ [])
free-more {B} free yielded block old now new was is =
    is ∙ ap (λ (l : List B). l ++ filter free (block ∷ [])) was
    ∙ append_assoc old (filter free yielded) (filter free (block ∷ []))
    ∙ ap (λ (l : List B). old ++ l) (sym (filter-append free yielded (block ∷ [])))
