-- A mount maps each file block once, where no two blocks have one tag.
use Rattle.std.proofs.Common.{◌≡◌, ◌≢◌, ℕ, zero, suc, ◌+◌, ◌<◌, ◌≤◌, Bool, true, false, List, []}
use Rattle.std.proofs.Common.{◌∷◌, ◌++◌, length, map, filter, refl, sym, ◌∙◌, subst, cond, arith}
use Rattle.std.specs.Prelude.{◌==◌}
use Rattle.std.specs.List.{flat_map, range_with_len}
use Rattle.std.proofs.lemmas.Bool.{eqb-true}
use Rattle.cfs_file.specs.declared.sizes.TheConstants.{FILE_BLOCKS}
use Rattle.cfs_block.specs.BlockImages.{content_of}
use Rattle.cfs_dir.specs.declared.node.Node.{Node}
use Rattle.cfs_medium.specs.Store.{tag_of}
use Rattle.cfs_meaning.specs.Drive.{Drive, content_at}
use Rattle.cfs_meaning.specs.Mounting.{files_of, mapped, mounted_file}
use Rattle.cfs_meaning.specs.Mounting.{recovered_tree}
use Rattle.cfs_meaning.specs.Devices.{OfEachFile}
use Rattle.cfs_meaning.specs.Home.{new_drive}
use Rattle.cfs_meaning.specs.Stock.{HaveOwnKeys, IsOnlyAt, MountsMapOnce}
use Rattle.cfs_meaning.specs.Stock.{TagsAreApart}
use Rattle.cfs_meaning.proofs.Keyed.{only-more}
use Rattle.cfs_meaning.proofs.Mapped.{pairs}
use Rattle.cfs_meaning.proofs.NewStores.{each-block}

-- ---- numbers that pass a test

none-passes : (test : ℕ → Bool) (a n : ℕ) →
    ((b : ℕ) → a ≤ b → b < a + n → test b ≡ true → ⊥) → filter test (range_with_len a n) ≡ []
none-passes test a zero none = refl
none-passes test a (suc n) none =
    by-test (test a) refl
    (none-passes test (a + 1) n (λ b low high.
    none b (omega (arith, low)) (omega (arith, high))))
  where
    by-test : (t : Bool) → test a ≡ t → filter test (range_with_len (a + 1) n) ≡ [] →
        cond t (a ∷ filter test (range_with_len (a + 1) n)) (filter test (range_with_len (a + 1) n))
        ≡ []
    by-test true is rest = absurd (none a (omega arith) (omega arith) is)
    by-test false is rest = rest

-- two numbers from there on that pass the test are one
abbrev IsOne : (ℕ → Bool) → ℕ → ℕ → Type 0
IsOne test a n =
    (one other : ℕ) → a ≤ one → one < a + n → a ≤ other → other < a + n → test one ≡ true →
    test other ≡ true → one ≡ other

one-own : (test : ℕ → Bool) (k a n : ℕ) → IsOne test a n →
    HaveOwnKeys (map (λ b. (k, b)) (filter test (range_with_len a n)))
one-own test k a zero one = tt
one-own test k a (suc n) one =
    by-test (test a) refl
    (one-own test k (a + 1) n (λ b c low high from to.
    one b c (omega (arith, low)) (omega (arith, high)) (omega (arith, from)) (omega (arith, to))))
  where
    rest : List ℕ
    rest = filter test (range_with_len (a + 1) n)

    by-test : (t : Bool) → test a ≡ t → HaveOwnKeys (map (λ b. (k, b)) rest) →
        HaveOwnKeys (map (λ b. (k, b)) (cond t (a ∷ rest) rest))
    by-test true is own =
        subst (λ (list : List ℕ). HaveOwnKeys (map (λ b. (k, b)) (a ∷ list)))
        (sym (none-passes test (a + 1) n (λ b low high passes.
        let same : a ≡ b =
        one a b (omega arith) (omega arith) (omega (arith, low)) (omega (arith, high)) is passes in
        omega (arith, low, same)))) (tt, tt)
    by-test false is own = own

-- ---- pairs

apart-only : (k j : ℕ) (bs : List ℕ) → j ≢ k → IsOnlyAt k (map (λ b. (j, b)) bs)
apart-only k j [] apart = tt
apart-only k j (b ∷ bs) apart = (apart, apart-only k j bs apart)

past-only : (test : ℕ → ℕ → Bool) (bs : List ℕ) (k a n : ℕ) → k < a →
    IsOnlyAt k (flat_map (pairs test bs) (range_with_len a n))
past-only test bs k a zero less = tt
past-only test bs k a (suc n) less =
    only-more k (pairs test bs a) (flat_map (pairs test bs) (range_with_len (a + 1) n))
    (apart-only k a (filter (test a) bs) (λ same. omega (arith, less, same)))
    (past-only test bs k (a + 1) n (omega (arith, less)))

keys-joined : (k : ℕ) (bs : List ℕ) (ys : List (ℕ × ℕ)) → HaveOwnKeys (map (λ b. (k, b)) bs) →
    IsOnlyAt k ys → HaveOwnKeys ys → HaveOwnKeys (map (λ b. (k, b)) bs ++ ys)
keys-joined k [] ys own only more = more
keys-joined k (b ∷ bs) ys own only more =
    (only-more k (map (λ c. (k, c)) bs) ys own.0 only, keys-joined k bs ys own.1 only more)

pairs-own : (test : ℕ → ℕ → Bool) (count a n : ℕ) → ((k : ℕ) → IsOne (test k) 0 count) →
    HaveOwnKeys (flat_map (pairs test (range_with_len 0 count)) (range_with_len a n))
pairs-own test count a zero one = tt
pairs-own test count a (suc n) one =
    keys-joined a (filter (test a) (range_with_len 0 count)) _
    (one-own (test a) a 0 count (one a))
    (past-only test (range_with_len 0 count) a (a + 1) n (omega arith))
    (pairs-own test count (a + 1) n one)

-- ---- mounts

mapped-own : (drive : Drive) (ino : ℕ) → TagsAreApart drive → HaveOwnKeys (mapped drive ino)
mapped-own drive ino apart =
    pairs-own (λ k b. (content_at drive b).tag == tag_of ino k) (length drive.blocks) 0 FILE_BLOCKS
    (λ k one other low high from to is also.
    let here = eqb-true (content_at drive one).tag (tag_of ino k) is in
    let there = eqb-true (content_at drive other).tag (tag_of ino k) also in
    apart one other (omega (arith, high)) (omega (arith, to)) (λ none. omega (arith, here, none))
    (here ∙ sym there))

files-own : (drive : Drive) (nodes : List Node) → TagsAreApart drive →
    OfEachFile (λ f. HaveOwnKeys f.blocks) (map (mounted_file drive) nodes)
files-own drive [] apart = tt
files-own drive (node ∷ nodes) apart =
    (mapped-own drive node.ino apart, files-own drive nodes apart)

new-apart : (blocks queues : ℕ) → TagsAreApart (new_drive blocks queues)
new-apart blocks queues one other low high some same =
    absurd (some
    (each-block (λ seen. (content_of seen).tag ≡ 0) blocks queues (λ number. refl) one _ low))

pub mounts-map-once : MountsMapOnce
mounts-map-once =
    (λ callers drive apart. files-own drive (files_of (recovered_tree drive)) apart, new-apart)
