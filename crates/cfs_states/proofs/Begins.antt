-- Records before any block is handed out.
use Rattle.std.proofs.Common.{◌≡◌, ◌∙◌, ℕ, zero, suc, ◌+◌, ◌<◌, List, [], ◌∷◌, ◌++◌, length, map}
use Rattle.std.proofs.Common.{get_or, arith, refl, sym, ap}
use Rattle.std.specs.List.{range_with_len}
use Rattle.std.proofs.lemmas.List.{length-map, map-append}
use Rattle.std.proofs.lemmas.List.FromFn.{fill_by_all}
use Rattle.cfs_pmem.specs.Images.{Seen, WordStep}
use Rattle.cfs_pmem.specs.Objects.{seen_at}
use Rattle.cfs_home.specs.Disks.{File}
use Rattle.cfs_states.specs.Begins.{begun, owner_at}
use Rattle.cfs_states.specs.Shares.{ShareView}

begun-more : (files : List File) (node : ℕ) (sizes : List (Seen WordStep)) (size : Seen WordStep) →
    begun files node (sizes ++ size ∷ [])
    ≡ begun files node sizes
    ++ record { size = size; owner = owner_at files (node + length sizes); blocks = [] } ∷ []
begun-more files node [] size =
    ap (λ (k : ℕ). record { size = size; owner = owner_at files k; blocks = [] } ∷ [])
    (omega arith)
begun-more files node (first ∷ sizes) size =
    ap (λ (l : List ShareView).
    record { size = first; owner = owner_at files node; blocks = [] } ∷ l)
    (begun-more files (node + 1) sizes size
    ∙ ap (λ (k : ℕ). begun files (node + 1) sizes
    ++ record { size = size; owner = owner_at files k; blocks = [] } ∷ []) (omega arith))

pub begun-long : (files : List File) (node : ℕ) (sizes : List (Seen WordStep)) →
    length (begun files node sizes) ≡ length sizes
begun-long files node [] = refl
begun-long files node (size ∷ sizes) = ap suc (begun-long files (node + 1) sizes)

-- one more record
pub begun-push : {S R : Type 0} (view : S → ShareView) (see : R → Seen WordStep)
    (files : List File) (yielded : List R) (size : R) (shares : List S) (share : S) →
    map view shares ≡ begun files 0 (map see yielded) →
    view share
    ≡ record { size = see size; owner = owner_at files (length shares); blocks = [] } →
    map view (shares ++ share ∷ []) ≡ begun files 0 (map see (yielded ++ size ∷ []))
begun-push view see files yielded size shares share was is =
    map-append view shares (share ∷ [])
    ∙ ap (λ (l : List ShareView). l ++ view share ∷ []) was
    ∙ ap (λ (s : ShareView). begun files 0 (map see yielded) ++ s ∷ [])
    (is ∙ ap (λ (k : ℕ).
    let it : ShareView = record { size = see size; owner = owner_at files k; blocks = [] } in it)
    (omega (
      arith,
      length-map shares view,
      ap length was,
      begun-long files 0 (map see yielded),
    )))
    ∙ sym (begun-more files 0 (map see yielded) (see size))
    ∙ ap (λ (l : List (Seen WordStep)). begun files 0 l)
    (sym (map-append see yielded (size ∷ [])))

-- what the record with a number has
abbrev pub begun_at : List File → List (Seen WordStep) → ℕ → ShareView
begun_at files sizes node =
    record { size = seen_at sizes node; owner = owner_at files node; blocks = [] }

at-begun : (files : List File) (node k : ℕ) (sizes : List (Seen WordStep)) (d : ShareView) →
    k < length sizes →
    get_or (begun files node sizes) k d
    ≡ record { size = seen_at sizes k; owner = owner_at files (node + k); blocks = [] }
at-begun files node k [] d less = absurd (omega arith)
at-begun files node zero (size ∷ sizes) d less =
    ap (λ (j : ℕ).
    let it : ShareView = record { size = size; owner = owner_at files j; blocks = [] } in it)
    (omega arith)
at-begun files node (suc k) (size ∷ sizes) d less =
    at-begun files (node + 1) k sizes d (omega arith)
    ∙ ap (λ (j : ℕ).
    let it : ShareView =
    record { size = seen_at sizes k; owner = owner_at files j; blocks = [] } in it)
    (omega arith)

pub begun-range : (files : List File) (sizes : List (Seen WordStep)) →
    begun files 0 sizes ≡ map (begun_at files sizes) (range_with_len 0 (length sizes))
begun-range files sizes =
    fill_by_all (begun_at files sizes) (begun files 0 sizes) (length sizes)
    (begun_at files sizes 0) (begun-long files 0 sizes)
    (λ k less. at-begun files 0 k sizes (begun_at files sizes 0) less
    ∙ ap (λ (j : ℕ).
    let it : ShareView =
    record { size = seen_at sizes k; owner = owner_at files j; blocks = [] } in it)
    (omega arith))
