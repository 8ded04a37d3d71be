-- Jobs are found by the places of their changes.
use Rattle.std.proofs.Common.{◌≡◌, ◌≢◌, ◌∙◌, ◌<◌, ◌≤◌, ◌+◌, ◌++◌, ◌==◌, ap, arith, false, get_or}
use Rattle.std.proofs.Common.{drop, inl, inr, length, List, [], ◌∷◌, map, None, Some, refl, suc, sym}
use Rattle.std.proofs.Common.{add-one, set, take, true, zero, ℕ}
use Rattle.std.specs.List.{position, position_or_len}
use Rattle.std.proofs.Math.Seq.{split_at}
use Rattle.std.proofs.lemmas.Bool.{cases_Bool, cases_lt, eqb-true}
use Rattle.std.proofs.lemmas.Bool.Decides.{eqb_tells, nat_tests}
use Rattle.std.proofs.lemmas.List.{drop-map, get_or-map, length-map, map-append, take-map}
use Rattle.std.proofs.lemmas.List.Quantifiers.{position-Some}
use Rattle.cfs_block.specs.BlockImages.{BlockStep}
use Rattle.cfs_job.specs.declared.job.Job.{Job}
use Rattle.cfs_job.specs.Jobs.{job_view}
use Rattle.cfs_pmem.specs.Images.{Seen, WordStep}
use Rattle.cfs_slot.specs.Regions.{place_of}
use Rattle.cfs_inode.specs.Stands.{IsBeside}
use Rattle.cfs_active.specs.Find.{HasJob, is_job_of}

apart : (one other : ℕ) → (one == other) ≡ false → one ≢ other
apart one other unlike = elim (eqb_tells one other) [
  | inl same ↦ (let clash : true ≡ false = sym same.0 ∙ unlike in cc)
  | inr ne ↦ ne.1
]

none-has : {R B : Type 0} {g h : _} (words : R → Seen WordStep) (bytes : B → Seen BlockStep)
    (number : B → ℕ) (items : List (Job R B g h)) (place : ℕ) →
    length items ≤ position_or_len (λ job. is_job_of place job) items →
    IsBeside place (map (job_view words bytes number) items)
none-has words bytes number [] place le = tt
none-has words bytes number (x ∷ xs) place le = elim (cases_Bool (is_job_of place x)) [
  | inl own ↦
      let here : position_or_len (λ job. is_job_of place job) (x ∷ xs) ≡ 0 = rw own refl in
      absurd (omega arith)
  | inr other ↦
      let here : position_or_len (λ job. is_job_of place job) (x ∷ xs)
      ≡ 1 + position_or_len (λ job. is_job_of place job) xs = rw other refl in (
        apart (place_of x.request) place other,
        none-has words bytes number xs place (omega arith),
      )
]

-- none of the jobs has the place
pub missed : {R B : Type 0} {g h : _} (words : R → Seen WordStep) (bytes : B → Seen BlockStep)
    (number : B → ℕ) (items : List (Job R B g h)) (place : ℕ) →
    position (λ job. is_job_of place job) items ≡ None →
    IsBeside place (map (job_view words bytes number) items)
missed words bytes number items place none =
    none-has words bytes number items place
    (elim (cases_lt (position_or_len (λ job. is_job_of place job) items) (length items)) [
      | inl less ↦ grind (arith, nat_tests)
      | inr le ↦ le
    ])

-- the job that is found, which is the one at this position
abbrev pub found : {R B : Type 0} {g h : _} (words : R → Seen WordStep) (bytes : B → Seen BlockStep)
    (number : B → ℕ) (items : List (Job R B g h)) (place at : ℕ) (job : Job R B g h) →
    position (λ job. is_job_of place job) items ≡ Some at → job ≡ get_or items at job →
    HasJob place (map (job_view words bytes number) items)
found words bytes number items place at job is own =
    let views = map (job_view words bytes number) items in
    let view = job_view words bytes number job in
    let there = position-Some (λ job. is_job_of place job) items at job is in
    let inside : at < length views = omega (arith, there.0, length-map items (job_view words bytes number)) in
    let same : get_or views at view ≡ view =
    get_or-map (job_view words bytes number) items at job view there.0
    ∙ ap (λ j. job_view words bytes number j) (sym own) in record {
      before = take at views;
      job = view;
      behind = drop (suc at) views;
      jobs_are = split_at views at view inside
          ∙ ap (λ j. take at views ++ j ∷ drop (suc at) views) same;
      place_is = eqb-true (place_of job.request) place
          (ap (λ j. is_job_of place j) own ∙ there.1);
    }

-- ---- the lists behind a call

-- it is taken from among the others
pub removed-are : {R B : Type 0} {g h : _} (words : R → Seen WordStep) (bytes : B → Seen BlockStep)
    (number : B → ℕ) (items now : List (Job R B g h)) (at : ℕ) →
    now ≡ take at items ++ drop (at + 1) items →
    map (job_view words bytes number) now ≡ take at (map (job_view words bytes number) items)
    ++ drop (suc at) (map (job_view words bytes number) items)
removed-are words bytes number items now at is =
    let view = job_view words bytes number in
    let there : now ≡ take at items ++ drop (suc at) items =
    is ∙ ap (λ (k : ℕ). take at items ++ drop k items) (add-one at) in
    ap (λ js. map view js) there ∙ map-append view (take at items) (drop (suc at) items)
    ∙ ap (λ js. js ++ map view (drop (suc at) items)) (sym (take-map view at items))
    ∙ ap (λ js. take at (map view items) ++ js) (sym (drop-map view (suc at) items))

-- two that are the one at a position are the same
pub same-at : {X : Type 0} (xs : List X) (at : ℕ) (one other : X) → at < length xs →
    one ≡ get_or xs at one → other ≡ get_or xs at other → one ≡ other
same-at [] at one other less is also = absurd (omega arith)
same-at (x ∷ xs) zero one other less is also = is ∙ sym also
same-at (x ∷ xs) (suc at) one other less is also = same-at xs at one other (omega arith) is also

pub is-inside : {R B : Type 0} {g h : _} (items : List (Job R B g h)) (place at : ℕ)
    (job : Job R B g h) → position (λ job. is_job_of place job) items ≡ Some at →
    at < length items
is-inside items place at job is =
    (position-Some (λ job. is_job_of place job) items at job is).0

-- and another stands in its place
pub set-are : {R B : Type 0} {g h : _} (words : R → Seen WordStep) (bytes : B → Seen BlockStep)
    (number : B → ℕ) (items : List (Job R B g h)) (at : ℕ) (job : Job R B g h) →
    at < length items →
    map (job_view words bytes number) (set items at job)
    ≡ take at (map (job_view words bytes number) items)
    ++ job_view words bytes number job ∷ drop (suc at) (map (job_view words bytes number) items)
set-are words bytes number [] at job less = absurd (omega arith)
set-are words bytes number (x ∷ xs) zero job less = refl
set-are words bytes number (x ∷ xs) (suc at) job less =
    ap (λ js. job_view words bytes number x ∷ js)
    (set-are words bytes number xs at job (omega arith))
