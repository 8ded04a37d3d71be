-- What a file's blocks are seen as.
use Rattle.std.specs.Prelude.{ℕ, ◌≡◌, ◌-◌, ◌<◌, ◌≤◌, true, false, List, Option, length, refl}
use Rattle.std.specs.Coded.{Coded, code_by, coded×, coded_ℕ, coded_option}
use Rattle.std.specs.FinMap as map
use Rattle.std.specs.List.{zip}
use Rattle.std.specs.Option.{option_and_then}
use Rattle.std.specs.Ordering.{nat_cmp}

-- the block that is held for each mapped file block, none for one that is out; and for how many
-- more there is room
pub record Extents (B : Type 0) : Type 0 where
  pub held : map.FinMap nat_cmp (Option B)
  pub spare : ℕ

abbrev pub extents_code : {B : Type 0} → Coded B → Coded (Extents B)
extents_code {B} code =
    code_by (map.FinMap nat_cmp (Option B) × ℕ)
    (coded× (map.code coded_ℕ (coded_option code)) coded_ℕ)
    (λ e. (e.held, e.spare)) (λ p. record { held = p.0; spare = p.1 }) (λ _. refl)

-- the file blocks at these numbers hold these blocks, with room for so many
abbrev pub extents_of : {B : Type 0} → List ℕ → List (Option B) → ℕ → Extents B
extents_of numbers blocks room =
    record { held = map.from_entries (zip numbers blocks); spare = room - length blocks }

-- the block that a mapped file block has here: none where it is not mapped or its block is out
abbrev pub block_at : {B : Type 0} → map.FinMap nat_cmp (Option B) → ℕ → Option B
block_at held k = option_and_then (λ block. block) (map.get held k)

-- the lowest mapped file block from k on
pub record IsNextFrom {B : Type 0} (held : map.FinMap nat_cmp (Option B)) (k next : ℕ)
    : Type 0 where
  pub from : k ≤ next
  pub mapped : map.contains_key held next ≡ true
  pub lowest : (q : ℕ) → k ≤ q → q < next → map.contains_key held q ≡ false
