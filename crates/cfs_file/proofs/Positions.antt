-- The files that `put`, `resized` and a read name are what they mean, position by position.
use Rattle.std.proofs.Common.{◌≡◌, inl, inr, ℕ, ◌+◌, ◌-◌, ◌≤◌, List, ◌++◌, length, take, drop, replicate, arith, refl, ◌∙◌, length-append, length-drop, length-take}
use Rattle.std.proofs.lemmas.List.{get_or-drop, get_or-take, get_or_append_left, get_or-append_right, get_or-replicate, length-replicate}
use Rattle.cfs_file.specs.File.{put, resized}
use Rattle.cfs_file.specs.Position.{Writes, Resizes, Reads}

pub length-resized : (file : List ℕ) (n : ℕ) → length (resized file n) ≡ n
length-resized file n =
    omega (arith, length-append (take n file) (replicate (n - length file) 0), length-take n file, length-replicate {A = ℕ} (n - length file) 0)

pub resized-resizes : (file : List ℕ) (n : ℕ) → Resizes file (resized file n) n
resized-resizes file n = record {
  is_size = length-resized file n;
  kept = λ k below within.
      get_or_append_left (take n file) (replicate (n - length file) 0) 0 k (omega (arith, length-take n file))
      ∙ get_or-take n file k 0 below;
  grown = λ k below past.
      let len : length (take n file) ≡ length file = omega (arith, length-take n file) in
      get_or-append_right (take n file) (replicate (n - length file) 0) (length file) k 0 len past
      ∙ get_or-replicate (n - length file) (k - length file) 0 0 (omega arith);
}

-- `take`, `drop` and a read of a part
pub part-reads : (file : List ℕ) (offset count : ℕ) → Reads file offset count (take count (drop offset file))
part-reads file offset count = record {
  size = omega (arith, length-take count (drop offset file), length-drop offset file);
  read = λ k within.
      get_or-take count (drop offset file) k 0 (omega (arith, length-take count (drop offset file)))
      ∙ get_or-drop offset file k 0;
}

pub put-writes : (file : List ℕ) (offset : ℕ) (bytes : List ℕ) → Writes file (put file offset bytes) offset bytes
put-writes file offset bytes =
    let front : List ℕ = resized file offset in
    let rest : List ℕ = drop (offset + length bytes) file in
    let front_len : length front ≡ offset = length-resized file offset in
    let both_len : length (front ++ bytes) ≡ offset + length bytes = omega (arith, length-append front bytes) in
    record {
      size = omega (arith, length-append (front ++ bytes) rest, length-drop (offset + length bytes) file);
      written = λ k within.
          get_or_append_left (front ++ bytes) rest 0 (offset + k) (omega arith)
          ∙ (get_or-append_right front bytes offset (offset + k) 0 front_len (omega arith) ∙ rw (add-sub_cancel offset k) refl);
      kept = λ k within side. elim side [
        | inl before ↦
            get_or_append_left (front ++ bytes) rest 0 k (omega arith)
            ∙ (get_or_append_left front bytes 0 k (omega arith)
            ∙ (resized-resizes file offset).kept k before within)
        | inr past ↦
            get_or-append_right (front ++ bytes) rest (offset + length bytes) k 0 both_len past
            ∙ (get_or-drop (offset + length bytes) file (k - (offset + length bytes)) 0
            ∙ rw (add-sub_le (offset + length bytes) k past) refl)
      ];
      gap = λ k past before.
          get_or_append_left (front ++ bytes) rest 0 k (omega arith)
          ∙ (get_or_append_left front bytes 0 k (omega arith)
          ∙ (resized-resizes file offset).grown k before past);
    }
  where
    add-sub_cancel : (a b : ℕ) → (a + b) - a ≡ b
    add-sub_cancel a b = omega arith

    add-sub_le : (a b : ℕ) → a ≤ b → a + (b - a) ≡ b
    add-sub_le a b h = omega arith
