-- How a name is kept in an array of 40 bytes: first its own bytes, and then zero bytes.
use Rattle.std.specs.Prelude.{◌≡◌, ℕ, ◌-◌, ◌≤◌, ◌++◌, List, length, take, drop, replicate}
use Rattle.std.proofs.Common.{ap, ◌∙◌, sym, subst, arith, length-append}
use Rattle.std.proofs.lemmas.List.{length-take-le, take-append-drop, drop-replicate, length-replicate}
use Rattle.std.proofs.Math.Seq.{drop-append_seam, take-append_seam}
use Rattle.cfs_dir.specs.Name.{AreNameBytes}

-- the first `len` bytes of the array are a name or the empty name, and the others are 0
pub record IsPadded (bytes : List ℕ) (len : ℕ) : Type 0 where
  pub short : len ≤ 40
  pub whole : length bytes ≡ 40
  pub zeroed : drop len bytes ≡ replicate (40 - len) 0
  pub readable : AreNameBytes (take len bytes)

-- the array of a name
abbrev pub padded : List ℕ → List ℕ
padded name = name ++ replicate (40 - length name) 0

pub length-name : (bytes : List ℕ) (len : ℕ) → IsPadded bytes len → length (take len bytes) ≡ len
length-name bytes len h =
    length-take-le len bytes (let s = h.short in let w = h.whole in omega arith)

pub padded-name : (bytes : List ℕ) (len : ℕ) → IsPadded bytes len → padded (take len bytes) ≡ bytes
padded-name bytes len h =
    rw (length-name bytes len h)
    (ap (λ zeros. take len bytes ++ zeros) (sym h.zeroed) ∙ take-append-drop len bytes)

-- a name that is written over 40 zero bytes
pub IsPadded-written : (written name : List ℕ) → written ≡ name → length name ≤ 40
    → AreNameBytes name → IsPadded (written ++ drop (length name) (replicate 40 0)) (length name)
IsPadded-written written name same short readable = rw same (record {
  short = short;
  whole = length-append name (drop (length name) (replicate 40 0))
      ∙ (rw (drop-replicate {X = ℕ} (length name) 40 0, length-replicate) (omega arith));
  zeroed = drop-append_seam name (drop (length name) (replicate 40 0))
      ∙ drop-replicate {X = ℕ} (length name) 40 0;
  readable = subst AreNameBytes
      (sym (take-append_seam name (drop (length name) (replicate 40 0)))) readable;
})
