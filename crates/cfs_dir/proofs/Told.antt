-- Words tell what they were made of.
use Rattle.std.proofs.Common.{◌≡◌, ◌∙◌, inl, inr, ℕ, zero, suc, ◌+◌, ◌-◌, ◌<◌, ◌≤◌, ◌==◌, false, if◌then◌else◌, IsTrue, List, [], ◌∷◌, ◌++◌, length, take, drop, replicate, get_or, Option, Some, None, refl, sym, ap, subst, arith}
use Rattle.std.specs.Int.{w64, from_le_bytes, to_le_bytes}
use Rattle.std.specs.List.{flat_map}
use Rattle.std.proofs.Math.Seq.{take-append_seam}
use Rattle.std.proofs.lemmas.Bool.{cases_lt}
use Rattle.std.proofs.lemmas.Bool.Decides.{nat_tests}
use Rattle.std.proofs.lemmas.Nat.{le_bytes_8}
use Rattle.std.proofs.lemmas.List.{append-nil, drop-drop, get_or-drop, length-append, length-drop, length-replicate, length-take-le, take-append-drop, take_all}
use Rattle.byteorder.specs.Endian.{little_number}
use Rattle.byteorder.specs.Numbers.{little_from-take}
use Rattle.cfs_dir.specs.declared.change.Change.TheVariants as changes
use Rattle.cfs_dir.specs.declared.kind.Kind.{Kind}
use Rattle.cfs_dir.specs.declared.kind.Kind.TheVariants.{Directory, File}
use Rattle.cfs_dir.specs.declared.node.Node.{Node}
use Rattle.cfs_dir.specs.Name.{AreNameBytes, is_name_byte}
use Rattle.cfs_dir.specs.Padding.{padded}
use Rattle.cfs_dir.specs.Told.{ChangesAreTold, NodesAreTold}
use Rattle.cfs_dir.specs.Words.{kind_word, name_in, name_words, replaced_in, replaced_word}

-- ---- the bytes of a name

small_front : (n : ℕ) (bytes : List ℕ) → ((k : ℕ) → get_or bytes k 0 < 256) → (k : ℕ) → get_or (take n bytes) k 0 < 256
small_front zero bytes small k = omega arith
small_front (suc n) [] small k = small k
small_front (suc n) (b ∷ bytes) small zero = small 0
small_front (suc n) (b ∷ bytes) small (suc k) = small_front n bytes (λ j. small (suc j)) k

sum_of : (bytes : List ℕ) → little_number 8 bytes ≡ from_le_bytes w64 bytes
sum_of bytes = omega arith

word_bytes : (bytes : List ℕ) → 8 ≤ length bytes → ((k : ℕ) → get_or bytes k 0 < 256) → to_le_bytes w64 (little_number 8 bytes) ≡ take 8 bytes
word_bytes bytes room small =
    le_bytes_8 (take 8 bytes) (little_number 8 bytes) (length-take-le 8 bytes room) (small_front 8 bytes small)
    (sym (little_from-take 0 8 8 bytes (omega arith)) ∙ sum_of (take 8 bytes))

-- one word of several
word_at : (bytes : List ℕ) (from : ℕ) → from + 8 ≤ length bytes → ((k : ℕ) → get_or bytes k 0 < 256) → to_le_bytes w64 (little_number 8 (drop from bytes)) ≡ take 8 (drop from bytes)
word_at bytes from room small =
    word_bytes (drop from bytes) (omega (arith, length-drop from bytes))
    (λ k. subst (λ v. v < 256) (sym (get_or-drop from bytes k 0)) (small (from + k)))

peeled : (bytes : List ℕ) (from next : ℕ) → from + 8 ≡ next → take 8 (drop from bytes) ++ drop next bytes ≡ drop from bytes
peeled bytes from next is =
    ap (λ (bs : List ℕ). take 8 (drop from bytes) ++ bs) (ap (λ (m : ℕ). drop m bytes) (sym is) ∙ sym (drop-drop 8 from bytes))
    ∙ take-append-drop 8 (drop from bytes)

-- forty bytes are those of their five words
forty : (bytes : List ℕ) → length bytes ≡ 40 → ((k : ℕ) → get_or bytes k 0 < 256) → flat_map (to_le_bytes w64) (name_words bytes) ≡ bytes
forty bytes size small =
    let last : take 8 (drop 32 bytes) ≡ drop 32 bytes = take_all 8 (drop 32 bytes) (omega (arith, length-drop 32 bytes)) in
    let word : (from : ℕ) → from + 8 ≤ 40 → to_le_bytes w64 (little_number 8 (drop from bytes)) ≡ take 8 (drop from bytes) =
    λ from le. word_at bytes from (omega arith) small in
    let fifth : to_le_bytes w64 (little_number 8 (drop 32 bytes)) ++ [] ≡ drop 32 bytes =
    append-nil (to_le_bytes w64 (little_number 8 (drop 32 bytes))) ∙ word 32 (omega arith) ∙ last in
    let fourth : to_le_bytes w64 (little_number 8 (drop 24 bytes)) ++ drop 32 bytes ≡ drop 24 bytes =
    ap (λ (bs : List ℕ). bs ++ drop 32 bytes) (word 24 (omega arith)) ∙ peeled bytes 24 32 refl in
    let third : to_le_bytes w64 (little_number 8 (drop 16 bytes)) ++ drop 24 bytes ≡ drop 16 bytes =
    ap (λ (bs : List ℕ). bs ++ drop 24 bytes) (word 16 (omega arith)) ∙ peeled bytes 16 24 refl in
    let second : to_le_bytes w64 (little_number 8 (drop 8 bytes)) ++ drop 16 bytes ≡ drop 8 bytes =
    ap (λ (bs : List ℕ). bs ++ drop 16 bytes) (word 8 (omega arith)) ∙ peeled bytes 8 16 refl in
    let first : to_le_bytes w64 (little_number 8 bytes) ++ drop 8 bytes ≡ bytes =
    ap (λ (bs : List ℕ). bs ++ drop 8 bytes) (word 0 (omega arith)) ∙ peeled bytes 0 8 refl in
    ap (λ (bs : List ℕ). to_le_bytes w64 (little_number 8 bytes) ++ (to_le_bytes w64 (little_number 8 (drop 8 bytes)) ++ (to_le_bytes w64 (little_number 8 (drop 16 bytes)) ++ (to_le_bytes w64 (little_number 8 (drop 24 bytes)) ++ bs)))) fifth
    ∙ ap (λ (bs : List ℕ). to_le_bytes w64 (little_number 8 bytes) ++ (to_le_bytes w64 (little_number 8 (drop 8 bytes)) ++ (to_le_bytes w64 (little_number 8 (drop 16 bytes)) ++ bs))) fourth
    ∙ ap (λ (bs : List ℕ). to_le_bytes w64 (little_number 8 bytes) ++ (to_le_bytes w64 (little_number 8 (drop 8 bytes)) ++ bs)) third
    ∙ ap (λ (bs : List ℕ). to_le_bytes w64 (little_number 8 bytes) ++ bs) second
    ∙ first

name_byte-small : (byte : ℕ) → IsTrue (is_name_byte byte) → byte < 256
name_byte-small byte is = elim (cases_lt byte 256) [
  | inl small ↦ small
  | inr large ↦ let none : is_name_byte byte ≡ false = grind (arith, nat_tests) in absurd (cc)
]

small_zeros : (n k : ℕ) → get_or (replicate n 0) k 0 < 256
small_zeros zero k = omega arith
small_zeros (suc n) zero = omega arith
small_zeros (suc n) (suc k) = small_zeros n k

small_padded : (name : List ℕ) (n : ℕ) → AreNameBytes name → (k : ℕ) → get_or (name ++ replicate n 0) k 0 < 256
small_padded [] n readable k = small_zeros n k
small_padded (byte ∷ name) n readable zero = name_byte-small byte (readable 0 0 (omega arith))
small_padded (byte ∷ name) n readable (suc k) = small_padded name n (λ j d l. readable (suc j) d (omega arith)) k

name_told : (name : List ℕ) → length name ≤ 40 → AreNameBytes name → name_in (length name) (name_words (padded name)) ≡ name
name_told name short readable =
    let size : length (padded name) ≡ 40 = omega (arith, length-append name (replicate (40 - length name) 0), length-replicate (40 - length name) (zero)) in
    ap (take (length name)) (forty (padded name) size (small_padded name (40 - length name) readable))
    ∙ take-append_seam name (replicate (40 - length name) 0)

-- ---- nodes and changes

kind_told : (kind : Kind) → (if kind_word kind == 2 then Directory else File) ≡ kind
kind_told File = refl
kind_told Directory = refl

pub node_told : NodesAreTold
node_told node named =
    ap (λ (kind : Kind). record {
      ino = node.ino;
      parent = node.parent;
      name = name_in (length node.name) (name_words (padded node.name));
      kind = kind;
      mode = node.mode;
      uid = node.uid;
      gid = node.gid;
      rec = node.rec;
    }) (kind_told node.kind)
    ∙ ap (λ (name : List ℕ). record { ino = node.ino; parent = node.parent; name = name; kind = node.kind; mode = node.mode; uid = node.uid; gid = node.gid; rec = node.rec })
    (name_told node.name named.short named.readable)

replaced_told : (replaced : Option ℕ) → replaced_in (replaced_word replaced) ≡ replaced
replaced_told None = refl
replaced_told (Some rec) = let next : rec + 1 ≡ suc rec = omega arith in ap (λ (n : ℕ). replaced_in n) next

pub change_told : ChangesAreTold
change_told (changes.Create node) named = ap (λ (n : Node). changes.Create n) (node_told node named)
change_told (changes.Remove rec ino) tt = refl
change_told (changes.Move node replaced) named =
    ap (λ (n : Node). changes.Move n (replaced_in (replaced_word replaced))) (node_told node named)
    ∙ ap (λ (r : Option ℕ). changes.Move node r) (replaced_told replaced)
