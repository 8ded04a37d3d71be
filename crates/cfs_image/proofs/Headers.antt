-- What the checks of a sound image say.
use Rattle.std.proofs.Common.{ℕ, ◌+◌, ◌<◌, ◌≤◌, ◌≡◌, ◌∙◌, ◌==◌, nat_le, if◌then◌else◌, Bool, true, false, List, [], ◌∷◌, ◌++◌, length, take, drop, get_or, Some, None, refl, sym, ap, subst, arith}
use Rattle.std.proofs.Math.Seq.{take-add}
use Rattle.std.proofs.lemmas.Bool.Decides.{nat_tests}
use Rattle.std.proofs.lemmas.List.{append-nil, drop-drop, get_or-drop, length-drop}
use Rattle.byteorder.specs.Endian.{little_bytes}
use Rattle.cfs_image.specs.declared.layout.TheConstants.{NAME, VERSION}
use Rattle.cfs_image.specs.Layout.{image_len}
use Rattle.cfs_image.specs.Image.{word_at, words_bytes}
use Rattle.cfs_image.specs.declared.version.Version.TheVariants.{Present}
use Rattle.cfs_image.specs.Checks.{Check, Damage, check, checks_of, damage_of, due_len, IsSound}
use Rattle.cfs_image.proofs.WordBytes.{word_bytes}

-- a check that holds, and those behind it
passed : (check : Check) (rest : List Check) → damage_of (check ∷ rest) ≡ None → (check.holds ≡ true) × (damage_of rest ≡ None)
passed check rest none = split check.holds check.damage rest none
  where
    split : (holds : Bool) (damage : Damage) (rest : List Check) → (if holds then damage_of rest else Some damage) ≡ None → (holds ≡ true) × (damage_of rest ≡ None)
    split true damage rest none = (refl, none)
    split false damage rest none = absurd (cc)

pub record IsHeaded (bytes : List ℕ) : Type 0 where
  pub room : 32 ≤ length bytes
  pub name : word_at bytes 0 ≡ NAME
  pub version : word_at bytes 8 ≡ VERSION
  pub fewest_blocks : 16 ≤ word_at bytes 16
  pub most_blocks : word_at bytes 16 ≤ 16384
  pub fewest_queues : 1 ≤ word_at bytes 24
  pub most_queues : word_at bytes 24 ≤ 64
  pub size : length bytes ≡ image_len (word_at bytes 16) (word_at bytes 24)

pub headed : (bytes : List ℕ) → IsSound bytes → IsHeaded bytes
headed bytes sound =
    let cs : List Check = checks_of Present bytes in
    let room : (nat_le 32 (length bytes) ≡ true) × (damage_of (drop 1 cs) ≡ None) = passed (get_or cs 0 (check true 0 0 0)) (drop 1 cs) sound in
    let name : ((word_at bytes 0 == NAME) ≡ true) × (damage_of (drop 2 cs) ≡ None) = passed (get_or cs 1 (check true 0 0 0)) (drop 2 cs) room.1 in
    let version : ((word_at bytes 8 == VERSION) ≡ true) × (damage_of (drop 3 cs) ≡ None) = passed (get_or cs 2 (check true 0 0 0)) (drop 3 cs) name.1 in
    let fewest_blocks : (nat_le 16 (word_at bytes 16) ≡ true) × (damage_of (drop 4 cs) ≡ None) = passed (get_or cs 3 (check true 0 0 0)) (drop 4 cs) version.1 in
    let most_blocks : (nat_le (word_at bytes 16) 16384 ≡ true) × (damage_of (drop 5 cs) ≡ None) = passed (get_or cs 4 (check true 0 0 0)) (drop 5 cs) fewest_blocks.1 in
    let fewest_queues : (nat_le 1 (word_at bytes 24) ≡ true) × (damage_of (drop 6 cs) ≡ None) = passed (get_or cs 5 (check true 0 0 0)) (drop 6 cs) most_blocks.1 in
    let most_queues : (nat_le (word_at bytes 24) 64 ≡ true) × (damage_of (drop 7 cs) ≡ None) = passed (get_or cs 6 (check true 0 0 0)) (drop 7 cs) fewest_queues.1 in
    let size : ((length bytes == due_len Present bytes) ≡ true) × (damage_of (drop 8 cs) ≡ None) = passed (get_or cs 7 (check true 0 0 0)) (drop 8 cs) most_queues.1 in
    record {
      room = grind (arith, nat_tests, room.0);
      name = grind (arith, nat_tests, name.0);
      version = grind (arith, nat_tests, version.0);
      fewest_blocks = grind (arith, nat_tests, fewest_blocks.0);
      most_blocks = grind (arith, nat_tests, most_blocks.0);
      fewest_queues = grind (arith, nat_tests, fewest_queues.0);
      most_queues = grind (arith, nat_tests, most_queues.0);
      size = grind (arith, nat_tests, size.0);
    }

-- the bytes of a word in the midst of others
word_within : (bytes : List ℕ) (at : ℕ) → at + 8 ≤ length bytes → ((k : ℕ) → get_or bytes k 0 < 256) → little_bytes 8 (word_at bytes at) ≡ take 8 (drop at bytes)
word_within bytes at room small =
    word_bytes (drop at bytes) (omega (arith, length-drop at bytes)) (λ k. subst (λ v. v < 256) (sym (get_or-drop at bytes k 0)) (small (at + k)))

-- thirty-two bytes are four times eight
four_pieces : (bytes : List ℕ) → take 32 bytes ≡ take 8 bytes ++ (take 8 (drop 8 bytes) ++ (take 8 (drop 16 bytes) ++ take 8 (drop 24 bytes)))
four_pieces bytes =
    take-add 8 24 bytes
    ∙ ap (λ bs. take 8 bytes ++ bs) (take-add 8 16 (drop 8 bytes))
    ∙ ap (λ ds. take 8 bytes ++ (take 8 (drop 8 bytes) ++ take 16 ds)) (drop-drop 8 8 bytes)
    ∙ ap (λ bs. take 8 bytes ++ (take 8 (drop 8 bytes) ++ bs)) (take-add 8 8 (drop 16 bytes))
    ∙ ap (λ ds. take 8 bytes ++ (take 8 (drop 8 bytes) ++ (take 8 (drop 16 bytes) ++ take 8 ds))) (drop-drop 8 16 bytes)

-- the bytes of four words that stand at the start
pub four_words : (bytes : List ℕ) → 32 ≤ length bytes → ((k : ℕ) → get_or bytes k 0 < 256)
    → words_bytes (word_at bytes 0 ∷ word_at bytes 8 ∷ word_at bytes 16 ∷ word_at bytes 24 ∷ []) ≡ take 32 bytes
four_words bytes room small =
    ap (λ bs. bs ++ words_bytes (word_at bytes 8 ∷ word_at bytes 16 ∷ word_at bytes 24 ∷ [])) (word_within bytes 0 (omega arith) small)
    ∙ ap (λ bs. take 8 bytes ++ (bs ++ words_bytes (word_at bytes 16 ∷ word_at bytes 24 ∷ []))) (word_within bytes 8 (omega arith) small)
    ∙ ap (λ bs. take 8 bytes ++ (take 8 (drop 8 bytes) ++ (bs ++ words_bytes (word_at bytes 24 ∷ [])))) (word_within bytes 16 (omega arith) small)
    ∙ ap (λ bs. take 8 bytes ++ (take 8 (drop 8 bytes) ++ (take 8 (drop 16 bytes) ++ bs))) (append-nil (little_bytes 8 (word_at bytes 24)) ∙ word_within bytes 24 (omega arith) small)
    ∙ sym (four_pieces bytes)
