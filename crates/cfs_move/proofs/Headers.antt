-- What the checks of an old image say.
use Rattle.std.proofs.Common.{ℕ, ◌+◌, ◌*◌, ◌≤◌, ◌≡◌, ◌==◌, nat_le, if◌then◌else◌, Bool, true, false}
use Rattle.std.proofs.Common.{List, ◌∷◌, length, drop, get_or, Some, None, refl, arith}
use Rattle.std.proofs.lemmas.Bool.Decides.{nat_tests}
use Rattle.cfs_image.specs.declared.layout.TheConstants.{NAME}
use Rattle.cfs_image.specs.declared.version.Version.TheVariants.{First}
use Rattle.cfs_image.specs.Image.{word_at}
use Rattle.cfs_image.specs.Checks.{Check, Damage, check, checks_of, damage_of, due_len}
use Rattle.cfs_move.specs.Refusals.{IsOldSound}

-- a check that holds, and those behind it
passed : (check : Check) (rest : List Check) → damage_of (check ∷ rest) ≡ None →
    (check.holds ≡ true) × (damage_of rest ≡ None)
passed check rest none = split check.holds check.damage rest none
  where
    split : (holds : Bool) (damage : Damage) (rest : List Check) →
        (if holds then damage_of rest else Some damage) ≡ None →
        (holds ≡ true) × (damage_of rest ≡ None)
    split true damage rest none = (refl, none)
    split false damage rest none = absurd (cc)

pub record IsOldHeaded (bytes : List ℕ) : Type 0 where
  pub room : 32 ≤ length bytes
  pub name : word_at bytes 0 ≡ NAME
  pub fewest_blocks : 16 ≤ word_at bytes 16
  pub most_blocks : word_at bytes 16 ≤ 16384
  pub fewest_queues : 1 ≤ word_at bytes 24
  pub most_queues : word_at bytes 24 ≤ 64
  pub size : length bytes ≡ 58936 + 66304 * word_at bytes 24 + 4104 * word_at bytes 16

pub old_headed : (bytes : List ℕ) → IsOldSound bytes → IsOldHeaded bytes
old_headed bytes sound =
    let cs : List Check = checks_of First bytes in
    let room : (nat_le 32 (length bytes) ≡ true) × (damage_of (drop 1 cs) ≡ None) =
    passed (get_or cs 0 (check true 0 0 0)) (drop 1 cs) sound in
    let name : ((word_at bytes 0 == NAME) ≡ true) × (damage_of (drop 2 cs) ≡ None) =
    passed (get_or cs 1 (check true 0 0 0)) (drop 2 cs) room.1 in
    let version : ((word_at bytes 8 == 1) ≡ true) × (damage_of (drop 3 cs) ≡ None) =
    passed (get_or cs 2 (check true 0 0 0)) (drop 3 cs) name.1 in
    let fewest_blocks : (nat_le 16 (word_at bytes 16) ≡ true) × (damage_of (drop 4 cs) ≡ None) =
    passed (get_or cs 3 (check true 0 0 0)) (drop 4 cs) version.1 in
    let most_blocks : (nat_le (word_at bytes 16) 16384 ≡ true) × (damage_of (drop 5 cs) ≡ None) =
    passed (get_or cs 4 (check true 0 0 0)) (drop 5 cs) fewest_blocks.1 in
    let fewest_queues : (nat_le 1 (word_at bytes 24) ≡ true) × (damage_of (drop 6 cs) ≡ None) =
    passed (get_or cs 5 (check true 0 0 0)) (drop 6 cs) most_blocks.1 in
    let most_queues : (nat_le (word_at bytes 24) 64 ≡ true) × (damage_of (drop 7 cs) ≡ None) =
    passed (get_or cs 6 (check true 0 0 0)) (drop 7 cs) fewest_queues.1 in
    let size : ((length bytes == due_len First bytes) ≡ true) × (damage_of (drop 8 cs) ≡ None) =
    passed (get_or cs 7 (check true 0 0 0)) (drop 8 cs) most_queues.1 in
    record {
      room = grind (arith, nat_tests, room.0);
      name = grind (arith, nat_tests, name.0);
      fewest_blocks = grind (arith, nat_tests, fewest_blocks.0);
      most_blocks = grind (arith, nat_tests, most_blocks.0);
      fewest_queues = grind (arith, nat_tests, fewest_queues.0);
      most_queues = grind (arith, nat_tests, most_queues.0);
      size = grind (arith, nat_tests, size.0);
    }
