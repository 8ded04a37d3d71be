-- What the words of a record that pass their checks say of its node.
use Rattle.std.proofs.Common.{◌≡◌, ◌≢◌, ℕ, ◌+◌, ◌<◌, ◌≤◌, List, [], ◌∷◌, ◌++◌, get_or, take}
use Rattle.std.specs.Prelude.{not, None}
use Rattle.std.proofs.lemmas.Bool.{leb-true}
use Rattle.cfs_dir.specs.declared.node.Node.{Node}
use Rattle.cfs_dir.specs.Name.{IsNodeName, is_dots}
use Rattle.cfs_image.specs.Checks.{Check, check, damage_of}
use Rattle.cfs_survey.specs.Faults.{at_least, at_most}
use Rattle.cfs_survey.specs.Fields.{byte_checks, field_checks, kind_check, largest_id}
use Rattle.cfs_survey.specs.Fields.{name_checks, name_room, owner_checks}
use Rattle.cfs_survey.proofs.FirstFaults.{passed, sound_parts}
use Rattle.cfs_survey.proofs.NameLemmas.{IsName-from_checks, not_true}

pub record IsSoundNode (next : ℕ) (node : Node) : Type 0 where
  pub low : 1 ≤ node.ino
  pub below : node.ino < next
  pub mode : node.mode ≤ 511
  pub uid : node.uid ≤ 4294967295
  pub gid : node.gid ≤ 4294967295
  pub name : node.ino ≢ 1 → IsNodeName node.name

pub name_holds : (at len : ℕ) (room : List ℕ) → damage_of (name_checks at len room) ≡ None → IsNodeName (take len room)
name_holds at len room sound =
    let low = at_least 1 (at + 48) len in
    let high = at_most 40 (at + 48) len in
    let dots = check (not (is_dots (take len room))) (at + 48) len 0 in
    let outer = sound_parts (low ∷ high ∷ []) (byte_checks at len room ++ dots ∷ []) sound in
    let bounds = sound_parts (low ∷ []) (high ∷ []) outer.0 in
    let inner = sound_parts (byte_checks at len room) (dots ∷ []) outer.1 in (
      IsName-from_checks at len room (leb-true 1 len (passed low bounds.0)) (leb-true len 40 (passed high bounds.1)) inner.0,
      not_true (is_dots (take len room)) (passed dots inner.1),
    )

pub record IsOwned (words : List ℕ) : Type 0 where
  pub mode : get_or words 3 0 ≤ 511
  pub uid : get_or words 4 0 ≤ 4294967295
  pub gid : get_or words 5 0 ≤ 4294967295

pub owner_holds : (at : ℕ) (words : List ℕ) → damage_of (owner_checks at words) ≡ None → IsOwned words
owner_holds at words sound =
    let mode = at_most 511 (at + 24) (get_or words 3 0) in
    let uid = at_most largest_id (at + 32) (get_or words 4 0) in
    let gid = at_most largest_id (at + 40) (get_or words 5 0) in
    let first = sound_parts (mode ∷ []) (uid ∷ gid ∷ []) sound in
    let others = sound_parts (uid ∷ []) (gid ∷ []) first.1 in
    record {
      mode = leb-true (get_or words 3 0) 511 (passed mode first.0);
      uid = leb-true (get_or words 4 0) largest_id (passed uid others.0);
      gid = leb-true (get_or words 5 0) largest_id (passed gid others.1);
    }

-- what the words of a node that is not the root say
pub record IsSoundRow (words : List ℕ) : Type 0 where
  pub owned : IsOwned words
  pub name : IsNodeName (take (get_or words 6 0) (name_room words))

pub row_holds : (at : ℕ) (words : List ℕ) → damage_of (field_checks at words) ≡ None →
    IsSoundRow words
row_holds at words sound =
    let names : List Check = name_checks at (get_or words 6 0) (name_room words) in
    let fields =
    sound_parts (kind_check at (get_or words 2 0) ∷ []) (owner_checks at words ++ names) sound in
    let own = sound_parts (owner_checks at words) names fields.1 in
    record {
      owned = owner_holds at words own.0;
      name = name_holds at (get_or words 6 0) (name_room words) own.1;
    }
