-- How many live entries, no-ops and tags there are.
use Rattle.std.proofs.Common.{◌≡◌, ◌∙◌, ℕ, suc, ◌+◌, ◌<◌, List, [], ◌∷◌, length, get_or, true}
use Rattle.std.proofs.Common.{false, Bool, refl, sym, ap, arith, cond}
use Rattle.std.specs.Prelude.{Option, Some, None, nat_eq, not, unwrap_or, if◌then◌else◌}
use Rattle.std.proofs.Math.Path.{fun_ext}
use Rattle.std.proofs.lemmas.List.Sums.{sum_by-cons}
use Rattle.std.specs.HashMap.{get}
use Rattle.std.specs.List.{cons_option, count_by, filter_map, range_with_len}
use Rattle.std.specs.Option.{option_map, option_map_or}
use Rattle.cfs_dir.specs.declared.node.Node.{Node}
use Rattle.cfs_dir.specs.Namespace.{is_directory, node_of}
use Rattle.cfs_slot.specs.Words.{gate_of, ino_of}
use Rattle.cfs_survey.specs.declared.live_entry.LiveEntry.{LiveEntry}
use Rattle.cfs_survey.specs.Live.{entry_in, in_order, is_before, live_entries, put_live}
use Rattle.cfs_survey.specs.Slots.{is_live_entry}
use Rattle.cfs_survey.specs.Tags.{is_file}
use Rattle.cfs_fsck.specs.Files.{AreKinds, Kinds}
use Rattle.cfs_fsck.specs.Reports.{is_noop, is_tag_of}

length-put_live : (entry : LiveEntry) (entries : List LiveEntry) →
    length (put_live entry entries) ≡ suc (length entries)
length-put_live entry [] = refl
length-put_live entry (first ∷ rest) =
    split (is_before first entry) (length-put_live entry rest)
  where
    split : (before : Bool) → length (put_live entry rest) ≡ suc (length rest) →
        length (if before then first ∷ put_live entry rest else entry ∷ first ∷ rest)
        ≡ suc (suc (length rest))
    split true deeper = ap suc deeper
    split false deeper = refl

length-in_order : (entries : List LiveEntry) → length (in_order entries) ≡ length entries
length-in_order [] = refl
length-in_order (entry ∷ entries) =
    length-put_live entry (in_order entries) ∙ ap suc (length-in_order entries)

-- the live entries of the slots from a number on
live_from : (nodes : List Node) (slots rest : List (List ℕ)) (from : ℕ) →
    ((k : ℕ) → k < length rest → get_or slots (from + k) [] ≡ get_or rest k []) →
    length (filter_map (entry_in nodes slots) (range_with_len from (length rest)))
    ≡ count_by (is_live_entry nodes) rest
live_from nodes slots [] from same = refl
live_from nodes slots (words ∷ rest) from same =
    let here : get_or slots from [] ≡ words =
    ap (λ (k : ℕ). get_or slots k []) (omega arith) ∙ same 0 (omega arith) in
    ap (λ found. length (cons_option found (filter_map (entry_in nodes slots)
    (range_with_len (from + 1) (length rest)))))
    (ap (λ (ws : List ℕ). if is_live_entry nodes ws
    then Some (record { ino = ino_of ws; gate = gate_of ws; slot = from }) else None) here)
    ∙ split (is_live_entry nodes words) (live_from nodes slots rest (from + 1)
    (λ k below. ap (λ (j : ℕ). get_or slots j []) (omega arith) ∙ same (suc k) (omega arith)))
    ∙ sym (sum_by-cons (λ (ws : List ℕ). cond (is_live_entry nodes ws) 1 0) words rest)
  where
    split : (live : Bool) →
        length (filter_map (entry_in nodes slots) (range_with_len (from + 1) (length rest)))
        ≡ count_by (is_live_entry nodes) rest →
        length (cons_option (if live
        then Some (record { ino = ino_of words; gate = gate_of words; slot = from }) else None)
        (filter_map (entry_in nodes slots) (range_with_len (from + 1) (length rest))))
        ≡ cond live 1 0 + count_by (is_live_entry nodes) rest
    split true deeper = omega (arith, deeper)
    split false deeper = omega (arith, deeper)

pub live_counted : (nodes : List Node) (slots : List (List ℕ)) (entries : List LiveEntry) →
    entries ≡ in_order (live_entries nodes slots) →
    length entries ≡ count_by (is_live_entry nodes) slots
live_counted nodes slots entries are =
    ap length are ∙ length-in_order (live_entries nodes slots)
    ∙ live_from nodes slots slots 0 (λ k below. ap (λ (j : ℕ). get_or slots j []) (omega arith))

-- a map of kinds tells which inode numbers are those of files
file_of : (found : Option Node) →
    unwrap_or (option_map (λ node. not (is_directory node.kind)) found) false
    ≡ option_map_or (λ node. not (is_directory node.kind)) found false
file_of None = refl
file_of (Some node) = refl

kinds_tell : (nodes : List Node) (kinds : Kinds) → AreKinds nodes kinds →
    (λ (ino : ℕ). unwrap_or (get nat_eq kinds ino) false) ≡ is_file nodes
kinds_tell nodes kinds are =
    fun_ext (λ ino. ap (λ found. unwrap_or found false) (are ino) ∙ file_of (node_of nodes ino))

pub noops_counted : (nodes : List Node) (kinds : Kinds) (slots read : List (List ℕ)) (n : ℕ) →
    AreKinds nodes kinds → read ≡ slots →
    n ≡ count_by (is_noop (λ ino. unwrap_or (get nat_eq kinds ino) false)) read →
    n ≡ count_by (is_noop (is_file nodes)) slots
noops_counted nodes kinds slots read n are same counted =
    counted
    ∙ ap (λ (ws : List (List ℕ)).
    count_by (is_noop (λ ino. unwrap_or (get nat_eq kinds ino) false)) ws) same
    ∙ ap (λ (numbers : ℕ → Bool). count_by (is_noop numbers) slots) (kinds_tell nodes kinds are)

pub tags_counted : (nodes : List Node) (kinds : Kinds) (tags read : List ℕ) (n : ℕ) →
    AreKinds nodes kinds → read ≡ tags →
    n ≡ count_by (is_tag_of (λ ino. unwrap_or (get nat_eq kinds ino) false)) read →
    n ≡ count_by (is_tag_of (is_file nodes)) tags
tags_counted nodes kinds tags read n are same counted =
    counted
    ∙ ap (λ (ts : List ℕ).
    count_by (is_tag_of (λ ino. unwrap_or (get nat_eq kinds ino) false)) ts) same
    ∙ ap (λ (numbers : ℕ → Bool). count_by (is_tag_of numbers) tags) (kinds_tell nodes kinds are)
