-- The live entries that a survey found tell those of each file.
use Rattle.std.proofs.Common.{◌≡◌, ◌∙◌, ◌==◌, ◌&&◌, ℕ, zero, suc, ◌+◌, ◌*◌, ◌<◌, ◌≤◌, Bool, true}
use Rattle.std.proofs.Common.{false, not, if◌then◌else◌, Option, Some, None, List, [], ◌∷◌, length}
use Rattle.std.proofs.Common.{get_or, refl, sym, ap, subst, arith}
use Rattle.std.specs.Prelude.{All, option_and_then}
use Rattle.std.specs.Option.{option_map_or}
use Rattle.std.proofs.lemmas.Bool.Decides.{nat_tests}
use Rattle.std.proofs.lemmas.List.Elements.{All-cons, All-head, All-nil, All-tail}
use Rattle.std.specs.List.{cons_option, filter_map, range_with_len}
use Rattle.cfs_dir.specs.declared.node.Node.{Node}
use Rattle.cfs_dir.specs.Namespace.{is_directory, node_of}
use Rattle.cfs_dir.specs.Tree.{IsTree}
use Rattle.cfs_dir.proofs.Members.{All-In}
use Rattle.cfs_file.specs.declared.request.Request.{Request}
use Rattle.cfs_fsck.specs.Images.{tags_at}
use Rattle.cfs_image.specs.Checks.{IsSound}
use Rattle.cfs_image.specs.Image.{word_at}
use Rattle.cfs_image.proofs.Headers.{IsHeaded, headed}
use Rattle.cfs_medium.specs.Store.{by_gate, entry_at, live_in}
use Rattle.cfs_slot.specs.Tails.{tails_at}
use Rattle.cfs_slot.specs.Words.{request_of}
use Rattle.cfs_survey.specs.declared.live_entry.LiveEntry.{LiveEntry}
use Rattle.cfs_survey.specs.Live.{entry_in, in_order, is_before, live_entries, put_live}
use Rattle.cfs_survey.specs.Mapped.{BlockMap, IsBlockMap}
use Rattle.cfs_survey.specs.Tags.{is_file}
use Rattle.cfs_dump.specs.Reads.{TellFile, heads_in, request_in}
use Rattle.cfs_dump.specs.Stores.{slots_in}
use Rattle.cfs_dump.proofs.Areas.{length-heads, length-slots, same_head}
use Rattle.cfs_dump.proofs.Maps.{finds-blocks}
use Rattle.cfs_dump.proofs.Orders.{own, owned-in_order}
use Rattle.cfs_dump.proofs.Paths.{IsFileIn}

-- ---- the entry of one slot

-- the words of a live entry, with the request that its slots hold
abbrev found_in : List Node → Bool → ℕ → ℕ → ℕ → Option LiveEntry
found_in nodes live number gate slot =
    if (live && (number == number)) && is_file nodes number
    then Some (record { ino = number; gate = gate; slot = slot }) else None

live-here : (nodes : List Node) (request : LiveEntry → Request) (told : Request)
    (ino number gate slot : ℕ) → is_file nodes ino ≡ true →
    request (record { ino = number; gate = gate; slot = slot }) ≡ told → (live : Bool) →
    option_and_then (own request ino) (found_in nodes live number gate slot)
    ≡ (if live && (number == ino) then Some (gate, told) else None)
live-here nodes request told ino number gate slot file is false = refl
live-here nodes request told ino number gate slot file is true =
    ap (λ (b : Bool). option_and_then (own request ino)
    (if b && is_file nodes number then Some entry else None)) itself
    ∙ pick (number == ino) refl
  where
    entry : LiveEntry
    entry = record { ino = number; gate = gate; slot = slot }

    itself : (number == number) ≡ true
    itself = grind (arith, nat_tests)

    owned_as : (b : Bool) → (number == ino) ≡ b →
        own request ino entry ≡ (if b then Some (gate, request entry) else None)
    owned_as b test = ap (λ (b : Bool). if b then Some (gate, request entry) else None) test

    other : (number == ino) ≡ false → (f : Bool) →
        option_and_then (own request ino) (if f then Some entry else None) ≡ None
    other test true = owned_as false test
    other test false = refl

    pick : (b : Bool) → (number == ino) ≡ b →
        option_and_then (own request ino) (if is_file nodes number then Some entry else None)
        ≡ (if number == ino then Some (gate, told) else None)
    pick true test =
        let same : number ≡ ino = grind (arith, nat_tests) in
        ap (λ (f : Bool). option_and_then (own request ino) (if f then Some entry else None))
        (ap (is_file nodes) same ∙ file)
        ∙ (owned_as true test
        ∙ (ap (λ (r : Request). Some (gate, r)) is
        ∙ sym (ap (λ (b : Bool). if b then Some (gate, told) else None) test)))
    pick false test =
        other test (is_file nodes number)
        ∙ sym (ap (λ (b : Bool). if b then Some (gate, told) else None) test)

-- the request that the slots of an entry hold
abbrev held : List ℕ → LiveEntry → Request
held bytes entry =
    request_of (get_or (slots_in bytes) entry.slot []) (tails_at (slots_in bytes) entry.slot)

slot-here : (bytes : List ℕ) (nodes : List Node) (ino slot : ℕ) → is_file nodes ino ≡ true →
    slot < 16 * word_at bytes 24 →
    option_and_then (own (held bytes) ino) (entry_in nodes (heads_in bytes) slot)
    ≡ entry_at ino (slots_in bytes) slot
slot-here bytes nodes ino slot file less =
    ap (option_and_then (own (held bytes) ino)) alike
    ∙ live-here nodes (held bytes) (held bytes (record { ino = 0; gate = 0; slot = slot })) ino
    (get_or words 2 0) (get_or words 0 0) slot file refl
    (not (get_or words 0 0 == 0) && not (get_or words 1 0 == 1))
  where
    words : List ℕ
    words = get_or (slots_in bytes) slot []

    by_words : (gate mark number : ℕ) → Option LiveEntry
    by_words gate mark number =
        found_in nodes (not (gate == 0) && not (mark == 1)) number gate slot

    alike : entry_in nodes (heads_in bytes) slot
        ≡ by_words (get_or words 0 0) (get_or words 1 0) (get_or words 2 0)
    alike =
        ap (λ (n : ℕ). by_words n (get_or (get_or (heads_in bytes) slot []) 1 0)
        (get_or (get_or (heads_in bytes) slot []) 2 0)) (same_head bytes slot 0 less (omega arith))
        ∙ (ap (λ (n : ℕ). by_words (get_or words 0 0) n
        (get_or (get_or (heads_in bytes) slot []) 2 0)) (same_head bytes slot 1 less (omega arith))
        ∙ ap (λ (n : ℕ). by_words (get_or words 0 0) (get_or words 1 0) n)
        (same_head bytes slot 2 less (omega arith)))

-- ---- those of all slots

cons-own : (request : LiveEntry → Request) (ino : ℕ) (found : Option LiveEntry)
    (rest : List LiveEntry) →
    filter_map (own request ino) (cons_option found rest)
    ≡ cons_option (option_and_then (own request ino) found) (filter_map (own request ino) rest)
cons-own request ino None rest = refl
cons-own request ino (Some entry) rest = refl

lives-from : (bytes : List ℕ) (nodes : List Node) (ino from n : ℕ) → is_file nodes ino ≡ true →
    from + n ≤ 16 * word_at bytes 24 →
    filter_map (own (held bytes) ino)
    (filter_map (entry_in nodes (heads_in bytes)) (range_with_len from n))
    ≡ filter_map (entry_at ino (slots_in bytes)) (range_with_len from n)
lives-from bytes nodes ino from zero file room = refl
lives-from bytes nodes ino from (suc n) file room =
    let deeper = lives-from bytes nodes ino (from + 1) n file (omega arith) in
    cons-own (held bytes) ino (entry_in nodes (heads_in bytes) from)
    (filter_map (entry_in nodes (heads_in bytes)) (range_with_len (from + 1) n))
    ∙ (ap (λ found. cons_option found (filter_map (own (held bytes) ino)
    (filter_map (entry_in nodes (heads_in bytes)) (range_with_len (from + 1) n))))
    (slot-here bytes nodes ino from file (omega arith))
    ∙ ap (cons_option (entry_at ino (slots_in bytes) from)) deeper)

pub lives-told : (bytes : List ℕ) (nodes : List Node) (ino : ℕ) → is_file nodes ino ≡ true →
    filter_map (request_in bytes ino) (in_order (live_entries nodes (heads_in bytes)))
    ≡ by_gate (live_in ino (slots_in bytes))
lives-told bytes nodes ino file =
    owned-in_order (held bytes) ino (live_entries nodes (heads_in bytes))
    ∙ ap by_gate
    (ap (λ (n : ℕ). filter_map (own (held bytes) ino)
    (filter_map (entry_in nodes (heads_in bytes)) (range_with_len 0 n))) (length-heads bytes)
    ∙ (lives-from bytes nodes ino 0 (16 * word_at bytes 24) file (omega arith)
    ∙ ap (λ (n : ℕ). filter_map (entry_at ino (slots_in bytes)) (range_with_len 0 n))
    (sym (length-slots bytes))))

-- ---- their slots

abbrev IsBelow : ℕ → LiveEntry → Type 0
IsBelow most entry = entry.slot < most

below-put : (most : ℕ) (entry : LiveEntry) (entries : List LiveEntry) → entry.slot < most →
    All (IsBelow most) entries → All (IsBelow most) (put_live entry entries)
below-put most entry [] less all = All-cons (IsBelow most) entry [] less all
below-put most entry (first ∷ rest) less all =
    split (is_before first entry)
    (below-put most entry rest less (All-tail (IsBelow most) first rest all))
  where
    split : (b : Bool) → All (IsBelow most) (put_live entry rest) →
        All (IsBelow most) (if b then first ∷ put_live entry rest else entry ∷ first ∷ rest)
    split true deeper =
        All-cons (IsBelow most) first (put_live entry rest)
        (All-head (IsBelow most) first rest all) deeper
    split false deeper = All-cons (IsBelow most) entry (first ∷ rest) less all

below-in_order : (most : ℕ) (entries : List LiveEntry) → All (IsBelow most) entries →
    All (IsBelow most) (in_order entries)
below-in_order most [] all = all
below-in_order most (entry ∷ entries) all =
    below-put most entry (in_order entries) (All-head (IsBelow most) entry entries all)
    (below-in_order most entries (All-tail (IsBelow most) entry entries all))

below-from : (nodes : List Node) (slots : List (List ℕ)) (most from n : ℕ) → from + n ≤ most →
    All (IsBelow most) (filter_map (entry_in nodes slots) (range_with_len from n))
below-from nodes slots most from zero room = All-nil (IsBelow most)
below-from nodes slots most from (suc n) room =
    split _ (below-from nodes slots most (from + 1) n (omega arith))
  where
    split : (b : Bool) →
        All (IsBelow most) (filter_map (entry_in nodes slots) (range_with_len (from + 1) n)) →
        All (IsBelow most) (cons_option (if b then Some (record {
          ino = get_or (get_or slots from []) 2 0;
          gate = get_or (get_or slots from []) 0 0;
          slot = from;
        }) else None) (filter_map (entry_in nodes slots) (range_with_len (from + 1) n)))
    split true deeper =
        All-cons (IsBelow most) (record {
          ino = get_or (get_or slots from []) 2 0;
          gate = get_or (get_or slots from []) 0 0;
          slot = from;
        }) (filter_map (entry_in nodes slots) (range_with_len (from + 1) n)) (omega arith) deeper
    split false deeper = deeper

-- ---- a file of the tree

file-number : (nodes : List Node) (node : Node) → node_of nodes node.ino ≡ Some node →
    is_directory node.kind ≡ false → is_file nodes node.ino ≡ true
file-number nodes node found kind =
    ap (λ (o : Option Node). option_map_or (λ n. not (is_directory n.kind)) o false) found
    ∙ ap not kind

pub tell-file : (bytes : List ℕ) (nodes : List Node) (next : ℕ) (tags : List ℕ)
    (slots : List (List ℕ)) (found : BlockMap) (entries : List LiveEntry) (node : Node) →
    IsSound bytes → IsTree nodes next → IsFileIn nodes node →
    tags ≡ tags_at bytes (word_at bytes 24) (word_at bytes 16) → slots ≡ heads_in bytes →
    IsBlockMap nodes tags (length tags) found →
    entries ≡ in_order (live_entries nodes slots) → TellFile bytes node found entries
tell-file bytes nodes next tags slots found entries node sound tree in_tree tags_are slots_are
    mapped listed =
    let numbers : (1 ≤ node.ino) × (node.ino < next) =
    All-In (λ n. (1 ≤ n.ino) × (n.ino < next)) nodes node tree.numbers in_tree.among in
    let head : IsHeaded bytes = headed bytes sound in
    let high = tree.next_high in
    let file = file-number nodes node
    (All-In (λ n. node_of nodes n.ino ≡ Some n) nodes node tree.number_once in_tree.among)
    in_tree.kind in
    let here : entries ≡ in_order (live_entries nodes (heads_in bytes)) =
    listed ∙ ap (λ (ws : List (List ℕ)). in_order (live_entries nodes ws)) slots_are in
    record {
      ino = omega (arith, numbers.1, high);
      number = All-In (λ n. n.rec < 256) nodes node tree.records in_tree.among;
      blocks = finds-blocks bytes nodes tags node.ino found file (omega (arith, head.size)) tags_are
          mapped;
      slots = subst (All (IsBelow (16 * word_at bytes 24))) (sym here)
          (below-in_order (16 * word_at bytes 24) (live_entries nodes (heads_in bytes))
          (below-from nodes (heads_in bytes) (16 * word_at bytes 24) 0 (length (heads_in bytes))
          (omega (arith, length-heads bytes))));
      live = ap (filter_map (request_in bytes node.ino)) here
          ∙ lives-told bytes nodes node.ino file;
    }
