-- The entries of a plan may be replayed, and its files may be mounted.
use Rattle.std.proofs.Common.{◌≡◌, ◌≢◌, ◌∙◌, ℕ, ◌+◌, ◌*◌, ◌<◌, ◌≤◌, Bool, true, false}
use Rattle.std.proofs.Common.{List, [], ◌∷◌, get_or, length, map, arith, refl, sym, ap, subst}
use Rattle.std.proofs.Common.{if◌then◌else◌, inl, inr, eq-eqb}
use Rattle.std.specs.Prelude.{All, None, ◌==◌, ◌/◌}
use Rattle.std.specs.List.{flat_map}
use Rattle.std.proofs.lemmas.Bool.{eqb-true, leb-true}
use Rattle.std.proofs.lemmas.List.Elements.{Contains-get_or}
use Rattle.cfs_block.specs.BlockImages.{BlockStep}
use Rattle.cfs_core.proofs.Legal.{both}
use Rattle.cfs_dir.specs.declared.node.Node.{Node}
use Rattle.cfs_dir.specs.Namespace.{is_directory}
use Rattle.cfs_file.specs.declared.request.Request.{Request}
use Rattle.cfs_file.specs.declared.request.Request.TheVariants as requests
use Rattle.cfs_home.specs.Calls.{size_in}
use Rattle.cfs_home.specs.Disks.{AreReady, File}
use Rattle.cfs_home.specs.Parts.{ArePlaced, IsPlaced}
use Rattle.cfs_image.specs.Checks.{Check, damage_of}
use Rattle.cfs_image.specs.Layout.{block_at, size_at}
use Rattle.cfs_image.specs.Layout.{slot_at as first_slot_at}
use Rattle.cfs_medium.specs.Store.{by_gate, live_in}
use Rattle.cfs_medium.proofs.Has.{Has, has-contained}
use Rattle.cfs_medium.proofs.Slots.{live-stands}
use Rattle.cfs_medium.proofs.Sorted.{has-by_gate}
use Rattle.cfs_pmem.specs.Images.{Seen, WordStep, words_of}
use Rattle.cfs_replay.specs.declared.pending.Pending.{Pending}
use Rattle.cfs_replay.specs.Entries.{CanReplay, HoldsWhole}
use Rattle.cfs_replay.specs.Pieces.{FindsBlocks, tags_in}
use Rattle.cfs_replay.specs.Plans.{disk_in}
use Rattle.cfs_replay.specs.Reading.{slots_in, words_at}
use Rattle.cfs_slot.specs.Tails.{numbers_in, tails_at}
use Rattle.cfs_slot.specs.Words.{ino_of, is_live, kind_of, offset_of, payload_of}
use Rattle.cfs_slot.specs.Words.{request_of}
use Rattle.cfs_survey.specs.declared.live_entry.LiveEntry.{LiveEntry}
use Rattle.cfs_survey.specs.Faults.{at_most}
use Rattle.cfs_survey.specs.Live.{in_order, live_entries}
use Rattle.cfs_survey.specs.Mapped.{BlockMap, IsBlockMap}
use Rattle.cfs_survey.specs.Sizes.{size_checks, sizes_checks}
use Rattle.cfs_survey.specs.Slots.{is_live_entry}
use Rattle.cfs_survey.specs.Surveys.{AreWhole, Words, is_mapped}
use Rattle.cfs_survey.specs.Tags.{is_file}
use Rattle.cfs_survey.proofs.FirstFaults.{passed, sound_parts}
use Rattle.cfs_plan.specs.Files.{file_with, files_of, node_of}
use Rattle.cfs_plan.specs.Pendings.{pending_of, pendings}
use Rattle.cfs_plan.specs.Readings.{HasNothingPast}
use Rattle.cfs_plan.proofs.Found.{finds-blocks}
use Rattle.cfs_plan.proofs.Heads.{AreHeadOf, count-same, heads-read, kind-same, offset-same}
use Rattle.cfs_plan.proofs.Heads.{regions-many, slot-at, tails-same}
use Rattle.cfs_plan.proofs.Listed.{Reads, is-once, live-head, payload-few, stands-as}
use Rattle.cfs_plan.proofs.Members.{map-has}
use Rattle.cfs_plan.proofs.Ordered.{live-told}
use Rattle.cfs_plan.proofs.Passed.{IsRanged, passes}
use Rattle.cfs_plan.proofs.Plans.{size-at}
use Rattle.cfs_plan.proofs.TreeFiles.{all-has, file-node, found-file, is-file}

-- what the head of a slot tells is in range, by the words of the slot too
ranged-same : (head words : List ℕ) → AreHeadOf head words → IsRanged head → IsRanged words
ranged-same head words same ranged =
    let kind = kind-same head words same in
    let offset = offset-same head words same in
    let count = count-same head words same in
    let tails = ap (λ (n : ℕ). length (numbers_in n)) (tails-same head words same) in
    record {
      end = λ other. omega (arith, ranged.end (λ k. other (sym kind ∙ k)), offset, count);
      whole = λ other. omega (arith, ranged.whole (λ k. other (sym kind ∙ k)), tails, count);
      length_is = λ k. omega (arith, ranged.length_is (kind ∙ k), offset);
    }

slot-ranged : (words : Words) (nodes : List Node) (next : ℕ) (regions : List (Seen WordStep))
    (blocks : List (Seen BlockStep)) → Reads words nodes next regions blocks → (at : ℕ) →
    is_live_entry nodes (get_or words.slots at []) ≡ true →
    IsRanged (get_or (slots_in regions) at [])
slot-ranged words nodes next regions blocks reads at live =
    ranged-same (get_or words.slots at []) (get_or (slots_in regions) at [])
    (heads-read words regions blocks reads.read at)
    (passes (first_slot_at 0) nodes (is_mapped words.tags) words.slots at live
    reads.sound.slots).ranged

-- ---- entries

holds-whole : (words : List ℕ) → IsRanged words → HoldsWhole words
holds-whole words ranged = record { fits = ranged.end; whole = ranged.whole }

entry-replays : (words : Words) (nodes : List Node) (next : ℕ) (regions : List (Seen WordStep))
    (blocks : List (Seen BlockStep)) (found : BlockMap) → Reads words nodes next regions blocks →
    AreWhole words → IsBlockMap nodes words.tags (length words.tags) found → (e : LiveEntry) →
    Has (in_order (live_entries nodes words.slots)) e →
    CanReplay found (tags_in blocks) regions (pending_of (files_of nodes) e)
entry-replays words nodes next regions blocks found reads whole map e has =
    let files : List File = files_of nodes in
    let listed = live-told nodes words.slots e has in
    let told = listed.1 in
    let head : List ℕ = get_or words.slots e.slot [] in
    let parts = both (is_live (ino_of head) head) (is_file nodes (ino_of head)) told.live in
    let of_file : is_file nodes e.ino ≡ true = ap (is_file nodes) told.ino ∙ parts.1 in
    let file = is-file nodes e.ino of_file in
    let here = file-node nodes (record { node = node_of (file_with e.ino files); ino = e.ino })
    (found-file files e.ino file.0 file.1.0 file.1.1) in
    let low = all-has (λ (n : Node). n.rec < 256) nodes here.0 reads.tree.records here.1.among in
    let numbers = all-has (λ (n : Node). (1 ≤ n.ino) × (n.ino < next)) nodes here.0
    reads.tree.numbers here.1.among in
    let many = regions-many words regions blocks reads.read in
    record {
      node = omega (arith, low, here.1.rec);
      ino = omega (arith, numbers.1, reads.tree.next_high, here.1.ino);
      slot = omega (arith, listed.0, whole.slots);
      queue = omega (arith, listed.0, many, reads.read.many);
      whole = holds-whole (words_at regions (323 + e.slot))
          (subst IsRanged (slot-at regions e.slot)
          (slot-ranged words nodes next regions blocks reads e.slot told.live));
      finds = subst (FindsBlocks e.ino found) (sym reads.read.tags)
          (finds-blocks (block_at (length words.slots / 16) 0) nodes words.tags found e.ino
          reads.sound.tags of_file map);
    }

pub can-replay : (words : Words) (nodes : List Node) (next : ℕ) (regions : List (Seen WordStep))
    (blocks : List (Seen BlockStep)) (found : BlockMap) → Reads words nodes next regions blocks →
    AreWhole words → IsBlockMap nodes words.tags (length words.tags) found → (pending : Pending) →
    Has (pendings (files_of nodes) (in_order (live_entries nodes words.slots))) pending →
    CanReplay found (tags_in blocks) regions pending
can-replay words nodes next regions blocks found reads whole map pending has =
    let from = map-has (pending_of (files_of nodes)) (in_order (live_entries nodes words.slots))
    pending has in
    subst (CanReplay found (tags_in blocks) regions) (sym from.1.1)
    (entry-replays words nodes next regions blocks found reads whole map from.0 from.1.0)

pub can-all : (words : Words) (nodes : List Node) (next : ℕ) (regions : List (Seen WordStep))
    (blocks : List (Seen BlockStep)) (found : BlockMap) (entries : List Pending) →
    Reads words nodes next regions blocks → AreWhole words →
    IsBlockMap nodes words.tags (length words.tags) found →
    entries ≡ pendings (files_of nodes) (in_order (live_entries nodes words.slots)) →
    All (CanReplay found (tags_in blocks) regions) entries
can-all words nodes next regions blocks found entries reads whole map is k d below =
    can-replay words nodes next regions blocks found reads whole map (get_or entries k d)
    (subst (λ (all : List Pending). Has all (get_or entries k d)) is
    (has-contained entries (get_or entries k d) (Contains-get_or entries k d below)))

-- ---- files

all-placed : (entries : List (ℕ × Request)) →
    ((e : ℕ × Request) → Has entries e → IsPlaced e.1) → ArePlaced entries
all-placed [] each = tt
all-placed (entry ∷ entries) each =
    (each entry (inl refl), all-placed entries (λ e more. each e (inr more)))

request-placed : (words : List ℕ) (tails : List (List ℕ)) → IsRanged words →
    IsPlaced (request_of words tails)
request-placed words tails ranged = split (kind_of words == 2) refl
  where
    split : (b : Bool) → (kind_of words == 2) ≡ b →
        IsPlaced (if b then requests.Truncate (offset_of words)
        else requests.Write (offset_of words) (payload_of words tails))
    split true is = ranged.length_is (eqb-true (kind_of words) 2 is)
    split false is =
        let other : kind_of words ≢ 2 = λ k.
        (let clash : (kind_of words == 2) ≡ true = eq-eqb (kind_of words) 2 k in cc) in
        let few = payload-few words tails in
        let end = ranged.end other in
        omega (arith, few, end)

are-placed : (words : Words) (nodes : List Node) (next : ℕ) (regions : List (Seen WordStep))
    (blocks : List (Seen BlockStep)) → Reads words nodes next regions blocks → (file : File) →
    Has (files_of nodes) file → ArePlaced (by_gate (live_in file.ino (slots_in regions)))
are-placed words nodes next regions blocks reads file has =
    all-placed (by_gate (live_in file.ino (slots_in regions))) (λ e among.
    (let at = live-stands file.ino (slots_in regions) e
    (has-by_gate (live_in file.ino (slots_in regions)) e among) in
    let stands = stands-as file.ino (slots_in regions) at.0 e at.1 in
    subst IsPlaced (sym stands.request)
    (request-placed (get_or (slots_in regions) at.0 []) (tails_at (slots_in regions) at.0)
    (slot-ranged words nodes next regions blocks reads at.0
    (live-head words nodes next regions blocks reads file at.0 has stands.is)))))

-- the checks of a member of a list
member-sound : (each : Node → List Check) (xs : List Node) (x : Node) →
    damage_of (flat_map each xs) ≡ None → Has xs x → damage_of (each x) ≡ None
member-sound each [] x sound has = absurd has
member-sound each (y ∷ ys) x sound has =
    let parts = sound_parts (each y) (flat_map each ys) sound in
    elim has [
      | inl same ↦ ap (λ n. damage_of (each n)) same ∙ parts.0
      | inr more ↦ member-sound each ys x parts.1 more
    ]

size-low : (at : ℕ) (sizes : List ℕ) (nodes : List Node) (node : Node) →
    damage_of (sizes_checks at sizes nodes) ≡ None → Has nodes node →
    is_directory node.kind ≡ false → get_or sizes node.rec 0 ≤ 1048576
unfolding sizes_checks
size-low at sizes nodes node sound has plain =
    let own : Check = at_most 1048576 (at + 8 * node.rec) (get_or sizes node.rec 0) in
    let here : damage_of (own ∷ []) ≡ None =
    ap (λ (b : Bool). damage_of (if b then [] else own ∷ [])) (sym plain)
    ∙ member-sound (size_checks at sizes) nodes node sound has in
    leb-true (get_or sizes node.rec 0) 1048576 (passed own here)

size-fits : (words : Words) (nodes : List Node) (next : ℕ) (regions : List (Seen WordStep))
    (blocks : List (Seen BlockStep)) → Reads words nodes next regions blocks → (file : File) →
    Has (files_of nodes) file → size_in (map words_of regions) file.node ≤ 1048576
size-fits words nodes next regions blocks reads file has =
    let found = file-node nodes file has in
    let node : Node = found.0 in
    let low = all-has (λ (n : Node). n.rec < 256) nodes node reads.tree.records found.1.among in
    let most = size-low (size_at 0) words.sizes nodes node reads.sound.sizes found.1.among
    found.1.plain in
    let inside : file.node < 256 = omega (arith, low, found.1.rec) in
    let here = size-at regions file.node inside ∙ reads.read.sizes file.node inside
    ∙ ap (λ n. get_or words.sizes n 0) found.1.rec in
    omega (arith, here, most)

pub are-ready : (words : Words) (nodes : List Node) (next : ℕ) (regions : List (Seen WordStep))
    (blocks : List (Seen BlockStep)) → Reads words nodes next regions blocks →
    HasNothingPast (files_of nodes) (disk_in regions blocks) →
    AreReady (files_of nodes) (disk_in regions blocks)
are-ready words nodes next regions blocks reads nothing file among =
    let has = has-contained (files_of nodes) file among in
    record {
      sound = record {
        fits = size-fits words nodes next regions blocks reads file has;
        placed = are-placed words nodes next regions blocks reads file has;
        zero_past = λ position past beside. nothing file position among past beside;
      };
      once = is-once words nodes next regions blocks reads file has;
    }
