-- The entries of a plan are all live entries of the files, in the order of a replay.
use Rattle.std.proofs.Common.{◌≡◌, ◌≢◌, ◌∙◌, ℕ, ◌+◌, ◌<◌, ◌≤◌, Bool}
use Rattle.std.proofs.Common.{true, false, Some, None, List, [], ◌∷◌, get_or, length, map}
use Rattle.std.proofs.Common.{arith, refl, sym, ap, ap₂, subst, if◌then◌else◌, inl, inr, eq-eqb}
use Rattle.std.specs.Prelude.{◌==◌, ◌&&◌, ◌/◌}
use Rattle.std.specs.List.{flat_map}
use Rattle.std.proofs.lemmas.Bool.{cases_lt, eqb-true}
use Rattle.std.proofs.lemmas.List.{length-take}
use Rattle.cfs_block.specs.BlockImages.{BlockStep, content_of}
use Rattle.cfs_core.proofs.Legal.{both}
use Rattle.cfs_core.proofs.Order.{same_or_not}
use Rattle.cfs_dir.specs.declared.node.Node.{Node}
use Rattle.cfs_dir.specs.Tree.{IsTree}
use Rattle.cfs_file.specs.declared.request.Request.{Request}
use Rattle.cfs_file.specs.declared.request.Request.TheVariants as requests
use Rattle.cfs_file.specs.declared.sizes.TheConstants.{BLOCK_LEN}
use Rattle.cfs_home.specs.Disks.{File, IsMapped, IsOnce}
use Rattle.cfs_image.specs.Layout.{slot_at as first_slot_at}
use Rattle.cfs_medium.specs.Depicts.{IsFor}
use Rattle.cfs_medium.specs.Store.{entry_at}
use Rattle.cfs_medium.proofs.Has.{Has, contains-had, has-contained}
use Rattle.cfs_pmem.specs.Images.{Seen, WordStep}
use Rattle.cfs_replay.specs.declared.pending.Pending.{Pending}
use Rattle.cfs_replay.specs.Entries.{AreInOrder}
use Rattle.cfs_replay.specs.Listed.{AreAll, AreByGate, AreEntries, IsEntry, gate_in}
use Rattle.cfs_replay.specs.Reading.{slots_in}
use Rattle.cfs_replay.proofs.Orders.{listed-in-order}
use Rattle.cfs_slot.specs.Tails.{tails_at}
use Rattle.cfs_slot.specs.Words.{area_of, count_of, gate_of, ino_of, is_live, kind_of}
use Rattle.cfs_slot.specs.Words.{offset_of, payload_of, request_of}
use Rattle.cfs_survey.specs.declared.live_entry.LiveEntry.{LiveEntry}
use Rattle.cfs_survey.specs.Live.{in_order, live_entries}
use Rattle.cfs_survey.specs.Slots.{blocks_touched, first_block, is_live_entry, tag_of}
use Rattle.cfs_survey.specs.Surveys.{Words, is_mapped}
use Rattle.cfs_survey.specs.Tags.{is_file}
use Rattle.cfs_plan.specs.Files.{file_with, files_of, node_of}
use Rattle.cfs_plan.specs.Pendings.{pending_of, pendings}
use Rattle.cfs_plan.specs.Readings.{AreReadOf}
use Rattle.cfs_plan.proofs.Found.{mapped-at}
use Rattle.cfs_plan.proofs.Heads.{AreHeadOf, count-same, gate-same, heads-read, ino-same, kind-same}
use Rattle.cfs_plan.proofs.Heads.{live-same, offset-same, tag-read}
use Rattle.cfs_plan.proofs.Members.{has-map, map-has}
use Rattle.cfs_plan.proofs.Ordered.{AreApart, IsStrict, entry-told, live-among}
use Rattle.cfs_plan.proofs.Ordered.{live-strict, live-told}
use Rattle.cfs_plan.proofs.Passed.{Passes, live-inside, passes}
use Rattle.cfs_plan.proofs.Told.{AreSound}
use Rattle.cfs_plan.proofs.TreeFiles.{file-is, found-file, is-file}

-- ---- a live entry by its bits

pub live-open : (ino : ℕ) (words : List ℕ) → is_live ino words ≡ true →
    (ino_of words ≡ ino) × (is_live (ino_of words) words ≡ true)
live-open ino words live =
    let same = eqb-true (ino_of words) ino (both _ _ live).1 in
    (same, ap (λ n. is_live n words) same ∙ live)

-- an entry that stands is live, with the gate and the request of its slot
pub record StandsAs (ino : ℕ) (slots : List (List ℕ)) (at : ℕ) (live : ℕ × Request) : Type 0 where
  pub is : is_live ino (get_or slots at []) ≡ true
  pub gate : live.0 ≡ gate_of (get_or slots at [])
  pub request : live.1 ≡ request_of (get_or slots at []) (tails_at slots at)

pub stands-as : (ino : ℕ) (slots : List (List ℕ)) (at : ℕ) (live : ℕ × Request) →
    entry_at ino slots at ≡ Some live → StandsAs ino slots at live
stands-as ino slots at live here = split (is_live ino (get_or slots at [])) refl here
  where
    made : ℕ × Request
    made = (gate_of (get_or slots at []), request_of (get_or slots at []) (tails_at slots at))

    split : (b : Bool) → is_live ino (get_or slots at []) ≡ b →
        (if b then Some made else None) ≡ Some live → StandsAs ino slots at live
    split true is told =
        let same : made ≡ live = cc in
        record {
          is = is;
          gate = sym (ap (λ (e : ℕ × Request). e.0) same);
          request = sym (ap (λ (e : ℕ × Request). e.1) same);
        }
    split false is told = absurd (cc)

pub stands-made : (ino : ℕ) (slots : List (List ℕ)) (at : ℕ) →
    is_live ino (get_or slots at []) ≡ true → entry_at ino slots at
    ≡ Some (gate_of (get_or slots at []), request_of (get_or slots at []) (tails_at slots at))
stands-made ino slots at is =
    ap (λ (b : Bool). if b
    then Some (gate_of (get_or slots at []), request_of (get_or slots at []) (tails_at slots at))
    else None) is

-- ---- the store that is read

-- what is known of a store whose survey passed its checks, and of devices that read its words
pub record Reads (words : Words) (nodes : List Node) (next : ℕ) (regions : List (Seen WordStep))
    (blocks : List (Seen BlockStep)) : Type 0 where
  pub tree : IsTree nodes next
  pub sound : AreSound words nodes
  pub read : AreReadOf words regions blocks

-- a live entry of a file is one of the survey's
pub live-head : (words : Words) (nodes : List Node) (next : ℕ) (regions : List (Seen WordStep))
    (blocks : List (Seen BlockStep)) → Reads words nodes next regions blocks → (file : File)
    (at : ℕ) → Has (files_of nodes) file →
    is_live file.ino (get_or (slots_in regions) at []) ≡ true →
    is_live_entry nodes (get_or words.slots at []) ≡ true
live-head words nodes next regions blocks reads file at has live =
    let head = heads-read words regions blocks reads.read at in
    let here : is_live file.ino (get_or words.slots at []) ≡ true =
    live-same file.ino (get_or words.slots at []) (get_or (slots_in regions) at []) head ∙ live in
    let own = live-open file.ino (get_or words.slots at []) here in
    ap₂ (λ (a b : Bool). a && b) own.1
    (ap (is_file nodes) own.0 ∙ file-is nodes next reads.tree file has)

-- one gate of a file stands in one slot alone
no-twin : (words : Words) (nodes : List Node) (next : ℕ) (regions : List (Seen WordStep))
    (blocks : List (Seen BlockStep)) → Reads words nodes next regions blocks → (file : File)
    (low high : ℕ) → Has (files_of nodes) file → low < high →
    is_live file.ino (get_or (slots_in regions) low []) ≡ true →
    is_live file.ino (get_or (slots_in regions) high []) ≡ true →
    gate_of (get_or (slots_in regions) low []) ≢ gate_of (get_or (slots_in regions) high [])
no-twin words nodes next regions blocks reads file low high has less first second same =
    let lows = get_or words.slots low [] in
    let highs = get_or words.slots high [] in
    let head_low = heads-read words regions blocks reads.read low in
    let head_high = heads-read words regions blocks reads.read high in
    let entry_low = live-head words nodes next regions blocks reads file low has first in
    let entry = live-head words nodes next regions blocks reads file high has second in
    let inside = live-inside nodes words.slots low entry_low in
    let passed = passes (first_slot_at 0) nodes (is_mapped words.tags) words.slots high entry
    reads.sound.slots in
    let live_low : is_live file.ino lows ≡ true =
    live-same file.ino lows (get_or (slots_in regions) low []) head_low ∙ first in
    let live_high : is_live file.ino highs ≡ true =
    live-same file.ino highs (get_or (slots_in regions) high []) head_high ∙ second in
    let own = live-open file.ino highs live_high in
    passed.alone.lower low less inside (ap (λ n. is_live n lows) own.0 ∙ live_low)
    (gate-same lows (get_or (slots_in regions) low []) head_low
    ∙ same
    ∙ sym (gate-same highs (get_or (slots_in regions) high []) head_high))

pub is-once : (words : Words) (nodes : List Node) (next : ℕ) (regions : List (Seen WordStep))
    (blocks : List (Seen BlockStep)) → Reads words nodes next regions blocks → (file : File) →
    Has (files_of nodes) file → IsOnce file.ino (slots_in regions)
is-once words nodes next regions blocks reads file has first second entry other here there same =
    let a = stands-as file.ino (slots_in regions) first entry here in
    let b = stands-as file.ino (slots_in regions) second other there in
    let gates : gate_of (get_or (slots_in regions) first [])
    ≡ gate_of (get_or (slots_in regions) second []) = sym a.gate ∙ same ∙ b.gate in
    elim (same_or_not first second) [
      | inl equal ↦ equal
      | inr differs ↦ elim (cases_lt first second) [
        | inl low ↦ absurd (no-twin words nodes next regions blocks reads file first second has low
            a.is b.is gates)
        | inr high ↦ absurd (no-twin words nodes next regions blocks reads file second first has
            (omega (arith, high, differs)) b.is a.is (sym gates))
      ]
    ]

-- ---- each listed entry is one

pub payload-few : (words : List ℕ) (tails : List (List ℕ)) →
    length (payload_of words tails) ≤ count_of words
payload-few words tails =
    omega (arith, length-take (count_of words) (flat_map area_of (words ∷ tails)))

is-mapped-here : (words : Words) (nodes : List Node) (next : ℕ) (regions : List (Seen WordStep))
    (blocks : List (Seen BlockStep)) → Reads words nodes next regions blocks → (at : ℕ) →
    is_live_entry nodes (get_or words.slots at []) ≡ true → (ino : ℕ) →
    ino_of (get_or words.slots at []) ≡ ino →
    IsMapped ino (request_of (get_or (slots_in regions) at []) (tails_at (slots_in regions) at))
    (map content_of blocks)
is-mapped-here words nodes next regions blocks reads at live ino own =
    split (kind_of here == 2) refl
  where
    here : List ℕ
    here = get_or (slots_in regions) at []

    head : List ℕ
    head = get_or words.slots at []

    tails : List (List ℕ)
    tails = tails_at (slots_in regions) at

    same : AreHeadOf head here
    same = heads-read words regions blocks reads.read at

    passed : Passes (is_mapped words.tags) words.slots at
    passed = passes (first_slot_at 0) nodes (is_mapped words.tags) words.slots at live
        reads.sound.slots

    -- the block of a position that it touches
    block-there : kind_of here ≢ 2 → (position : ℕ) → offset_of here ≤ position →
        position < offset_of here + length (payload_of here tails) →
        (b : ℕ) × IsFor ino (position / BLOCK_LEN) (map content_of blocks) b
    block-there other position low high =
        let few = payload-few here tails in
        let offset = offset-same head here same in
        let count = count-same head here same in
        let from : first_block head ≤ position / 4096 = omega (arith, low, offset) in
        let below : position / 4096 < first_block head + blocks_touched head =
        omega (arith, low, high, few, offset, count) in
        let mapped = passed.blocks.each (λ k. other (sym (kind-same head here same) ∙ k))
        (position / 4096) from below in
        let found = mapped-at words.tags (tag_of (ino_of head) (position / 4096)) mapped in (
          found.0,
          sym (tag-read words regions blocks reads.read found.0) ∙ found.1.1
              ∙ ap (λ n. tag_of n (position / 4096)) own,
        )

    split : (b : Bool) → (kind_of here == 2) ≡ b →
        IsMapped ino (if b then requests.Truncate (offset_of here)
        else requests.Write (offset_of here) (payload_of here tails)) (map content_of blocks)
    split true is = tt
    split false is = λ position touched.
        block-there
        (λ k. (let clash : (kind_of here == 2) ≡ true = eq-eqb (kind_of here) 2 k in cc))
        position touched.0 touched.1

entry-is : (words : Words) (nodes : List Node) (next : ℕ) (regions : List (Seen WordStep))
    (blocks : List (Seen BlockStep)) → Reads words nodes next regions blocks → (e : LiveEntry) →
    Has (in_order (live_entries nodes words.slots)) e →
    IsEntry (files_of nodes) (slots_in regions) (map content_of blocks)
    (pending_of (files_of nodes) e)
entry-is words nodes next regions blocks reads e has =
    let files : List File = files_of nodes in
    let found = live-told nodes words.slots e has in
    let told = found.1 in
    let head = get_or words.slots e.slot [] in
    let here = get_or (slots_in regions) e.slot [] in
    let same = heads-read words regions blocks reads.read e.slot in
    let parts = both _ _ told.live in
    let of_file : is_file nodes e.ino ≡ true = ap (is_file nodes) told.ino ∙ parts.1 in
    let file = is-file nodes e.ino of_file in
    let live : is_live e.ino here ≡ true =
    sym (live-same e.ino head here same) ∙ ap (λ n. is_live n head) told.ino ∙ parts.0 in
    record {
      live = (gate_of here, request_of here (tails_at (slots_in regions) e.slot));
      among = contains-had files (record { node = node_of (file_with e.ino files); ino = e.ino })
          (found-file files e.ino file.0 file.1.0 file.1.1);
      here = stands-made e.ino (slots_in regions) e.slot live;
      mapped = is-mapped-here words nodes next regions blocks reads e.slot told.live e.ino
          (sym told.ino);
    }

pub are-entries : (words : Words) (nodes : List Node) (next : ℕ) (regions : List (Seen WordStep))
    (blocks : List (Seen BlockStep)) → Reads words nodes next regions blocks →
    AreEntries (files_of nodes) (slots_in regions) (map content_of blocks)
    (pendings (files_of nodes) (in_order (live_entries nodes words.slots)))
are-entries words nodes next regions blocks reads pending among =
    let files : List File = files_of nodes in
    let listed : List LiveEntry = in_order (live_entries nodes words.slots) in
    let from = map-has (pending_of files) listed pending
    (has-contained (pendings files listed) pending among) in
    subst (IsEntry files (slots_in regions) (map content_of blocks)) (sym from.1.1)
    (entry-is words nodes next regions blocks reads from.0 from.1.0)

-- ---- each one is listed

pub are-all : (words : Words) (nodes : List Node) (next : ℕ) (regions : List (Seen WordStep))
    (blocks : List (Seen BlockStep)) → Reads words nodes next regions blocks →
    AreAll (files_of nodes) (slots_in regions)
    (pendings (files_of nodes) (in_order (live_entries nodes words.slots)))
are-all words nodes next regions blocks reads file at live among here =
    let files : List File = files_of nodes in
    let listed : List LiveEntry = in_order (live_entries nodes words.slots) in
    let stands = stands-as file.ino (slots_in regions) at live here in
    let has = has-contained files file among in
    let head = live-head words nodes next regions blocks reads file at has stands.is in
    let entry : LiveEntry = record {
      ino = ino_of (get_or words.slots at []);
      gate = gate_of (get_or words.slots at []);
      slot = at;
    } in
    let own = live-open file.ino (get_or (slots_in regions) at []) stands.is in (
      pending_of files entry,
      (
        contains-had (pendings files listed) (pending_of files entry)
            (has-map (pending_of files) listed entry (live-among nodes words.slots at head)),
        (
          ino-same (get_or words.slots at []) (get_or (slots_in regions) at [])
              (heads-read words regions blocks reads.read at) ∙ own.0,
          refl,
        ),
      ),
    )

-- ---- by ascending gate

are-apart : (words : Words) (nodes : List Node) → AreSound words nodes →
    AreApart nodes words.slots
are-apart words nodes sound low high a b less here there inos gates =
    let lows = get_or words.slots low [] in
    let highs = get_or words.slots high [] in
    let lower = entry-told nodes words.slots low a here in
    let upper = entry-told nodes words.slots high b there in
    let passed = passes (first_slot_at 0) nodes (is_mapped words.tags) words.slots high upper.live
    sound.slots in
    let one : ino_of highs ≡ ino_of lows = sym upper.ino ∙ inos ∙ lower.ino in
    passed.alone.lower low less (live-inside nodes words.slots low lower.live)
    (ap (λ n. is_live n lows) one ∙ (both _ _ lower.live).0)
    (sym lower.gate ∙ sym gates ∙ upper.gate)

by-gate : (files : List File) (slots : List (List ℕ)) (xs : List LiveEntry) → IsStrict xs →
    ((x : LiveEntry) → Has xs x → x.gate ≡ gate_of (get_or slots x.slot [])) →
    AreByGate slots (pendings files xs)
by-gate files slots [] strict gated = tt
by-gate files slots (x ∷ xs) strict gated = (
  λ other among own.
      (let from = map-has (pending_of files) xs other
      (has-contained (pendings files xs) other among) in
      let y : LiveEntry = from.0 in
      let inos : x.ino ≡ y.ino = sym own ∙ ap (λ (p : Pending). p.ino) from.1.1 in
      let less = (strict.0 y from.1.0).gates inos in
      let here = gated x (inl refl) in
      let there : y.gate ≡ gate_in slots other =
      gated y (inr from.1.0) ∙ sym (ap (gate_in slots) from.1.1) in
      omega (arith, less, here, there)),
  by-gate files slots xs strict.1 (λ z more. gated z (inr more)),
)

pub are-by-gate : (words : Words) (nodes : List Node) (next : ℕ) (regions : List (Seen WordStep))
    (blocks : List (Seen BlockStep)) → Reads words nodes next regions blocks →
    AreByGate (slots_in regions)
    (pendings (files_of nodes) (in_order (live_entries nodes words.slots)))
are-by-gate words nodes next regions blocks reads =
    by-gate (files_of nodes) (slots_in regions) (in_order (live_entries nodes words.slots))
    (live-strict nodes words.slots (are-apart words nodes reads.sound))
    (λ x has.
    (let told = (live-told nodes words.slots x has).1 in
    told.gate
    ∙ gate-same (get_or words.slots x.slot []) (get_or (slots_in regions) x.slot [])
    (heads-read words regions blocks reads.read x.slot)))

pub are-in-order : (words : Words) (nodes : List Node) (next : ℕ) (regions : List (Seen WordStep))
    (blocks : List (Seen BlockStep)) → Reads words nodes next regions blocks →
    AreInOrder (files_of nodes) (slots_in regions) (map content_of blocks)
    (pendings (files_of nodes) (in_order (live_entries nodes words.slots)))
are-in-order words nodes next regions blocks reads =
    listed-in-order (files_of nodes) (slots_in regions) (map content_of blocks)
    (pendings (files_of nodes) (in_order (live_entries nodes words.slots)))
    (λ file among. is-once words nodes next regions blocks reads file
    (has-contained (files_of nodes) file among))
    (are-entries words nodes next regions blocks reads)
    (are-all words nodes next regions blocks reads)
    (are-by-gate words nodes next regions blocks reads)
