-- The lists of a plan are what a mount of the store is to do.
use Rattle.std.proofs.Common.{◌≡◌, ◌≢◌, ◌⊎◌, ◌∙◌, ℕ, ◌+◌, ◌<◌, Bool}
use Rattle.std.proofs.Common.{true, false, List, [], get_or, length, map}
use Rattle.std.proofs.Common.{arith, refl, sym, ap, ap₂, subst, if◌then◌else◌, inl, inr, eq-eqb}
use Rattle.std.specs.Prelude.{◌==◌, ◌&&◌, ◌/◌, not, filter, IfOk, Result, Ok, Err}
use Rattle.std.specs.List.{Contains, list_any, range_with_len}
use Rattle.std.proofs.Math.ListN.{get_or-map}
use Rattle.std.proofs.lemmas.Bool.{cases_Bool, cases_lt, eqb-true, le-ltb, lt-ltb}
use Rattle.std.proofs.lemmas.List.{get_or_past}
use Rattle.std.proofs.lemmas.List.Elements.{Contains-get_or}
use Rattle.cfs_block.specs.BlockImages.{BlockStep, content_of}
use Rattle.cfs_core.proofs.Order.{same_or_not}
use Rattle.cfs_dir.specs.declared.node.Node.{Node}
use Rattle.cfs_home.specs.Calls.{size_in}
use Rattle.cfs_home.specs.Disks.{File, IsDead, IsNoNode, IsNoTag}
use Rattle.cfs_home.specs.Ends.{IsClosedOrLive}
use Rattle.cfs_medium.specs.Depicts.{content_at}
use Rattle.cfs_medium.specs.Store.{tag_of}
use Rattle.cfs_medium.proofs.Has.{Has, contains-had, has-contained}
use Rattle.cfs_pmem.specs.Images.{Seen, WordStep, words_of}
use Rattle.cfs_replay.specs.declared.plan.Plan.{Plan}
use Rattle.cfs_replay.specs.Entries.{AreInOrder}
use Rattle.cfs_replay.specs.Plans.{IsNode, IsPlanFor, IsTagOrFree, IsWithin, disk_in}
use Rattle.cfs_replay.specs.Reading.{slots_in, words_at}
use Rattle.cfs_slot.specs.Words.{gate_of, is_live}
use Rattle.cfs_survey.specs.declared.live_entry.LiveEntry.{LiveEntry}
use Rattle.cfs_survey.specs.Live.{in_order, live_entries}
use Rattle.cfs_survey.specs.Surveys.{Words}
use Rattle.cfs_survey.proofs.RootLemmas.{unequal}
use Rattle.cfs_plan.specs.Files.{files_of}
use Rattle.cfs_plan.specs.Lists.{dead_slots, is_dead, is_leftover, is_stray, leftover_records}
use Rattle.cfs_plan.specs.Lists.{stray_blocks}
use Rattle.cfs_plan.specs.Pendings.{pendings}
use Rattle.cfs_plan.specs.Readings.{AreReadOf}
use Rattle.cfs_plan.proofs.Heads.{blocks-many, gate-same, heads-read, live-same, regions-many}
use Rattle.cfs_plan.proofs.Heads.{tag-read}
use Rattle.cfs_plan.proofs.Listed.{Reads, are-in-order}
use Rattle.cfs_plan.proofs.Members.{any-has, filter-has, has-any, has-filter, has-range, range-has}

-- ---- a list of places that pass a test

abbrev Passing : (ℕ → Bool) → ℕ → List ℕ
Passing p n = filter p (range_with_len 0 n)

-- each place of the list is below the number, and passes
passing-at : (p : ℕ → Bool) (n k : ℕ) → k < length (Passing p n) →
    (get_or (Passing p n) k 0 < n) × (p (get_or (Passing p n) k 0) ≡ true)
passing-at p n k below =
    let at = get_or (Passing p n) k 0 in
    let found = filter-has p (range_with_len 0 n) at
    (has-contained (Passing p n) at (Contains-get_or (Passing p n) k 0 below)) in
    let inside = (range-has 0 n at found.0).1 in
    (omega (arith, inside), found.1)

-- and each place that passes is in it
passing-has : (p : ℕ → Bool) (n at : ℕ) → at < n → p at ≡ true → Contains (Passing p n) at
passing-has p n at below is =
    contains-had (Passing p n) at
    (has-filter p (range_with_len 0 n) at
    (has-range 0 n at (omega arith) (omega (arith, below))) is)

-- ---- tests

flipped : (b : Bool) → not b ≡ true → b ≡ false
flipped true h = absurd (cc)
flipped false h = refl

two-parts : (a b : Bool) → (a && b) ≡ true → (a ≡ true) × (b ≡ true)
two-parts true b h = (refl, h)
two-parts false b h = absurd (cc)

none-has : {X : Type 0} (p : X → Bool) (xs : List X) (x : X) → list_any p xs ≡ false → Has xs x →
    p x ≡ false
none-has p xs x none has = elim (cases_Bool (p x)) [
  | inl is ↦ let clash = sym (has-any p xs x has is) ∙ none in absurd (cc)
  | inr not_is ↦ not_is
]

some-bit : (a : ℕ) → a ≢ 0 → (not (a == 0)) ≡ true
some-bit a some = ap not (unequal a 0 some)

-- ---- slots

dead-is : (files : List File) (words : List ℕ) → is_dead files words ≡ true → (file : File) →
    Has files file → is_live file.ino words ≡ false
dead-is files words dead file has =
    none-has (λ f. is_live f.ino words) files file
    (flipped (list_any (λ f. is_live f.ino words) files)
    (two-parts (not (gate_of words == 0)) _ dead).1) has

slot-cases : (files : List File) (words : List ℕ) →
    ((gate_of words ≡ 0) ⊎ ((file : File) × (Has files file × (is_live file.ino words ≡ true))))
    ⊎ ((gate_of words ≢ 0) × (is_dead files words ≡ true))
slot-cases files words = elim (same_or_not (gate_of words) 0) [
  | inl closed ↦ inl (inl closed)
  | inr opens ↦ elim (cases_Bool (list_any (λ f. is_live f.ino words) files)) [
    | inl some ↦ inl (inr (any-has (λ f. is_live f.ino words) files some))
    | inr none ↦ inr (opens, ap₂ (λ a b. a && not b) (some-bit (gate_of words) opens) none)
  ]
]

are-dead : (words : Words) (files : List File) (regions : List (Seen WordStep))
    (blocks : List (Seen BlockStep)) → AreReadOf words regions blocks → (k : ℕ) →
    k < length (dead_slots files words.slots) →
    IsDead files (get_or (slots_in regions) (get_or (dead_slots files words.slots) k 0) [])
are-dead words files regions blocks read k below file among =
    let at : ℕ = get_or (dead_slots files words.slots) k 0 in
    let passing = passing-at (λ at. is_dead files (get_or words.slots at [])) (length words.slots) k
    below in
    sym (live-same file.ino (get_or words.slots at []) (get_or (slots_in regions) at [])
    (heads-read words regions blocks read at))
    ∙ dead-is files (get_or words.slots at []) passing.1 file (has-contained files file among)

open-slots : (words : Words) (files : List File) (regions : List (Seen WordStep))
    (blocks : List (Seen BlockStep)) → AreReadOf words regions blocks → (at : ℕ) →
    IsClosedOrLive files (get_or (slots_in regions) at [])
    ⊎ Contains (dead_slots files words.slots) at
open-slots words files regions blocks read at =
    elim (slot-cases files head) [
      | inl fine ↦ inl (elim fine [
        | inl closed ↦
            inl (sym (gate-same head here (heads-read words regions blocks read at)) ∙ closed)
        | inr live ↦ inr (
          live.0,
          (
            contains-had files live.0 live.1.0,
            sym (live-same live.0.ino head here (heads-read words regions blocks read at))
                ∙ live.1.1,
          ),
        )
      ])
      | inr dead ↦ inr (passing-has (λ at. is_dead files (get_or words.slots at []))
          (length words.slots) at (inside dead.0) dead.1)
    ]
  where
    head : List ℕ
    head = get_or words.slots at []

    here : List ℕ
    here = get_or (slots_in regions) at []

    inside : gate_of head ≢ 0 → at < length words.slots
    inside opens = elim (cases_lt at (length words.slots)) [
      | inl below ↦ below
      | inr past ↦ absurd (opens (ap gate_of (get_or_past words.slots at [] past)))
    ]

-- ---- tags

are-no-tags : (words : Words) (files : List File) (regions : List (Seen WordStep))
    (blocks : List (Seen BlockStep)) → AreReadOf words regions blocks → (k : ℕ) →
    k < length (stray_blocks files words.tags) →
    IsNoTag files
    (content_at (map content_of blocks) (get_or (stray_blocks files words.tags) k 0)).tag
are-no-tags words files regions blocks read k below file among block low same =
    let at : ℕ = get_or (stray_blocks files words.tags) k 0 in
    let tag : ℕ = get_or words.tags at 0 in
    let passing = passing-at (λ at. is_stray files (get_or words.tags at 0)) (length words.tags) k
    below in
    let none = none-has (λ f. f.ino == tag / 65536) files file
    (flipped _ (two-parts (not (tag == 0)) _ passing.1).1) (has-contained files file among) in
    let here : tag ≡ tag_of file.ino block = tag-read words regions blocks read at ∙ same in
    let own : file.ino ≡ tag / 65536 = omega (arith, here, low) in
    let some : (file.ino == tag / 65536) ≡ true = eq-eqb file.ino (tag / 65536) own in
    absurd (cc)

tags-told : (words : Words) (files : List File) (regions : List (Seen WordStep))
    (blocks : List (Seen BlockStep)) → AreReadOf words regions blocks → (at : ℕ) →
    IsTagOrFree files (content_at (map content_of blocks) at).tag
    ⊎ Contains (stray_blocks files words.tags) at
tags-told words files regions blocks read at =
    elim (same_or_not tag 0) [
      | inl free ↦ inl (inl (sym here ∙ free))
      | inr some ↦ elim (cases_Bool (list_any (λ f. f.ino == tag / 65536) files)) [
        | inl is ↦
            let file = any-has (λ f. f.ino == tag / 65536) files is in
            inl (inr (
              file.0,
              (
                contains-had files file.0 file.1.0,
                ap (λ t. t / 65536) (sym here)
                    ∙ sym (eqb-true file.0.ino (tag / 65536) file.1.1),
              ),
            ))
        | inr none ↦ inr (passing-has (λ at. is_stray files (get_or words.tags at 0))
            (length words.tags) at (inside some)
            (ap₂ (λ a b. a && not b) (some-bit tag some) none))
      ]
    ]
  where
    tag : ℕ
    tag = get_or words.tags at 0

    here : tag ≡ (content_at (map content_of blocks) at).tag
    here = tag-read words regions blocks read at

    inside : tag ≢ 0 → at < length words.tags
    inside some = elim (cases_lt at (length words.tags)) [
      | inl below ↦ below
      | inr past ↦ absurd (some (get_or_past words.tags at 0 past))
    ]

-- ---- size words

are-no-nodes : (words : Words) (files : List File) (k : ℕ) →
    k < length (leftover_records files words.sizes) →
    IsNoNode files (get_or (leftover_records files words.sizes) k 0)
are-no-nodes words files k below file among same =
    let node : ℕ = get_or (leftover_records files words.sizes) k 0 in
    let passing = passing-at (is_leftover files words.sizes) (length words.sizes) k below in
    let none = none-has (λ f. f.node == node) files file
    (flipped _ (two-parts (not (get_or words.sizes node 0 == 0)) _ passing.1).1)
    (has-contained files file among) in
    let some : (file.node == node) ≡ true = eq-eqb file.node node same in
    absurd (cc)

pub size-at : (regions : List (Seen WordStep)) (node : ℕ) → node < 256 →
    size_in (map words_of regions) node ≡ get_or (words_at regions (67 + node)) 0 0
size-at regions node low =
    ap (λ b. if b then get_or (get_or (map words_of regions) (67 + node) []) 0 0 else 0)
    (lt-ltb node 256 low)
    ∙ ap (λ ws. get_or ws 0 0)
    (get_or-map words_of regions (67 + node) record { device = 0; also = []; history = [] })

sizes-told : (words : Words) (files : List File) (regions : List (Seen WordStep))
    (blocks : List (Seen BlockStep)) → AreReadOf words regions blocks →
    length words.sizes ≡ 256 → (node : ℕ) →
    (IsNode files node ⊎ (size_in (map words_of regions) node ≡ 0))
    ⊎ Contains (leftover_records files words.sizes) node
sizes-told words files regions blocks read many node = elim (cases_lt node 256) [
  | inr past ↦
      inl (inr (ap (λ b. if b then get_or (get_or (map words_of regions) (67 + node) []) 0 0 else 0)
      (le-ltb node 256 past)))
  | inl low ↦ elim (same_or_not (get_or words.sizes node 0) 0) [
    | inl free ↦ inl (inr (size-at regions node low ∙ read.sizes node low ∙ free))
    | inr some ↦ elim (cases_Bool (list_any (λ f. f.node == node) files)) [
      | inl is ↦
          let file = any-has (λ f. f.node == node) files is in
          inl (inl (
            file.0,
            (contains-had files file.0 file.1.0, eqb-true file.0.node node file.1.1),
          ))
      | inr none ↦ inr (passing-has (is_leftover files words.sizes) (length words.sizes) node
          (omega (arith, low, many))
          (ap₂ (λ a b. a && not b) (some-bit (get_or words.sizes node 0) some) none))
    ]
  ]
]

-- ---- the plan

-- a plan of these lists
pub record IsPlanOf (words : Words) (nodes : List Node) (plan : Plan) : Type 0 where
  pub dead : plan.dead.items ≡ dead_slots (files_of nodes) words.slots
  pub entries : plan.entries.items
      ≡ pendings (files_of nodes) (in_order (live_entries nodes words.slots))
  pub untagged : plan.untagged.items ≡ stray_blocks (files_of nodes) words.tags
  pub emptied : plan.emptied.items ≡ leftover_records (files_of nodes) words.sizes

-- what such a plan has, where one was made
pub made-ok : {E : Type 0} (words : Words) (nodes : List Node) (entries : List LiveEntry)
    (result : Result Plan E) (Q : Plan → Type 0) →
    IfOk result (λ plan. plan.dead.items ≡ dead_slots (files_of nodes) words.slots) →
    IfOk result (λ plan. plan.entries.items ≡ pendings (files_of nodes) entries) →
    IfOk result (λ plan. plan.untagged.items ≡ stray_blocks (files_of nodes) words.tags) →
    IfOk result (λ plan. plan.emptied.items ≡ leftover_records (files_of nodes) words.sizes) →
    entries ≡ in_order (live_entries nodes words.slots) →
    ((plan : Plan) → IsPlanOf words nodes plan → Q plan) → IfOk result Q
made-ok words nodes entries (Ok plan) Q dead listed untagged emptied told goes =
    goes plan (record {
      dead = dead;
      entries = listed ∙ ap (pendings (files_of nodes)) told;
      untagged = untagged;
      emptied = emptied;
    })
made-ok words nodes entries (Err error) Q dead listed untagged emptied told goes = tt

pub is-plan-for : (words : Words) (nodes : List Node) (next : ℕ) (regions : List (Seen WordStep))
    (blocks : List (Seen BlockStep)) (plan : Plan) → Reads words nodes next regions blocks →
    length words.sizes ≡ 256 → IsPlanOf words nodes plan →
    IsPlanFor (files_of nodes) (disk_in regions blocks) plan
is-plan-for words nodes next regions blocks plan reads many is =
    let files : List File = files_of nodes in
    record {
      dead = subst (λ places. (k : ℕ) → k < length places →
          IsDead files (get_or (slots_in regions) (get_or places k 0) [])) (sym is.dead)
          (are-dead words files regions blocks reads.read);
      open_slots = subst (λ places. (at : ℕ) →
          IsClosedOrLive files (get_or (slots_in regions) at []) ⊎ Contains places at)
          (sym is.dead) (open-slots words files regions blocks reads.read);
      entries = subst (AreInOrder files (slots_in regions) (map content_of blocks)) (sym is.entries)
          (are-in-order words nodes next regions blocks reads);
      untagged = subst (λ places. (k : ℕ) → k < length places →
          IsNoTag files (content_at (map content_of blocks) (get_or places k 0)).tag)
          (sym is.untagged) (are-no-tags words files regions blocks reads.read);
      tags = subst (λ places. (at : ℕ) →
          IsTagOrFree files (content_at (map content_of blocks) at).tag ⊎ Contains places at)
          (sym is.untagged) (tags-told words files regions blocks reads.read);
      emptied = subst (λ nodes. (k : ℕ) → k < length nodes → IsNoNode files (get_or nodes k 0))
          (sym is.emptied) (are-no-nodes words files);
      sizes = subst (λ nodes. (node : ℕ) →
          (IsNode files node ⊎ (size_in (map words_of regions) node ≡ 0)) ⊎ Contains nodes node)
          (sym is.emptied) (sizes-told words files regions blocks reads.read many);
    }

pub is-within : (words : Words) (nodes : List Node) (regions : List (Seen WordStep))
    (blocks : List (Seen BlockStep)) (plan : Plan) → AreReadOf words regions blocks →
    length words.sizes ≡ 256 → IsPlanOf words nodes plan →
    IsWithin plan (length regions) (length blocks)
is-within words nodes regions blocks plan read many is =
    let files : List File = files_of nodes in
    record {
      dead = subst (λ places. (k : ℕ) → k < length places →
          323 + get_or places k 0 < length regions) (sym is.dead)
          (λ k below.
          (let inside = (passing-at (λ at. is_dead files (get_or words.slots at []))
          (length words.slots) k below).0 in
          omega (arith, inside, regions-many words regions blocks read)));
      untagged = subst (λ places. (k : ℕ) → k < length places → get_or places k 0 < length blocks)
          (sym is.untagged)
          (λ k below.
          (let inside = (passing-at (λ at. is_stray files (get_or words.tags at 0))
          (length words.tags) k below).0 in
          omega (arith, inside, blocks-many words regions blocks read)));
      emptied = subst (λ places. (k : ℕ) → k < length places → get_or places k 0 < 256)
          (sym is.emptied)
          (λ k below.
          (let inside =
          (passing-at (is_leftover files words.sizes) (length words.sizes) k below).0 in
          omega (arith, inside, many)));
    }
