-- A plan is carried out: what each of its steps leaves for the next, and what stands at the end.
use Rattle.std.proofs.Common.{◌≡◌, ◌≢◌, ◌⊎◌, ◌∙◌, inl, inr, ℕ, suc, ◌+◌}
use Rattle.std.proofs.Common.{Option, Some, None, List, [], ◌∷◌, length, map}
use Rattle.std.proofs.Common.{get_or, set, refl, sym, ap, subst, arith}
use Rattle.std.specs.List.{Contains}
use Rattle.std.proofs.lemmas.Bool.{cases_lt}
use Rattle.std.proofs.lemmas.List.{get_or-set_other, get_or-set_same, get_or_past, length-set}
use Rattle.std.proofs.lemmas.List.{set_comm}
use Rattle.cfs_core.proofs.Order.{same_or_not}
use Rattle.cfs_pmem.specs.Images.{Seen, WordStep, words_of}
use Rattle.cfs_block.specs.BlockImages.{BlockStep, Content, with_tag}
use Rattle.cfs_slot.specs.Tails.{tails_at}
use Rattle.cfs_medium.specs.Depicts.{content_at}
use Rattle.cfs_medium.specs.Store.{by_gate, entry_at, live_in, tag_of}
use Rattle.cfs_medium.proofs.Has.{Has, has-contained}
use Rattle.cfs_medium.proofs.Slots.{not_live-none}
use Rattle.cfs_home.specs.Calls.{AreWordsOf, HaveBlocksOf, HaveWordsOf, with_size}
use Rattle.cfs_home.specs.Disks.{Disk, File, IsDead, IsNoNode, IsNoTag, shut}
use Rattle.cfs_home.specs.Ends.{AreDrained, IsClosedOrLive}
use Rattle.cfs_home.proofs.Ends.{ends-closed, ends-stored, shut-swept}
use Rattle.cfs_home.proofs.Slots.{shut-same}
use Rattle.cfs_recover.specs.Begins.{Stands}
use Rattle.cfs_recover.specs.Held.{AreFull}
use Rattle.cfs_recover.specs.Swept.{AreDead, AreNoNodes, all_empty, all_shut}
use Rattle.cfs_recover.specs.Swept.{with_shut}
use Rattle.cfs_recover.specs.Untagged.{AreNoTags, all_untagged, untagged_at}
use Rattle.cfs_recover.specs.Words.{with_first}
use Rattle.cfs_recover.proofs.Only.{have-read, words-now}
use Rattle.cfs_recover.proofs.Settled.{with-size-sets}
use Rattle.cfs_recover.proofs.Swept.{dead-still}
use Rattle.cfs_recover.proofs.WordCalls.{lengths-first}
use Rattle.cfs_replay.specs.declared.pending.Pending.{Pending}
use Rattle.cfs_replay.specs.declared.plan.Plan.{Plan}
use Rattle.cfs_replay.specs.Entries.{AreInOrder, CanReplay, HaveLeft}
use Rattle.cfs_replay.specs.Pieces.{BlockMap, FindsBlocks, found_at, tags_in}
use Rattle.cfs_replay.specs.Plans.{IsBroughtHome, IsPlanFor, IsTagKept, IsTagOrFree}
use Rattle.cfs_replay.specs.Plans.{disk_in}
use Rattle.cfs_replay.proofs.OneEntry.{slots-shut, tags-are}
use Rattle.cfs_replay.proofs.Orders.{still-stands}
use Rattle.cfs_replay.proofs.Replays.{can-still}

-- ---- the disk of what reads now

-- a crash leaves no other disk than this one, so it is the one that reads now
pub holds-now : (now : Disk) (regions : List (Seen WordStep)) (blocks : List (Seen BlockStep)) →
    AreFull blocks → HaveWordsOf now regions → HaveBlocksOf now blocks →
    now ≡ disk_in regions blocks
holds-now now regions blocks full words contents = λ i. record {
  front = sym are.front i;
  sizes = λ node. sym (are.sizes node) i;
  slots = sym are.slots i;
  blocks = sym (have-read now blocks full contents) i;
}
  where
    are : AreWordsOf now (map words_of regions)
    are = words (map words_of regions) (words-now regions)

-- ---- dead slots are closed

shut-blocks : (places : List ℕ) (disk : Disk) → (all_shut places disk).blocks ≡ disk.blocks
shut-blocks [] disk = refl
shut-blocks (at ∷ places) disk = shut-blocks places (record disk { slots = shut at disk.slots })

shut-sizes : (places : List ℕ) (disk : Disk) (node : ℕ) →
    (all_shut places disk).sizes node ≡ disk.sizes node
shut-sizes [] disk node = refl
shut-sizes (at ∷ places) disk node =
    shut-sizes places (record disk { slots = shut at disk.slots }) node

-- two slots may be shut in either order
shut-apart : (at other : ℕ) (slots : List (List ℕ)) → other ≢ at →
    shut at (shut other slots) ≡ shut other (shut at slots)
shut-apart at other slots apart =
    ap (λ (words : List ℕ). set (shut other slots) at (set words 0 0))
    (get_or-set_other slots other at (set (get_or slots other []) 0 0) []
    (λ same. apart (sym same)))
    ∙ (set_comm slots other at (set (get_or slots other []) 0 0) (set (get_or slots at []) 0 0)
    apart
    ∙ sym (ap (λ (words : List ℕ). set (shut at slots) other (set words 0 0))
    (get_or-set_other slots at other (set (get_or slots at []) 0 0) [] apart)))

none-some : {X : Type 0} {found : Option X} {x : X} → found ≡ None → found ≡ Some x → ⊥
none-some none some = cc

-- a slot that is no live entry has none
dead-none : (files : List File) (file : File) (slots : List (List ℕ)) (at : ℕ) →
    Contains files file → IsDead files (get_or slots at []) → entry_at file.ino slots at ≡ None
dead-none files file slots at among dead =
    not_live-none file.ino (get_or slots at []) (tails_at slots at) (dead file among)

-- and is none once another one is shut
dead-later : (files : List File) (slots : List (List ℕ)) (at other : ℕ) →
    IsDead files (get_or slots at []) → IsDead files (get_or (shut other slots) at [])
dead-later files slots at other dead =
    dead-still files (other ∷ []) (record {
      front = [];
      sizes = λ node. 0;
      slots = slots;
      blocks = [];
    }) at dead

order-shut : (files : List File) (entries : List Pending) (slots : List (List ℕ))
    (blocks : List Content) (at : ℕ) → IsDead files (get_or slots at []) →
    AreInOrder files slots blocks entries → AreInOrder files (shut at slots) blocks entries
order-shut files [] slots blocks at dead order = λ file among.
    ap by_gate (shut-same file.ino at slots (dead-none files file slots at among dead))
    ∙ order file among
order-shut files (entry ∷ entries) slots blocks at dead order = (
  record {
    live = order.0.live;
    rest = order.0.rest;
    among = order.0.among;
    here = still-stands entry.ino at slots entry.slot apart ∙ order.0.here;
    lowest = ap by_gate (shut-same entry.ino at slots none) ∙ order.0.lowest;
    mapped = order.0.mapped;
  },
  subst (λ (all : List (List ℕ)). AreInOrder files all blocks entries)
      (shut-apart at entry.slot slots apart)
      (order-shut files entries (shut entry.slot slots) blocks at
      (dead-later files slots at entry.slot dead) order.1),
)
  where
    none : entry_at entry.ino slots at ≡ None
    none = dead-none files (record { node = entry.node; ino = entry.ino }) slots at order.0.among
        dead

    apart : entry.slot ≢ at
    apart same =
        none-some none
        (subst (λ (k : ℕ). entry_at entry.ino slots k ≡ Some order.0.live) same order.0.here)

order-swept : (files : List File) (places : List ℕ) (first : Disk) (entries : List Pending) →
    AreDead files first places → AreInOrder files first.slots first.blocks entries →
    AreInOrder files (all_shut places first).slots (all_shut places first).blocks entries
order-swept files [] first entries dead order = order
order-swept files (at ∷ places) first entries dead order =
    order-swept files places (record first { slots = shut at first.slots }) entries
    (λ k less. dead-later files first.slots (get_or places k 0) at (dead (suc k) (omega arith)))
    (order-shut files entries first.slots first.blocks at (dead 0 (omega arith)) order)

-- each slot that is neither closed nor a live entry is among those that are closed
shut-closed : (files : List File) (places : List ℕ) (disk : Disk) (at : ℕ) →
    IsClosedOrLive files (get_or disk.slots at []) ⊎ Has places at →
    IsClosedOrLive files (get_or (all_shut places disk).slots at [])
shut-closed files [] disk at (inl swept) = swept
shut-closed files [] disk at (inr none) = absurd none
shut-closed files (place ∷ places) disk at (inl swept) =
    shut-closed files places (record disk { slots = shut place disk.slots }) at
    (inl (shut-swept files place at disk.slots (inr swept)))
shut-closed files (place ∷ places) disk at (inr (inl same)) =
    shut-closed files places (record disk { slots = shut place disk.slots }) at
    (inl (shut-swept files place at disk.slots (inl same)))
shut-closed files (place ∷ places) disk at (inr (inr more)) =
    shut-closed files places (record disk { slots = shut place disk.slots }) at (inr more)

-- ---- regions behind it

pub can-shut : (found : BlockMap) (tags : List ℕ) (places : List ℕ)
    (regions : List (Seen WordStep)) (entry : Pending) → CanReplay found tags regions entry →
    CanReplay found tags (with_shut places regions) entry
can-shut found tags [] regions entry can = can
can-shut found tags (at ∷ places) regions entry can =
    can-shut found tags places (with_first (323 + at) 0 regions) entry
    (can-still found tags tags regions (with_first (323 + at) 0 regions) at entry
    (slots-shut at regions) (lengths-first (323 + at) 0 regions) refl can)

-- ---- blocks are untagged

abbrev tag_in : Disk → ℕ → ℕ
tag_in disk at = (content_at disk.blocks at).tag

tag-here : (at : ℕ) (disk : Disk) → tag_in (untagged_at at disk) at ≡ 0
tag-here at disk = elim (cases_lt at (length disk.blocks)) [
  | inl less ↦ ap (λ (c : Content). c.tag)
      (get_or-set_same disk.blocks at (with_tag 0 (content_at disk.blocks at))
      (record { tag = 0; bytes = [] }) less)
  | inr past ↦ ap (λ (c : Content). c.tag)
      (get_or_past (untagged_at at disk).blocks at (record { tag = 0; bytes = [] })
      (omega (
        arith,
        past,
        length-set disk.blocks at (with_tag 0 (content_at disk.blocks at)),
      )))
]

tag-there : (place at : ℕ) (disk : Disk) → at ≢ place →
    tag_in (untagged_at place disk) at ≡ tag_in disk at
tag-there place at disk apart =
    ap (λ (c : Content). c.tag)
    (get_or-set_other disk.blocks place at (with_tag 0 (content_at disk.blocks place))
    (record { tag = 0; bytes = [] }) apart)

tag-same : (place at : ℕ) (disk : Disk) → at ≡ place → tag_in (untagged_at place disk) at ≡ 0
tag-same place at disk same =
    subst (λ (k : ℕ). tag_in (untagged_at place disk) k ≡ 0) (sym same) (tag-here place disk)

-- a free block is free still
free-still : (places : List ℕ) (disk : Disk) (at : ℕ) → tag_in disk at ≡ 0 →
    tag_in (all_untagged places disk) at ≡ 0
free-still [] disk at free = free
free-still (place ∷ places) disk at free =
    free-still places (untagged_at place disk) at (elim (same_or_not at place) [
      | inl same ↦ tag-same place at disk same
      | inr apart ↦ tag-there place at disk apart ∙ free
    ])

freed : (places : List ℕ) (disk : Disk) (at : ℕ) → Has places at →
    tag_in (all_untagged places disk) at ≡ 0
freed [] disk at none = absurd none
freed (place ∷ places) disk at (inl same) =
    free-still places (untagged_at place disk) at (tag-same place at disk same)
freed (place ∷ places) disk at (inr more) = freed places (untagged_at place disk) at more

-- each tag stays, or its block is in the list
freed-or-kept : (places : List ℕ) (disk : Disk) (at : ℕ) →
    (tag_in (all_untagged places disk) at ≡ tag_in disk at) ⊎ Has places at
freed-or-kept [] disk at = inl refl
freed-or-kept (place ∷ places) disk at = elim (same_or_not at place) [
  | inl same ↦ inr (inl same)
  | inr apart ↦ elim (freed-or-kept places (untagged_at place disk) at) [
    | inl kept ↦ inl (kept ∙ tag-there place at disk apart)
    | inr more ↦ inr (inr more)
  ]
]

-- each one in the list is no file's
none-listed : (files : List File) (places : List ℕ) (disk : Disk) (at : ℕ) →
    AreNoTags files disk places → Has places at → IsNoTag files (tag_in disk at)
none-listed files [] disk at none listed = absurd listed
none-listed files (place ∷ places) disk at none (inl same) =
    subst (λ (k : ℕ). IsNoTag files (tag_in disk k)) (sym same) (none 0 (omega arith))
none-listed files (place ∷ places) disk at none (inr more) =
    none-listed files places disk at (λ k less. none (suc k) (omega arith)) more

untagged-slots : (places : List ℕ) (disk : Disk) → (all_untagged places disk).slots ≡ disk.slots
untagged-slots [] disk = refl
untagged-slots (at ∷ places) disk = untagged-slots places (untagged_at at disk)

untagged-sizes : (places : List ℕ) (disk : Disk) (node : ℕ) →
    (all_untagged places disk).sizes node ≡ disk.sizes node
untagged-sizes [] disk node = refl
untagged-sizes (at ∷ places) disk node = untagged-sizes places (untagged_at at disk) node

-- ---- size words are set to 0

empty-slots : (nodes : List ℕ) (disk : Disk) → (all_empty nodes disk).slots ≡ disk.slots
empty-slots [] disk = refl
empty-slots (node ∷ nodes) disk = empty-slots nodes (with_size node 0 disk)

empty-blocks : (nodes : List ℕ) (disk : Disk) → (all_empty nodes disk).blocks ≡ disk.blocks
empty-blocks [] disk = refl
empty-blocks (node ∷ nodes) disk = empty-blocks nodes (with_size node 0 disk)

empty-zero : (nodes : List ℕ) (disk : Disk) (node : ℕ) → (disk.sizes node ≡ 0) ⊎ Has nodes node →
    (all_empty nodes disk).sizes node ≡ 0
empty-zero [] disk node (inl zero_is) = zero_is
empty-zero [] disk node (inr none) = absurd none
empty-zero (one ∷ nodes) disk node (inl zero_is) =
    empty-zero nodes (with_size one 0 disk) node (inl (elim (same_or_not node one) [
      | inl same ↦ ap (with_size one 0 disk).sizes same ∙ (with-size-sets one 0 disk).own
      | inr apart ↦ (with-size-sets one 0 disk).others node apart ∙ zero_is
    ]))
empty-zero (one ∷ nodes) disk node (inr (inl same)) =
    empty-zero nodes (with_size one 0 disk) node
    (inl (ap (with_size one 0 disk).sizes same ∙ (with-size-sets one 0 disk).own))
empty-zero (one ∷ nodes) disk node (inr (inr more)) =
    empty-zero nodes (with_size one 0 disk) node (inr more)

-- ---- what each step finds

module _ (files : List File) (start first : Disk) (plan : Plan)
    (planned : IsPlanFor files first plan) (dead : List ℕ) (dead_is : dead ≡ plan.dead.items) where
  pub are-dead : AreDead files first dead
  are-dead = subst (AreDead files first) (sym dead_is) planned.dead

  pub in-order : (entries : List Pending) → entries ≡ plan.entries.items →
      AreInOrder files (all_shut dead first).slots (all_shut dead first).blocks entries
  in-order entries is = order-swept files dead first entries are-dead
      (subst (AreInOrder files first.slots first.blocks) (sym is) planned.entries)

  pub no-nodes : (emptied : List ℕ) → emptied ≡ plan.emptied.items → AreNoNodes files emptied
  no-nodes emptied is = subst (AreNoNodes files) (sym is) planned.emptied

  module _ (regions : List (Seen WordStep)) (blocks : List (Seen BlockStep))
      (left : HaveLeft files start (all_shut dead first) [] regions blocks) where
    -- the tags are those of the start
    tag-mid : (at : ℕ) → tag_in left.now at ≡ tag_in first at
    tag-mid at =
        left.tags at ∙ ap (λ (cs : List Content). (content_at cs at).tag) (shut-blocks dead first)

    pub no-tags : (untagged : List ℕ) → untagged ≡ plan.untagged.items →
        AreNoTags files left.now untagged
    no-tags untagged is = λ k less.
        subst (IsNoTag files) (sym (tag-mid (get_or untagged k 0)))
        (subst (AreNoTags files first) (sym is) planned.untagged k less)

    -- ---- the end

    module _ (untagged emptied : List ℕ) (untagged_is : untagged ≡ plan.untagged.items)
        (emptied_is : emptied ≡ plan.emptied.items) where
      abbrev last : Disk
      last = all_empty emptied (all_untagged untagged left.now)

      slots-last : last.slots ≡ left.now.slots
      slots-last =
          empty-slots emptied (all_untagged untagged left.now)
          ∙ untagged-slots untagged left.now

      tag-last : (at : ℕ) → tag_in last at ≡ tag_in (all_untagged untagged left.now) at
      tag-last at = ap (λ (cs : List Content). (content_at cs at).tag)
          (empty-blocks emptied (all_untagged untagged left.now))

      drained : AreDrained files last
      drained file among =
          ap (λ (all : List (List ℕ)). by_gate (live_in file.ino all)) slots-last
          ∙ left.order file among

      open_once : (at : ℕ) → IsClosedOrLive files (get_or first.slots at []) ⊎ Has dead at
      open_once at = elim (planned.open_slots at) [
        | inl swept ↦ inl swept
        | inr listed ↦ inr (has-contained dead at
            (subst (λ (places : List ℕ). Contains places at) (sym dead_is) listed))
      ]

      swept : (at : ℕ) → IsClosedOrLive files (get_or last.slots at [])
      swept at =
          subst (λ (all : List (List ℕ)). IsClosedOrLive files (get_or all at []))
          (sym slots-last)
          (left.swept (λ k. shut-closed files dead first k (open_once k)) at)

      kept : (at : ℕ) → IsTagKept files (tag_in first at) (tag_in last at)
      kept at = elim (freed-or-kept untagged left.now at) [
        | inl same ↦ inl (tag-last at ∙ (same ∙ tag-mid at))
        | inr listed ↦ inr (
          tag-last at ∙ freed untagged left.now at listed,
          none-listed files untagged first at
              (subst (AreNoTags files first) (sym untagged_is) planned.untagged) listed,
        )
      ]

      tags : (at : ℕ) → IsTagOrFree files (tag_in last at)
      tags at = elim (planned.tags at) [
        | inl plain ↦ elim (kept at) [
          | inl same ↦ subst (IsTagOrFree files) (sym same) plain
          | inr gone ↦ inl gone.0
        ]
        | inr listed ↦ inl (tag-last at
            ∙ freed untagged left.now at (has-contained untagged at
            (subst (λ (places : List ℕ). Contains places at) (sym untagged_is) listed)))
      ]

      sizes : (node : ℕ) → IsNoNode files node → last.sizes node ≡ 0
      sizes node none =
          empty-zero emptied (all_untagged untagged left.now) node (elim (planned.sizes node) [
            | inl known ↦ elim known [
              | inl own ↦ absurd (none own.0 own.1.0 own.1.1)
              | inr zero_is ↦ inl (untagged-sizes untagged left.now node
                  ∙ (left.sizes node none ∙ (shut-sizes dead first node ∙ zero_is)))
            ]
            | inr listed ↦ inr (has-contained emptied node
                (subst (λ (nodes : List ℕ). Contains nodes node) (sym emptied_is) listed))
          ])

      pub brought-home : (news : List (Seen WordStep)) (blocks_new : List (Seen BlockStep)) →
          AreFull blocks_new → Stands files start last news blocks_new →
          IsBroughtHome files start first news blocks_new
      brought-home news blocks_new full stands = record {
        now = last;
        holds = holds-now last news blocks_new full stands.words stands.blocks_are;
        stands = stands;
        stored = λ file among.
            ends-stored files file start last among stands.stay (drained file among);
        drained = drained;
        closed = ends-closed files last swept drained;
        tags = tags;
        kept = kept;
        sizes = sizes;
      }

-- ---- behind the end

-- a map of tags finds the blocks of each file still
pub finds-home : (files : List File) (file : File) (start first : Disk) (found : BlockMap)
    (olds news : List (Seen WordStep)) (blocks_old blocks_new : List (Seen BlockStep)) →
    AreFull blocks_old → AreFull blocks_new → Contains files file →
    Stands files start first olds blocks_old → IsBroughtHome files start first news blocks_new →
    FindsBlocks file.ino found (tags_in blocks_old) → FindsBlocks file.ino found
    (tags_in blocks_new)
finds-home files file start first found olds news blocks_old blocks_new full_old full_new among
    stands home finds block at less = elim (home.kept at) [
      | inl same ↦ subst (λ (tag : ℕ).
          (found_at found file.ino block ≡ Some at → tag ≡ tag_of file.ino block)
          × (tag ≡ tag_of file.ino block → found_at found file.ino block ≡ Some at))
          (sym (now_is ∙ (same ∙ sym was_is))) (finds block at less)
      | inr freed_one ↦ (
        λ is. absurd (freed_one.1 file among block less
            (sym was_is ∙ (finds block at less).0 is)),
        λ is. absurd (let free = freed_one.0 in omega (arith, free, is, now_is)),
      )
    ]
  where
    was_is : get_or (tags_in blocks_old) at 0 ≡ tag_in first at
    was_is =
        sym (tags-are blocks_old at)
        ∙ ap (λ (cs : List Content). (content_at cs at).tag)
        (have-read first blocks_old full_old stands.blocks_are)

    now_is : get_or (tags_in blocks_new) at 0 ≡ tag_in home.now at
    now_is =
        sym (tags-are blocks_new at)
        ∙ ap (λ (cs : List Content). (content_at cs at).tag)
        (have-read home.now blocks_new full_new home.stands.blocks_are)
