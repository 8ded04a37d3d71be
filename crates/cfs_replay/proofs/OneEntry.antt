-- One live entry: what was read of it, and what stands behind it.
use Rattle.std.proofs.Common.{ℕ, zero, suc, ◌+◌, ◌*◌, ◌/◌, ◌%◌, ◌==◌, ◌<◌, ◌≤◌, ◌≡◌, ◌≢◌}
use Rattle.std.proofs.Common.{◌∙◌, Bool, true, false, if◌then◌else◌, nat_lt, max, Some, None}
use Rattle.std.proofs.Common.{Result, Ok, Err, OnOk, List, [], ◌∷◌, ◌++◌, length, map}
use Rattle.std.proofs.Common.{take, drop, get_or, set, inl, refl, sym, ap, subst, arith}
use Rattle.std.specs.List.{flat_map}
use Rattle.std.proofs.lemmas.Bool.Decides.{nat_tests}
use Rattle.std.proofs.lemmas.List.{drop-set-add, drop-set-lt, get_or-drop, get_or-map}
use Rattle.std.proofs.lemmas.List.{length-map, map-set}
use Rattle.cfs_file.specs.declared.request.Request.{Request}
use Rattle.cfs_file.specs.declared.request.Request.TheVariants as requests
use Rattle.cfs_pmem.specs.declared.trace.Asked.{Asked}
use Rattle.cfs_pmem.specs.Images.{Seen, WordStep, IsImage, kept, words_of, wrote}
use Rattle.cfs_pmem.specs.Objects.{IsCallOn, IsEachImage, seen_at}
use Rattle.cfs_pmem.proofs.AllMomentLemmas.{Carries, all_after, all_among}
use Rattle.cfs_block.specs.BlockImages.{BlockStep, Content, IsBlockImage, content_of}
use Rattle.cfs_block.specs.BlockImages as blocks_are
use Rattle.cfs_block.specs.Devices.{AreImagesOf, DeviceImages, IsDeviceCall, numbers_of}
use Rattle.cfs_slot.specs.declared.fields.Found.{Found}
use Rattle.cfs_slot.specs.Payload.{HaveCause, NoneFell, SomeRose}
use Rattle.cfs_slot.specs.Tails.{numbers_from, numbers_in, tails_at}
use Rattle.cfs_slot.specs.Words.{area_of, count_of, is_live, kind_of, live_entry}
use Rattle.cfs_slot.specs.Words.{gate_of, offset_of, payload_of, request_of, tails_of}
use Rattle.cfs_medium.specs.Depicts.{content_at}
use Rattle.cfs_medium.specs.Store.{entry_at}
use Rattle.cfs_home.specs.Calls.{MountMoments, disk_of}
use Rattle.cfs_home.specs.Disks.{AllStay, Disk, File, shut}
use Rattle.cfs_home.specs.Parts.{size_after}
use Rattle.cfs_home.proofs.Disks.{all-same}
use Rattle.cfs_recover.specs.declared.entry.Entry.{Entry}
use Rattle.cfs_recover.specs.declared.piece.Piece.{Piece}
use Rattle.cfs_recover.specs.Begins.{Stands, both}
use Rattle.cfs_recover.specs.Brought.{AreAllPieces, TakesUp, with_blocks}
use Rattle.cfs_recover.specs.Held.{AreFull}
use Rattle.cfs_recover.specs.Pieces.{with_flush, with_flushes, with_write, with_writes}
use Rattle.cfs_recover.specs.Pieces.{with_writes_through, bytes_of}
use Rattle.cfs_recover.specs.Settled.{settled, with_entry_home, with_size_word}
use Rattle.cfs_recover.specs.Words.{lengths_of, with_first}
use Rattle.cfs_recover.proofs.BlockCalls.{on-ok}
use Rattle.cfs_recover.proofs.Lists.{cause-front}
use Rattle.cfs_recover.proofs.Only.{have-read, words-now}
use Rattle.cfs_recover.proofs.Settled.{with-size-sets}
use Rattle.cfs_replay.specs.declared.pending.Pending.{Pending}
use Rattle.cfs_replay.specs.Entries.{BringsHome, IsBehind, IsNext, IsTakenUp, file_of}
use Rattle.cfs_replay.specs.Pieces.{tags_in}
use Rattle.cfs_replay.specs.Reading.{LeavesAll, places_of, slots_in, words_at}

-- ---- the words of slots

words-there : (regions : List (Seen WordStep)) (place : ℕ) →
    get_or (map words_of regions) place [] ≡ words_at regions place
words-there [] place = refl
words-there (region ∷ regions) zero = refl
words-there (region ∷ regions) (suc place) = words-there regions place

pub slot-words : (regions : List (Seen WordStep)) (slot : ℕ) →
    get_or (slots_in regions) slot [] ≡ words_at regions (323 + slot)
slot-words regions slot =
    get_or-drop 323 (map words_of regions) slot [] ∙ words-there regions (323 + slot)

-- the slots of a payload
pub slots-of : (regions : List (Seen WordStep)) (slot tails : ℕ) →
    map (words_at regions) (places_of slot tails)
    ≡ get_or (slots_in regions) slot []
    ∷ map (λ number. get_or (slots_in regions) (slot / 16 * 16 + number) []) (numbers_in tails)
slots-of regions slot tails =
    ap (λ (words : List ℕ). words ∷ map (words_at regions)
    (map (λ number. 323 + (slot / 16 * 16 + number)) (numbers_in tails)))
    (sym (slot-words regions slot))
    ∙ ap (λ (rest : List (List ℕ)). get_or (slots_in regions) slot [] ∷ rest)
    (each (numbers_in tails))
  where
    each : (numbers : List ℕ) →
        map (words_at regions) (map (λ number. 323 + (slot / 16 * 16 + number)) numbers)
        ≡ map (λ number. get_or (slots_in regions) (slot / 16 * 16 + number) []) numbers
    each [] = refl
    each (number ∷ numbers) =
        ap (λ (words : List ℕ). words ∷ map (words_at regions)
        (map (λ n. 323 + (slot / 16 * 16 + n)) numbers))
        (sym (slot-words regions (slot / 16 * 16 + number)))
        ∙ ap (λ (rest : List (List ℕ)).
        get_or (slots_in regions) (slot / 16 * 16 + number) [] ∷ rest) (each numbers)

-- the disk has the slots and the sizes that read now
module _ (files : List File) (start first : Disk) (regions : List (Seen WordStep))
    (blocks : List (Seen BlockStep)) (stands : Stands files start first regions blocks) where
  pub slots-now : slots_in regions ≡ first.slots
  slots-now = (stands.words (map words_of regions) (words-now regions)).slots

  pub size-now : (node : ℕ) → node < 256 →
      get_or (words_at regions (67 + node)) 0 0 ≡ first.sizes node
  size-now node less =
      let test : nat_lt node 256 ≡ true = grind (arith, nat_tests) in
      ap (λ (words : List ℕ). get_or words 0 0) (sym (words-there regions (67 + node)))
      ∙ (sym (ap (λ (b : Bool).
      if b then get_or (get_or (map words_of regions) (67 + node) []) 0 0 else 0) test)
      ∙ (stands.words (map words_of regions) (words-now regions)).sizes node)

-- ---- the request

live-is : (ino : ℕ) (words : List ℕ) (tails : List (List ℕ)) (live : ℕ × Request) →
    live_entry ino words tails ≡ Some live → live.1 ≡ request_of words tails
live-is ino words tails live here = split (is_live ino words) here
  where
    split : (b : Bool) → (if b then Some (gate_of words, request_of words tails) else None)
        ≡ Some live → live.1 ≡ request_of words tails
    split true is =
        let same : (gate_of words, request_of words tails) ≡ live = cc in
        ap (λ (e : ℕ × Request). e.1) (sym same)
    split false is = absurd (cc)

pub truncate-is : (ino slot : ℕ) (slots : List (List ℕ)) (live : ℕ × Request) →
    entry_at ino slots slot ≡ Some live → kind_of (get_or slots slot []) ≡ 2 →
    live.1 ≡ requests.Truncate (offset_of (get_or slots slot []))
truncate-is ino slot slots live here kind =
    let test : (kind_of (get_or slots slot []) == 2) ≡ true = grind (arith, nat_tests) in
    live-is ino (get_or slots slot []) (tails_at slots slot) live here
    ∙ ap (λ (b : Bool). if b then requests.Truncate (offset_of (get_or slots slot []))
    else requests.Write (offset_of (get_or slots slot []))
    (payload_of (get_or slots slot []) (tails_at slots slot))) test

pub write-is : (ino slot : ℕ) (slots : List (List ℕ)) (live : ℕ × Request) →
    entry_at ino slots slot ≡ Some live → kind_of (get_or slots slot []) ≢ 2 →
    live.1 ≡ requests.Write (offset_of (get_or slots slot []))
    (payload_of (get_or slots slot []) (tails_at slots slot))
write-is ino slot slots live here kind =
    let test : (kind_of (get_or slots slot []) == 2) ≡ false = grind (arith, nat_tests) in
    live-is ino (get_or slots slot []) (tails_at slots slot) live here
    ∙ ap (λ (b : Bool). if b then requests.Truncate (offset_of (get_or slots slot []))
    else requests.Write (offset_of (get_or slots slot []))
    (payload_of (get_or slots slot []) (tails_at slots slot))) test

pub few-count : (words : List ℕ) → count_of words ≤ 65536
few-count words = split (kind_of words == 3)
  where
    split : (b : Bool) →
        (if b then get_or words 4 0 % 65536 + 1 else get_or words 4 0 % 65536) ≤ 65536
    split true = omega arith
    split false = omega arith

numbers-below : (n from bits most : ℕ) → from + n ≤ most → (k : ℕ) →
    k < length (numbers_from n from bits) → get_or (numbers_from n from bits) k 0 < most
numbers-below zero from bits most room k less = absurd (omega arith)
numbers-below (suc n) from bits most room k less =
    split (bits % 2 == 1) (numbers-below n (from + 1) (bits / 2) most (omega arith)) k less
  where
    split : (b : Bool) → ((j : ℕ) → j < length (numbers_from n (from + 1) (bits / 2)) →
        get_or (numbers_from n (from + 1) (bits / 2)) j 0 < most) → (j : ℕ) →
        j < length ((if b then from ∷ [] else []) ++ numbers_from n (from + 1) (bits / 2)) →
        get_or ((if b then from ∷ [] else []) ++ numbers_from n (from + 1) (bits / 2)) j 0 < most
    split true rest zero inside = omega arith
    split true rest (suc j) inside = rest j (omega (arith, inside))
    split false rest j inside = rest j inside

pub numbers-few : (bits k : ℕ) → k < length (numbers_in bits) → get_or (numbers_in bits) k 0 < 16
unfolding numbers_in
numbers-few bits k less = numbers-below 16 0 bits 16 (omega arith) k less

-- each of the places is that of a slot
pub places-in : (slot tails n : ℕ) → 323 + (slot / 16 * 16 + 15) < n → (k : ℕ) →
    k < length (places_of slot tails) →
    (at : ℕ) × ((get_or (places_of slot tails) k 0 ≡ 323 + at) × (323 + at < n))
places-in slot tails n room zero less = (slot, (refl, omega arith))
places-in slot tails n room (suc k) less =
    let f = λ (number : ℕ). 323 + (slot / 16 * 16 + number) in
    let inside : k < length (numbers_in tails) = omega
    (arith, less, length-map (numbers_in tails) f) in
    let few = numbers-few tails k inside in (
      slot / 16 * 16 + get_or (numbers_in tails) k 0,
      (get_or-map f (numbers_in tails) k 0 0 inside, omega arith),
    )

pub failed-front : {T E : Type 0} {result : Result T E} (old new back : List ℕ) (e : E) →
    result ≡ Err e → NoneFell old new → SomeRose old new →
    HaveCause (old ++ back) (new ++ back) result
failed-front {T} {E} {result} old new back e is later failed =
    subst (λ (r : Result T E). HaveCause (old ++ back) (new ++ back) r) (sym is)
    (cause-front old new back (Err e)
    (record { later = later; failed = failed; passed = tt }))

-- ---- tags, words and slots behind the calls

tags-set : (blocks : List (Seen BlockStep)) (at : ℕ) (new : Seen BlockStep) →
    (content_of new).tag ≡ (content_of (seen_at blocks at)).tag →
    tags_in (set blocks at new) ≡ tags_in blocks
tags-set [] at new same = refl
tags-set (block ∷ blocks) zero new same = ap (λ (tag : ℕ). tag ∷ tags_in blocks) same
tags-set (block ∷ blocks) (suc at) new same =
    ap (λ (tags : List ℕ). (content_of block).tag ∷ tags) (tags-set blocks at new same)

tags-written : (at from : ℕ) (bytes : List ℕ) (blocks : List (Seen BlockStep)) →
    tags_in (with_write at from bytes blocks) ≡ tags_in blocks
tags-written at from bytes blocks =
    tags-set blocks at (blocks_are.wrote from bytes (seen_at blocks at)) refl

tags-flushed : (at : ℕ) (blocks : List (Seen BlockStep)) →
    tags_in (with_flush at blocks) ≡ tags_in blocks
tags-flushed at blocks = tags-set blocks at (blocks_are.kept (seen_at blocks at)) refl

pub tags-writes : (pieces : List Piece) (bytes : List ℕ) (blocks : List (Seen BlockStep)) →
    tags_in (with_writes pieces bytes blocks) ≡ tags_in blocks
tags-writes [] bytes blocks = refl
tags-writes (piece ∷ pieces) bytes blocks =
    tags-writes pieces bytes (with_write piece.at piece.from (bytes_of piece bytes) blocks)
    ∙ tags-written piece.at piece.from (bytes_of piece bytes) blocks

pub tags-flushes : (pieces : List Piece) (blocks : List (Seen BlockStep)) →
    tags_in (with_flushes pieces blocks) ≡ tags_in blocks
tags-flushes [] blocks = refl
tags-flushes (piece ∷ pieces) blocks =
    tags-flushes pieces (with_flush piece.at blocks) ∙ tags-flushed piece.at blocks

pub tags-through : (pieces : List Piece) (bytes : List ℕ) (blocks : List (Seen BlockStep)) →
    tags_in (with_writes_through pieces bytes blocks) ≡ tags_in blocks
tags-through [] bytes blocks = refl
tags-through (piece ∷ pieces) bytes blocks =
    tags-through pieces bytes
    (with_flush piece.at (with_write piece.at piece.from (bytes_of piece bytes) blocks))
    ∙ (tags-flushed piece.at (with_write piece.at piece.from (bytes_of piece bytes) blocks)
    ∙ tags-written piece.at piece.from (bytes_of piece bytes) blocks)

pub tags-are : (blocks : List (Seen BlockStep)) (at : ℕ) →
    (content_at (map content_of blocks) at).tag ≡ get_or (tags_in blocks) at 0
tags-are [] at = refl
tags-are (block ∷ blocks) zero = refl
tags-are (block ∷ blocks) (suc at) = tags-are blocks at

slots-size : (node word : ℕ) (regions : List (Seen WordStep)) → node < 256 →
    slots_in (with_first (67 + node) word regions) ≡ slots_in regions
slots-size node word regions less =
    ap (λ (words : List (List ℕ)). drop 323 words)
    (map-set words_of regions (67 + node) (kept (wrote 0 word (seen_at regions (67 + node)))))
    ∙ drop-set-lt 323 (map words_of regions) (67 + node)
    (set (words_of (seen_at regions (67 + node))) 0 word) (omega arith)

pub slots-shut : (slot : ℕ) (regions : List (Seen WordStep)) →
    slots_in (with_first (323 + slot) 0 regions) ≡ shut slot (slots_in regions)
slots-shut slot regions =
    ap (λ (words : List (List ℕ)). drop 323 words)
    (map-set words_of regions (323 + slot) (kept (wrote 0 0 (seen_at regions (323 + slot)))))
    ∙ (drop-set-add 323 (map words_of regions) slot
    (set (words_of (seen_at regions (323 + slot))) 0 0)
    ∙ ap (λ (words : List ℕ). set (slots_in regions) slot (set words 0 0))
    (sym (slot-words regions slot)))

pub slots-home : (entry : Entry) (regions : List (Seen WordStep)) → entry.node < 256 →
    slots_in (with_entry_home entry regions) ≡ shut entry.slot (slots_in regions)
slots-home entry regions less =
    slots-shut entry.slot (with_size_word entry regions)
    ∙ ap (shut entry.slot) (split (entry.size == entry.size_after))
  where
    split : (b : Bool) → slots_in (if b then regions
        else with_first (67 + entry.node) entry.size_after regions) ≡ slots_in regions
    split true = refl
    split false = slots-size entry.node entry.size_after regions less

-- ---- an entry that is home

module _ {T E : Type 0} (pending : Pending) (entry : Entry) (bytes : List ℕ)
    (pieces : List Piece) (result : Result T E) (olds news : List (Seen WordStep))
    (blocks_old blocks_new : List (Seen BlockStep)) {asked_old asked_new : List Asked}
    (node : entry.node < 256) (slot : entry.slot ≡ pending.slot) (full : AreFull blocks_old)
    (takes : (files : List File) (start first : Disk) →
    Stands files start first olds blocks_old →
    (next : IsNext files first.slots first.blocks pending) →
    TakesUp files (file_of pending) entry next.live next.rest start first bytes pieces olds
    blocks_old) where
  pub brings-home :
      ((files : List File) (file : File) (live : ℕ × Request) (rest : List (ℕ × Request))
      (start first : Disk) →
      TakesUp files file entry live rest start first bytes pieces olds blocks_old →
      MountMoments files start asked_old (both olds blocks_old) asked_new
      (both news blocks_new)) →
      OnOk result ((files : List File) (file : File) (live : ℕ × Request)
      (rest : List (ℕ × Request)) (start first : Disk) →
      TakesUp files file entry live rest start first bytes pieces olds blocks_old →
      Stands files start (settled entry (with_blocks blocks_new first)) news blocks_new) →
      OnOk result (news ≡ with_entry_home entry olds) →
      lengths_of news ≡ lengths_of olds →
      OnOk result (tags_in blocks_new ≡ tags_in blocks_old) →
      numbers_of (both news blocks_new) ≡ numbers_of (both olds blocks_old) →
      BringsHome pending result asked_old olds blocks_old asked_new news blocks_new
  brings-home moments stands regions lengths tags devices = record {
    moments = λ files start first has next.
        moments files (file_of pending) next.live next.rest start first
        (takes files start first has next);
    stands = both-ok result stands tags;
    slots = on-ok result (λ is. ap slots_in is ∙ (slots-home entry olds node
        ∙ ap (λ (at : ℕ). shut at (slots_in olds)) slot)) regions;
    lengths = lengths;
    tags = tags;
    devices = devices;
  }
    where
      both-ok : (r : Result T E) →
          OnOk r ((files : List File) (file : File) (live : ℕ × Request)
          (rest : List (ℕ × Request)) (start first : Disk) →
          TakesUp files file entry live rest start first bytes pieces olds blocks_old →
          Stands files start (settled entry (with_blocks blocks_new first)) news blocks_new) →
          OnOk r (tags_in blocks_new ≡ tags_in blocks_old) →
          OnOk r ((files : List File) (start first : Disk) →
          Stands files start first olds blocks_old →
          IsNext files first.slots first.blocks pending →
          IsBehind files start first pending news blocks_new)
      both-ok (Err e) there same = tt
      both-ok (Ok t) there same = λ files start first has next. record {
        now = settled entry (with_blocks blocks_new first);
        stands = there files (file_of pending) next.live next.rest start first
            (takes files start first has next);
        slots = ap (λ (at : ℕ). shut at first.slots) slot;
        tags = λ at. tags-are blocks_new at
            ∙ (ap (λ (ts : List ℕ). get_or ts at 0) same
            ∙ (sym (tags-are blocks_old at)
            ∙ ap (λ (cs : List Content). (content_at cs at).tag)
            (have-read first blocks_old full has.blocks_are)));
        sizes = λ other apart.
            (with-size-sets entry.node entry.size_after first).others other
            (λ same. apart (same ∙ (takes files start first has next).is.node));
      }

-- ---- reads come first

-- at each moment of a read a mount finds the same files
pub reads-moments : (files : List File) (start first : Disk) (olds news : List (Seen WordStep))
    (blocks : List (Seen BlockStep)) {asked_old asked_new : List Asked} →
    Stands files start first olds blocks → LeavesAll asked_old olds asked_new news →
    MountMoments files start asked_old (both olds blocks) asked_new (both news blocks)
reads-moments files start first olds news blocks stands leaves =
    let carries : Carries (IsEachImage IsImage) IsCallOn AreImagesOf IsDeviceCall
    (IsEachImage IsImage olds) (λ (images : DeviceImages). AllStay files start (disk_of images))
    (λ (regions : List (Seen WordStep)). both regions blocks) = record {
      call = λ asked was now h. inl (h, refl);
      gives = λ world all whole h. there whole (all whole.words h.words) h.contents;
    } in
    all_among {put = λ (regions : List (Seen WordStep)). both regions blocks} stands.distinct
    carries leaves.moments
  where
    there : (images : DeviceImages) → IsEachImage IsImage olds images.words →
        IsEachImage IsBlockImage blocks images.contents → AllStay files start (disk_of images)
    there images words contents =
        let are = stands.words images.words words in
        all-same files start first (disk_of images) stands.stay are.front are.sizes are.slots
        (stands.blocks_are images.contents contents)

pub reads-then : {T E : Type 0} (pending : Pending) (result : Result T E)
    (olds mids news : List (Seen WordStep)) (blocks_old blocks_new : List (Seen BlockStep))
    {asked_old asked_mid asked_new : List Asked} → LeavesAll asked_old olds asked_mid mids →
    BringsHome pending result asked_mid mids blocks_old asked_new news blocks_new →
    BringsHome pending result asked_old olds blocks_old asked_new news blocks_new
reads-then {T} {E} pending result olds mids news blocks_old blocks_new {asked_old} {asked_mid}
    {asked_new} leaves home = record {
      moments = λ files start first stands next.
          all_after (reads-moments files start first olds mids blocks_old stands leaves)
          (home.moments files start first (moved files start first stands) next);
      stands = on-ok result (λ give. λ files start first stands next.
          give files start first (moved files start first stands) next) home.stands;
      slots = on-ok result (λ is. is ∙ ap (λ (seens : List (Seen WordStep)).
          shut pending.slot (slots_in seens)) leaves.same) home.slots;
      lengths = home.lengths ∙ ap lengths_of leaves.same;
      tags = home.tags;
      devices = home.devices
          ∙ ap (λ (seens : List (Seen WordStep)). numbers_of (both seens blocks_old)) leaves.same;
    }
  where
    moved : (files : List File) (start first : Disk) → Stands files start first olds blocks_old →
        Stands files start first mids blocks_old
    moved files start first stands =
        subst (λ (seens : List (Seen WordStep)). Stands files start first seens blocks_old)
        (sym leaves.same) stands

-- a read that failed
pub reads-fail : {T E : Type 0} (pending : Pending) {result : Result T E} (e : E) →
    result ≡ Err e → (olds news : List (Seen WordStep)) (blocks : List (Seen BlockStep))
    {asked_old asked_new : List Asked} → LeavesAll asked_old olds asked_new news →
    BringsHome pending result asked_old olds blocks asked_new news blocks
reads-fail {T} {E} pending {result} e is olds news blocks {asked_old} {asked_new} leaves =
    subst (λ (r : Result T E). BringsHome pending r asked_old olds blocks asked_new news blocks)
    (sym is) (record {
      moments = λ files start first stands next.
          reads-moments files start first olds news blocks stands leaves;
      stands = tt;
      slots = tt;
      lengths = ap lengths_of leaves.same;
      tags = tt;
      devices =
          ap (λ (seens : List (Seen WordStep)). numbers_of (both seens blocks)) leaves.same;
    })

-- ---- what a mount takes up

module _ (pending : Pending) (head : Found) (size : ℕ) (regions : List (Seen WordStep))
    (blocks : List (Seen BlockStep)) (taken : IsTakenUp pending head size regions) where
  takes-up : (files : List File) (start first : Disk) (entry : Entry) (bytes : List ℕ)
      (pieces : List Piece) (request : Request) → Stands files start first regions blocks →
      (next : IsNext files first.slots first.blocks pending) → next.live.1 ≡ request →
      entry.slot ≡ pending.slot → entry.node ≡ pending.node → entry.size ≡ size →
      entry.size_after ≡ size_after request size →
      AreAllPieces pending.ino request first.blocks bytes pieces →
      TakesUp files (file_of pending) entry next.live next.rest start first bytes pieces regions
      blocks
  takes-up files start first entry bytes pieces request stands next is slot node same after all =
      let stored = size-now files start first regions blocks stands pending.node taken.node in
      record {
        begins = record {
          stands = stands;
          among = next.among;
          low = record {
            here = ap (entry_at pending.ino first.slots) slot ∙ next.here;
            lowest = next.lowest;
          };
        };
        is = record {
          node = node;
          size = same ∙ (taken.stored ∙ stored);
          after = after ∙ (ap (λ (r : Request). size_after r size) (sym is)
              ∙ ap (size_after next.live.1) (taken.stored ∙ stored));
        };
        cut = subst (λ (r : Request).
            AreAllPieces pending.ino r first.blocks bytes pieces) (sym is) all;
        mapped = next.mapped;
      }

  -- the words of its slot on the disk
  head-words : (files : List File) (start first : Disk) →
      Stands files start first regions blocks →
      get_or first.slots pending.slot [] ≡ words_at regions (323 + pending.slot)
  head-words files start first stands =
      ap (λ (slots : List (List ℕ)). get_or slots pending.slot [])
      (sym (slots-now files start first regions blocks stands))
      ∙ slot-words regions pending.slot

  pub truncate-taken : (files : List File) (start first : Disk) (entry : Entry)
      (bytes : List ℕ) (pieces : List Piece) → Stands files start first regions blocks →
      (next : IsNext files first.slots first.blocks pending) → head.kind ≡ 2 →
      entry ≡ record {
        slot = pending.slot;
        node = pending.node;
        size = size;
        size_after = head.offset;
      } →
      AreAllPieces pending.ino (requests.Truncate head.offset) first.blocks bytes pieces →
      TakesUp files (file_of pending) entry next.live next.rest start first bytes pieces regions
      blocks
  truncate-taken files start first entry bytes pieces stands next kind is all =
      let words = head-words files start first stands in
      takes-up files start first entry bytes pieces (requests.Truncate head.offset) stands next
      (truncate-is pending.ino pending.slot first.slots next.live next.here
      (ap kind_of words ∙ (sym (ap (λ (f : Found). f.kind) taken.reads) ∙ kind))
      ∙ ap requests.Truncate
      (ap offset_of words ∙ sym (ap (λ (f : Found). f.offset) taken.reads)))
      (ap (λ (e : Entry). e.slot) is) (ap (λ (e : Entry). e.node) is)
      (ap (λ (e : Entry). e.size) is) (ap (λ (e : Entry). e.size_after) is) all

  -- the payload as it is read
  pub payload-read : (files : List File) (start first : Disk) →
      Stands files start first regions blocks →
      payload_of (get_or first.slots pending.slot []) (tails_at first.slots pending.slot)
      ≡ take head.count
      (flat_map area_of (map (words_at regions) (places_of pending.slot head.tails)))
  payload-read files start first stands =
      ap (λ (slots : List (List ℕ)).
      payload_of (get_or slots pending.slot []) (tails_at slots pending.slot))
      (sym (slots-now files start first regions blocks stands))
      ∙ (ap (λ (n : ℕ). take n (flat_map area_of
      (get_or (slots_in regions) pending.slot [] ∷ tails_at (slots_in regions) pending.slot)))
      (ap count_of (slot-words regions pending.slot)
      ∙ sym (ap (λ (f : Found). f.count) taken.reads))
      ∙ (ap (λ (set : ℕ). take head.count (flat_map area_of
      (get_or (slots_in regions) pending.slot []
      ∷ map (λ number. get_or (slots_in regions) (pending.slot / 16 * 16 + number) [])
      (numbers_in set))))
      (ap tails_of (slot-words regions pending.slot)
      ∙ sym (ap (λ (f : Found). f.tails) taken.reads))
      ∙ ap (λ (slots : List (List ℕ)). take head.count (flat_map area_of slots))
      (sym (slots-of regions pending.slot head.tails))))

  pub write-taken : (files : List File) (start first : Disk) (entry : Entry)
      (bytes : List ℕ) (pieces : List Piece) → Stands files start first regions blocks →
      (next : IsNext files first.slots first.blocks pending) → head.kind ≢ 2 →
      bytes ≡ take head.count
      (flat_map area_of (map (words_at regions) (places_of pending.slot head.tails))) →
      length bytes ≡ head.count →
      entry ≡ record {
        slot = pending.slot;
        node = pending.node;
        size = size;
        size_after = max size (head.offset + head.count);
      } →
      AreAllPieces pending.ino (requests.Write head.offset bytes) first.blocks bytes pieces →
      TakesUp files (file_of pending) entry next.live next.rest start first bytes pieces regions
      blocks
  write-taken files start first entry bytes pieces stands next kind read long is all =
      let words = head-words files start first stands in
      takes-up files start first entry bytes pieces (requests.Write head.offset bytes) stands next
      (write-is pending.ino pending.slot first.slots next.live next.here
      (λ two. kind (ap (λ (f : Found). f.kind) taken.reads ∙ (sym (ap kind_of words) ∙ two)))
      ∙ (ap (λ (offset : ℕ). requests.Write offset
      (payload_of (get_or first.slots pending.slot []) (tails_at first.slots pending.slot)))
      (ap offset_of words ∙ sym (ap (λ (f : Found). f.offset) taken.reads))
      ∙ ap (requests.Write head.offset)
      (payload-read files start first stands ∙ sym read)))
      (ap (λ (e : Entry). e.slot) is) (ap (λ (e : Entry). e.node) is)
      (ap (λ (e : Entry). e.size) is)
      (ap (λ (e : Entry). e.size_after) is
      ∙ ap (λ (n : ℕ). max size (head.offset + n)) (sym long)) all
