-- The size word of an entry is set, and its gate is closed.
use Rattle.std.proofs.Common.{ℕ, ◌+◌, ◌<◌, ◌≡◌, ◌≢◌, ◌∙◌, ◌==◌, ◌&&◌, Bool, true, false, not}
use Rattle.std.proofs.Common.{if◌then◌else◌, List, [], length, get_or, inl, inr}
use Rattle.std.proofs.Common.{refl, sym, ap, subst, arith}
use Rattle.std.proofs.lemmas.Bool.Decides.{nat_tests}
use Rattle.std.proofs.lemmas.List.{get_or-set_other, get_or-set_same, length-set}
use Rattle.cfs_file.specs.declared.request.Request.{Request}
use Rattle.cfs_file.specs.declared.request.Request.TheVariants as requests
use Rattle.cfs_core.proofs.Order.{same_or_not}
use Rattle.cfs_pmem.specs.declared.trace.Asked.{Asked}
use Rattle.cfs_pmem.specs.AllMoments.{AreDistinct}
use Rattle.cfs_pmem.specs.Images.{Seen, WordStep, kept, words_of, wrote}
use Rattle.cfs_pmem.specs.Objects.{all_devices, seen_at}
use Rattle.cfs_pmem.proofs.AllMomentLemmas.{all_begun}
use Rattle.cfs_block.specs.BlockImages.{BlockStep}
use Rattle.cfs_block.specs.Devices.{DeviceImages, numbers_of}
use Rattle.cfs_slot.specs.Words.{gate_of, ino_of, is_live, mark_of}
use Rattle.cfs_slot.specs.Tails.{tails_at}
use Rattle.cfs_medium.proofs.Slots.{not_live-none}
use Rattle.cfs_home.specs.Calls.{AreWordsOf, HaveWordsOf, MountMoments, SetsFirst, disk_of}
use Rattle.cfs_home.specs.Calls.{with_size}
use Rattle.cfs_home.specs.Disks.{AllStay, AreReady, ClosesSlot, Disk, File, SetsSize}
use Rattle.cfs_home.specs.Disks.{part_of, shut}
use Rattle.cfs_home.specs.Parts.{ArePlaced, IsHome, IsPlaced, size_after}
use Rattle.cfs_home.proofs.Behind.{gates-closed, sizes-set}
use Rattle.cfs_home.proofs.Calls.{closes-stop, sizes-stop}
use Rattle.cfs_home.proofs.Disks.{closes-all, all-same, goes-on, held-home, size-all, some-live}
use Rattle.cfs_home.proofs.Slots.{shut-lowest, shut-same}
use Rattle.cfs_recover.specs.declared.entry.Entry.{Entry}
use Rattle.cfs_recover.specs.Begins.{Begins, Stands, both}
use Rattle.cfs_recover.specs.Brought.{AreBrought}
use Rattle.cfs_recover.specs.Settled.{RestIsLeft, settled, with_size_word}
use Rattle.cfs_recover.specs.Words.{HaveFirstWords, with_first}
use Rattle.cfs_recover.proofs.Lists.{distinct-regions}

size-again : (request : Request) (size : ℕ) → IsPlaced request →
    size_after request (size_after request size) ≡ size_after request size
size-again (requests.Write offset bytes) size placed = omega arith
size-again (requests.Append bytes) size placed = absurd placed
size-again (requests.Truncate n) size placed = refl
size-again (requests.Read offset count) size placed = absurd placed
size-again requests.Sync size placed = absurd placed

-- ---- the size

-- one number of two is chosen by a test
chosen-same : (n k size other : ℕ) → n ≡ k → (if n == k then size else other) ≡ size
chosen-same n k size other same =
    let test : (n == k) ≡ true = grind (arith, nat_tests) in
    ap (λ (b : Bool). if b then size else other) test

chosen-other : (n k size other : ℕ) → n ≢ k → (if n == k then size else other) ≡ other
chosen-other n k size other apart =
    let test : (n == k) ≡ false = grind (arith, nat_tests) in
    ap (λ (b : Bool). if b then size else other) test

pub with-size-sets : (node size : ℕ) (disk : Disk) →
    SetsSize node size disk (with_size node size disk)
with-size-sets node size disk = record {
  front = refl;
  own = chosen-same node node size (disk.sizes node) refl;
  others = λ other apart. chosen-other other node size (disk.sizes other) apart;
  slots = refl;
  blocks = refl;
}

-- the entry is home, and its gate is open
pub record IsSized (files : List File) (file : File) (entry : Entry) (live : ℕ × Request)
    (rest : List (ℕ × Request)) (start second : Disk) (regions : List (Seen WordStep))
    (blocks : List (Seen BlockStep)) : Type 0 where
  pub begins : Begins files file entry.slot live rest start second regions blocks
  pub home : IsHome (part_of file second) live.1

module _ (files : List File) (file : File) (entry : Entry) (live : ℕ × Request)
    (rest : List (ℕ × Request)) (start second : Disk) (regions : List (Seen WordStep))
    (blocks : List (Seen BlockStep))
    (brought : AreBrought files file entry live rest start second regions blocks) where
  ready : AreReady files second
  ready = (goes-on files start second second brought.begins.stands.stay).0

  sized-stay : (third : Disk) → SetsSize entry.node entry.size_after second third →
      AllStay files start third
  sized-stay third step =
      (goes-on files start second third brought.begins.stands.stay).1
      (size-all files file entry.slot live rest second third brought.begins.stands.are
      brought.begins.among ready brought.begins.low
      (record {
        front = step.front;
        own = ap third.sizes (sym brought.is.node) ∙ (step.own ∙ brought.is.after);
        others = λ other apart. step.others other (λ same. apart (same ∙ brought.is.node));
        slots = step.slots;
        blocks = step.blocks;
      }))

  placed : IsPlaced live.1
  placed =
      (subst ArePlaced brought.begins.low.lowest
      (ready file brought.begins.among).sound.placed).0

  own : (with_size entry.node entry.size_after second).sizes file.node
      ≡ size_after live.1 (second.sizes file.node)
  own = chosen-same file.node entry.node entry.size_after (second.sizes file.node)
      (sym brought.is.node) ∙ brought.is.after

  -- behind the size word, set or right already
  pub sized-of : (news : List (Seen WordStep)) →
      HaveWordsOf (with_size entry.node entry.size_after second) news →
      AreDistinct (numbers_of (both news blocks)) →
      IsSized files file entry live rest start (with_size entry.node entry.size_after second) news
      blocks
  sized-of news words distinct = record {
    begins = record {
      stands = record {
        are = brought.begins.stands.are;
        stay = sized-stay (with_size entry.node entry.size_after second)
            (with-size-sets entry.node entry.size_after second);
        words = words;
        blocks_are = λ contents each. brought.begins.stands.blocks_are contents each;
        distinct = distinct;
      };
      among = brought.begins.among;
      low = record { here = brought.begins.low.here; lowest = brought.begins.low.lowest };
    };
    home = held-home file live.1 (with_size entry.node entry.size_after second) placed
        brought.mapped brought.hold
        (ap (size_after live.1) own
        ∙ (size-again live.1 (second.sizes file.node) placed ∙ sym own));
  }

  -- it is right already
  pub words-same : entry.size ≡ entry.size_after →
      HaveWordsOf (with_size entry.node entry.size_after second) regions
  words-same same words each = record {
    front = (brought.begins.stands.words words each).front;
    sizes = λ node. (brought.begins.stands.words words each).sizes node ∙ was node;
    slots = (brought.begins.stands.words words each).slots;
  }
    where
      was : (node : ℕ) → second.sizes node
          ≡ (if node == entry.node then entry.size_after else second.sizes node)
      was node = elim (same_or_not node entry.node) [
        | inl is ↦
            ap second.sizes (is ∙ brought.is.node)
            ∙ (sym brought.is.size
            ∙ (same ∙ sym (chosen-same node entry.node entry.size_after (second.sizes node) is)))
        | inr apart ↦
            sym (chosen-other node entry.node entry.size_after (second.sizes node) apart)
      ]

  pub words-set : entry.node < 256 → 67 + entry.node < length regions →
      HaveFirstWords regions →
      HaveWordsOf (with_size entry.node entry.size_after second)
      (with_first (67 + entry.node) entry.size_after regions)
  words-set below within some =
      sizes-set entry.node entry.size_after second regions
      (kept (wrote 0 entry.size_after (seen_at regions (67 + entry.node)))) below within
      (some (67 + entry.node) within) brought.begins.stands.words refl

  pub words-sized : (b : Bool) → (entry.size == entry.size_after) ≡ b → entry.node < 256 →
      67 + entry.node < length regions → HaveFirstWords regions →
      HaveWordsOf (with_size entry.node entry.size_after second) (with_size_word entry regions)
  words-sized true test below within some =
      let same : entry.size ≡ entry.size_after = grind (arith, nat_tests) in
      subst (HaveWordsOf (with_size entry.node entry.size_after second))
      (sym (ap (λ (b : Bool). if b then regions
      else with_first (67 + entry.node) entry.size_after regions) test)) (words-same same)
  words-sized false test below within some =
      subst (HaveWordsOf (with_size entry.node entry.size_after second))
      (sym (ap (λ (b : Bool). if b then regions
      else with_first (67 + entry.node) entry.size_after regions) test))
      (words-set below within some)

  -- while it is set
  pub size-moments : (news : List (Seen WordStep)) (asked_old asked_new : List Asked) →
      entry.node < 256 → 67 + entry.node < length regions → HaveFirstWords regions →
      SetsFirst (67 + entry.node) entry.size_after asked_old regions asked_new news →
      MountMoments files start asked_old (both regions blocks) asked_new (both news blocks)
  size-moments news _ _ below within some sets =
      sizes-stop files entry.node entry.size_after start second regions news blocks _ _
      sized-stay brought.begins.stands.stay below (some (67 + entry.node) within)
      brought.begins.stands.words brought.begins.stands.blocks_are
      brought.begins.stands.distinct sets

-- ---- the gate

module _ (files : List File) (file : File) (entry : Entry) (live : ℕ × Request)
    (rest : List (ℕ × Request)) (start second : Disk) (regions : List (Seen WordStep))
    (blocks : List (Seen BlockStep))
    (sized : IsSized files file entry live rest start second regions blocks) where
  closed-stay : (third : Disk) → ClosesSlot entry.slot second third → AllStay files start third
  closed-stay third step =
      let on = goes-on files start second third sized.begins.stands.stay in
      on.1 (closes-all files file entry.slot live rest second third sized.begins.stands.are
      sized.begins.among on.0 sized.begins.low sized.home step)

  pub gate-moments : (news : List (Seen WordStep)) (asked_old asked_new : List Asked) →
      SetsFirst (323 + entry.slot) 0 asked_old regions asked_new news →
      MountMoments files start asked_old (both regions blocks) asked_new (both news blocks)
  gate-moments news _ _ sets =
      closes-stop files entry.slot start second regions news blocks _ _ closed-stay
      sized.begins.stands.stay sized.begins.stands.words sized.begins.stands.blocks_are
      sized.begins.stands.distinct sets

  pub gate-stands : (news : List (Seen WordStep)) →
      news ≡ with_first (323 + entry.slot) 0 regions → 323 + entry.slot < length regions →
      AreDistinct (numbers_of (both news blocks)) →
      Stands files start (record second { slots = shut entry.slot second.slots }) news blocks
  gate-stands news is within distinct = record {
    are = sized.begins.stands.are;
    stay = closed-stay (record second { slots = shut entry.slot second.slots })
        (record { front = refl; sizes = λ node. refl; slots = refl; blocks = refl });
    words = subst
        (HaveWordsOf (record second { slots = shut entry.slot second.slots })) (sym is)
        (gates-closed entry.slot second regions
        (kept (wrote 0 0 (seen_at regions (323 + entry.slot)))) within
        sized.begins.stands.words refl);
    blocks_are = λ contents each. sized.begins.stands.blocks_are contents each;
    distinct = distinct;
  }

-- ---- each region has a word still

pub first-words : (place word : ℕ) (regions : List (Seen WordStep)) → HaveFirstWords regions →
    HaveFirstWords (with_first place word regions)
first-words place word regions some k less = elim (same_or_not k place) [
  | inl same ↦
      let here : seen_at (with_first place word regions) k ≡ new =
      ap (seen_at (with_first place word regions)) same
      ∙ get_or-set_same regions place new (record { device = 0; also = []; history = [] })
      (omega (arith, within, same)) in
      let long : length (words_of (seen_at (with_first place word regions) k))
      ≡ length (words_of (seen_at regions place)) =
      ap (λ (seen : Seen WordStep). length (words_of seen)) here
      ∙ length-set (words_of (seen_at regions place)) 0 word in
      let was : 0 < length (words_of (seen_at regions place)) =
      some place (omega (arith, within, same)) in
      omega (arith, long, was)
  | inr apart ↦
      subst (λ (seen : Seen WordStep). 0 < length (words_of seen))
      (sym (get_or-set_other regions place k new (record { device = 0; also = []; history = [] })
      apart)) (some k within)
]
  where
    new : Seen WordStep
    new = kept (wrote 0 word (seen_at regions place))

    within : k < length regions
    within = omega (
      arith,
      less,
      length-set regions place (kept (wrote 0 word (seen_at regions place))),
    )

pub size-words : (entry : Entry) (regions : List (Seen WordStep)) → HaveFirstWords regions →
    HaveFirstWords (with_size_word entry regions)
size-words entry regions some = split (entry.size == entry.size_after)
  where
    split : (b : Bool) → HaveFirstWords (if b then regions
        else with_first (67 + entry.node) entry.size_after regions)
    split true = some
    split false = first-words (67 + entry.node) entry.size_after regions some

pub size-long : (entry : Entry) (regions : List (Seen WordStep)) →
    length (with_size_word entry regions) ≡ length regions
size-long entry regions = split (entry.size == entry.size_after)
  where
    split : (b : Bool) → length (if b then regions
        else with_first (67 + entry.node) entry.size_after regions) ≡ length regions
    split true = refl
    split false = length-set regions (67 + entry.node)
        (kept (wrote 0 entry.size_after (seen_at regions (67 + entry.node))))

-- ---- what is left

live-ino : (ino : ℕ) (words : List ℕ) → is_live ino words ≡ true → ino_of words ≡ ino
live-ino ino words live = last (not (gate_of words == 0) && not (mark_of words == 1)) live
  where
    equal : (ino_of words == ino) ≡ true → ino_of words ≡ ino
    equal test = grind (arith, nat_tests)

    last : (b : Bool) → (b && (ino_of words == ino)) ≡ true → ino_of words ≡ ino
    last true test = equal test
    last false test = cc

other-dead : (ino other : ℕ) (words : List ℕ) → other ≢ ino → is_live ino words ≡ true →
    is_live other words ≡ false
other-dead ino other words differs live = split (is_live other words) refl
  where
    split : (b : Bool) → is_live other words ≡ b → b ≡ false
    split false is = refl
    split true is = absurd (differs (sym (live-ino other words is) ∙ live-ino ino words live))

pub rest-left : RestIsLeft
rest-left files file other entry live rest disk ready among low = (
  shut-lowest file.ino entry.slot disk.slots live rest (ready file among).once low.here low.lowest,
  λ apart. shut-same other.ino entry.slot disk.slots
      (not_live-none other.ino (get_or disk.slots entry.slot []) (tails_at disk.slots entry.slot)
      (other-dead file.ino other.ino (get_or disk.slots entry.slot []) apart
      (some-live file.ino disk.slots entry.slot live low.here))),
)

-- ---- both words

pub sized-at : (files : List File) (file : File) (entry : Entry) (live : ℕ × Request)
    (rest : List (ℕ × Request)) (start second : Disk) (regions mids : List (Seen WordStep))
    (blocks : List (Seen BlockStep)) → mids ≡ with_size_word entry regions → entry.node < 256 →
    67 + entry.node < length regions → HaveFirstWords regions →
    all_devices mids ≡ all_devices regions →
    AreBrought files file entry live rest start second regions blocks →
    IsSized files file entry live rest start (with_size entry.node entry.size_after second) mids
    blocks
sized-at files file entry live rest start second regions mids blocks is below within some same
    brought =
    sized-of files file entry live rest start second regions blocks brought mids
    (subst (HaveWordsOf (with_size entry.node entry.size_after second)) (sym is)
    (words-sized files file entry live rest start second regions blocks brought
    (entry.size == entry.size_after) refl below within some))
    (distinct-regions regions mids blocks same brought.begins.stands.distinct)

pub settled-stands : (files : List File) (file : File) (entry : Entry) (live : ℕ × Request)
    (rest : List (ℕ × Request)) (start second : Disk) (regions mids news : List (Seen WordStep))
    (blocks : List (Seen BlockStep)) → mids ≡ with_size_word entry regions → entry.node < 256 →
    323 + entry.slot < length regions → HaveFirstWords regions →
    all_devices mids ≡ all_devices regions → news ≡ with_first (323 + entry.slot) 0 mids →
    all_devices news ≡ all_devices mids →
    AreBrought files file entry live rest start second regions blocks →
    Stands files start (settled entry second) news blocks
settled-stands files file entry live rest start second regions mids news blocks is below within
    some same last same_last brought =
    gate-stands files file entry live rest start (with_size entry.node entry.size_after second)
    mids blocks sized news last (omega (arith, within, long))
    (distinct-regions mids news blocks same_last sized.begins.stands.distinct)
  where
    sized : IsSized files file entry live rest start
        (with_size entry.node entry.size_after second) mids blocks
    sized = sized-at files file entry live rest start second regions mids blocks is below
        (omega (arith, below, within)) some same brought

    long : length mids ≡ length regions
    long = ap (λ (seens : List (Seen WordStep)). length seens) is ∙ size-long entry regions

pub settled-words : (entry : Entry) (regions mids : List (Seen WordStep)) →
    mids ≡ with_size_word entry regions → HaveFirstWords regions →
    323 + entry.slot < length regions → 0 < length (words_of (seen_at mids (323 + entry.slot)))
settled-words entry regions mids is some within =
    subst (λ (seens : List (Seen WordStep)).
    0 < length (words_of (seen_at seens (323 + entry.slot)))) (sym is)
    (size-words entry regions some (323 + entry.slot)
    (omega (arith, within, size-long entry regions)))

-- the word that is right, and one that is not
pub size-right : (entry : Entry) (regions : List (Seen WordStep)) →
    entry.size ≡ entry.size_after → regions ≡ with_size_word entry regions
size-right entry regions same =
    let test : (entry.size == entry.size_after) ≡ true = grind (arith, nat_tests) in
    sym (ap (λ (b : Bool). if b then regions
    else with_first (67 + entry.node) entry.size_after regions) test)

pub size-wrong : (entry : Entry) (regions : List (Seen WordStep)) →
    (entry.size ≡ entry.size_after → ⊥) →
    with_first (67 + entry.node) entry.size_after regions ≡ with_size_word entry regions
size-wrong entry regions apart =
    let test : (entry.size == entry.size_after) ≡ false = grind (arith, nat_tests) in
    sym (ap (λ (b : Bool). if b then regions
    else with_first (67 + entry.node) entry.size_after regions) test)

pub none-moments : (files : List File) (file : File) (entry : Entry) (live : ℕ × Request)
    (rest : List (ℕ × Request)) (start first : Disk) (regions : List (Seen WordStep))
    (blocks : List (Seen BlockStep)) (asked : List Asked) →
    AreBrought files file entry live rest start first regions blocks →
    MountMoments files start asked (both regions blocks) asked (both regions blocks)
none-moments files file entry live rest start first regions blocks asked brought =
    all_begun asked (both regions blocks) brought.begins.stands.distinct
    (λ images are. stays-there images
    (brought.begins.stands.words images.words are.words)
    (brought.begins.stands.blocks_are images.contents are.contents))
  where
    stays-there : (images : DeviceImages) → AreWordsOf first images.words →
        images.contents ≡ first.blocks → AllStay files start (disk_of images)
    stays-there images words contents =
        all-same files start first (disk_of images) brought.begins.stands.stay words.front
        words.sizes words.slots contents
