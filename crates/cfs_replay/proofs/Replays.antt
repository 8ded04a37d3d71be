-- Live entries that are brought home one after another.
use Rattle.std.proofs.Common.{ℕ, zero, suc, ◌+◌, ◌<◌, ◌≡◌, ◌∙◌, List, [], ◌∷◌}
use Rattle.std.proofs.Common.{length, drop, get_or, set, inr, refl, sym, ap, subst, arith}
use Rattle.std.proofs.Common.{Result, Err}
use Rattle.std.proofs.lemmas.List.{length-map}
use Rattle.cfs_file.specs.declared.request.Request.{Request}
use Rattle.cfs_file.specs.declared.request.Request.TheVariants as requests
use Rattle.cfs_pmem.specs.Images.{Seen, WordStep, words_of}
use Rattle.cfs_block.specs.BlockImages.{BlockStep, Content}
use Rattle.cfs_slot.specs.Payload.{HaveCause, NoneFell, SomeRose}
use Rattle.cfs_home.specs.Disks.{Disk, File, IsMapped, shut}
use Rattle.cfs_home.specs.Ends.{IsClosedOrLive}
use Rattle.cfs_home.proofs.Ends.{shut-swept}
use Rattle.cfs_recover.specs.Begins.{Stands}
use Rattle.cfs_recover.specs.Words.{HaveFirstWords, lengths_of}
use Rattle.cfs_replay.specs.declared.pending.Pending.{Pending}
use Rattle.cfs_replay.specs.Entries.{AreInOrder, CanReplay, HaveLeft, HaveTags, HoldsWhole}
use Rattle.cfs_replay.specs.Entries.{IsBehind, file_of}
use Rattle.cfs_replay.specs.Pieces.{BlockMap, FindsBlocks}
use Rattle.cfs_replay.specs.Reading.{AreSlots, slots_in, words_at}
use Rattle.cfs_replay.proofs.OneEntry.{slot-words}

-- ---- the list

pub first-left : (entries : List Pending) (i : ℕ) (d : Pending) → i < length entries →
    drop i entries ≡ get_or entries i d ∷ drop (i + 1) entries
first-left [] i d less = absurd (omega arith)
first-left (entry ∷ entries) zero d less = ap (λ (es : List Pending). entry ∷ es) (none entries)
  where
    none : (es : List Pending) → es ≡ drop 0 es
    none [] = refl
    none (e ∷ es) = refl
first-left (entry ∷ entries) (suc i) d less =
    let next : suc (i + 1) ≡ suc i + 1 = omega arith in
    first-left entries i d (omega arith)
    ∙ ap (λ (k : ℕ). get_or entries i d ∷ drop k (entry ∷ entries)) next

pub all-left : (entries : List Pending) → entries ≡ drop 0 entries
all-left [] = refl
all-left (entry ∷ entries) = refl

-- ---- the same tags

mapped-still : (ino : ℕ) (request : Request) (first second : List Content) →
    HaveTags first second → IsMapped ino request first → IsMapped ino request second
mapped-still ino (requests.Write offset bytes) first second tags mapped = λ p touches.
    let has = mapped p touches in (has.0, tags has.0 ∙ has.1)
mapped-still ino (requests.Append bytes) first second tags mapped = tt
mapped-still ino (requests.Truncate n) first second tags mapped = tt
mapped-still ino (requests.Read offset count) first second tags mapped = tt
mapped-still ino requests.Sync first second tags mapped = tt

order-still : (files : List File) (entries : List Pending) (slots : List (List ℕ))
    (first second : List Content) → HaveTags first second →
    AreInOrder files slots first entries → AreInOrder files slots second entries
order-still files [] slots first second tags order = order
order-still files (entry ∷ entries) slots first second tags order = (
  record {
    live = order.0.live;
    rest = order.0.rest;
    among = order.0.among;
    here = order.0.here;
    lowest = order.0.lowest;
    mapped = mapped-still entry.ino order.0.live.1 first second tags order.0.mapped;
  },
  order-still files entries (shut entry.slot slots) first second tags order.1,
)

-- ---- what is left

pub none-replayed : (files : List File) (start first : Disk) (entries : List Pending)
    (regions : List (Seen WordStep)) (blocks : List (Seen BlockStep)) →
    Stands files start first regions blocks →
    AreInOrder files first.slots first.blocks entries →
    HaveLeft files start first entries regions blocks
none-replayed files start first entries regions blocks stands order = record {
  now = first;
  stands = stands;
  tags = λ at. refl;
  sizes = λ node none. refl;
  swept = λ swept. swept;
  order = order;
}

-- one more
pub left-behind : (files : List File) (start first : Disk) (entry : Pending)
    (entries : List Pending) (olds news : List (Seen WordStep))
    (blocks_old blocks_new : List (Seen BlockStep))
    (left : HaveLeft files start first (entry ∷ entries) olds blocks_old) →
    IsBehind files start left.now entry news blocks_new →
    HaveLeft files start first entries news blocks_new
left-behind files start first entry entries olds news blocks_old blocks_new left behind = record {
  now = behind.now;
  stands = behind.stands;
  tags = λ at. behind.tags at ∙ left.tags at;
  sizes = λ node none.
      behind.sizes node (λ same. none (file_of entry) left.order.0.among (sym same))
      ∙ left.sizes node none;
  swept = λ swept at.
      subst (λ (slots : List (List ℕ)). IsClosedOrLive files (get_or slots at []))
      (sym behind.slots)
      (shut-swept files entry.slot at left.now.slots (inr (left.swept swept at)));
  order = subst (λ (slots : List (List ℕ)). AreInOrder files slots behind.now.blocks entries)
      (sym behind.slots)
      (order-still files entries (shut entry.slot left.now.slots) left.now.blocks
      behind.now.blocks behind.tags left.order.1);
}

-- ---- regions that keep their lengths

length-there : (regions : List (Seen WordStep)) (place : ℕ) →
    length (words_at regions place) ≡ get_or (lengths_of regions) place 0
length-there [] place = refl
length-there (region ∷ regions) zero = refl
length-there (region ∷ regions) (suc place) = length-there regions place

pub length-still : (olds news : List (Seen WordStep)) → lengths_of news ≡ lengths_of olds →
    (place : ℕ) → length (words_at news place) ≡ length (words_at olds place)
length-still olds news same place =
    length-there news place
    ∙ (ap (λ (ns : List ℕ). get_or ns place 0) same ∙ sym (length-there olds place))

pub count-still : (olds news : List (Seen WordStep)) → lengths_of news ≡ lengths_of olds →
    length news ≡ length olds
count-still olds news same =
    sym (length-map news (λ region. length (words_of region)))
    ∙ (ap (λ (ns : List ℕ). length ns) same
    ∙ length-map olds (λ region. length (words_of region)))

pub slots-still : (olds news : List (Seen WordStep)) → lengths_of news ≡ lengths_of olds →
    AreSlots olds → AreSlots news
slots-still olds news same are at less =
    length-still olds news same (323 + at)
    ∙ are at (omega (arith, less, count-still olds news same))

pub words-still : (olds news : List (Seen WordStep)) → lengths_of news ≡ lengths_of olds →
    HaveFirstWords olds → HaveFirstWords news
words-still olds news same some place less =
    let was = some place (omega (arith, less, count-still olds news same)) in
    let long : length (words_at news place) ≡ length (words_at olds place) =
    length-still olds news same place in omega (arith, was, long)

-- ---- entries that can be replayed still

holds-shut : (words : List ℕ) → HoldsWhole words → HoldsWhole (set words 0 0)
holds-shut [] holds = holds
holds-shut (word ∷ words) holds = record { fits = holds.fits; whole = holds.whole }

holds-still : (slots : List (List ℕ)) (at slot : ℕ) → HoldsWhole (get_or slots slot []) →
    HoldsWhole (get_or (shut at slots) slot [])
holds-still [] at slot holds = holds
holds-still (words ∷ slots) zero zero holds = holds-shut words holds
holds-still (words ∷ slots) zero (suc slot) holds = holds
holds-still (words ∷ slots) (suc at) zero holds = holds
holds-still (words ∷ slots) (suc at) (suc slot) holds = holds-still slots at slot holds

pub can-still : (found : BlockMap) (tags_old tags_new : List ℕ)
    (olds news : List (Seen WordStep)) (at : ℕ) (entry : Pending) →
    slots_in news ≡ shut at (slots_in olds) → lengths_of news ≡ lengths_of olds →
    tags_new ≡ tags_old → CanReplay found tags_old olds entry →
    CanReplay found tags_new news entry
can-still found tags_old tags_new olds news at entry slots lengths tags can = record {
  node = can.node;
  ino = can.ino;
  slot = can.slot;
  queue = let was = can.queue in omega (arith, was, count-still olds news lengths);
  whole = subst HoldsWhole
      (ap (λ (list : List (List ℕ)). get_or list entry.slot []) (sym slots)
      ∙ slot-words news entry.slot)
      (holds-still (slots_in olds) at entry.slot
      (subst HoldsWhole (sym (slot-words olds entry.slot)) can.whole));
  finds = subst (FindsBlocks entry.ino found) (sym tags) can.finds;
}

pub failed-at : {T E : Type 0} {result : Result T E} (old new : List ℕ) (e : E) →
    result ≡ Err e → NoneFell old new → SomeRose old new → HaveCause old new result
failed-at {T} {E} {result} old new e is later failed =
    subst (λ (r : Result T E). HaveCause old new r) (sym is)
    (record { later = later; failed = failed; passed = tt })
