-- What a crash leaves behind a word that is set and persisted.
use Rattle.std.proofs.Common.{◌≡◌, ◌∙◌, ◌==◌, inl, inr, ℕ, ◌+◌, ◌<◌, nat_lt, Bool, true, false}
use Rattle.std.proofs.Common.{if◌then◌else◌, List, [], length, drop, get_or, set, arith, refl, sym}
use Rattle.std.proofs.Common.{ap}
use Rattle.std.proofs.lemmas.Bool.Decides.{nat_tests}
use Rattle.std.proofs.lemmas.List.{drop-set-add, drop-set-lt, get_or-drop, get_or-set_same}
use Rattle.std.proofs.lemmas.List.{set-get_or, set-set, take-set-le}
use Rattle.cfs_core.proofs.Order.{same_or_not}
use Rattle.cfs_pmem.specs.Images.{Seen, WordStep, IsImage, kept, words_of, wrote}
use Rattle.cfs_pmem.specs.Objects.{IsEachImage, IsImageBut, seen_at}
use Rattle.cfs_pmem.proofs.ImageLemmas.{all_kept, now_is_image}
use Rattle.cfs_pmem.proofs.ObjectLemmas.{each_but}
use Rattle.cfs_home.specs.Calls.{AreWordsOf, HaveWordsOf, size_in, with_size}
use Rattle.cfs_home.specs.Disks.{Disk, shut}
use Rattle.cfs_home.specs.Laws.{GatesAreClosed, SizesAreSet}
use Rattle.cfs_home.proofs.Calls.{but-has, but-other, but-within, first-set, size-other}

-- With the words of before in its place they are those of the disk before, and it has the new ones.
record Puts (place word : ℕ) (disk : Disk) (old : List (Seen WordStep)) (words : List (List ℕ)) :
    Type 0 where
  less : place < length words
  here : get_or words place [] ≡ set (words_of (seen_at old place)) 0 word
  before : AreWordsOf disk (set words place (words_of (seen_at old place)))

puts : (place word : ℕ) (disk : Disk) (old : List (Seen WordStep)) (new : Seen WordStep) →
    place < length old → HaveWordsOf disk old → new ≡ kept (wrote 0 word (seen_at old place)) →
    (words : List (List ℕ)) → IsEachImage IsImage (set old place new) words →
    Puts place word disk old words
puts place word disk old new within have is words each = record {
  less = but-within IsImage IsNew place old words but;
  here = but-has IsImage IsNew place old words [] but;
  before = have (set words place (words_of (seen_at old place)))
      (but-other IsImage IsNew place old words (words_of (seen_at old place)) but
      (now_is_image (seen_at old place).history));
}
  where
    IsNew : List ℕ → Type 0
    IsNew image = image ≡ set (words_of (seen_at old place)) 0 word

    only : (image : List ℕ) → IsImage new.history image →
        image ≡ set (words_of (seen_at old place)) 0 word
    only = all_kept (λ (image : List ℕ). image ≡ set (words_of (seen_at old place)) 0 word)
        (wrote 0 word (seen_at old place)) is refl

    but : IsImageBut IsImage
        (λ (image : List ℕ). image ≡ set (words_of (seen_at old place)) 0 word) place old words
    but = each_but IsImage
        (λ (image : List ℕ). image ≡ set (words_of (seen_at old place)) 0 word) place old new words
        within only each

pub sizes-set : SizesAreSet
sizes-set node size disk old new below within some have is words each =
    from (puts (67 + node) size disk old new within have is words each)
  where
    was : List ℕ
    was = words_of (seen_at old (67 + node))

    chosen : (b : Bool) → nat_lt node 256 ≡ b →
        size_in words node ≡ (if b then get_or (get_or words (67 + node) []) 0 0 else 0)
    chosen b test = ap (λ (c : Bool).
        if c then get_or (get_or words (67 + node) []) 0 0 else 0) test

    own : Puts (67 + node) size disk old words → size_in words node ≡ size
    own put =
        let test : nat_lt node 256 ≡ true = grind (arith, nat_tests) in
        chosen true test
        ∙ (ap (λ (ws : List ℕ). get_or ws 0 0) put.here
        ∙ first-set (words_of (seen_at old (67 + node))) size some)

    sizes : Puts (67 + node) size disk old words → (other : ℕ) →
        size_in words other ≡ (if other == node then size else disk.sizes other)
    sizes put other = elim (same_or_not other node) [
      | inl same ↦
          let test : (other == node) ≡ true = grind (arith, nat_tests) in
          ap (size_in words) same
          ∙ (own put ∙ sym (ap (λ (b : Bool). if b then size else disk.sizes other) test))
      | inr apart ↦
          let test : (other == node) ≡ false = grind (arith, nat_tests) in
          sym (size-other words (67 + node) was other (λ less same. apart (omega arith)))
          ∙ (put.before.sizes other
          ∙ sym (ap (λ (b : Bool). if b then size else disk.sizes other) test))
    ]

    from : Puts (67 + node) size disk old words → AreWordsOf (with_size node size disk) words
    from put = record {
      front =
          sym (take-set-le 67 words (67 + node) was (omega arith)) ∙ put.before.front;
      sizes = sizes put;
      slots =
          sym (drop-set-lt 323 words (67 + node) was (omega arith)) ∙ put.before.slots;
    }

pub gates-closed : GatesAreClosed
gates-closed at disk old new within have is words each =
    from (puts (323 + at) 0 disk old new within have is words each)
  where
    was : List ℕ
    was = words_of (seen_at old (323 + at))

    -- the slots before
    slots_were : Puts (323 + at) 0 disk old words →
        set (drop 323 words) at (words_of (seen_at old (323 + at))) ≡ disk.slots
    slots_were put =
        sym (drop-set-add 323 words at (words_of (seen_at old (323 + at)))) ∙ put.before.slots

    slot_was : Puts (323 + at) 0 disk old words →
        get_or disk.slots at [] ≡ words_of (seen_at old (323 + at))
    slot_was put =
        ap (λ (slots : List (List ℕ)). get_or slots at []) (sym (slots_were put))
        ∙ (sym (ap (λ (slots : List (List ℕ)). get_or slots at [])
        (drop-set-add 323 words at (words_of (seen_at old (323 + at)))))
        ∙ (get_or-drop 323 (set words (323 + at) (words_of (seen_at old (323 + at)))) at []
        ∙ get_or-set_same words (323 + at) (words_of (seen_at old (323 + at))) [] put.less))

    slots : Puts (323 + at) 0 disk old words → drop 323 words ≡ shut at disk.slots
    slots put =
        sym (set-get_or (drop 323 words) at [])
        ∙ (ap (λ (ws : List ℕ). set (drop 323 words) at ws)
        (get_or-drop 323 words at []
        ∙ (put.here ∙ ap (λ (ws : List ℕ). set ws 0 0) (sym (slot_was put))))
        ∙ (sym (set-set (drop 323 words) at (words_of (seen_at old (323 + at)))
        (set (get_or disk.slots at []) 0 0))
        ∙ ap (λ (list : List (List ℕ)). set list at (set (get_or disk.slots at []) 0 0))
        (slots_were put)))

    from : Puts (323 + at) 0 disk old words →
        AreWordsOf (record disk { slots = shut at disk.slots }) words
    from put = record {
      front =
          sym (take-set-le 67 words (323 + at) was (omega arith)) ∙ put.before.front;
      sizes = λ node.
          sym (size-other words (323 + at) was node (λ less same. omega arith))
          ∙ put.before.sizes node;
      slots = slots put;
    }
