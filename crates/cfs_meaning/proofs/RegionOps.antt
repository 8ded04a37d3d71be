-- A list of operations on one region of a drive: what the region is behind it, and its images.
use Rattle.std.proofs.Common.{◌≡◌, ℕ, suc, ◌<◌, Bool, true, false, List, [], ◌∷◌}
use Rattle.std.proofs.Common.{length, map, drop, refl, sym, ap, ◌∙◌, subst}
use Rattle.std.proofs.Common.{arith}
use Rattle.std.specs.Prelude.{reverse}
use Rattle.std.proofs.lemmas.List.{get_or-set_same, length-set, set-get_or, set-set}
use Rattle.cfs_pmem.specs.declared.trace.Asked.{Asked}
use Rattle.cfs_pmem.specs.Images.{Seen, WordStep, devices_of, words_of}
use Rattle.cfs_pmem.specs.Operations.{LastFails, after_all}
use Rattle.cfs_pmem.specs.WordOps.{WordFails, WordOp, WordsStopIn, get, persist, put, word_done}
use Rattle.cfs_meaning.specs.Drive.{Attempt, Drive, Op, Word, attempt, on_region, region_at}
use Rattle.cfs_meaning.specs.Drive.{word_refused}
use Rattle.cfs_meaning.specs.Devices.{IsEvenRegion}
use Rattle.cfs_meaning.proofs.Attempts.{attempt-append, go-on, in-order}
use Rattle.cfs_meaning.proofs.ShownEnds.{IsOneWord, one-word, word_after}
use Rattle.cfs_meaning.proofs.ShownRegions.{IsAsLong, with_words}

-- ---- the region behind them

-- all were done, or a front of them was and the next was refused
abbrev pub EndsWords : Bool → List WordOp → Seen WordStep → Seen WordStep → Type 0
EndsWords true ops old new = new ≡ after_all word_done ops old
EndsWords false ops old new = WordsStopIn ops old new

abbrev pub AreWordsAt : ℕ → List WordOp → Drive → Attempt → Type 0
AreWordsAt r ops drive it =
    (asked : List Asked) × (new : Seen WordStep) × (it.drive ≡ with_words r new asked drive)
    × EndsWords it.whole ops (region_at drive r) new

refused-fails : (op : WordOp) (old : Seen WordStep) → WordFails op old (word_refused op old)
refused-fails (get at) old = refl
refused-fails (put at word) old = refl
refused-fails persist old = refl

-- one more on the same region
twice : (r : ℕ) (drive : Drive) (mid new : Seen WordStep) (asked again : List Asked) →
    with_words r new again (with_words r mid asked drive) ≡ with_words r new again drive
twice r drive mid new asked again =
    ap (λ (regions : List (Seen WordStep)). record drive { asked = again; regions = regions })
    (set-set drive.regions r mid new)

one-more : (r : ℕ) (op : WordOp) (before : List WordOp) (drive : Drive) →
    r < length drive.regions → (whole : Bool) (here : Drive) →
    AreWordsAt r before drive (record { whole = whole; drive = here }) →
    AreWordsAt r (op ∷ before) drive
    (go-on (Word r op ∷ []) (record { whole = whole; drive = here }))
one-more r op before drive low true here one =
    subst (λ (d : Drive). AreWordsAt r (op ∷ before) drive (attempt (Word r op ∷ []) d))
    (sym one.2)
    (by-whole (attempt (Word r op ∷ []) mid).whole (attempt (Word r op ∷ []) mid).drive
    (one-word r op mid))
  where
    old : Seen WordStep
    old = region_at drive r

    mid : Drive
    mid = with_words r one.1 one.0 drive

    by-whole : (b : Bool) (d : Drive) → IsOneWord r op mid (record { whole = b; drive = d }) →
        AreWordsAt r (op ∷ before) drive (record { whole = b; drive = d })
    by-whole b d last = (
      last.0,
      word_after b op one.1,
      last.1
          ∙ ap (λ s. with_words r (word_after b op s) last.0 mid)
          (get_or-set_same drive.regions r one.1 _ low)
          ∙ twice r drive one.1 (word_after b op one.1) one.0 last.0,
      ends b,
    )
      where
        ends : (b : Bool) → EndsWords b (op ∷ before) old (word_after b op one.1)
        ends true = ap (word_done op) one.3
        ends false = record {
          left = 0;
          within = omega arith;
          state = subst (λ s. WordFails op s (word_refused op one.1)) one.3
              (refused-fails op one.1);
        }
one-more r op before drive low false here one = (
  one.0,
  one.1,
  one.2,
  record {
    left = suc one.3.left;
    within = (let within = one.3.within in omega (arith, within));
    state = one.3.state;
  },
)

pub words-at : (r : ℕ) (ops : List WordOp) (drive : Drive) → r < length drive.regions →
    AreWordsAt r ops drive (attempt (on_region r ops) drive)
unfolding attempt
words-at r [] drive low = (
  drive.asked,
  region_at drive r,
  ap (λ (regions : List (Seen WordStep)). record drive { regions = regions })
      (sym (set-get_or drive.regions r _)),
  refl,
)
words-at r (op ∷ before) drive low =
    subst (λ (list : List Op). AreWordsAt r (op ∷ before) drive (attempt list drive))
    (sym (in-order (Word r) op before))
    (subst (λ (it : Attempt). AreWordsAt r (op ∷ before) drive it)
    (sym (attempt-append (map (Word r) (reverse before)) (Word r op ∷ []) drive))
    (one-more r op before drive low (attempt (on_region r before) drive).whole
    (attempt (on_region r before) drive).drive (words-at r before drive low)))

-- ---- how long it is, and its device

-- the same device, with as many words, and even where the other was
pub record IsLike (old new : Seen WordStep) : Type 0 where
  pub even : IsEvenRegion old → IsEvenRegion new
  pub long : length (words_of new) ≡ length (words_of old)
  pub devices : devices_of new ≡ devices_of old

like-itself : (old : Seen WordStep) → IsLike old old
like-itself old = record { even = λ even. even; long = refl; devices = refl }

like-then : {one two three : Seen WordStep} → IsLike one two → IsLike two three → IsLike one three
like-then a b = record {
  even = λ even. b.even (a.even even);
  long = b.long ∙ a.long;
  devices = b.devices ∙ a.devices;
}

like-done : (op : WordOp) (old : Seen WordStep) → IsLike old (word_done op old)
like-done (get at) old = like-itself old
like-done (put at word) old = record {
  even = λ even. even ∙ sym (length-set (words_of old) at word);
  long = length-set (words_of old) at word;
  devices = refl;
}
like-done persist old = record { even = λ even. refl; long = refl; devices = refl }

like-fails : (op : WordOp) (old new : Seen WordStep) → WordFails op old new → IsLike old new
like-fails (get at) old new is = subst (IsLike old) (sym is) (like-itself old)
like-fails (put at word) old new is =
    subst (IsLike old) (sym is) (record { even = λ even. even; long = refl; devices = refl })
like-fails persist old new is =
    subst (IsLike old) (sym is) (record { even = λ even. even; long = refl; devices = refl })

pub like-all : (ops : List WordOp) (old : Seen WordStep) → IsLike old (after_all word_done ops old)
like-all [] old = like-itself old
like-all (op ∷ before) old =
    like-then (like-all before old) (like-done op (after_all word_done before old))

like-last : (ops : List WordOp) (old new : Seen WordStep) →
    LastFails word_done WordFails ops old new → IsLike old new
like-last [] old new fails = absurd fails
like-last (op ∷ before) old new fails =
    like-then (like-all before old) (like-fails op (after_all word_done before old) new fails)

pub ends-like : (ok : Bool) (ops : List WordOp) (old new : Seen WordStep) →
    EndsWords ok ops old new → IsLike old new
ends-like true ops old new is = subst (IsLike old) (sym is) (like-all ops old)
ends-like false ops old new stops = like-last (drop stops.left ops) old new stops.state

pub as-long : (old new : Seen WordStep) → IsLike old new → IsEvenRegion old → IsAsLong old new
as-long old new like even = record { even = like.even even; long = like.long }
