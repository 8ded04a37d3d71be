-- The size word is set for a request that a job did.
use Rattle.std.proofs.Common.{◌≡◌, ◌⊎◌, inl, inr, ℕ, ◌+◌, ◌-◌, ◌<◌, ◌≤◌, ◌==◌, ◌||◌, Bool, true, false, Ok, Err, OnOk, OnErr, List, [], ◌∷◌, ◌++◌, length, get_or, arith, refl, sym, ap, subst, ◌∙◌}
use Rattle.std.proofs.Math.ListN.{set}
use Rattle.std.specs.List.{list_any}
use Rattle.std.proofs.lemmas.Bool.{cases_Bool}
use Rattle.std.proofs.lemmas.Bool.Decides.{nat_tests}
use Rattle.std.proofs.lemmas.List.{get_or-set_same, length-set}
use Rattle.cfs_file.specs.declared.entry.Entry.{Entry}
use Rattle.cfs_core.specs.declared.event.End.TheVariants as ends
use Rattle.cfs_core.specs.declared.event.Event.TheVariants as events
use Rattle.cfs_core.specs.declared.event.SizeEnd.{SizeEnd}
use Rattle.cfs_core.specs.declared.event.SizeEnd.TheVariants as sizes
use Rattle.cfs_core.specs.declared.flag.Flag.{Flag}
use Rattle.cfs_core.specs.declared.inode_core.Core.{Core}
use Rattle.cfs_core.specs.declared.track.Track.{Track}
use Rattle.cfs_core.specs.After.{after, put_back}
use Rattle.cfs_core.specs.May.{ends_well, is_in_phase, may_finish}
use Rattle.cfs_core.specs.Medium.{is_size}
use Rattle.cfs_core.specs.Words.{is_out, sized, track}
use Rattle.cfs_core.proofs.Legal.{both, same_number}
use Rattle.cfs_core.proofs.Order.{some_place}
use Rattle.cfs_pmem.specs.Images.{Seen, WordStep, IsImage, IsSetFrom, words_of}
use Rattle.cfs_pmem.specs.WordOps.{SetsWord}
use Rattle.cfs_pmem.proofs.ImageLemmas.{all_failed}
use Rattle.cfs_pmem.proofs.MomentLemmas.{at_end}
use Rattle.cfs_medium.specs.Differs.{DiffersInSize}
use Rattle.cfs_medium.specs.Shows.{HasShape, Shows, holding}
use Rattle.cfs_medium.specs.SizeEvents.{SizesShow, back}
use Rattle.cfs_medium.specs.SlotEvents.{Answer, sized_end}
use Rattle.cfs_medium.specs.World.{World}
use Rattle.cfs_medium.specs.WorldCalls.{with_size}
use Rattle.cfs_medium.proofs.QuietEvents.{track-gate, track-known}
use Rattle.cfs_medium.proofs.SizeSteps.{size-moments, size_shows}
use Rattle.cfs_medium.proofs.SlotEvents.{holding-same, within_place}

-- ---- sizes

any_more : (sizes : List ℕ) (s last : ℕ) → list_any (λ k. s == k) (sizes ++ last ∷ []) ≡ (list_any (λ k. s == k) sizes || (s == last))
any_more [] s last = or_false (s == last)
  where
    or_false : (b : Bool) → (b || false) ≡ (false || b)
    or_false true = refl
    or_false false = refl
any_more (k ∷ ks) s last = ap (λ (b : Bool). (s == k) || b) (any_more ks s last) ∙ either (s == k) (list_any (λ j. s == j) ks) (s == last)
  where
    either : (a b c : Bool) → (a || (b || c)) ≡ ((a || b) || c)
    either true b c = refl
    either false b c = refl

-- a size from before is one still, beside the new one
pub still_a_size : (core : Core) (new s : ℕ) → is_size core s ≡ true →
    ((s == new) || list_any (λ k. s == k) (core.sizes ++ core.size ∷ [])) ≡ true
still_a_size core new s is = rw (any_more core.sizes s core.size) (reorder (s == new) (s == core.size) (list_any (λ k. s == k) core.sizes) is)
  where
    reorder : (a b c : Bool) → (b || c) ≡ true → (a || (c || b)) ≡ true
    reorder true b c h = refl
    reorder false true true h = refl
    reorder false true false h = refl
    reorder false false true h = refl
    reorder false false false h = cc

pub new_is_a_size : (new : ℕ) (others : List ℕ) →
    ((new == new) || list_any (λ k. new == k) others) ≡ true
new_is_a_size new others = let same : (new == new) ≡ true = grind (arith, nat_tests) in rw same refl

pub first_set : (words : List ℕ) (word : ℕ) → 0 < length words →
    get_or (set words 0 word) 0 0 ≡ word
first_set words word some = get_or-set_same words 0 word 0 some

pub sizes-show : SizesShow
sizes-show ino n place gate applied core world new obeys result asked_old asked_new good shows allowed same_gate room some_words sets = record {
  moments = size-moments ino n size core either world new asked_old asked_new shows (differs sizes.Either) good (shape sizes.Either) room fits sets.moments;
  ok = ended result sets;
  err = failed result sets;
}
  where
    t : Track
    t = track core.tracks place

    size : ℕ
    size = sized core.size t.span

    either : Core
    either = back core place gate applied sizes.Either

    out : is_out t.state ≡ true
    out = (both (is_out t.state) (ends_well core place (ends.Back sizes.Either gate applied))
        (both (is_in_phase core.crashed (events.Finish place (ends.Back sizes.Either gate applied))) (may_finish core place (ends.Back sizes.Either gate applied)) allowed).1).0

    some : place ≡ 0 → ⊥
    some = some_place is_out refl core.tracks place out

    within : place ≤ length core.tracks
    within = within_place is_out refl core.tracks place some out

    differs : (end : SizeEnd) → DiffersInSize core (back core place gate applied end)
    differs sizes.AsBefore = record { tags = refl; loose = refl; bytes = refl; held = λ at. holding-same core (back core place gate applied sizes.AsBefore) core.doubt at (track-known core place at (put_back t gate applied) some within same_gate refl refl) }
    differs sizes.Set = record { tags = refl; loose = refl; bytes = refl; held = λ at. holding-same core (back core place gate applied sizes.Set) core.doubt at (track-known core place at (put_back t gate applied) some within same_gate refl refl) }
    differs sizes.Either = record { tags = refl; loose = refl; bytes = refl; held = λ at. holding-same core (back core place gate applied sizes.Either) core.doubt at (track-known core place at (put_back t gate applied) some within same_gate refl refl) }

    shape_of : (at : Core) → at.tags ≡ core.tags → at.log ≡ core.log → at.tracks ≡ set core.tracks (place - 1) (put_back t gate applied) → at.doubt ≡ core.doubt → at.loose ≡ core.loose → at.bytes ≡ core.bytes → HasShape at
    shape_of at tags log tracks doubt loose bytes = record {
      tags = ap (λ (l : List Flag). length l) tags ∙ shows.shape.tags;
      tracks = ap (λ (l : List Track). length l) tracks ∙ length-set core.tracks (place - 1) (put_back t gate applied) ∙ shows.shape.tracks ∙ ap (λ (l : List Entry). length l) (sym log);
      doubt = λ d is.
          let fits = shows.shape.doubt d (sym doubt ∙ is) in
          record {
            from = fits.from;
            to = omega (arith, fits.to, ap (λ (l : List Entry). length l) log);
            apart = ap (λ (l : List Track). (track l d.entry.place).gate) tracks
                ∙ track-gate core place d.entry.place (put_back t gate applied) some within same_gate refl refl ∙ fits.apart;
          };
      loose = λ position is. rw bytes (shows.shape.loose position (rw loose at is));
    }

    shape : (end : SizeEnd) → HasShape (back core place gate applied end)
    shape sizes.AsBefore = shape_of (back core place gate applied sizes.AsBefore) refl refl refl refl refl refl
    shape sizes.Set = shape_of (back core place gate applied sizes.Set) refl refl refl refl refl refl
    shape sizes.Either = shape_of (back core place gate applied sizes.Either) refl refl refl refl refl refl

    fits : (words : List ℕ) → IsSetFrom world.size 0 size words → is_size either (get_or words 0 0) ≡ true
    fits words set_ = elim set_.same [
      | inl same ↦
          let was = shows.sizes set_.first set_.possible in
          rw same (still_a_size core size (get_or set_.first 0 0) was)
      | inr done ↦
          let long : 0 < length set_.first = omega (arith, some_words, set_.possible.size) in
          let is : get_or words 0 0 ≡ size = ap (λ (ws : List ℕ). get_or ws 0 0) done ∙ first_set set_.first size long in
          rw is (new_is_a_size size (core.sizes ++ core.size ∷ []))
    ]

    word_set : (s : Seen WordStep) → words_of s ≡ set (words_of world.size) 0 size → get_or (words_of s) 0 0 ≡ size
    word_set s is = ap (λ (ws : List ℕ). get_or ws 0 0) is ∙ first_set (words_of world.size) size some_words

    failed : (result : Answer) → SetsWord obeys 0 size result asked_old world.size asked_new new →
        OnErr result (Shows ino (back core place gate applied sizes.AsBefore) (with_size new world) ⊎ Shows ino (back core place gate applied sizes.Either) (with_size new world))
    failed (Ok value) sets = tt
    failed (Err e) sets = elim sets.err [
      | inl unwritten ↦ inl (size_shows ino core (back core place gate applied sizes.AsBefore) world new shows (differs sizes.AsBefore) (shape sizes.AsBefore)
          (all_failed (λ words. is_size core (get_or words 0 0) ≡ true) world.size unwritten shows.sizes)
          (ap (λ (s : Seen WordStep). get_or (words_of s) 0 0) unwritten ∙ shows.size_now))
      | inr unkept ↦ inr (size_shows ino core either world new shows (differs sizes.Either) (shape sizes.Either)
          (λ words image. fits words (at_end sets.moments words image))
          (word_set new (ap (λ (s : Seen WordStep). words_of s) unkept)))
    ]

    ended : (result : Answer) → SetsWord obeys 0 size result asked_old world.size asked_new new →
        OnOk result (Shows ino (after core (events.Finish place (sized_end gate))) (with_size new world))
    ended (Err e) sets = tt
    ended (Ok value) sets =
        let now : get_or (words_of new) 0 0 ≡ size = word_set new (ap (λ (s : Seen WordStep). words_of s) sets.ok) in
        size_shows ino core (after core (events.Finish place (sized_end gate))) world new shows
        (record { tags = refl; loose = refl; bytes = refl; held = λ at. holding-same core (after core (events.Finish place (sized_end gate))) core.doubt at (track-known core place at (put_back t gate true) some within same_gate refl refl) })
        (record {
          tags = shows.shape.tags;
          tracks = length-set core.tracks (place - 1) (put_back t gate true) ∙ shows.shape.tracks;
          doubt = λ d is.
              let fits = shows.shape.doubt d is in
              record { from = fits.from; to = fits.to; apart = track-gate core place d.entry.place (put_back t gate true) some within same_gate refl refl ∙ fits.apart };
          loose = shows.shape.loose;
        })
        (λ words image. let is : get_or words 0 0 ≡ size = ap (λ (ws : List ℕ). get_or ws 0 0) (sets.sure words image) ∙ now in rw is (new_is_a_size size []))
        now
