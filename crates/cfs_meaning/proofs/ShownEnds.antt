-- A job ends: that keeps a world shown by its devices.
use Rattle.std.proofs.Common.{◌≡◌, ℕ, ◌+◌, ◌-◌, ◌<◌, ◌≤◌, Bool, true, false, not, ◌&&◌, ◌||◌}
use Rattle.std.proofs.Common.{Some, List, [], ◌∷◌, ◌++◌, length, map, get_or, set, inl}
use Rattle.std.proofs.Common.{inr, refl, sym, ap, ◌∙◌, subst, if◌then◌else◌, arith}
use Rattle.std.specs.Prelude.{Ok, Err, ◌==◌, unwrap_or}
use Rattle.std.proofs.lemmas.Bool.{and_from, and_parts, eq-eqb, eqb-true, or_right}
use Rattle.std.proofs.lemmas.List.{get_or-set_same, set-set}
use Rattle.cfs_file.specs.declared.span.Span.{Span}
use Rattle.cfs_file.specs.declared.span.Span.TheVariants.{From, Nothing, Range}
use Rattle.cfs_core.specs.declared.event.End.{End}
use Rattle.cfs_core.specs.declared.event.End.TheVariants as ends
use Rattle.cfs_core.specs.declared.event.Event.{Event}
use Rattle.cfs_core.specs.declared.event.Event.TheVariants as events
use Rattle.cfs_core.specs.declared.event.SizeEnd.{SizeEnd}
use Rattle.cfs_core.specs.declared.event.SizeEnd.TheVariants as sizes
use Rattle.cfs_core.specs.declared.flag.Flag.{Flag}
use Rattle.cfs_core.specs.declared.flag.Flag.TheVariants.{Off, On, Unsure}
use Rattle.cfs_core.specs.declared.inode_core.Core.{Core}
use Rattle.cfs_core.specs.declared.state.State.{State}
use Rattle.cfs_core.specs.declared.state.State.TheVariants.{Closed, Noop, Out, Unserved, Waiting}
use Rattle.cfs_core.specs.declared.track.Track.{Track}
use Rattle.cfs_core.specs.After.{after}
use Rattle.cfs_core.specs.Good.{IsGood}
use Rattle.cfs_core.specs.May.{case, is_in_phase, is_size_set, keeps_gate, may}
use Rattle.cfs_core.specs.May.{stands_at}
use Rattle.cfs_core.specs.Medium.{is_size}
use Rattle.cfs_core.specs.Words.{blank, is_off, is_out, is_through, sized, track}
use Rattle.cfs_core.proofs.Alive.{out_lives}
use Rattle.cfs_core.proofs.Goods.{good-kept}
use Rattle.cfs_core.proofs.Order.{is_query_state, is_query_track, some_place, track_is}
use Rattle.cfs_core_laws.specs.Reached.{IsReached}
use Rattle.cfs_core_laws.specs.Reached as reaching
use Rattle.cfs_core_laws.proofs.Whole.{whole}
use Rattle.cfs_pmem.specs.declared.trace.Asked.{Asked}
use Rattle.cfs_pmem.specs.Images.{IsImage, IsSetFrom, Seen, WordStep, failed, kept, words_of, wrote}
use Rattle.cfs_pmem.specs.WordOps.{WordOp, persist, put, word_done}
use Rattle.cfs_pmem.proofs.ImageLemmas.{all_failed}
use Rattle.cfs_pmem.proofs.MomentLemmas.{at_end}
use Rattle.cfs_medium.specs.Shows.{Shows}
use Rattle.cfs_medium.specs.SlotEvents.{IsBesideDoubt, sized_end}
use Rattle.cfs_medium.specs.World as media
use Rattle.cfs_medium.specs.WorldCalls.{with_size, with_slots}
use Rattle.cfs_medium.proofs.FinishEvents.{retires-show}
use Rattle.cfs_medium.proofs.QuietEvents.{backs-show, quiet-events-show}
use Rattle.cfs_medium.proofs.SizeEvents.{first_set, new_is_a_size, still_a_size}
use Rattle.cfs_medium.proofs.SizeSteps.{size_shows}
use Rattle.cfs_medium.proofs.SlotEvents.{holding-same, within_place}
use Rattle.cfs_meaning.specs.Drive.{Attempt, Drive, Word, attempt, is_allowed, made, noted, refused}
use Rattle.cfs_meaning.specs.Drive.{region_at, word_refused}
use Rattle.cfs_meaning.specs.Steps.{size_word}
use Rattle.cfs_meaning.specs.World.{File, World, core_in, file_in, find_file, head_of}
use Rattle.cfs_meaning.specs.World.{held_at, new_file, replaces, with_core}
use Rattle.cfs_meaning.specs.Devices.{HasWord, IsEvenRegion, IsFileShown, IsPlaced}
use Rattle.cfs_meaning.specs.Devices.{IsShown, devices_of_file, needs_slots}
use Rattle.cfs_meaning.specs.Inode.{back, back_unless, close_or_apply, finish, finish_with}
use Rattle.cfs_meaning.specs.Inode.{has_more, is_size_right, retire, set_size}
use Rattle.cfs_meaning.specs.Ways.{when}
use Rattle.cfs_meaning.proofs.Hoare.{Leaves, leave-changes, leave-end, leave-event, leave-give}
use Rattle.cfs_meaning.proofs.Hoare.{leave-look, leave-then, leave-tries, leave-weaker}
use Rattle.cfs_meaning.proofs.ShownFiles.{event-shown, file-shown, found-in, found-number}
use Rattle.cfs_meaning.proofs.ShownFiles.{itself-replaced, still-within}
use Rattle.cfs_meaning.proofs.ShownGates.{IsClosing, IsComing, IsGone, Sets}
use Rattle.cfs_meaning.proofs.ShownGates.{back-shown, beside-doubt, ends-long, equipped-of}
use Rattle.cfs_meaning.proofs.ShownGates.{found-by}
use Rattle.cfs_meaning.proofs.ShownGates.{leave-close, reached-of, retired-gone, sets, shows-of}
use Rattle.cfs_meaning.proofs.ShownJobs.{AtWork}
use Rattle.cfs_meaning.proofs.ShownNeeds.{NeedsLess, less-after, less-equipped}
use Rattle.cfs_meaning.proofs.ShownRegions.{HasHead, IsAsLong, IsHead, has-head, head-shown}
use Rattle.cfs_meaning.proofs.ShownRegions.{size-shown, still-word, with_words}
use Rattle.cfs_meaning.proofs.Total.{with_attempt}
use Rattle.cfs_meaning.proofs.TotalTrims.{core-given, find-replaced}

-- ---- one operation on a region

abbrev pub word_after : Bool → WordOp → Seen WordStep → Seen WordStep
word_after true op seen = word_done op seen
word_after false op seen = word_refused op seen

abbrev pub IsOneWord : ℕ → WordOp → Drive → Attempt → Type 0
IsOneWord r op drive it =
    (asked : List Asked)
    × (it.drive ≡ with_words r (word_after it.whole op (region_at drive r)) asked drive)

pub one-word : (r : ℕ) (op : WordOp) (drive : Drive) →
    IsOneWord r op drive (attempt (Word r op ∷ []) drive)
unfolding attempt
one-word r op drive = by-test (is_allowed (Word r op) drive)
  where
    by-test : (allowed : Bool) → IsOneWord r op drive
        (if allowed then record {
          whole = true;
          drive = made (Word r op) (noted (Word r op) true drive);
        }
        else record {
          whole = false;
          drive = refused (Word r op) (noted (Word r op) false drive);
        })
    by-test true = (_, refl)
    by-test false = (_, refl)

-- ---- a job that may end

pub record AtEnd (ino place : ℕ) (world : World) : Type 0 where
  pub work : AtWork ino world
  pub out : is_out (track (core_in world ino).tracks place).state ≡ true

out-no-query : (t : Track) → is_out t.state ≡ true → is_query_track t ≡ false
out-no-query t out = by-state t.state out (is_off t.gate)
  where
    by-state : (s : State) → is_out s ≡ true → (off : Bool) → (off && is_query_state s) ≡ false
    by-state Waiting is off = absurd (cc)
    by-state (Out job) is true = refl
    by-state (Out job) is false = refl
    by-state Noop is off = absurd (cc)
    by-state Unserved is off = absurd (cc)
    by-state Closed is off = absurd (cc)

record IsOut (x : World) (ino place : ℕ) : Type 0 where
  pub file : File
  pub found : find_file x ino ≡ Some file
  pub some : place ≡ 0 → ⊥
  pub within : place ≤ length (core_in x ino).tracks
  pub beside : IsBesideDoubt (core_in x ino) place
  pub has : HasHead x ino place
  pub placed : IsPlaced x.drive (file_in x ino)

pub out-found : (world : World) (ino place : ℕ) →
    is_out (track (core_in world ino).tracks place).state ≡ true →
    (f : File) × (find_file world ino ≡ Some f)
out-found world ino place out =
    found-by world ino (λ core. is_out (track core.tracks place).state ≡ true) out
    (none (place == 0))
  where
    none : (b : Bool) →
        is_out (if b then blank else get_or [] (place - 1) blank).state ≡ true → ⊥
    none true is = absurd (cc)
    none false is = absurd (cc)

out-known : (x : World) (ino place : ℕ) → AtEnd ino place x → IsOut x ino place
out-known x ino place at =
    let core : Core = core_in x ino in
    let found = out-found x ino place at.out in
    let reached = reached-of x ino at.work in
    let equipped = equipped-of x ino found.0 found.1 at.work in
    let some = some_place is_out refl core.tracks place at.out in
    let here : track core.tracks place ≡ get_or core.tracks (place - 1) blank =
    track_is core.tracks place (place - 1) some refl in
    let needs : needs_slots (get_or core.tracks (place - 1) blank) ≡ true =
    ap needs_slots (sym here)
    ∙ ap (λ b. b || not (is_off (track core.tracks place).gate))
    (out_lives (track core.tracks place).state at.out) in
    let next : place - 1 + 1 ≡ place = omega (arith, some) in
    record {
      file = found.0;
      found = found.1;
      some = some;
      within = within_place is_out refl core.tracks place some at.out;
      beside = beside-doubt core place (whole reached).kept some
          (out-no-query (track core.tracks place) at.out);
      has = has-head x ino place found.0 found.1 at.work.shown
          (subst (λ n. 0 < length (held_at (file_in x ino) n).slots) next
          (equipped.slots (place - 1) needs));
      placed = subst (IsPlaced x.drive) (sym (ap (λ o. unwrap_or o (new_file 0 0)) found.1))
          (found-in (IsPlaced x.drive) x ino found.0 found.1 at.work.shown.placed);
    }

-- ---- the size word is set

-- the size that the request leaves, a core that knows it, and one that knows the old ones too
abbrev pub size_for : Core → ℕ → ℕ
size_for core place = sized core.size (track core.tracks place).span

abbrev pub set_core : Core → ℕ → Core
set_core core place = record core { size = size_for core place; sizes = [] }

abbrev either_core : Core → ℕ → Core
either_core core place =
    record core { size = size_for core place; sizes = core.sizes ++ core.size ∷ [] }

sized-again : (size : ℕ) (span : Span) → sized (sized size span) span ≡ sized size span
sized-again size Nothing = refl
sized-again size (Range from to) = omega arith
sized-again size (From from) = refl

-- a core that differs in its size alone needs what the other needs
less-sized : (core : Core) (size : ℕ) (others : List ℕ) →
    NeedsLess core (record core { size = size; sizes = others })
less-sized core size others = record {
  up = λ up. up;
  slots = λ k needs. needs;
  doubt = λ d is. is;
  blocks = λ k off. off;
}

unsized-less : (core now : Core) (size : ℕ) (others : List ℕ) → NeedsLess core now →
    NeedsLess (record core { size = size; sizes = others }) now
unsized-less core now size others less = record {
  up = less.up;
  slots = less.slots;
  doubt = less.doubt;
  blocks = less.blocks;
}

sized-shows : (i : ℕ) (core : Core) (size : ℕ) (others : List ℕ) (world : media.World)
    (new : Seen WordStep) → Shows i core world →
    ((words : List ℕ) → IsImage new.history words →
    is_size (record core { size = size; sizes = others }) (get_or words 0 0) ≡ true) →
    get_or (words_of new) 0 0 ≡ size →
    Shows i (record core { size = size; sizes = others }) (with_size new world)
sized-shows i core size others world new shows fits reads =
    size_shows i core (record core { size = size; sizes = others }) world new shows
    (record {
      tags = refl;
      loose = refl;
      bytes = refl;
      held = λ at.
          holding-same core (record core { size = size; sizes = others }) core.doubt at refl;
    })
    (record {
      tags = shows.shape.tags;
      tracks = shows.shape.tracks;
      doubt = λ d has.
          let fits = shows.shape.doubt d has in
          record { from = fits.from; to = fits.to; apart = fits.apart };
      loose = shows.shape.loose;
    }) fits reads

-- the write was refused
unwritten-shows : (i : ℕ) (core : Core) (world : media.World) → Shows i core world →
    Shows i core (with_size (failed world.size) world)
unwritten-shows i core world shows =
    size_shows i core core world (failed world.size) shows
    (record { tags = refl; loose = refl; bytes = refl; held = λ at. refl }) shows.shape
    (all_failed (λ words. is_size core (get_or words 0 0) ≡ true) world.size refl shows.sizes)
    shows.size_now

set-fits : (core : Core) (place : ℕ) (seen : Seen WordStep) (words : List ℕ) →
    0 < length (words_of seen) → ((image : List ℕ) → IsImage seen.history image →
    is_size core (get_or image 0 0) ≡ true) → IsSetFrom seen 0 (size_for core place) words →
    is_size (either_core core place) (get_or words 0 0) ≡ true
set-fits core place seen words some fits set_ = elim set_.same [
  | inl same ↦
      subst (λ (w : List ℕ). is_size (either_core core place) (get_or w 0 0) ≡ true) (sym same)
      (still_a_size core (size_for core place) (get_or set_.first 0 0)
      (fits set_.first set_.possible))
  | inr done ↦
      let long : 0 < length set_.first = (let size = set_.possible.size in
      omega (arith, some, size)) in
      let is : get_or words 0 0 ≡ size_for core place =
      ap (λ (ws : List ℕ). get_or ws 0 0) done
      ∙ first_set set_.first (size_for core place) long in
      subst (λ n. is_size (either_core core place) n ≡ true) (sym is)
      (new_is_a_size (size_for core place) (core.sizes ++ core.size ∷ []))
]

-- the persist was refused
unkept-shows : (i : ℕ) (core : Core) (place : ℕ) (world : media.World) → Shows i core world →
    0 < length (words_of world.size) →
    Shows i (either_core core place)
    (with_size (failed (wrote 0 (size_for core place) world.size)) world)
unkept-shows i core place world shows some =
    let one = sets false 0 (size_for core place) world.size
    (failed (wrote 0 (size_for core place) world.size)) some (inr refl) in
    sized-shows i core (size_for core place) (core.sizes ++ core.size ∷ []) world
    (failed (wrote 0 (size_for core place) world.size)) shows
    (λ words image. set-fits core place world.size words some shows.sizes
    (at_end one.1.moments words image))
    (first_set (words_of world.size) (size_for core place) some)

-- both went well
set-shows : (i : ℕ) (core : Core) (place : ℕ) (world : media.World) → Shows i core world →
    0 < length (words_of world.size) →
    Shows i (set_core core place)
    (with_size (kept (wrote 0 (size_for core place) world.size)) world)
set-shows i core place world shows some =
    let one = sets true 0 (size_for core place) world.size
    (kept (wrote 0 (size_for core place) world.size)) some refl in
    let now : get_or (set (words_of world.size) 0 (size_for core place)) 0 0
    ≡ size_for core place = first_set (words_of world.size) (size_for core place) some in
    sized-shows i core (size_for core place) [] world
    (kept (wrote 0 (size_for core place) world.size)) shows
    (λ words image.
    let is : get_or words 0 0 ≡ size_for core place =
    ap (λ (ws : List ℕ). get_or ws 0 0) (one.1.sure words image) ∙ now in
    subst (λ n. is_size (set_core core place) n ≡ true) (sym is)
    (new_is_a_size (size_for core place) [])) now

-- ---- a job that is given up

case-of : (core : Core) (e : Event) → may core e ≡ true → case core e ≡ true
case-of core e may_be = (and_parts (is_in_phase core.crashed e) (case core e) may_be).1

-- The size word may have the old size or the new one: the core comes back as one that knows both.
either-may : (core : Core) (place : ℕ) (gate : Flag) (applied : Bool) →
    (track core.tracks place).applied ≡ applied →
    may core (events.Finish place (ends.Back sizes.Either gate applied)) ≡ true →
    may (either_core core place) (events.Finish place (ends.Back sizes.AsBefore gate applied))
    ≡ true
either-may core place gate false same may_be = may_be
either-may core place gate true same may_be =
    ap (λ b. not core.crashed && (is_out (track core.tracks place).state
    && (keeps_gate (track core.tracks place).gate gate && (stands_at core place
    && (b || is_size_set (either_core core place) (track core.tracks place).span
    sizes.AsBefore))))) same
    ∙ ap (λ b. not core.crashed && (is_out (track core.tracks place).state
    && (keeps_gate (track core.tracks place).gate gate && (stands_at core place
    && (b || is_size_set core (track core.tracks place).span sizes.Either))))) (sym same)
    ∙ may_be

-- what is known where an operation on the size word was refused
record IsRefused (ino place : ℕ) (size : SizeEnd) (w : World) : Type 0 where
  pub x : World
  pub at : AtEnd ino place x
  pub asked : List Asked
  pub seen : Seen WordStep
  pub is : w ≡ record x {
    drive = with_words (size_word (file_in x ino).rec) seen asked x.drive;
  }
  pub long : IsAsLong (region_at x.drive (size_word (file_in x ino).rec)) seen
  pub shows : (gate : Flag) (applied : Bool) → gate ≡ (track (core_in x ino).tracks place).gate →
      applied ≡ (track (core_in x ino).tracks place).applied →
      may (core_in x ino) (events.Finish place (ends.Back size gate applied)) ≡ true →
      Shows (file_in x ino).ino
      (after (core_in x ino) (events.Finish place (ends.Back size gate applied)))
      (with_size seen (devices_of_file x.drive (file_in x ino)))

back-comes : (ino place : ℕ) (size : SizeEnd) (w : World) → IsRefused ino place size w →
    may (core_in w ino) (events.Finish place (ends.Back size
    (track (core_in w ino).tracks place).gate (track (core_in w ino).tracks place).applied)) ≡
    true →
    IsShown (with_core ino (after (core_in w ino) (events.Finish place (ends.Back size
    (track (core_in w ino).tracks place).gate (track (core_in w ino).tracks place).applied))) w)
back-comes ino place size w refused may_be =
    subst (λ v. may (core_in v ino) (finishing v) ≡ true →
    IsShown (with_core ino (after (core_in v ino) (finishing v)) v)) (sym refused.is)
    (λ allowed.
    size-shown x ino refused.seen (after core (finishing x)) refused.asked known.file known.found
    refused.long
    (λ up. refused.shows (track core.tracks place).gate (track core.tracks place).applied refl refl
    allowed)
    (less-after core (finishing x) refl allowed) refused.at.work.shown) may_be
  where
    x : World
    x = refused.x

    core : Core
    core = core_in x ino

    finishing : World → Event
    finishing v = events.Finish place (ends.Back size (track (core_in v ino).tracks place).gate
        (track (core_in v ino).tracks place).applied)

    known : IsOut x ino place
    known = out-known x ino place refused.at

back-shown-again : (ino place : ℕ) (size : SizeEnd) →
    Leaves (IsRefused ino place size) (λ u. IsShown) IsShown (back ino place size)
back-shown-again ino place size =
    leave-look (λ y.
    leave-event (λ w holds may_be.
    subst (λ v. may (core_in w ino) (finishing v) ≡ true →
    IsShown (with_core ino (after (core_in w ino) (finishing v)) w)) holds.0
    (λ allowed. back-comes ino place size w holds.1 allowed) may_be))
  where
    finishing : World → Event
    finishing v = events.Finish place (ends.Back size (track (core_in v ino).tracks place).gate
        (track (core_in v ino).tracks place).applied)

-- ---- the size word is set, and the job goes on

-- The size word is set for the request: the devices show the core that knows it.
pub record IsSized (ino place : ℕ) (w : World) : Type 0 where
  pub x : World
  pub at : AtEnd ino place x
  pub drive : Drive
  pub is : w ≡ record x { drive = drive }
  pub words : (d : ℕ) → HasWord x.drive d → HasWord drive d
  pub shown : IsShown
      (record (with_core ino (set_core (core_in x ino) place) x) { drive = drive })

number-of : (world : World) (ino : ℕ) (f : File) → find_file world ino ≡ Some f →
    (file_in world ino).ino ≡ ino
number-of world ino f is =
    ap (λ o. (unwrap_or o (new_file 0 0)).ino) is ∙ found-number ino world.files f is

-- it had that size already
right-sized : (x : World) (ino place : ℕ) → AtEnd ino place x →
    is_size_right (core_in x ino) (size_for (core_in x ino) place) ≡ true → IsSized ino place x
right-sized x ino place at right = record {
  x = x;
  at = at;
  drive = x.drive;
  is = refl;
  words = λ d has. has;
  shown =
      subst (λ core. IsShown (record (with_core ino core x) { drive = x.drive })) same
      (subst (λ files. IsShown (record x { drive = x.drive; files = files }))
      (sym (itself-replaced ino x.files (file_in x ino) at.work.shown.numbers
      (known.found ∙ ap (λ g. Some g)
      (sym (ap (λ o. unwrap_or o (new_file 0 0)) known.found)))))
      at.work.shown);
}
  where
    core : Core
    core = core_in x ino

    known : IsOut x ino place
    known = out-known x ino place at

    nothing : (list : List ℕ) → (length list == 0) ≡ true → list ≡ []
    nothing [] is = refl
    nothing (n ∷ list) is =
        let wrong : length (n ∷ list) ≡ 0 = eqb-true (length (n ∷ list)) 0 is in
        absurd (omega (arith, wrong))

    same : core ≡ set_core core place
    same =
        let parts = and_parts (core.size == size_for core place) (length core.sizes == 0) right in
        ap (λ n. record core { size = n }) (eqb-true core.size (size_for core place) parts.0)
        ∙ ap (λ (list : List ℕ). record core { size = size_for core place; sizes = list })
        (nothing core.sizes parts.1)

-- the region of the size word
abbrev word_at : World → ℕ → ℕ
word_at x ino = size_word (file_in x ino).rec

-- behind the write
abbrev IsWritten : ℕ → ℕ → World → Bool → World → Type 0
IsWritten ino place x ok w =
    AtEnd ino place x × ((asked : List Asked) × (w ≡ record x {
      drive = with_words (word_at x ino)
          (word_after ok (put 0 (size_for (core_in x ino) place))
          (region_at x.drive (word_at x ino))) asked x.drive;
    }))

-- and behind the persist
abbrev IsPersisted : ℕ → ℕ → World → Bool → World → Type 0
IsPersisted ino place x ok w =
    AtEnd ino place x × ((asked : List Asked) × (w ≡ record x {
      drive = with_words (word_at x ino)
          (word_after ok persist (wrote 0 (size_for (core_in x ino) place)
          (region_at x.drive (word_at x ino)))) asked x.drive;
    }))

even-size : (x : World) (ino place : ℕ) → AtEnd ino place x →
    IsEvenRegion (region_at x.drive (word_at x ino))
even-size x ino place at =
    at.work.shown.even.regions (word_at x ino) _
    (out-known x ino place at).placed.size.within

unwritten-refused : (ino place : ℕ) (x w : World) → IsWritten ino place x false w →
    IsRefused ino place sizes.AsBefore w
unwritten-refused ino place x w written =
    let known = out-known x ino place written.0 in
    record {
      x = x;
      at = written.0;
      asked = written.1.0;
      seen = failed (region_at x.drive (word_at x ino));
      is = written.1.1;
      long = ends-long false 0 (size_for (core_in x ino) place)
          (region_at x.drive (word_at x ino)) _ (inl refl) (even-size x ino place written.0);
      shows = λ gate applied same_gate same_applied allowed.
          backs-show (file_in x ino).ino place gate applied (core_in x ino)
          (with_size (failed (region_at x.drive (word_at x ino)))
          (devices_of_file x.drive (file_in x ino)))
          (unwritten-shows (file_in x ino).ino (core_in x ino)
          (devices_of_file x.drive (file_in x ino))
          (shows-of x ino known.file known.found written.0.work)) allowed same_gate;
    }

unkept-refused : (ino place : ℕ) (x w : World) → IsPersisted ino place x false w →
    IsRefused ino place sizes.Either w
unkept-refused ino place x w persisted =
    let known = out-known x ino place persisted.0 in
    let core : Core = core_in x ino in
    record {
      x = x;
      at = persisted.0;
      asked = persisted.1.0;
      seen = failed (wrote 0 (size_for core place) (region_at x.drive (word_at x ino)));
      is = persisted.1.1;
      long = ends-long false 0 (size_for core place)
          (region_at x.drive (word_at x ino)) _ (inr refl) (even-size x ino place persisted.0);
      shows = λ gate applied same_gate same_applied allowed.
          backs-show (file_in x ino).ino place gate applied (either_core core place)
          (with_size (failed (wrote 0 (size_for core place) (region_at x.drive (word_at x ino))))
          (devices_of_file x.drive (file_in x ino)))
          (unkept-shows (file_in x ino).ino core place
          (devices_of_file x.drive (file_in x ino))
          (shows-of x ino known.file known.found persisted.0.work) known.placed.size.word)
          (either-may core place gate applied (sym same_applied) allowed) same_gate;
    }

kept-sized : (ino place : ℕ) (x w : World) → IsPersisted ino place x true w → IsSized ino place w
kept-sized ino place x w persisted =
    let known = out-known x ino place persisted.0 in
    let core : Core = core_in x ino in
    let seen : Seen WordStep =
    kept (wrote 0 (size_for core place) (region_at x.drive (word_at x ino))) in
    let long = ends-long true 0 (size_for core place) (region_at x.drive (word_at x ino)) seen
    refl (even-size x ino place persisted.0) in
    record {
      x = x;
      at = persisted.0;
      drive = with_words (word_at x ino) seen persisted.1.0 x.drive;
      is = persisted.1.1;
      words = still-word x.drive (word_at x ino) seen persisted.1.0 long;
      shown = size-shown x ino seen (set_core core place) persisted.1.0 known.file known.found long
          (λ up. set-shows (file_in x ino).ino core place
          (devices_of_file x.drive (file_in x ino))
          (shows-of x ino known.file known.found persisted.0.work) known.placed.size.word)
          (less-sized core (size_for core place) []) persisted.0.work.shown;
    }

write-size : (x w : World) (ino place : ℕ) → (w ≡ x) → AtEnd ino place w →
    IsWritten ino place x
    (attempt (Word (word_at x ino) (put 0 (size_for (core_in x ino) place)) ∷ []) w.drive).whole
    (with_attempt (Word (word_at x ino) (put 0 (size_for (core_in x ino) place)) ∷ []) w)
write-size x w ino place same at =
    subst (λ v. IsWritten ino place x
    (attempt (Word (word_at x ino) (put 0 (size_for (core_in x ino) place)) ∷ []) v.drive).whole
    (with_attempt (Word (word_at x ino) (put 0 (size_for (core_in x ino) place)) ∷ []) v))
    (sym same)
    (let one = one-word (word_at x ino) (put 0 (size_for (core_in x ino) place)) x.drive in
    (subst (AtEnd ino place) same at, (one.0, ap (λ d. record x { drive = d }) one.1)))

persist-size : (x w : World) (ino place : ℕ) → IsWritten ino place x true w →
    IsPersisted ino place x
    (attempt (Word (word_at x ino) persist ∷ []) w.drive).whole
    (with_attempt (Word (word_at x ino) persist ∷ []) w)
persist-size x w ino place written =
    subst (λ v. IsPersisted ino place x
    (attempt (Word (word_at x ino) persist ∷ []) v.drive).whole
    (with_attempt (Word (word_at x ino) persist ∷ []) v)) (sym written.1.1)
    (let one = one-word r persist middle in (
      written.0,
      (
        one.0,
        ap (λ d. record x { drive = d })
            (one.1 ∙ again (attempt (Word r persist ∷ []) middle).whole one.0),
      ),
    ))
  where
    r : ℕ
    r = word_at x ino

    new : Seen WordStep
    new = wrote 0 (size_for (core_in x ino) place) (region_at x.drive r)

    middle : Drive
    middle = with_words r new written.1.0 x.drive

    again : (ok : Bool) (asked : List Asked) →
        with_words r (word_after ok persist (region_at middle r)) asked middle
        ≡ with_words r (word_after ok persist new) asked x.drive
    again ok asked =
        ap (λ (s : Seen WordStep). with_words r (word_after ok persist s) asked middle)
        (get_or-set_same x.drive.regions r new _
        (out-known x ino place written.0).placed.size.within)
        ∙ ap (λ (regions : List (Seen WordStep)).
        record x.drive { asked = asked; regions = regions })
        (set-set x.drive.regions r new (word_after ok persist new))

size-set : (x : World) (ino place : ℕ) →
    Leaves (λ w. (w ≡ x) × AtEnd ino place w) (λ u. IsSized ino place) IsShown
    (set_size ino place (file_in x ino).rec (size_for (core_in x ino) place))
size-set x ino place =
    leave-then {Q = λ ok. IsWritten ino place x ok}
    (leave-tries (λ w holds. write-size x w ino place holds.0 holds.1)) (λ ok.
    leave-then {Q = λ u. IsWritten ino place x true} (written ok) (λ u.
    leave-then {Q = λ ok. IsPersisted ino place x ok}
    (leave-tries (λ w holds. persist-size x w ino place holds)) (λ ok. persisted ok)))
  where
    written : (ok : Bool) →
        Leaves (IsWritten ino place x ok) (λ u. IsWritten ino place x true) IsShown
        (back_unless ok ino place sizes.AsBefore)
    written true = leave-give (λ w holds. holds)
    written false =
        leave-then {Q = λ u. IsShown}
        (leave-weaker {P = IsRefused ino place sizes.AsBefore}
        (λ w holds. unwritten-refused ino place x w holds) (λ u w q. q) (λ w e. e)
        (back-shown-again ino place sizes.AsBefore)) (λ u.
        leave-end (λ w shown. shown))

    persisted : (ok : Bool) →
        Leaves (IsPersisted ino place x ok) (λ u. IsSized ino place) IsShown
        (back_unless ok ino place sizes.Either)
    persisted true = leave-give (λ w holds. kept-sized ino place x w holds)
    persisted false =
        leave-then {Q = λ u. IsShown}
        (leave-weaker {P = IsRefused ino place sizes.Either}
        (λ w holds. unkept-refused ino place x w holds) (λ u w q. q) (λ w e. e)
        (back-shown-again ino place sizes.Either)) (λ u.
        leave-end (λ w shown. shown))

-- ---- the gate is closed

abbrev end_of : Bool → End
end_of true = ends.Retired
end_of false = sized_end Unsure

keeps-own : (flag : Flag) → keeps_gate flag flag ≡ true
keeps-own Off = refl
keeps-own On = refl
keeps-own Unsure = refl

or-true : (b : Bool) → (b || true) ≡ true
or-true true = refl
or-true false = refl

-- what is known of a job that ends well
record EndsWell (core : Core) (place : ℕ) : Type 0 where
  pub up : not core.crashed ≡ true
  pub out : is_out (track core.tracks place).state ≡ true
  pub stands : stands_at core place ≡ true

ends-well : (core : Core) (place : ℕ) (ok : Bool) →
    may core (events.Finish place (end_of ok)) ≡ true → EndsWell core place
ends-well core place true may_be =
    let both = and_parts (not core.crashed) _ may_be in
    let finish = and_parts (is_out (track core.tracks place).state) _ both.1 in
    record {
      up = both.0;
      out = finish.0;
      stands = (and_parts (is_through (track core.tracks place).state) _ finish.1).1;
    }
ends-well core place false may_be =
    let both = and_parts (not core.crashed) _ may_be in
    let finish = and_parts (is_out (track core.tracks place).state) _ both.1 in
    record { up = both.0; out = finish.0; stands = (and_parts (stands_at core place) _ finish.1).0 }

may-size : (core : Core) (place : ℕ) (gate : Flag) → EndsWell core place →
    keeps_gate (track core.tracks place).gate gate ≡ true →
    may core (events.Finish place (sized_end gate)) ≡ true
may-size core place gate well keeps =
    and_from _ _ well.up (and_from _ _ well.out (and_from _ _ keeps (and_from _ _ well.stands
    (or-true (track core.tracks place).applied))))

may-come-back : (core : Core) (place : ℕ) → EndsWell core place →
    may (set_core core place)
    (events.Finish place (ends.Back sizes.AsBefore (track core.tracks place).gate true)) ≡ true
may-come-back core place well =
    and_from _ _ well.up (and_from _ _ well.out
    (and_from _ _ (keeps-own (track core.tracks place).gate) (and_from _ _ well.stands
    (or_right (track core.tracks place).applied _
    (and_from _ _ (eq-eqb (size_for core place) (sized (size_for core place) span)
    (sym (sized-again core.size span))) refl)))))
  where
    span : Span
    span = (track core.tracks place).span

replaced-twice : (one other : File) (files : List File) → one.ino ≡ other.ino →
    map (replaces other) (map (replaces one) files) ≡ map (replaces other) files
replaced-twice one other [] same = refl
replaced-twice one other (f ∷ files) same =
    ap (λ (g : File). g ∷ map (replaces other) (map (replaces one) files))
    (by-test (f.ino == one.ino) refl)
    ∙ ap (λ (rest : List File). replaces other f ∷ rest) (replaced-twice one other files same)
  where
    by-test : (b : Bool) → (f.ino == one.ino) ≡ b →
        replaces other (if b then one else f) ≡ replaces other f
    by-test true is =
        let here : f.ino ≡ other.ino = eqb-true f.ino one.ino is ∙ same in
        ap (λ b. if b then other else one) (eq-eqb one.ino other.ino same)
        ∙ sym (ap (λ b. if b then other else f) (eq-eqb f.ino other.ino here))
    by-test false is = refl

-- the event comes, of a job whose size word is set
ended-at : (x : World) (drive : Drive) (ino place : ℕ) (ok : Bool) (w : World) →
    AtEnd ino place x →
    IsShown (record (with_core ino (set_core (core_in x ino) place) x) { drive = drive }) →
    IsClosing (record x { drive = drive }) ino place ok w →
    may (core_in x ino) (events.Finish place (end_of ok)) ≡ true →
    IsShown (with_core ino (after (core_in x ino) (events.Finish place (end_of ok))) w)
ended-at x drive ino place ok w at shown closing allowed =
    subst (λ v. IsShown (with_core ino now v)) (sym closing.3)
    (subst (λ files. IsShown (record x {
      drive = with_words has.r closing.2 closing.1 drive;
      files = files;
    }))
    (ap (λ (g : File). map (replaces (record g { core = now })) (map (replaces sized_file) x.files))
    file_is
    ∙ replaced-twice sized_file (record sized_file { core = now }) x.files refl)
    (head-shown y ino place closing.2 now closing.1 sized_file found here
    (ends-long ok 0 0 seen closing.2 closing.4 (shown.even.regions has.r _ has.head.word.within))
    (λ up. subst (λ (g : File). Shows g.ino now
    (with_slots place (closing.2 ∷ map (region_at drive) has.tails) (devices_of_file drive g)))
    (sym file_is)
    (shows ok (sets ok 0 0 seen closing.2 has.head.word.word closing.4) (end_of ok) refl))
    (subst (λ c. NeedsLess c now) (sym (ap (λ (g : File). g.core) file_is))
    (unsized-less core now (size_for core place) []
    (less-after core (events.Finish place (end_of ok)) refl allowed))) shown))
  where
    core : Core
    core = core_in x ino

    now : Core
    now = after core (events.Finish place (end_of ok))

    known : IsOut x ino place
    known = out-known x ino place at

    well : EndsWell core place
    well = ends-well core place ok allowed

    has : HasHead (record x { drive = drive }) ino place
    has = closing.0

    seen : Seen WordStep
    seen = region_at drive has.r

    sized_file : File
    sized_file = record (file_in x ino) { core = set_core core place }

    y : World
    y = record (with_core ino (set_core core place) x) { drive = drive }

    found : find_file y ino ≡ Some sized_file
    found = find-replaced sized_file ino x.files known.file
        (number-of x ino known.file known.found) known.found

    file_is : file_in y ino ≡ sized_file
    file_is = ap (λ o. unwrap_or o (new_file 0 0)) found

    here : HasHead y ino place
    here = record {
      r = has.r;
      tails = has.tails;
      head = subst (λ (g : File). IsHead drive g place has.r has.tails) (sym file_is)
          (record {
            here = has.head.here;
            word = has.head.word;
            high = has.head.high;
            single = has.head.single;
            other = has.head.other;
            size = has.head.size;
          });
      number = ap (λ (g : File). head_of (held_at g place)) file_is ∙ has.number;
    }

    devices : media.World
    devices = devices_of_file drive (file_in x ino)

    before : Shows (file_in x ino).ino
        (after core (events.Finish place (sized_end (track core.tracks place).gate))) devices
    before =
        backs-show (file_in x ino).ino place (track core.tracks place).gate true
        (set_core core place) devices
        (found-in (IsFileShown drive) y ino sized_file found shown.files at.work.goes_on)
        (may-come-back core place well) refl

    unsure : may core (events.Finish place (sized_end Unsure)) ≡ true
    unsure = may-size core place Unsure well refl

    shows : (kept : Bool) → Sets kept 0 0 seen closing.2 → (e : End) → end_of kept ≡ e →
        Shows (file_in x ino).ino (after core (events.Finish place e))
        (with_slots place (closing.2 ∷ map (region_at drive) has.tails) devices)
    shows true set e is =
        subst (λ end. Shows (file_in x ino).ino (after core (events.Finish place end))
        (with_slots place (closing.2 ∷ map (region_at drive) has.tails) devices)) is
        (retires-show (file_in x ino).ino (length core.log + 2) place
        (track core.tracks place).gate core devices seen closing.2
        (map (region_at drive) has.tails) true (Ok tt) [] set.0
        (good-kept _ (whole (reaching.comes core (events.Finish place (sized_end Unsure))
        (reached-of x ino at.work) unsure)).kept) before
        (may-size core place (track core.tracks place).gate well
        (keeps-own (track core.tracks place).gate)) known.beside (omega arith)
        (ap (map (region_at drive)) has.head.here) set.1).ok
    shows false set e is =
        subst (λ end. Shows (file_in x ino).ino (after core (events.Finish place end))
        (with_slots place (closing.2 ∷ map (region_at drive) has.tails) devices)) is
        (retires-show (file_in x ino).ino (length core.log + 2) place
        (track core.tracks place).gate core devices seen closing.2
        (map (region_at drive) has.tails) true (Err tt) [] set.0
        (good-kept _ (whole (reaching.comes core (events.Finish place (sized_end Unsure))
        (reached-of x ino at.work) unsure)).kept) before
        (may-size core place (track core.tracks place).gate well
        (keeps-own (track core.tracks place).gate)) known.beside (omega arith)
        (ap (map (region_at drive)) has.head.here) set.1).err

-- behind the event: the slots come back, or the entry waits again
abbrev IsEnded : ℕ → ℕ → Bool → World → Type 0
IsEnded ino place true w = IsComing w ino place
IsEnded ino place false w = IsShown w

end-came : (w v : World) (ino place : ℕ) (ok : Bool) → IsSized ino place w →
    IsClosing w ino place ok v → may (core_in v ino) (events.Finish place (end_of ok)) ≡ true →
    IsEnded ino place ok
    (with_core ino (after (core_in v ino) (events.Finish place (end_of ok))) v)
end-came w v ino place ok s closing may_be =
    subst (λ c. IsEnded ino place ok (with_core ino (after c (events.Finish place (end_of ok))) v))
    (sym same)
    (by-kept ok (subst (λ u. IsClosing u ino place ok v) s.is closing)
    (subst (λ c. may c (events.Finish place (end_of ok)) ≡ true) same may_be))
  where
    x : World
    x = s.x

    core : Core
    core = core_in x ino

    known : IsOut x ino place
    known = out-known x ino place s.at

    changed : Drive
    changed = with_words closing.0.r closing.2 closing.1 w.drive

    behind : v ≡ record x { drive = changed }
    behind = closing.3 ∙ ap (λ (u : World). record u { drive = changed }) s.is

    same : core_in v ino ≡ core
    same = ap (λ (u : World). core_in u ino) behind

    found : find_file v ino ≡ Some known.file
    found = ap (λ (u : World). find_file u ino) behind ∙ known.found

    by-kept : (kept : Bool) → IsClosing (record x { drive = s.drive }) ino place kept v →
        may core (events.Finish place (end_of kept)) ≡ true →
        IsEnded ino place kept
        (with_core ino (after core (events.Finish place (end_of kept))) v)
    by-kept true one allowed =
        let now : Core = after core (events.Finish place ends.Retired) in
        let given : core_in (with_core ino now v) ino ≡ now =
        core-given v ino now known.file found in
        let gone = retired-gone core place (track core.tracks place) known.some known.within
        known.beside in
        record {
          shown = ended-at x s.drive ino place true v s.at s.shown one allowed;
          good = subst IsGood (sym given)
              (good-kept now (whole (reaching.comes core (events.Finish place ends.Retired)
              (reached-of x ino s.at.work) allowed)).kept);
          gone = subst (λ c. IsGone c place) (sym given)
              (record { closed = gone.closed; needless = gone.needless; beside = gone.beside });
        }
    by-kept false one allowed = ended-at x s.drive ino place false v s.at s.shown one allowed

sized-head : (ino place : ℕ) (w : World) → IsSized ino place w → HasHead w ino place
sized-head ino place w s =
    subst (λ u. HasHead u ino place) (sym s.is)
    (let has = (out-known s.x ino place s.at).has in
    record {
      r = has.r;
      tails = has.tails;
      head = record {
        here = has.head.here;
        word = s.words has.r has.head.word;
        high = has.head.high;
        single = has.head.single;
        other = has.head.other;
        size = has.head.size;
      };
      number = has.number;
    })

close-shown : (ino place : ℕ) (ok : Bool) →
    Leaves (λ v. (w : World) × IsSized ino place w × IsClosing w ino place ok v) (λ u. IsShown)
    IsShown (close_or_apply ok ino place)
close-shown ino place true =
    leave-then {Q = λ u w. IsComing w ino place}
    (leave-event (λ v holds may_be. end-came holds.0 v ino place true holds.1 holds.2 may_be))
    (λ u. leave-changes (λ w coming. back-shown w ino place coming))
close-shown ino place false =
    leave-then {Q = λ u. IsShown}
    (leave-event (λ v holds may_be. end-came holds.0 v ino place false holds.1 holds.2 may_be))
    (λ u. leave-end (λ w shown. shown))

retire-shown : (ino place : ℕ) → Leaves (AtEnd ino place) (λ u. IsShown) IsShown (retire ino place)
retire-shown ino place =
    leave-look (λ x.
    leave-then {Q = λ u. IsSized ino place}
    (sizing x (is_size_right (core_in x ino) (size_for (core_in x ino) place)) refl) (λ u.
    leave-then {Q = λ ok v. (w : World) × IsSized ino place w × IsClosing w ino place ok v}
    (leave-close (IsSized ino place) IsShown ino place (sized-head ino place))
    (close-shown ino place)))
  where
    sizing : (x : World) (right : Bool) →
        is_size_right (core_in x ino) (size_for (core_in x ino) place) ≡ right →
        Leaves (λ w. (w ≡ x) × AtEnd ino place w) (λ u. IsSized ino place) IsShown
        (when (not right)
        (set_size ino place (file_in x ino).rec (size_for (core_in x ino) place)))
    sizing x true is =
        leave-give (λ w holds.
        subst (IsSized ino place) (sym holds.0)
        (right-sized x ino place (subst (AtEnd ino place) holds.0 holds.1) is))
    sizing x false is = size-set x ino place

finished-with : (ino place : ℕ) (more : Bool) →
    Leaves (AtEnd ino place) (λ m. IsShown) IsShown (finish_with more ino place)
finished-with ino place true =
    leave-then {Q = λ u. IsShown}
    (leave-event (λ w at may_be.
    event-shown w ino (events.Finish place ends.More) may_be refl
    (λ i core devices shows allowed.
    quiet-events-show i core (events.Finish place ends.More) devices shows refl allowed)
    at.work.shown)) (λ u. leave-give (λ w shown. shown))
finished-with ino place false =
    leave-then {Q = λ u. IsShown} (retire-shown ino place) (λ u. leave-give (λ w shown. shown))

pub finish-shown : (ino place : ℕ) → Leaves (AtEnd ino place) (λ m. IsShown) IsShown
    (finish ino place)
finish-shown ino place =
    leave-look (λ x.
    leave-weaker {P = AtEnd ino place} (λ w holds. holds.1) (λ m w q. q) (λ w e. e)
    (finished-with ino place
    (has_more (core_in x ino) (track (core_in x ino).tracks place))))

-- a job that is given up as it was
pub put-back-shown : (ino place : ℕ) →
    Leaves IsShown (λ u. IsShown) IsShown (back ino place sizes.AsBefore)
put-back-shown ino place =
    leave-look (λ y.
    leave-event (λ w holds may_be.
    subst (λ v. may (core_in w ino) (finishing v) ≡ true →
    IsShown (with_core ino (after (core_in w ino) (finishing v)) w)) holds.0
    (λ allowed. comes w holds.1 allowed) may_be))
  where
    finishing : World → Event
    finishing v = events.Finish place (ends.Back sizes.AsBefore
        (track (core_in v ino).tracks place).gate (track (core_in v ino).tracks place).applied)

    comes : (w : World) → IsShown w → may (core_in w ino) (finishing w) ≡ true →
        IsShown (with_core ino (after (core_in w ino) (finishing w)) w)
    comes w shown allowed =
        file-shown w ino (record (file_in w ino) { core = after (core_in w ino) (finishing w) })
        (still-within (after (core_in w ino) (finishing w)) (file_in w ino).passed (file_in w ino))
        (λ old up. backs-show (file_in w ino).ino place
        (track (core_in w ino).tracks place).gate (track (core_in w ino).tracks place).applied
        (core_in w ino) (devices_of_file w.drive (file_in w ino)) (old up) allowed refl)
        (λ old up. less-equipped (file_in w ino) (after (core_in w ino) (finishing w))
        (less-after (core_in w ino) (finishing w) refl allowed) (old up)) shown
