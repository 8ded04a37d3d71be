-- A core whose entries all wait, each a change as its slot holds it, keeps the invariant.
use Rattle.std.proofs.Common.{◌≡◌, ◌⊎◌, inl, inr, ℕ, suc, zero, ◌+◌, ◌<◌, ◌==◌, true, false, ◌||◌, None, Some, List, [], ◌∷◌, ◌++◌, length, take, get_or, arith, refl, sym, ap, ◌∙◌, subst}
use Rattle.std.specs.List.{slice_get}
use Rattle.std.proofs.lemmas.Bool.{cases_lt}
use Rattle.std.proofs.lemmas.List.{get_or_past}
use Rattle.std.proofs.lemmas.Option.{slice_get_within}
use Rattle.cfs_file.specs.declared.entry.Entry.{Entry}
use Rattle.cfs_file.specs.declared.span.Span.{Span}
use Rattle.cfs_file.specs.File.{IsFile, effect}
use Rattle.cfs_file.specs.Log.{file_of}
use Rattle.cfs_file.specs.Span.{Holds, span}
use Rattle.cfs_file.specs.declared.sizes.TheConstants.{FILE_BLOCKS}
use Rattle.cfs_core.specs.declared.flag.Flag.{Flag}
use Rattle.cfs_core.specs.declared.track.Track.{Track}
use Rattle.cfs_core.specs.declared.inode_core.Core.{Core}
use Rattle.cfs_core.specs.Words.{blank, is_live, is_off, is_unserved}
use Rattle.cfs_core.specs.Medium.{file, is_size, rests}
use Rattle.cfs_core.specs.May.{is_change, is_mapped}
use Rattle.cfs_core.specs.After.{change_track}
use Rattle.cfs_core.specs.Opened.{numbered}
use Rattle.cfs_core.proofs.Alive.{is_sound}
use Rattle.cfs_core.proofs.Apart.{is_busy}
use Rattle.cfs_core.proofs.Kept.{IsChange, IsFree, IsKept, IsLive, IsLogged, IsStored, IsView, at, file_at}
use Rattle.cfs_core.proofs.Order.{IsOrdered, Places}
use Rattle.cfs_core.proofs.Registers.{change-within, file_at-all, file_at-none, find-last, longer-none}
use Rattle.cfs_core.proofs.SizesFit.{FitsFile, change-fits}
use Rattle.cfs_core.proofs.StoredFrames.{no_clash, only_size}

-- ---- entries

-- It is a change whose span is the same on every file; it waits with its gate open, and its blocks
-- are tagged.
pub record IsOpening (tags : List Flag) (entry : Entry) (t : Track) : Type 0 where
  pub change : is_change entry.request ≡ true
  pub span_is : (size : ℕ) → t.span ≡ span entry.request size
  pub mapped : is_mapped tags t.span ≡ true
  pub fits : FitsFile t.span
  pub waits : t ≡ change_track t.grant t.span

-- one track for each entry
abbrev pub AreOpenings : List Flag → List Entry → List Track → Type 0
AreOpenings tags [] [] = Unit {0}
AreOpenings tags [] (t ∷ ts) = ⊥
AreOpenings tags (e ∷ es) [] = ⊥
AreOpenings tags (e ∷ es) (t ∷ ts) = IsOpening tags e t × AreOpenings tags es ts

pub openings-append : (tags : List Flag) (es : List Entry) (ts : List Track) (others : List Entry)
    (other : List Track) →
    AreOpenings tags es ts → AreOpenings tags others other →
    AreOpenings tags (es ++ others) (ts ++ other)
openings-append tags [] [] others other all more = more
openings-append tags [] (t ∷ ts) others other all more = absurd all
openings-append tags (e ∷ es) [] others other all more = absurd all
openings-append tags (e ∷ es) (t ∷ ts) others other all more =
    (all.0, openings-append tags es ts others other all.1 more)

pub openings-numbered : (tags : List Flag) (n : ℕ) (es : List Entry) (ts : List Track) →
    AreOpenings tags es ts → AreOpenings tags (numbered n es) ts
openings-numbered tags n [] [] all = tt
openings-numbered tags n [] (t ∷ ts) all = absurd all
openings-numbered tags n (e ∷ es) [] all = absurd all
openings-numbered tags n (e ∷ es) (t ∷ ts) all =
    let first : IsOpening tags e t = all.0 in (
      record {
        change = first.change;
        span_is = first.span_is;
        mapped = first.mapped;
        fits = first.fits;
        waits = first.waits;
      },
      openings-numbered tags (n + 1) es ts all.1,
    )

openings-length : (tags : List Flag) (es : List Entry) (ts : List Track) → AreOpenings tags es ts →
    length ts ≡ length es
openings-length tags [] [] all = refl
openings-length tags [] (t ∷ ts) all = absurd all
openings-length tags (e ∷ es) [] all = absurd all
openings-length tags (e ∷ es) (t ∷ ts) all = ap suc (openings-length tags es ts all.1)

an-opening : (tags : List Flag) (es : List Entry) (ts : List Track) (k : ℕ) →
    AreOpenings tags es ts → k < length es →
    (entry : Entry) × ((slice_get es k ≡ Some entry) × IsOpening tags entry (get_or ts k blank))
an-opening tags [] ts k all within = absurd (omega arith)
an-opening tags (e ∷ es) [] k all within = absurd all
an-opening tags (e ∷ es) (t ∷ ts) zero all within = (e, (refl, all.0))
an-opening tags (e ∷ es) (t ∷ ts) (suc k) all within = an-opening tags es ts k all.1 (omega arith)

-- every file on the way is short enough
openings-fit : (tags : List Flag) (base : List ℕ) (es : List Entry) (ts : List Track) (k : ℕ) →
    AreOpenings tags es ts → IsFile base → IsFile (file_of base (take k es))
openings-fit tags base es ts zero all short = short
openings-fit tags base [] ts (suc k) all short = short
openings-fit tags base (e ∷ es) [] (suc k) all short = absurd all
openings-fit tags base (e ∷ es) (t ∷ ts) (suc k) all short =
    let first : IsOpening tags e t = all.0 in
    let fits : FitsFile (span e.request (length base)) =
    rw (first.span_is (length base)) at first.fits in
    openings-fit tags (effect base e.request) es ts k all.1
    (change-fits base e.request first.change short fits)

places-at : (n : ℕ) (es : List Entry) (k : ℕ) (e : Entry) → Places n es → slice_get es k ≡ Some e →
    e.place ≡ n + k
places-at n [] k e places is = cc
places-at n (x ∷ xs) zero e places is = let same : x ≡ e = cc in rw (sym same) (omega arith)
places-at n (x ∷ xs) (suc k) e places is = omega (arith, places-at (n + 1) xs k e places.1 is)

-- ---- tracks

-- nothing is done of it, and no mark was tried
record IsIdle (t : Track) : Type 0 where
  pub busy : is_busy t ≡ false
  pub unserved : is_unserved t.state ≡ false
  pub applied : t.applied ≡ false
  pub mark : is_off t.mark ≡ true
  pub sound : is_sound t ≡ true

change_idle : (grant : ℕ) (of : Span) → IsIdle (change_track grant of)
change_idle grant of =
    record { busy = refl; unserved = refl; applied = refl; mark = refl; sound = refl }

blank_idle : IsIdle blank
blank_idle = record { busy = refl; unserved = refl; applied = refl; mark = refl; sound = refl }

opening_live : (tags : List Flag) (e : Entry) (t : Track) → IsOpening tags e t →
    is_live t.state ≡ true
opening_live tags e t opening =
    subst (λ (x : Track). is_live x.state ≡ true) (sym opening.waits) refl

-- ---- the core

pub record IsWaitingCore (core : Core) : Type 0 where
  pub blocks : length core.tags ≡ FILE_BLOCKS
  pub places : Places 1 core.log
  pub openings : AreOpenings core.tags core.log core.tracks
  pub doubt : core.doubt ≡ None
  pub fits : IsFile core.base
  pub size : core.size ≡ length core.base
  pub sizes : core.sizes ≡ []
  pub loose : core.loose ≡ []
  -- where no entry has the position, the base's byte is stored
  pub rests_free : (p : ℕ) → ((k : ℕ) → Holds (at core k).span p → ⊥) →
      rests core p (get_or core.base p 0) ≡ true

abbrev Opening : Core → ℕ → Type 0
Opening core k =
    (entry : Entry) × ((slice_get core.log k ≡ Some entry) × IsOpening core.tags entry (at core k))

opening-or-blank : (core : Core) → IsWaitingCore core → (k : ℕ) →
    Opening core k ⊎ (at core k ≡ blank)
opening-or-blank core waiting k = elim (cases_lt k (length core.log)) [
  | inl within ↦ inl (an-opening core.tags core.log core.tracks k waiting.openings within)
  | inr past ↦
      inr (get_or_past core.tracks k blank
      (omega (arith, openings-length core.tags core.log core.tracks waiting.openings)))
]

idle : (core : Core) → IsWaitingCore core → (k : ℕ) → IsIdle (at core k)
idle core waiting k = elim (opening-or-blank core waiting k) [
  | inl some ↦
      subst (λ (t : Track). IsIdle t) (sym some.1.1.waits)
      (change_idle (at core k).grant (at core k).span)
  | inr none ↦ subst (λ (t : Track). IsIdle t) (sym none) blank_idle
]

live-opening : (core : Core) → IsWaitingCore core → (k : ℕ) → IsLive core k → Opening core k
live-opening core waiting k live = elim (opening-or-blank core waiting k) [
  | inl some ↦ some
  | inr none ↦ absurd (let own : is_live blank.state ≡ true = rw none at live in cc)
]

change-of : (core : Core) (k : ℕ) → Opening core k → IsChange core k
change-of core k some = rw some.1.0 some.1.1.change

change-live : (core : Core) → IsWaitingCore core → (k : ℕ) → IsChange core k → IsLive core k
change-live core waiting k change =
    let some =
    an-opening core.tags core.log core.tracks k waiting.openings
    (change-within core k change) in
    opening_live core.tags some.0 (at core k) some.1.1

-- the entry there
opening-is : (core : Core) → IsWaitingCore core → (k : ℕ) (entry : Entry) →
    slice_get core.log k ≡ Some entry → IsOpening core.tags entry (at core k)
opening-is core waiting k entry is =
    let some =
    an-opening core.tags core.log core.tracks k waiting.openings
    (slice_get_within core.log k entry is) in
    let there : slice_get core.log k ≡ Some some.0 = some.1.0 in
    let same : some.0 ≡ entry = cc in
    subst (λ (e : Entry). IsOpening core.tags e (at core k)) same some.1.1

view-end : (core : Core) → IsWaitingCore core → (v p : ℕ) → IsView core v p → v ≡ length core.log
view-end core waiting v p view = elim view [
  | inl end ↦ end
  | inr read ↦
      absurd (no_clash (is_unserved (at core v).state) read.0 (idle core waiting v).unserved)
]

waiting-ordered : (core : Core) → IsWaitingCore core → IsOrdered core
waiting-ordered core waiting = record {
  places = waiting.places;
  same = openings-length core.tags core.log core.tracks waiting.openings;
  behind = λ doubt k is past. absurd (let none : core.doubt ≡ None = waiting.doubt in cc);
}

waiting-logged : (core : Core) → IsWaitingCore core → IsLogged core
waiting-logged core waiting = record {
  kinds = λ k entry is. inl (opening-is core waiting k entry is).change;
  spans = λ k entry is. (opening-is core waiting k entry is).span_is (length (file_at core k));
  live_changes = λ k live. change-of core k (live-opening core waiting k live);
  busy_changes = λ k busy. absurd (no_clash (is_busy (at core k)) busy (idle core waiting k).busy);
  queries =
      λ k asks.
      absurd (no_clash (is_unserved (at core k).state) asks (idle core waiting k).unserved);
  idle = λ k block applied.
      absurd (no_clash (at core k).applied applied (idle core waiting k).applied);
  mapped = λ k live. (live-opening core waiting k live).1.1.mapped;
  covered = λ k off. absurd (no_clash (is_off (at core k).mark) (idle core waiting k).mark off);
  order = λ v i p view less live alters. elim (find-last core v p) [
    | inl last ↦ (last.0, (change-live core waiting last.0 last.1.1.0, last.1))
    | inr none ↦ absurd (none i less alters)
  ];
  clear = λ v k less asks busy.
      absurd (no_clash (is_busy (at core k)) busy (idle core waiting k).busy);
  doubtful = λ d is. absurd (let none : core.doubt ≡ None = waiting.doubt in cc);
}

size-is : (core : Core) → IsWaitingCore core → (s : ℕ) → is_size core s ≡ true →
    s ≡ length core.base
size-is core waiting s is =
    let own : ((s == core.size) || false) ≡ true = rw waiting.sizes at is in
    only_size s core.size own ∙ waiting.size

-- where no entry has the position
free-file : (core : Core) → IsWaitingCore core → (v p : ℕ) → IsView core v p → IsFree core v p →
    get_or (file_at core v) p 0 ≡ get_or core.base p 0
free-file core waiting v p view free =
    file_at-none core (waiting-logged core waiting) (waiting-ordered core waiting) v p
    (omega (arith, view-end core waiting v p view))
    (λ j less alters. free j less (change-live core waiting j alters.0) alters)

free-none : (core : Core) → IsWaitingCore core → (v p : ℕ) → IsView core v p → IsFree core v p →
    (k : ℕ) → Holds (at core k).span p → ⊥
free-none core waiting v p view free k holds = elim (opening-or-blank core waiting k) [
  | inl some ↦
      let change : IsChange core k = change-of core k some in
      free k (omega (arith, view-end core waiting v p view, change-within core k change))
      (change-live core waiting k change) (change, holds)
  | inr none ↦ rw none at holds
]

waiting-stored : (core : Core) → IsWaitingCore core → IsStored core
waiting-stored core waiting = record {
  short = rw waiting.loose refl;
  rests_free =
      λ v p view free.
      rw (free-file core waiting v p view free)
      (waiting.rests_free p (free-none core waiting v p view free));
  zero_past = λ v s p view is past free.
      free-file core waiting v p view free
      ∙ get_or_past core.base p 0 (omega (arith, size-is core waiting s is));
  long = λ s p is none.
      let file_long =
      longer-none core (waiting-logged core waiting) (waiting-ordered core waiting)
      (length core.log) p (omega arith)
      (λ j less change. none j (change-live core waiting j change)) in
      let all : file_at core (length core.log) ≡ file core = file_at-all core in
      rw (size-is core waiting s is, sym all) (sym file_long);
  applied_rests =
      λ k p live applied alters.
      absurd (no_clash (at core k).applied applied (idle core waiting k).applied);
  applied_size =
      λ k s live applied is.
      absurd (no_clash (at core k).applied applied (idle core waiting k).applied);
}

pub waiting-kept : (core : Core) → IsWaitingCore core → IsKept core
waiting-kept core waiting = record {
  legal = record {
    places = λ k e is. omega (arith, places-at 1 core.log k e waiting.places is);
    files = λ k within.
        openings-fit core.tags core.base core.log core.tracks k waiting.openings waiting.fits;
    answers = λ k e reply is given. cc;
  };
  blocks = waiting.blocks;
  ordered = waiting-ordered core waiting;
  sound = λ k. (idle core waiting k).sound;
  apart = λ i j less live busy.
      absurd (no_clash (is_busy (at core j)) busy (idle core waiting j).busy);
  logged = waiting-logged core waiting;
  stored_ = waiting-stored core waiting;
}
