-- What an event that leaves the log, or the medium, as it is keeps of the medium's part of the
-- invariant.
use Rattle.std.proofs.Common.{◌≡◌, ◌⊎◌, inl, inr, ℕ, ◌-◌, ◌<◌, ◌==◌, Bool, true, false, ◌||◌, None, List, length, get_or, set, arith, refl, sym, ap, ◌∙◌, subst, nat_lt}
use Rattle.std.specs.List.{list_all, slice_get}
use Rattle.std.proofs.lemmas.Bool.{cases_lt}
use Rattle.std.proofs.lemmas.Bool.Decides.{nat_tests}
use Rattle.std.proofs.lemmas.List.{get_or_past}
use Rattle.cfs_file.specs.declared.entry.Entry.{Entry}
use Rattle.cfs_file.specs.declared.span.Span.{Span}
use Rattle.cfs_file.specs.Span.{Holds}
use Rattle.cfs_core.specs.declared.state.State.{State}
use Rattle.cfs_core.specs.declared.state.State.TheVariants.{Closed}
use Rattle.cfs_core.specs.declared.track.Track.{Track}
use Rattle.cfs_core.specs.declared.inode_core.Core.{Core}
use Rattle.cfs_core.specs.Words.{blank, is_live, is_unserved, track}
use Rattle.cfs_core.specs.Medium.{file, is_size, rests}
use Rattle.cfs_core.specs.After.{with_track}
use Rattle.cfs_core.proofs.Kept.{Alters, IsChange, IsFree, IsLive, IsStored, IsUnserved, IsView, at, byte_of, decides, file_at, is_changing, is_short}
use Rattle.cfs_core.proofs.Apart.{seen}
use Rattle.cfs_core.proofs.Legal.{same_number}
use Rattle.cfs_core.proofs.Order.{track_is}

pub same_test : (a b : ℕ) → a ≡ b → (a == b) ≡ true
same_test a b h = grind (arith, nat_tests)

pub no_clash : (b : Bool) → b ≡ true → b ≡ false → ⊥
no_clash b on off = cc

pub or_cases : (a b : Bool) → (a || b) ≡ true → (a ≡ true) ⊎ (b ≡ true)
or_cases true b h = inl refl
or_cases false b h = inr h

pub now_size : (core : Core) → is_size core core.size ≡ true
now_size core =
    let own : (core.size == core.size) ≡ true = same_test core.size core.size refl in rw own refl

-- the only size there is
pub only_size : (s n : ℕ) → ((s == n) || false) ≡ true → s ≡ n
only_size s n h =
    elim (or_cases (s == n) false h) [ inl same ↦ same_number s n same | inr none ↦ cc ]

pub in_tracks : (test : State → Bool) (tracks : List Track) (k : ℕ) → test Closed ≡ false →
    test (get_or tracks k blank).state ≡ true → k < length tracks
in_tracks test tracks k closed h = elim (cases_lt k (length tracks)) [
  | inl within ↦ within
  | inr past ↦
      let none : get_or tracks k blank ≡ blank = get_or_past tracks k blank past in
      let own : test Closed ≡ true = rw none at h in
      absurd (no_clash (test Closed) own closed)
]

-- ---- what the medium keeps where each view of the new core stands for one of the old

pub record Follows (old new : Core) : Type 0 where
  -- where the new core has a free position, the old one has it free too, with the same byte
  pub views : (v p : ℕ) → IsView new v p → IsFree new v p →
      (w : ℕ) × IsView old w p × IsFree old w p
      × (get_or (file_at new v) p 0 ≡ get_or (file_at old w) p 0)
  -- what rests there goes on to rest
  pub rested : (w p : ℕ) → IsView old w p → IsFree old w p →
      rests old p (get_or (file_at old w) p 0) ≡ true →
      rests new p (get_or (file_at old w) p 0) ≡ true
  pub sizes : (s : ℕ) → is_size new s ≡ true → is_size old s ≡ true
  pub long : (p : ℕ) → ((i : ℕ) → IsLive new i → decides p (at new i).span ≡ None) →
      ((i : ℕ) → IsLive old i → decides p (at old i).span ≡ None)
      × (nat_lt p (length (file new)) ≡ nat_lt p (length (file old)))
  -- what is applied was applied, and its bytes go on to rest
  pub applied : (k : ℕ) → IsLive new k → (at new k).applied ≡ true →
      IsLive old k × ((at old k).applied ≡ true) × ((at new k).span ≡ (at old k).span)
      × (slice_get new.log k ≡ slice_get old.log k)
  pub rested_applied : (k p : ℕ) → IsLive old k → (at old k).applied ≡ true → Alters old k p →
      rests old p (byte_of old k p) ≡ true → rests new p (byte_of old k p) ≡ true

pub stored-follows : (old new : Core) → Follows old new → list_all is_short new.loose ≡ true →
    IsStored old → IsStored new
stored-follows old new f short stored = record {
  short = short;
  rests_free = λ v p view free.
      let w = f.views v p view free in
      rw w.3 (f.rested w.0 p w.1 w.2 (stored.rests_free w.0 p w.1 w.2));
  zero_past = λ v s p view is past free.
      let w = f.views v p view free in
      w.3 ∙ stored.zero_past w.0 s p w.1 (f.sizes s is) past w.2;
  long = λ s p is none.
      let was = f.long p none in
      stored.long s p (f.sizes s is) was.0 ∙ sym was.1;
  applied_rests = λ k p live applied alters.
      let was = f.applied k live applied in
      let change : IsChange old k = rw was.3 at alters.0 in
      let holds : Holds (at old k).span p = subst (λ (s : Span). Holds s p) was.2 alters.1 in
      let byte : byte_of new k p ≡ byte_of old k p = rw (was.3, was.2) refl in
      rw byte (f.rested_applied k p was.0 was.1 (change, holds)
      (stored.applied_rests k p was.0 was.1 (change, holds)));
  applied_size = λ k s live applied is.
      let was = f.applied k live applied in
      rw was.2 (stored.applied_size k s was.0 was.1 (f.sizes s is));
}

-- ---- the log as before, and no entry live or unserved that was not

pub record IsStill (old new : Core) : Type 0 where
  pub base : new.base ≡ old.base
  pub log : new.log ≡ old.log
  pub spans : (k : ℕ) → (at new k).span ≡ (at old k).span
  pub unserved : (k : ℕ) → IsUnserved new k → IsUnserved old k
  pub lives : (k : ℕ) → IsLive new k → IsLive old k

pub still_view : (old new : Core) → IsStill old new → (v p : ℕ) → IsView new v p → IsView old v p
still_view old new still v p (inl end) = inl (end ∙ ap (λ (l : List Entry). length l) still.log)
still_view old new still v p (inr read) =
    inr (still.unserved v read.0, subst (λ (s : Span). Holds s p) (still.spans v) read.1)

pub still_alters : (old new : Core) → IsStill old new → (k p : ℕ) → Alters new k p → Alters old k p
still_alters old new still k p alters = (
  subst (λ (l : List Entry). is_changing (slice_get l k) ≡ true) still.log alters.0,
  subst
      (λ (s : Span). Holds s p) (still.spans k) alters.1,
)

pub still_altered : (old new : Core) → IsStill old new → (k p : ℕ) → Alters old k p → Alters new k p
still_altered old new still k p alters = (
  subst (λ (l : List Entry). is_changing (slice_get l k) ≡ true) (sym still.log) alters.0,
  subst
      (λ (s : Span). Holds s p) (sym (still.spans k)) alters.1,
)

pub still_file_at : (old new : Core) → IsStill old new → (v : ℕ) → file_at new v ≡ file_at old v
still_file_at old new still v = rw (still.base, still.log) refl

pub still_file : (old new : Core) → IsStill old new → file new ≡ file old
still_file old new still = rw (still.base, still.log) refl

pub still_byte : (old new : Core) → IsStill old new → (k p : ℕ) → byte_of new k p ≡ byte_of old k p
still_byte old new still k p = rw (still.log, still.spans k) refl

-- the entries are live as before
abbrev pub StayLive : Core → Core → Type 0
StayLive old new = (k : ℕ) → IsLive old k → IsLive new k

pub still_free : (old new : Core) → IsStill old new → StayLive old new → (v p : ℕ) →
    IsFree new v p → IsFree old v p
still_free old new still stay v p free i less live alters =
    free i less (stay i live) (still_altered old new still i p alters)

pub still_none : (old new : Core) → IsStill old new → StayLive old new → (p : ℕ) →
    ((i : ℕ) → IsLive new i → decides p (at new i).span ≡ None) → (i : ℕ) → IsLive old i →
    decides p (at old i).span ≡ None
still_none old new still stay p none i live = rw (still.spans i) at (none i (stay i live))

-- a track that is live or unserved only where it was
pub record IsTamer (t was : Track) : Type 0 where
  pub span : t.span ≡ was.span
  pub unserved : is_unserved t.state ≡ true → is_unserved was.state ≡ true
  pub lives : is_live t.state ≡ true → is_live was.state ≡ true

pub tamer_same : (t : Track) → IsTamer t t
tamer_same t = record { span = refl; unserved = λ h. h; lives = λ h. h }

pub tamer_still : (old new : Core) → new.base ≡ old.base → new.log ≡ old.log →
    ((k : ℕ) → IsTamer (at new k) (at old k)) → IsStill old new
tamer_still old new base log tamer = record {
  base = base;
  log = log;
  spans = λ k. (tamer k).span;
  unserved = λ k. (tamer k).unserved;
  lives = λ k. (tamer k).lives;
}

-- ---- a track, and what it was

pub record IsQuiet (t was : Track) : Type 0 where
  pub span : t.span ≡ was.span
  pub unserved : is_unserved t.state ≡ true → is_unserved was.state ≡ true
  pub live : is_live t.state ≡ is_live was.state
  pub applied : t.applied ≡ was.applied

pub quiet_same : (t : Track) → IsQuiet t t
quiet_same t = record { span = refl; unserved = λ h. h; live = refl; applied = refl }

-- what holds of each track and what it was, once a track is put
pub at_put : (P : Track → Track → Type 0) (tracks : List Track) (place : ℕ) (t : Track) →
    (place ≡ 0 → ⊥) → ((u : Track) → P u u) → P t (track tracks place) →
    (k : ℕ) → P (get_or (set tracks (place - 1) t) k blank) (get_or tracks k blank)
at_put P tracks place t some same here k = elim (seen tracks place t k) [
  | inl own ↦
      let was : track tracks place ≡ get_or tracks k blank = track_is tracks place k some own.0 in
      subst (λ (x : Track). P x (get_or tracks k blank)) (sym own.1)
      (subst (λ (x : Track). P t x) was here)
  | inr other ↦
      subst (λ (x : Track). P x (get_or tracks k blank)) (sym other) (same (get_or tracks k blank))
]

abbrev pub AreQuiet : Core → Core → Type 0
AreQuiet old new = (k : ℕ) → IsQuiet (at new k) (at old k)

pub quiet_put : (core : Core) (place : ℕ) (t : Track) → (place ≡ 0 → ⊥) →
    IsQuiet t (track core.tracks place) → AreQuiet core (with_track core place t)
quiet_put core place t some quiet = at_put IsQuiet core.tracks place t some quiet_same quiet

pub quiet_still : (old new : Core) → new.base ≡ old.base → new.log ≡ old.log → AreQuiet old new →
    IsStill old new
quiet_still old new base log quiet =
    tamer_still old new base log (λ k.
    record {
      span = (quiet k).span;
      unserved = (quiet k).unserved;
      lives = λ live. sym (quiet k).live ∙ live;
    })

-- what the medium keeps where the tracks are quiet
pub record RestsOn (old new : Core) : Type 0 where
  pub free : (w p : ℕ) → IsView old w p → IsFree old w p →
      rests old p (get_or (file_at old w) p 0) ≡ true →
      rests new p (get_or (file_at old w) p 0) ≡ true
  pub sizes : (s : ℕ) → is_size new s ≡ true → is_size old s ≡ true
  pub applied : (k p : ℕ) → IsLive old k → (at old k).applied ≡ true → Alters old k p →
      rests old p (byte_of old k p) ≡ true → rests new p (byte_of old k p) ≡ true

pub quiet_follows : (old new : Core) → new.base ≡ old.base → new.log ≡ old.log → AreQuiet old new →
    RestsOn old new → Follows old new
quiet_follows old new base log quiet keeps =
    let still = quiet_still old new base log quiet in
    let stay : StayLive old new = λ k live. (quiet k).live ∙ live in
    record {
      views = λ v p view free. (
        v,
        still_view old new still v p view,
        still_free old new still stay v p free,
        ap
            (λ (l : List ℕ). get_or l p 0) (still_file_at old new still v),
      );
      rested = keeps.free;
      sizes = keeps.sizes;
      long = λ p none. (
        still_none old new still stay p none,
        ap (λ (l : List ℕ). nat_lt p (length l))
            (still_file old new still),
      );
      applied =
          λ k live applied. (
            still.lives k live,
            sym (quiet k).applied
                ∙ applied,
            (quiet k).span,
            ap (λ (l : List Entry). slice_get l k) log,
          );
      rested_applied = keeps.applied;
    }

-- a track that is quiet, and the same medium
pub stored_put : (core : Core) (place : ℕ) (t : Track) → (place ≡ 0 → ⊥) →
    IsQuiet t (track core.tracks place) → IsStored core → IsStored (with_track core place t)
stored_put core place t some quiet stored =
    stored-follows core (with_track core place t)
    (quiet_follows core (with_track core place t) refl refl (quiet_put core place t some quiet)
    (record {
      free = λ w p view free is. is;
      sizes = λ s is. is;
      applied = λ k p live applied alters is. is;
    }))
    stored.short stored
