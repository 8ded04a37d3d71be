-- What keeps the log's part of the invariant: tracks that follow the old ones, a medium that keeps
-- the blocks, and a track that is put in place of another.
use Rattle.std.proofs.Common.{◌≡◌, ◌⊎◌, inl, inr, ℕ, ◌-◌, ◌<◌, Bool, true, false, Option, Some, List, get_or, set, arith, refl}
use Rattle.std.proofs.lemmas.Bool.{cases_lt}
use Rattle.cfs_file.specs.Span.{meets, reaches_over}
use Rattle.cfs_core.specs.declared.flag.Flag.{Flag}
use Rattle.cfs_core.specs.declared.stretch.Stretch.{Stretch}
use Rattle.cfs_core.specs.declared.track.Track.{Track}
use Rattle.cfs_core.specs.declared.doubt.Doubt.{Doubt}
use Rattle.cfs_core.specs.declared.inode_core.Core.{Core}
use Rattle.cfs_core.specs.Words.{blank, has_block, is_live, is_off, is_unserved, track}
use Rattle.cfs_core.specs.May.{is_mapped}
use Rattle.cfs_core.specs.After.{with_track}
use Rattle.cfs_core.proofs.Order.{same_or_not, track_is}
use Rattle.cfs_core.proofs.Apart.{is_busy, seen}
use Rattle.cfs_core.proofs.Kept.{Alters, IsChange, IsDoubtful, IsLast, IsLive, IsLogged, IsUnserved, IsView, at}

-- no unserved read before the entry overlaps it
abbrev pub IsClear : Core → ℕ → Type 0
IsClear core k = (v : ℕ) → v < k → IsUnserved core v →
    meets (at core v).span (at core k).span ≡ false

-- a later change has all positions of the entry
abbrev pub IsCovered : Core → ℕ → Type 0
IsCovered core k =
    (by : ℕ) × ((k < by)
    × (IsChange core by × (reaches_over (at core by).span (at core k).span ≡ true)))

-- where the entry is the last before a view that has a position, no earlier live entry has it
abbrev pub IsAlone : Core → ℕ → Type 0
IsAlone core k = (v i p : ℕ) → IsView core v p → IsLast core v p k → i < k → IsLive core i →
    Alters core i p → ⊥

-- What other tracks keep of those of a core.
pub record TracksFollow (core : Core) (tracks : List Track) : Type 0 where
  pub span : (k : ℕ) → (get_or tracks k blank).span ≡ (at core k).span
  pub live : (k : ℕ) → is_live (get_or tracks k blank).state ≡ true → IsLive core k
  pub asks : (k : ℕ) → is_unserved (get_or tracks k blank).state ≡ true → IsUnserved core k
  pub busy : (k : ℕ) → is_busy (get_or tracks k blank) ≡ true →
      (is_busy (at core k) ≡ true) ⊎ (IsLive core k × IsClear core k)
  pub idle : (k block : ℕ) → (get_or tracks k blank).applied ≡ true →
      has_block (get_or tracks k blank).state block ≡ false
  pub mark : (k : ℕ) → is_off (get_or tracks k blank).mark ≡ false → IsCovered core k
  pub falls : (k : ℕ) → IsLive core k →
      (is_live (get_or tracks k blank).state ≡ true) ⊎ IsAlone core k

pub logged_follows : (core : Core) (tracks : List Track) → IsLogged core →
    TracksFollow core tracks → IsLogged (record core { tracks = tracks })
logged_follows core tracks logged follows = record {
  kinds = logged.kinds;
  spans = λ k entry is. rw (follows.span k) (logged.spans k entry is);
  live_changes = λ k live. logged.live_changes k (follows.live k live);
  busy_changes = λ k busy. elim (follows.busy k busy) [
    | inl was ↦ logged.busy_changes k was
    | inr taken ↦ logged.live_changes k taken.0
  ];
  queries = λ k asks. logged.queries k (follows.asks k asks);
  idle = follows.idle;
  mapped = λ k live. rw (follows.span k) (logged.mapped k (follows.live k live));
  covered = λ k off.
      let by = follows.mark k off in
      (by.0, (by.1.0, (by.1.1.0, rw (follows.span by.0, follows.span k) by.1.1.1)));
  order = λ v i p view less live alters.
      order v i p (old_view v p view) less live (old_alters i p alters);
  clear = λ v k less asks busy. rw (follows.span v, follows.span k) (elim (follows.busy k busy) [
    | inl was ↦ logged.clear v k less (follows.asks v asks) was
    | inr taken ↦ taken.1 v less (follows.asks v asks)
  ]);
  doubtful = λ doubt is.
      let d = logged.doubtful doubt is in
      record { change = d.change; span_is = d.span_is; mapped = d.mapped; fits = d.fits };
}
  where
    old_view : (v p : ℕ) → IsView (record core { tracks = tracks }) v p → IsView core v p
    old_view v p view = elim view [
      | inl end ↦ inl end
      | inr asked ↦ inr (follows.asks v asked.0, rw (follows.span v) at asked.1)
    ]

    old_alters : (k p : ℕ) → Alters (record core { tracks = tracks }) k p → Alters core k p
    old_alters k p alters = (alters.0, rw (follows.span k) at alters.1)

    last : (v p m : ℕ) → IsLast core v p m → IsLast (record core { tracks = tracks }) v p m
    last v p m is = (
      is.0,
      (is.1.0, rw (follows.span m) is.1.1),
      λ j later before alters.
          is.2 j later before (old_alters j p alters),
    )

    order : (v i p : ℕ) → IsView core v p → i < v → is_live (get_or tracks i blank).state ≡ true →
        Alters core i p →
        (m : ℕ) × (IsLive (record core { tracks = tracks }) m
        × IsLast (record core { tracks = tracks }) v p m)
    order v i p view less live alters =
        let found = logged.order v i p view less (follows.live i live) alters in
        elim (follows.falls found.0 found.1.0) [
          | inl still ↦ (found.0, (still, last v p found.0 found.1.1))
          | inr alone ↦ elim (same_or_not found.0 i) [
            | inl same ↦ (found.0, (rw same live, last v p found.0 found.1.1))
            | inr other ↦ elim (cases_lt found.0 i) [
              | inl later ↦ absurd (found.1.1.2 i later less alters)
              | inr up ↦
                  absurd (alone v i p view found.1.1 (omega arith) (follows.live i live) alters)
            ]
          ]
        ]

-- the log and the tracks stay, and the blocks of what is live or in doubt stay mapped
pub logged_beside : (core : Core) (doubt : Option Doubt) (size : ℕ) (sizes : List ℕ)
    (tags : List Flag) (bytes : List ℕ) (loose : List Stretch) (crashed : Bool) →
    IsLogged core → ((k : ℕ) → IsLive core k → is_mapped tags (at core k).span ≡ true) →
    ((d : Doubt) → doubt ≡ Some d → IsDoubtful (record core { tags = tags }) d) →
    IsLogged (record core {
      doubt = doubt;
      size = size;
      sizes = sizes;
      tags = tags;
      bytes = bytes;
      loose = loose;
      crashed = crashed;
    })
logged_beside core doubt size sizes tags bytes loose crashed logged mapped doubtful = record {
  kinds = logged.kinds;
  spans = logged.spans;
  live_changes = logged.live_changes;
  busy_changes = logged.busy_changes;
  queries = logged.queries;
  idle = logged.idle;
  mapped = mapped;
  covered = logged.covered;
  order = logged.order;
  clear = logged.clear;
  doubtful = λ d is.
      let old = doubtful d is in
      record { change = old.change; span_is = old.span_is; mapped = old.mapped; fits = old.fits };
}

-- the same, where tags and doubt stay
pub logged_medium : (core : Core) (size : ℕ) (sizes bytes : List ℕ) (loose : List Stretch) →
    IsLogged core →
    IsLogged (record core { size = size; sizes = sizes; bytes = bytes; loose = loose })
logged_medium core size sizes bytes loose logged =
    logged_beside core core.doubt size sizes core.tags bytes loose core.crashed logged logged.mapped
    logged.doubtful

-- What a track that is put keeps of the one that stood there.
pub record Replaces (core : Core) (place : ℕ) (t : Track) : Type 0 where
  pub some : place ≡ 0 → ⊥
  pub span : t.span ≡ (track core.tracks place).span
  pub live : is_live t.state ≡ true → is_live (track core.tracks place).state ≡ true
  pub asks : is_unserved t.state ≡ true → is_unserved (track core.tracks place).state ≡ true
  pub busy : is_busy t ≡ true →
      (is_busy (track core.tracks place) ≡ true)
      ⊎ ((is_live (track core.tracks place).state ≡ true) × IsClear core (place - 1))
  pub idle : (block : ℕ) → t.applied ≡ true → has_block t.state block ≡ false
  pub mark : is_off t.mark ≡ false → IsCovered core (place - 1)
  pub falls : is_live (track core.tracks place).state ≡ true →
      (is_live t.state ≡ true) ⊎ IsAlone core (place - 1)

follows_put : (core : Core) (place : ℕ) (t : Track) → IsLogged core → Replaces core place t →
    TracksFollow core (set core.tracks (place - 1) t)
follows_put core place t logged put = record {
  span = λ k. elim (seen core.tracks place t k) [
    | inl here ↦ let was = old k here.0 in rw (here.1, put.span, was) refl
    | inr other ↦ rw other refl
  ];
  live = λ k live. elim (seen core.tracks place t k) [
    | inl here ↦ let was = old k here.0 in rw was at (put.live (rw here.1 at live))
    | inr other ↦ rw other at live
  ];
  asks = λ k asks. elim (seen core.tracks place t k) [
    | inl here ↦ let was = old k here.0 in rw was at (put.asks (rw here.1 at asks))
    | inr other ↦ rw other at asks
  ];
  busy = λ k busy. elim (seen core.tracks place t k) [
    | inl here ↦
        let was = old k here.0 in
        elim (put.busy (rw here.1 at busy)) [
          | inl is ↦ inl (rw was at is)
          | inr taken ↦ inr (rw was at taken.0, rw here.0 taken.1)
        ]
    | inr other ↦ inl (rw other at busy)
  ];
  idle = λ k block applied. elim (seen core.tracks place t k) [
    | inl here ↦ rw here.1 (put.idle block (rw here.1 at applied))
    | inr other ↦ rw other (logged.idle k block (rw other at applied))
  ];
  mark = λ k off. elim (seen core.tracks place t k) [
    | inl here ↦ rw here.0 (put.mark (rw here.1 at off))
    | inr other ↦ logged.covered k (rw other at off)
  ];
  falls = λ k live. elim (seen core.tracks place t k) [
    | inl here ↦
        let was = old k here.0 in
        elim (put.falls (rw was live)) [
          | inl still ↦ inl (rw here.1 still)
          | inr alone ↦ inr (rw here.0 alone)
        ]
    | inr other ↦ inl (rw other live)
  ];
}
  where
    old : (k : ℕ) → k ≡ place - 1 → track core.tracks place ≡ get_or core.tracks k blank
    old k same = track_is core.tracks place k put.some same

pub logged_put : (core : Core) (place : ℕ) (t : Track) → IsLogged core → Replaces core place t →
    IsLogged (with_track core place t)
logged_put core place t logged put =
    logged_follows core (set core.tracks (place - 1) t) logged (follows_put core place t logged put)
