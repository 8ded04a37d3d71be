-- An image of a core that keeps the invariant opens as a core that keeps it.
use Rattle.std.proofs.Common.{◌≡◌, ◌⊎◌, inl, inr, ℕ, suc, zero, ◌+◌, ◌/◌, ◌≤◌, ◌==◌, Bool, true, false, cond, Option, Some, None, List, [], ◌∷◌, ◌++◌, length, map, filter, get_or, arith, refl, sym, ◌∙◌, subst}
use Rattle.std.specs.List.{slice_get}
use Rattle.std.proofs.lemmas.Bool.{cases_lt}
use Rattle.std.proofs.lemmas.List.{length-map}
use Rattle.cfs_file.specs.declared.entry.Entry.{Entry}
use Rattle.cfs_file.specs.declared.request.Request.{Request}
use Rattle.cfs_file.specs.declared.request.Request.TheVariants as requests
use Rattle.cfs_file.specs.declared.span.Span.{Span}
use Rattle.cfs_file.specs.declared.span.Span.TheVariants.{Range}
use Rattle.cfs_file.specs.File.{effect}
use Rattle.cfs_file.specs.Log.{file_of}
use Rattle.cfs_file.specs.Span.{Holds, span}
use Rattle.cfs_file.specs.declared.sizes.TheConstants.{BLOCK_LEN}
use Rattle.cfs_core.specs.declared.flag.Flag.{Flag}
use Rattle.cfs_core.specs.declared.track.Track.{Track}
use Rattle.cfs_core.specs.declared.doubt.Doubt.{Doubt}
use Rattle.cfs_core.specs.declared.image.Image.{Image}
use Rattle.cfs_core.specs.declared.inode_core.Core.{Core}
use Rattle.cfs_core.specs.Words.{blank, flag_of, payload, track}
use Rattle.cfs_core.specs.Medium.{allow_bits, file, is_image, is_open, live_entries, open_entries, placed, placed_doubt, placed_entry, recovered, rests, stored, stored_byte}
use Rattle.cfs_core.specs.May.{is_change}
use Rattle.cfs_core.specs.Opened.{OpensWell, numbered, open_tracks, opened, opened_doubt, opened_track}
use Rattle.cfs_core.proofs.Again.{again}
use Rattle.cfs_core.proofs.Goods.{good-kept}
use Rattle.cfs_core.proofs.Images.{at-next, length-stored, opens, opens-live, rests-stored, size-allowed, stored-past, stored-within, tags_of_image}
use Rattle.cfs_core.proofs.Kept.{IsChange, IsKept, IsLast, IsLive, at, byte_of, file_at}
use Rattle.cfs_core.proofs.Moments.{within-may}
use Rattle.cfs_core.proofs.KeptRuns.{kept-run}
use Rattle.cfs_core.proofs.Legal.{both, same_number}
use Rattle.cfs_core.proofs.LoggedCrash.{tag_stays}
use Rattle.cfs_core.proofs.LoggedTags.{mapped_still}
use Rattle.cfs_core.proofs.Openings.{AreOpenings, IsOpening, IsWaitingCore, openings-append, openings-numbered, waiting-kept}
use Rattle.cfs_core.proofs.Order.{Places}
use Rattle.cfs_core.proofs.Recovers.{both-or-not, last-live, last-opens, left_zero, live-or-not}
use Rattle.cfs_core.proofs.Registers.{between-some, change-entry, find, holds-or-not, some_bytes}
use Rattle.cfs_core.proofs.SizesFit.{SizesFit, change-ends, fits-change}
use Rattle.cfs_core.proofs.StoredCrash.{sure_rests, sure_tag}

-- ---- numbers

numbered-places : (n : ℕ) (es : List Entry) → Places n (numbered n es)
numbered-places n [] = tt
numbered-places n (e ∷ es) = (refl, numbered-places (n + 1) es)

numbered-file : (base : List ℕ) (n : ℕ) (es : List Entry) →
    file_of base (numbered n es) ≡ file_of base es
numbered-file base n [] = refl
numbered-file base n (e ∷ es) = numbered-file (effect base e.request) (n + 1) es

-- ---- a request as its slot holds it

placed-change : (request : Request) (of : Span) → is_change request ≡ true →
    is_change (placed of request) ≡ true
placed-change (requests.Write offset bytes) of h = h
placed-change (requests.Append bytes) of h = h
placed-change (requests.Truncate n) of h = refl
placed-change (requests.Read offset count) of h = cc
placed-change requests.Sync of h = cc

-- its span is the same on every file
placed-span : (request : Request) (of : Span) (size other : ℕ) → is_change request ≡ true →
    of ≡ span request size → of ≡ span (placed of request) other
placed-span (requests.Write offset bytes) of size other h is = is
placed-span (requests.Append bytes) of size other h is =
    let some = some_bytes (length bytes) _ h in
    let there : of ≡ Range size (size + length bytes) =
    is ∙ between-some size (size + length bytes) (omega arith) in
    rw there (sym (between-some size (size + length bytes) (omega arith)))
placed-span (requests.Truncate n) of size other h is = is
placed-span (requests.Read offset count) of size other h is = cc
placed-span requests.Sync of size other h is = cc

-- ---- the live entries

-- those of the log that are open
openings-open : (tags : List Flag) (tracks : List Track) (image : Image) (log : List Entry) →
    ((k : ℕ) (e : Entry) → slice_get log k ≡ Some e → is_open image e.place ≡ true →
    IsOpening tags (placed_entry (track tracks e.place).span e)
    (opened_track (track tracks e.place))) →
    AreOpenings tags (open_entries tracks image log) (open_tracks tracks image log)
openings-open tags tracks image [] each = tt
openings-open tags tracks image (e ∷ es) each =
    pick (is_open image e.place) (each 0 e refl)
    (openings-open tags tracks image es (λ k x there. each (suc k) x there))
  where
    pick : (b : Bool) →
        (b ≡ true →
        IsOpening tags (placed_entry (track tracks e.place).span e)
        (opened_track (track tracks e.place))) →
        AreOpenings tags (open_entries tracks image es) (open_tracks tracks image es) →
        AreOpenings tags (map (λ x. placed_entry (track tracks x.place).span x)
        (cond b (e ∷ filter (λ x. is_open image x.place) es)
        (filter (λ x. is_open image x.place) es)))
        (map (λ x. opened_track (track tracks x.place))
        (cond b (e ∷ filter (λ x. is_open image x.place) es)
        (filter (λ x. is_open image x.place) es)))
    pick true first rest = (first refl, rest)
    pick false first rest = rest

-- the track of one that is open
open-track : (tracks : List Track) (image : Image) (log : List Entry) (rest : List Track) (k : ℕ)
    (e : Entry) → slice_get log k ≡ Some e → is_open image e.place ≡ true →
    (j : ℕ) × (get_or (open_tracks tracks image log ++ rest) j blank
    ≡ opened_track (track tracks e.place))
open-track tracks image [] rest k e is opened_there = cc
open-track tracks image (x ∷ xs) rest zero e is opened_there =
    let same : x ≡ e = cc in
    let own : is_open image x.place ≡ true = rw same opened_there in
    subst (λ (y : Entry). (j : ℕ)
    × (get_or (open_tracks tracks image (x ∷ xs) ++ rest) j blank
    ≡ opened_track (track tracks y.place))) same (here (is_open image x.place) own)
  where
    here : (b : Bool) → b ≡ true →
        (j : ℕ) × (get_or (map (λ y. opened_track (track tracks y.place))
        (cond b (x ∷ filter (λ y. is_open image y.place) xs)
        (filter (λ y. is_open image y.place) xs)) ++ rest) j blank
        ≡ opened_track (track tracks x.place))
    here true on = (0, refl)
    here false on = cc
open-track tracks image (x ∷ xs) rest (suc k) e is opened_there =
    later (is_open image x.place) (open-track tracks image xs rest k e is opened_there)
  where
    later : (b : Bool) →
        (j : ℕ) × (get_or (open_tracks tracks image xs ++ rest) j blank
        ≡ opened_track (track tracks e.place)) →
        (j : ℕ) × (get_or (map (λ y. opened_track (track tracks y.place))
        (cond b (x ∷ filter (λ y. is_open image y.place) xs)
        (filter (λ y. is_open image y.place) xs)) ++ rest) j blank
        ≡ opened_track (track tracks e.place))
    later true found = (suc found.0, found.1)
    later false found = found

abbrev tags_of : Image → List Flag
tags_of image = map (λ bit. flag_of bit) image.tags

opening-at : (core : Core) → IsKept core → (image : Image) → is_image core image ≡ true →
    (k : ℕ) (e : Entry) → slice_get core.log k ≡ Some e → opens image k ≡ true →
    IsOpening (tags_of image) (placed_entry (at core k).span e) (opened_track (at core k))
opening-at core kept image h k e is opened_there =
    let live : IsLive core k = opens-live core image kept.sound h k opened_there in
    let change : IsChange core k = kept.logged.live_changes k live in
    let own : is_change e.request ≡ true = rw is at change in
    record {
      change = placed-change e.request (at core k).span own;
      span_is =
          λ size. placed-span e.request (at core k).span (length (file_at core k)) size own
          (kept.logged.spans k e is);
      mapped = mapped_still core.tags (tags_of image) (at core k).span
          (λ j low high on. tag_stays core image j h on) (kept.logged.mapped k live);
      fits = change-ends core kept k change;
      waits = refl;
    }

opening-doubt : (core : Core) → IsKept core → (image : Image) → is_image core image ≡ true →
    (o : Option Doubt) (gate : Bool) → core.doubt ≡ o →
    AreOpenings (tags_of image) (placed_doubt o gate) (opened_doubt o gate)
opening-doubt core kept image h None gate is = tt
opening-doubt core kept image h (Some doubt) false is = tt
opening-doubt core kept image h (Some doubt) true is =
    let doubtful = kept.logged.doubtful doubt is in
    let first : IsOpening (tags_of image) (placed_entry doubt.span doubt.entry)
    (opened_track (record blank { grant = doubt.grant; span = doubt.span })) = record {
      change = placed-change doubt.entry.request doubt.span doubtful.change;
      span_is =
          λ size. placed-span doubt.entry.request doubt.span
          (length (file core)) size doubtful.change doubtful.span_is;
      mapped = mapped_still core.tags (tags_of image) doubt.span
          (λ j low high on. tag_stays core image j h on) doubtful.mapped;
      fits = rw doubtful.span_is (fits-change
          (file core) doubt.entry.request doubtful.change doubtful.fits);
      waits = refl;
    } in
    (first, tt)

opening-log : (core : Core) → IsKept core → (image : Image) → is_image core image ≡ true →
    AreOpenings (tags_of image) (open_entries core.tracks image core.log)
    (open_tracks core.tracks image core.log)
opening-log core kept image h = openings-open (tags_of image) core.tracks image core.log each
  where
    each : (k : ℕ) (e : Entry) → slice_get core.log k ≡ Some e → is_open image e.place ≡ true →
        IsOpening (tags_of image) (placed_entry (track core.tracks e.place).span e)
        (opened_track (track core.tracks e.place))
    each k e is opened_there =
        let place : e.place ≡ k + 1 = kept.legal.places k e is in
        let there : track core.tracks e.place ≡ at core k = rw place (at-next core k) in
        subst (λ (t : Track). IsOpening (tags_of image) (placed_entry t.span e) (opened_track t))
        (sym there)
        (opening-at core kept image h k e is (rw place at opened_there))

-- ---- the bytes

-- a position of a live entry that is open is one of an entry of the opened core
open-holds : (core : Core) → IsKept core → (image : Image) → (m p : ℕ) → IsLive core m →
    opens image m ≡ true → Holds (at core m).span p →
    (j : ℕ) × Holds (at (opened core image) j).span p
open-holds core kept image m p live opened_there holds =
    let entry = change-entry core m (kept.logged.live_changes m live) in
    let place : entry.0.place ≡ m + 1 = kept.legal.places m entry.0 entry.1.0 in
    let own : is_open image entry.0.place ≡ true = rw place opened_there in
    let found =
    open-track core.tracks image core.log
    (opened_doubt core.doubt image.doubt) m entry.0 entry.1.0 own in
    let there : track core.tracks entry.0.place ≡ at core m = rw place (at-next core m) in
    let now : at (opened core image) found.0 ≡ opened_track (track core.tracks entry.0.place) =
    found.1 in
    (found.0, rw (now, there) holds)

-- past the size, a byte that no entry of the opened core has is 0
zero-there : (core : Core) → IsKept core → (image : Image) → is_image core image ≡ true → (p : ℕ) →
    image.size ≤ p →
    ((k : ℕ) → Holds (at (opened core image) k).span p → ⊥) → stored_byte image p ≡ 0
zero-there core kept image h p past none =
    elim (find (λ k. IsLive core k × Holds (at core k).span p) has (length core.log)) [
      | inl some ↦
          let last = last-live core kept some.0 p some.1.1.0.0 some.1.1.0.1 in
          by last.0 last.1.0 last.1.1 (at core last.0).applied refl
      | inr free ↦
          rests-stored core image p (get_or (file_at core (length core.log)) p 0) h
          (kept.stored_.rests_free (length core.log) p (inl refl)
          (λ i less live alters. free i less (live, alters.1)))
          ∙ kept.stored_.zero_past (length core.log) image.size p (inl refl)
          (size-allowed core image h) past (λ i less live alters. free i less (live, alters.1))
    ]
  where
    has : (k : ℕ) →
        (IsLive core k × Holds (at core k).span p)
        ⊎ ((IsLive core k × Holds (at core k).span p) → ⊥)
    has k = both-or-not (live-or-not core k) (holds-or-not (at core k).span p)

    by : (m : ℕ) → IsLive core m → IsLast core (length core.log) p m → (b : Bool) →
        (at core m).applied ≡ b → stored_byte image p ≡ 0
    by m live last true applied =
        rests-stored core image p (byte_of core m p) h
        (kept.stored_.applied_rests m p live applied last.1)
        ∙ left_zero (at core m).span (payload (slice_get core.log m)) image.size p
        (kept.stored_.applied_size m image.size live applied (size-allowed core image h))
        last.1.1 past
    by m live last false idle =
        let held =
        open-holds core kept image m p live
        (last-opens core kept image h p m live last idle) last.1.1 in
        absurd (none held.0 held.1)

opened-rests : (core : Core) → IsKept core → (image : Image) → is_image core image ≡ true →
    (p : ℕ) → ((k : ℕ) → Holds (at (opened core image) k).span p → ⊥) →
    rests (opened core image) p (get_or (stored image) p 0) ≡ true
opened-rests core kept image h p none =
    rw (sure_tag image.tags (p / BLOCK_LEN))
    (sure_rests (get_or image.tags (p / BLOCK_LEN) false) (get_or image.bytes p 0)
    (get_or (stored image) p 0) same)
  where
    same : stored_byte image p ≡ get_or (stored image) p 0
    same = elim (cases_lt p image.size) [
      | inl within ↦ sym (stored-within image p within)
      | inr past ↦ zero-there core kept image h p past none ∙ sym (stored-past image p past)
    ]

-- ---- the opened core

pub opened-waits : (core : Core) → IsKept core → SizesFit core → (image : Image) →
    is_image core image ≡ true → IsWaitingCore (opened core image)
opened-waits core kept fit image h =
    let tags : length image.tags ≡ length core.tags =
    same_number (length image.tags) (length core.tags)
    (both (length image.tags == length core.tags) (allow_bits core.tags image.tags)
    (tags_of_image core image h)).0 in
    record {
      blocks = length-map image.tags (λ bit. flag_of bit) ∙ (tags ∙ kept.blocks);
      places = numbered-places 1 (live_entries core image);
      openings = openings-numbered (tags_of image) 1 (live_entries core image) _
          (openings-append (tags_of image) (open_entries core.tracks image core.log)
          (open_tracks core.tracks image core.log) (placed_doubt core.doubt image.doubt)
          (opened_doubt core.doubt image.doubt) (opening-log core kept image h)
          (opening-doubt core kept image h core.doubt image.doubt refl));
      doubt = refl;
      fits = omega (arith, length-stored image, fit image.size (size-allowed core image h));
      size = sym (length-stored image);
      sizes = refl;
      loose = refl;
      rests_free = opened-rests core kept image h;
    }

pub opens-well : (core : Core) → IsKept core → SizesFit core → (image : Image) →
    is_image core image ≡ true → OpensWell core image
opens-well core kept fit image h = record {
  file_is = file_is;
  good = λ steps run. good-kept _ (kept-run (opened core image) steps opened_kept run);
  moments =
      λ steps event run may_be.
      within-may _ event (kept-run (opened core image) steps opened_kept run).sound may_be;
  again = λ steps left run none is.
      again (opened core image) steps left opened_kept refl run none is ∙ file_is;
}
  where
    opened_kept : IsKept (opened core image)
    opened_kept = waiting-kept (opened core image) (opened-waits core kept fit image h)

    file_is : file (opened core image) ≡ recovered core image
    file_is = numbered-file (stored image) 1 (live_entries core image)
