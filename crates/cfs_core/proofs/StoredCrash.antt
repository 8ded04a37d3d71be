-- A crash and a mount keep what is stored: the image that is left is one of those before.
use Rattle.std.proofs.Common.{◌≡◌, inl, inr, ℕ, suc, ◌+◌, ◌/◌, ◌==◌, Bool, true, false, cond, if◌then◌else◌, Option, Some, None, List, [], ◌∷◌, length, map, filter, get_or, arith, refl, sym, ◌∙◌, subst}
use Rattle.std.specs.List.{slice_get}
use Rattle.std.proofs.lemmas.Bool.{cases_lt}
use Rattle.std.proofs.lemmas.List.{get_or-map, get_or_past, length-map}
use Rattle.std.proofs.lemmas.List.FromFn.{get_or-map-range_with_len, length-map-range_with_len}
use Rattle.cfs_file.specs.declared.entry.Entry.{Entry}
use Rattle.cfs_file.specs.declared.request.Request.{Request}
use Rattle.cfs_file.specs.declared.span.Span.{Span}
use Rattle.cfs_file.specs.declared.span.Span.TheVariants.{Nothing, Range, From}
use Rattle.cfs_file.specs.File.{effect}
use Rattle.cfs_file.specs.Log.{file_of}
use Rattle.cfs_file.specs.Span.{span}
use Rattle.cfs_file.proofs.Logs.{file_of-append}
use Rattle.cfs_file.specs.declared.sizes.TheConstants.{BLOCK_LEN}
use Rattle.cfs_core.specs.declared.flag.Flag.{Flag}
use Rattle.cfs_core.specs.declared.flag.Flag.TheVariants.{Off, On, Unsure}
use Rattle.cfs_core.specs.declared.track.Track.{Track}
use Rattle.cfs_core.specs.declared.doubt.Doubt.{Doubt}
use Rattle.cfs_core.specs.declared.image.Image.{Image}
use Rattle.cfs_core.specs.declared.inode_core.Core.{Core}
use Rattle.cfs_core.specs.Words.{blank, flag_of, is_live, is_on, is_unserved, payload_of, track}
use Rattle.cfs_core.specs.Medium.{image_now, is_image, is_open, open_entries, placed, placed_doubt, placed_entry, recovered, rests, rests_as, stored, stored_byte}
use Rattle.cfs_core.specs.May.{is_change, is_mapped}
use Rattle.cfs_core.specs.After.{crashed_to, mounted, sure_track, sure_tracks}
use Rattle.cfs_core.proofs.Images.{at-next, image_now-is, opens-live, rests-stored, size-allowed, stored-past, stored-within}
use Rattle.cfs_core.proofs.Kept.{IsKept, IsLive, IsStored, IsView, at, byte_of, file_at}
use Rattle.cfs_core.proofs.Registers.{IsShaped, byte_in, byte_out, effect_by, holds-or-not, placed-effect, shaped-request}
use Rattle.cfs_core.proofs.StoredFrames.{AreQuiet, IsQuiet, no_clash, only_size, quiet_follows, quiet_same, same_test, stored-follows}
use Rattle.cfs_core.proofs.StoredTags.{mapped_at}

-- ---- a crash

crash_quiet : (core : Core) (image : Image) → AreQuiet core (crashed_to core image)
crash_quiet core image k = elim (cases_lt k (length core.tracks)) [
  | inl within ↦
      let now : get_or (sure_tracks core.tracks image.gates image.marks) k blank
      ≡ sure_track (get_or core.tracks k blank) (get_or image.gates k false)
      (get_or image.marks k false) =
      get_or-map-range_with_len (λ j.
      sure_track (get_or core.tracks j blank) (get_or image.gates j false)
      (get_or image.marks j false)) 0 (length core.tracks) k k blank within (omega arith) in
      subst (λ (t : Track). IsQuiet t (at core k)) (sym now)
      (sure (at core k) (get_or image.gates k false) (get_or image.marks k false))
  | inr past ↦
      let none : get_or (sure_tracks core.tracks image.gates image.marks) k blank ≡ blank =
      get_or_past (sure_tracks core.tracks image.gates image.marks) k blank
      (omega (
        arith,
        length-map-range_with_len
            (λ j. sure_track (get_or core.tracks j blank) (get_or image.gates j false)
            (get_or image.marks j false)) 0 (length core.tracks),
      )) in
      let was : get_or core.tracks k blank ≡ blank = get_or_past core.tracks k blank past in
      subst (λ (t : Track). IsQuiet t (at core k)) (sym none)
      (subst (λ (t : Track). IsQuiet blank t) (sym was) (quiet_same blank))
]
  where
    sure : (t : Track) (gate mark : Bool) → IsQuiet (sure_track t gate mark) t
    sure t gate mark = record { span = refl; unserved = λ h. h; live = refl; applied = refl }

pub sure_tag : (tags : List Bool) (k : ℕ) →
    get_or (map (λ bit. flag_of bit) tags) k Off ≡ flag_of (get_or tags k false)
sure_tag tags k = elim (cases_lt k (length tags)) [
  | inl within ↦ get_or-map (λ bit. flag_of bit) tags k false Off within
  | inr past ↦
      let bit : get_or tags k false ≡ false = get_or_past tags k false past in
      let flag : get_or (map (λ b. flag_of b) tags) k Off ≡ Off =
      get_or_past (map (λ b. flag_of b) tags) k Off
      (omega (arith, length-map tags (λ b. flag_of b))) in
      rw (bit, flag) refl
]

pub sure_rests : (bit : Bool) (stands byte : ℕ) → (if bit then stands else 0) ≡ byte →
    rests_as (flag_of bit) false stands byte ≡ true
sure_rests true stands byte same = same_test stands byte same
sure_rests false stands byte same = same_test byte 0 (sym same)

crash_rests : (core : Core) (image : Image) (p byte : ℕ) → is_image core image ≡ true →
    rests core p byte ≡ true → rests (crashed_to core image) p byte ≡ true
crash_rests core image p byte h is =
    let now : get_or (map (λ bit. flag_of bit) image.tags) (p / BLOCK_LEN) Off
    ≡ flag_of (get_or image.tags (p / BLOCK_LEN) false) = sure_tag image.tags (p / BLOCK_LEN) in
    rw now (sure_rests (get_or image.tags (p / BLOCK_LEN) false) (get_or image.bytes p 0) byte
    (rests-stored core image p byte h is))

pub stored_crash : (core : Core) (image : Image) → IsKept core → is_image core image ≡ true →
    IsStored (crashed_to core image)
stored_crash core image kept h =
    stored-follows core (crashed_to core image)
    (quiet_follows core (crashed_to core image) refl refl (crash_quiet core image) (record {
      free = λ w p view free is. crash_rests core image p (get_or (file_at core w) p 0) h is;
      sizes = λ s is. let same : s ≡ image.size =
          only_size s image.size is in rw same (size-allowed core image h);
      applied = λ k p live applied alters is. crash_rests core image p (byte_of core k p) h is;
    }))
    refl kept.stored_

-- ---- a mount: where no block is tagged the file that was found has 0

bit_now : (tags : List Flag) (k : ℕ) →
    get_or (map (λ flag. is_on flag) tags) k false ≡ is_on (get_or tags k Off)
bit_now tags k = elim (cases_lt k (length tags)) [
  | inl within ↦ get_or-map (λ flag. is_on flag) tags k Off false within
  | inr past ↦
      let flag : get_or tags k Off ≡ Off = get_or_past tags k Off past in
      let bit : get_or (map (λ f. is_on f) tags) k false ≡ false =
      get_or_past (map (λ f. is_on f) tags) k false
      (omega (arith, length-map tags (λ f. is_on f))) in
      rw (flag, bit) refl
]

stored_zero : (core : Core) (p : ℕ) → is_on (get_or core.tags (p / BLOCK_LEN) Off) ≡ false →
    get_or (stored (image_now core)) p 0 ≡ 0
stored_zero core p off = elim (cases_lt p core.size) [
  | inl within ↦
      let bit : get_or (map (λ flag. is_on flag) core.tags) (p / BLOCK_LEN) false ≡ false =
      bit_now core.tags (p / BLOCK_LEN) ∙ off in
      let none : stored_byte (image_now core) p ≡ 0 = rw bit refl in
      stored-within (image_now core) p within ∙ none
  | inr past ↦ stored-past (image_now core) p past
]

-- a change whose blocks are mapped leaves 0 where no block is tagged
zero_by : (tags : List Flag) (file bytes : List ℕ) (of : Span) (p : ℕ) → IsShaped bytes of →
    is_mapped tags of ≡ true → is_on (get_or tags (p / BLOCK_LEN) Off) ≡ false →
    get_or file p 0 ≡ 0 → get_or (effect_by file bytes of) p 0 ≡ 0
zero_by tags file bytes Nothing p shaped mapped off is = is
zero_by tags file bytes (Range from to) p shaped mapped off is =
    elim (holds-or-not (Range from to) p) [
      | inl holds ↦
          absurd (no_clash (is_on (get_or tags (p / BLOCK_LEN) Off))
          (mapped_at tags from to p mapped holds.0 holds.1) off)
      | inr out ↦ byte_out file bytes (Range from to) p shaped out ∙ is
    ]
zero_by tags file bytes (From from) p shaped mapped off is = elim (holds-or-not (From from) p) [
  | inl holds ↦ byte_in file bytes (From from) p shaped holds
  | inr out ↦ byte_out file bytes (From from) p shaped out ∙ is
]

zero_placed : (tags : List Flag) (file : List ℕ) (request : Request) (size : ℕ) (of : Span)
    (p : ℕ) → is_change request ≡ true → of ≡ span request size → is_mapped tags of ≡ true →
    is_on (get_or tags (p / BLOCK_LEN) Off) ≡ false → get_or file p 0 ≡ 0 →
    get_or (effect file (placed of request)) p 0 ≡ 0
zero_placed tags file request size of p change same mapped off is =
    let its : is_mapped tags (span request size) ≡ true = rw same at mapped in
    rw (same, placed-effect request file size change)
    (zero_by tags file (payload_of request) (span request size) p
    (shaped-request request size change) its off is)

-- entries that are open, each of which leaves 0
zero_open : (tracks : List Track) (image : Image) (p : ℕ) (log : List Entry) (file : List ℕ) →
    ((k : ℕ) (e : Entry) → slice_get log k ≡ Some e → is_open image e.place ≡ true → (f : List ℕ) →
    get_or f p 0 ≡ 0 → get_or (effect f (placed (track tracks e.place).span e.request)) p 0 ≡ 0) →
    get_or file p 0 ≡ 0 → get_or (file_of file (open_entries tracks image log)) p 0 ≡ 0
zero_open tracks image p [] file each is = is
zero_open tracks image p (e ∷ es) file each is =
    pick (is_open image e.place) (each 0 e refl)
    (λ f zero_there.
    zero_open tracks image p es f (λ k x there. each (suc k) x there) zero_there)
  where
    pick : (b : Bool) →
        (b ≡ true → (f : List ℕ) → get_or f p 0 ≡ 0 →
        get_or (effect f (placed (track tracks e.place).span e.request)) p 0 ≡ 0) →
        ((f : List ℕ) → get_or f p 0 ≡ 0 →
        get_or (file_of f (open_entries tracks image es)) p 0 ≡ 0) →
        get_or (file_of file (map (λ x. placed_entry (track tracks x.place).span x)
        (cond b (e ∷ filter (λ x. is_open image x.place) es)
        (filter (λ x. is_open image x.place) es)))) p 0 ≡ 0
    pick true first rest =
        rest (effect file (placed (track tracks e.place).span e.request)) (first refl file is)
    pick false first rest = rest file is

found_zero : (core : Core) → IsKept core → (p : ℕ) →
    is_on (get_or core.tags (p / BLOCK_LEN) Off) ≡ false →
    get_or (recovered core (image_now core)) p 0 ≡ 0
found_zero core kept p off =
    rw (file_of-append (stored (image_now core))
    (open_entries core.tracks (image_now core) core.log)
    (placed_doubt core.doubt (image_now core).doubt))
    (in_doubt core.doubt (image_now core).doubt refl
    (file_of (stored (image_now core)) (open_entries core.tracks (image_now core) core.log))
    (zero_open core.tracks (image_now core) p core.log (stored (image_now core)) entry
    (stored_zero core p off)))
  where
    entry : (k : ℕ) (e : Entry) → slice_get core.log k ≡ Some e →
        is_open (image_now core) e.place ≡ true → (f : List ℕ) → get_or f p 0 ≡ 0 →
        get_or (effect f (placed (track core.tracks e.place).span e.request)) p 0 ≡ 0
    entry k e there opened f is =
        let place : e.place ≡ k + 1 = kept.legal.places k e there in
        let live : IsLive core k =
        opens-live core (image_now core) kept.sound (image_now-is core) k
        (rw place at opened) in
        let change : is_change e.request ≡ true = rw there at (kept.logged.live_changes k live) in
        rw (place, at-next core k)
        (zero_placed core.tags f e.request (length (file_at core k)) (at core k).span p change
        (kept.logged.spans k e there) (kept.logged.mapped k live) off is)

    in_doubt : (o : Option Doubt) (gate : Bool) → core.doubt ≡ o → (f : List ℕ) → get_or f p 0 ≡ 0 →
        get_or (file_of f (placed_doubt o gate)) p 0 ≡ 0
    in_doubt None gate there f is = is
    in_doubt (Some d) true there f is =
        let doubtful = kept.logged.doubtful d there in
        zero_placed core.tags f d.entry.request _ d.span p doubtful.change doubtful.span_is
        doubtful.mapped off is
    in_doubt (Some d) false there f is = is

own_rests : (tag : Flag) (byte : ℕ) → (is_on tag ≡ false → byte ≡ 0) →
    rests_as tag false byte byte ≡ true
own_rests Off byte zero_there = same_test byte 0 (zero_there refl)
own_rests On byte zero_there = same_test byte byte refl
own_rests Unsure byte zero_there =
    let own : (byte == byte) ≡ true = same_test byte byte refl in
    rw own (same_test byte 0 (zero_there refl))

pub stored_mount : (core : Core) → IsKept core →
    IsStored (mounted core (recovered core (image_now core)))
stored_mount core kept = record {
  short = refl;
  rests_free =
      λ v p view free.
      rw (file_is v p view) (own_rests (get_or core.tags (p / BLOCK_LEN) Off) (get_or found p 0)
      (found_zero core kept p));
  zero_past = λ v s p view is past free.
      let size : s ≡ length found = only_size s (length found) is in
      rw (file_is v p view) (get_or_past found p 0 (omega arith));
  long = λ s p is none. let size : s ≡ length found = only_size s (length found) is in rw size refl;
  applied_rests = λ k p live applied alters. let own : is_live blank.state ≡ true = live in cc;
  applied_size = λ k s live applied is. let own : is_live blank.state ≡ true = live in cc;
}
  where
    found : List ℕ
    found = recovered core (image_now core)

    file_is : (v p : ℕ) → IsView (mounted core (recovered core (image_now core))) v p →
        file_at (mounted core (recovered core (image_now core))) v ≡ recovered core (image_now core)
    file_is v p (inl end) = let none : v ≡ 0 = end in rw none refl
    file_is v p (inr read) = let own : is_unserved blank.state ≡ true = read.0 in cc
