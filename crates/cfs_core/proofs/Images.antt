-- What every image has: the sizes, bytes and entries that the core allows.
use Rattle.std.proofs.Common.{◌≡◌, inl, inr, ℕ, suc, zero, ◌+◌, ◌/◌, ◌<◌, ◌≤◌, ◌==◌, Bool, true, false, ◌&&◌, ◌||◌, not, if◌then◌else◌, length, map, get_or, arith, refl, sym, ◌∙◌}
use Rattle.std.specs.List.{list_all, range_with_len}
use Rattle.std.proofs.lemmas.Bool.{cases_lt}
use Rattle.std.proofs.lemmas.Bool.Decides.{nat_tests}
use Rattle.std.proofs.lemmas.List.{get_or-map, get_or_past, length-map}
use Rattle.std.proofs.lemmas.List.FromFn.{get_or-map-range_with_len, length-map-range_with_len}
use Rattle.cfs_file.specs.declared.sizes.TheConstants.{BLOCK_LEN}
use Rattle.cfs_core.specs.declared.flag.Flag.{Flag}
use Rattle.cfs_core.specs.declared.flag.Flag.TheVariants.{Off, On, Unsure}
use Rattle.cfs_core.specs.declared.track.Track.{Track}
use Rattle.cfs_core.specs.declared.image.Image.{Image}
use Rattle.cfs_core.specs.declared.inode_core.Core.{Core}
use Rattle.cfs_core.specs.Words.{blank, can_be, is_off, is_on, track}
use Rattle.cfs_core.specs.Medium.{agree, allow_bits, are_bytes, bytes_agree, doubt_gate, gates_agree, image_now, is_image, is_loose, is_open, is_size, marks_agree, rests, rests_as, stored, stored_byte}
use Rattle.cfs_core.proofs.Alive.{AreSound, lives-open, open-lives}
use Rattle.cfs_core.proofs.Apart.{not_true}
use Rattle.cfs_core.proofs.Kept.{IsLive, at}
use Rattle.cfs_core.proofs.Legal.{and_all, both, or_right, same_number}
use Rattle.cfs_core.proofs.Order.{in_range, track_is}

-- ---- the parts of the test

pub size-allowed : (core : Core) (image : Image) → is_image core image ≡ true →
    is_size core image.size ≡ true
size-allowed core image h =
    (both (is_size core image.size)
    (agree core.tags image.tags
    && (bytes_agree core image.bytes
    && (gates_agree core.tracks image.gates
    && (marks_agree core.tracks image.marks && can_be (doubt_gate core.doubt) image.doubt))))
    h).0

pub tags_of_image : (core : Core) (image : Image) → is_image core image ≡ true →
    agree core.tags image.tags ≡ true
tags_of_image core image h =
    let a = both (is_size core image.size)
    (agree core.tags image.tags
    && (bytes_agree core image.bytes
    && (gates_agree core.tracks image.gates
    && (marks_agree core.tracks image.marks && can_be (doubt_gate core.doubt) image.doubt))))
    h in
    (both (agree core.tags image.tags)
    (bytes_agree core image.bytes
    && (gates_agree core.tracks image.gates
    && (marks_agree core.tracks image.marks && can_be (doubt_gate core.doubt) image.doubt)))
    a.1).0

bytes_of_image : (core : Core) (image : Image) → is_image core image ≡ true →
    bytes_agree core image.bytes ≡ true
bytes_of_image core image h =
    let a = both (is_size core image.size)
    (agree core.tags image.tags
    && (bytes_agree core image.bytes
    && (gates_agree core.tracks image.gates
    && (marks_agree core.tracks image.marks && can_be (doubt_gate core.doubt) image.doubt))))
    h in
    let b = both (agree core.tags image.tags)
    (bytes_agree core image.bytes
    && (gates_agree core.tracks image.gates
    && (marks_agree core.tracks image.marks && can_be (doubt_gate core.doubt) image.doubt)))
    a.1 in
    (both (bytes_agree core image.bytes)
    (gates_agree core.tracks image.gates
    && (marks_agree core.tracks image.marks && can_be (doubt_gate core.doubt) image.doubt))
    b.1).0

pub doubt-allowed : (core : Core) (image : Image) → is_image core image ≡ true →
    can_be (doubt_gate core.doubt) image.doubt ≡ true
doubt-allowed core image h =
    let a = both (is_size core image.size)
    (agree core.tags image.tags
    && (bytes_agree core image.bytes
    && (gates_agree core.tracks image.gates
    && (marks_agree core.tracks image.marks && can_be (doubt_gate core.doubt) image.doubt))))
    h in
    let b = both (agree core.tags image.tags)
    (bytes_agree core image.bytes
    && (gates_agree core.tracks image.gates
    && (marks_agree core.tracks image.marks && can_be (doubt_gate core.doubt) image.doubt)))
    a.1 in
    let c = both (bytes_agree core image.bytes)
    (gates_agree core.tracks image.gates
    && (marks_agree core.tracks image.marks && can_be (doubt_gate core.doubt) image.doubt))
    b.1 in
    let d = both (gates_agree core.tracks image.gates)
    (marks_agree core.tracks image.marks && can_be (doubt_gate core.doubt) image.doubt) c.1 in
    (both (marks_agree core.tracks image.marks) (can_be (doubt_gate core.doubt) image.doubt) d.1).1

pub tag-allowed : (core : Core) (image : Image) (k : ℕ) → is_image core image ≡ true →
    can_be (get_or core.tags k Off) (get_or image.tags k false) ≡ true
tag-allowed core image k h =
    let parts =
    both (length image.tags == length core.tags) (allow_bits core.tags image.tags)
    (tags_of_image core image h) in
    let same : length image.tags ≡ length core.tags = grind (arith, nat_tests) in
    elim (cases_lt k (length core.tags)) [
      | inl within ↦
          in_range (λ j. can_be (get_or core.tags j Off) (get_or image.tags j false)) 0
          (length core.tags) k parts.1 (omega arith) (omega arith)
      | inr past ↦
          let flag : get_or core.tags k Off ≡ Off = get_or_past core.tags k Off past in
          let bit : get_or image.tags k false ≡ false =
          get_or_past image.tags k false (omega arith) in
          rw (flag, bit) refl
    ]

-- a byte that is not loose
pub byte-allowed : (core : Core) (image : Image) (p : ℕ) → is_image core image ≡ true →
    is_loose core.loose p ≡ false → get_or image.bytes p 0 ≡ get_or core.bytes p 0
byte-allowed core image p h firm =
    let parts =
    both (length image.bytes == length core.bytes) (are_bytes core.loose core.bytes image.bytes)
    (bytes_of_image core image h) in
    let same : length image.bytes ≡ length core.bytes = grind (arith, nat_tests) in
    elim (cases_lt p (length core.bytes)) [
      | inl within ↦
          let test : (is_loose core.loose p || (get_or image.bytes p 0 == get_or core.bytes p 0))
          ≡ true =
          in_range (λ q. is_loose core.loose q || (get_or image.bytes q 0 == get_or core.bytes q 0))
          0 (length core.bytes) p parts.1 (omega arith) (omega arith) in
          let own : (get_or image.bytes p 0 == get_or core.bytes p 0) ≡ true = rw firm at test in
          grind (arith, nat_tests)
      | inr past ↦ get_or_past image.bytes p 0 (omega arith) ∙ sym (get_or_past core.bytes p 0 past)
    ]

-- ---- what rests is stored

rests_byte : (flag : Flag) (bit loose : Bool) (stands byte b : ℕ) → can_be flag bit ≡ true →
    (loose ≡ false → b ≡ stands) → rests_as flag loose stands byte ≡ true →
    (if bit then b else 0) ≡ byte
rests_byte Off true loose stands byte b can same h = cc
rests_byte Off false loose stands byte b can same h = sym (same_number byte 0 h)
rests_byte On true loose stands byte b can same h =
    let parts = both (not loose) (stands == byte) h in
    same (not_true loose parts.0) ∙ same_number stands byte parts.1
rests_byte On false loose stands byte b can same h = cc
rests_byte Unsure true loose stands byte b can same h =
    let parts = both (not loose) ((stands == byte) && (byte == 0)) h in
    same (not_true loose parts.0)
    ∙ same_number stands byte (both (stands == byte) (byte == 0) parts.1).0
rests_byte Unsure false loose stands byte b can same h =
    let parts = both (not loose) ((stands == byte) && (byte == 0)) h in
    sym (same_number byte 0 (both (stands == byte) (byte == 0) parts.1).1)

pub rests-stored : (core : Core) (image : Image) (p byte : ℕ) → is_image core image ≡ true →
    rests core p byte ≡ true → stored_byte image p ≡ byte
rests-stored core image p byte h rest =
    rests_byte (get_or core.tags (p / BLOCK_LEN) Off) (get_or image.tags (p / BLOCK_LEN) false)
    (is_loose core.loose p) (get_or core.bytes p 0) byte (get_or image.bytes p 0)
    (tag-allowed core image (p / BLOCK_LEN) h) (byte-allowed core image p h) rest

pub length-stored : (image : Image) → length (stored image) ≡ image.size
length-stored image = length-map-range_with_len (λ p. stored_byte image p) 0 image.size

pub stored-within : (image : Image) (p : ℕ) → p < image.size →
    get_or (stored image) p 0 ≡ stored_byte image p
stored-within image p within =
    get_or-map-range_with_len (λ q. stored_byte image q) 0 image.size p p 0 within (omega arith)

pub stored-past : (image : Image) (p : ℕ) → image.size ≤ p → get_or (stored image) p 0 ≡ 0
stored-past image p past = get_or_past (stored image) p 0 (omega (arith, length-stored image))

-- a byte that rests, and is 0 past the size, is the stored file's
pub rests-read : (core : Core) (image : Image) (p byte : ℕ) → is_image core image ≡ true →
    rests core p byte ≡ true → (image.size ≤ p → byte ≡ 0) → get_or (stored image) p 0 ≡ byte
rests-read core image p byte h rest zero_there = elim (cases_lt p image.size) [
  | inl within ↦ stored-within image p within ∙ rests-stored core image p byte h rest
  | inr past ↦ stored-past image p past ∙ sym (zero_there past)
]

-- ---- open entries, by index

abbrev pub opens : Image → ℕ → Bool
opens image k = is_open image (k + 1)

pub at-next : (core : Core) (k : ℕ) → track core.tracks (k + 1) ≡ at core k
at-next core k = track_is core.tracks (k + 1) k (λ is. omega arith) (omega arith)

pub opens-live : (core : Core) (image : Image) → AreSound core → is_image core image ≡ true →
    (k : ℕ) → opens image k ≡ true → IsLive core k
opens-live core image sound h k opened =
    rw (at-next core k) at (open-lives core image sound h (k + 1) opened)

pub live-opens : (core : Core) (image : Image) → AreSound core → is_image core image ≡ true →
    (k : ℕ) → IsLive core k →
    (at core k).applied ≡ false → is_off (at core k).mark ≡ true → opens image k ≡ true
live-opens core image sound h k live idle unmarked =
    let same : at core k ≡ track core.tracks (k + 1) = sym (at-next core k) in
    lives-open core image sound h (k + 1) (rw same at live) (rw same at idle) (rw same at unmarked)

-- ---- what is read now is an image

reads_can : (flag : Flag) → can_be flag (is_on flag) ≡ true
reads_can Off = refl
reads_can On = refl
reads_can Unsure = refl

is_same : (n : ℕ) → (n == n) ≡ true
is_same n = grind (arith, nat_tests)

pub all_in_range : (test : ℕ → Bool) (a n : ℕ) → ((j : ℕ) → a ≤ j → j < a + n → test j ≡ true) →
    list_all test (range_with_len a n) ≡ true
all_in_range test a zero each = refl
all_in_range test a (suc n) each =
    and_all (test a) _ (each a (omega arith) (omega arith))
    (all_in_range test (a + 1) n (λ j low high. each j (omega arith) (omega arith)))

pub image_now-is : (core : Core) → is_image core (image_now core) ≡ true
image_now-is core =
    and_all _ _ size (and_all _ _ tags
    (and_all _ _ bytes (and_all _ _ gates
    (and_all _ _ marks (reads_can (doubt_gate core.doubt))))))
  where
    size : is_size core core.size ≡ true
    size = rw (is_same core.size) refl

    bit : (k : ℕ) → k < length core.tags →
        can_be (get_or core.tags k Off) (get_or (map (λ flag. is_on flag) core.tags) k false) ≡ true
    bit k within =
        rw (get_or-map (λ flag. is_on flag) core.tags k Off false within)
        (reads_can (get_or core.tags k Off))

    tags : agree core.tags (map (λ flag. is_on flag) core.tags) ≡ true
    tags = and_all _ _ (rw (length-map core.tags (λ flag. is_on flag)) (is_same (length core.tags)))
        (all_in_range (λ k.
        can_be (get_or core.tags k Off) (get_or (map (λ flag. is_on flag) core.tags) k false)) 0
        (length core.tags) (λ j low high. bit j (omega arith)))

    bytes : bytes_agree core core.bytes ≡ true
    bytes = and_all _ _ (is_same (length core.bytes))
        (all_in_range (λ p. is_loose core.loose p
        || (get_or core.bytes p 0 == get_or core.bytes p 0)) 0 (length core.bytes)
        (λ j low high. or_right (is_loose core.loose j) _ (is_same (get_or core.bytes j 0))))

    gate : (k : ℕ) → k < length core.tracks →
        can_be (get_or core.tracks k blank).gate
        (get_or (map (λ t. is_on t.gate) core.tracks) k false) ≡ true
    gate k within =
        rw (get_or-map (λ (t : Track). is_on t.gate) core.tracks k blank false within)
        (reads_can (get_or core.tracks k blank).gate)

    gates : gates_agree core.tracks (map (λ t. is_on t.gate) core.tracks) ≡ true
    gates = and_all _ _ (rw (length-map core.tracks (λ (t : Track). is_on t.gate))
        (is_same (length core.tracks)))
        (all_in_range (λ k.
        can_be (get_or core.tracks k blank).gate
        (get_or (map (λ t. is_on t.gate) core.tracks) k false)) 0 (length core.tracks)
        (λ j low high. gate j (omega arith)))

    mark : (k : ℕ) → k < length core.tracks →
        can_be (get_or core.tracks k blank).mark
        (get_or (map (λ t. is_on t.mark) core.tracks) k false) ≡ true
    mark k within =
        rw (get_or-map (λ (t : Track). is_on t.mark) core.tracks k blank false within)
        (reads_can (get_or core.tracks k blank).mark)

    marks : marks_agree core.tracks (map (λ t. is_on t.mark) core.tracks) ≡ true
    marks = and_all _ _ (rw (length-map core.tracks (λ (t : Track). is_on t.mark))
        (is_same (length core.tracks)))
        (all_in_range (λ k.
        can_be (get_or core.tracks k blank).mark
        (get_or (map (λ t. is_on t.mark) core.tracks) k false)) 0 (length core.tracks)
        (λ j low high. mark j (omega arith)))
