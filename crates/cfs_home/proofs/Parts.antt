-- Each step for the lowest live entry keeps the file that a mount finds.
use Rattle.std.proofs.Common.{◌≡◌, ◌⊎◌, ◌∙◌, inl, inr, ℕ, ◌+◌, ◌<◌, ◌≤◌, List, [], ◌∷◌, length}
use Rattle.std.proofs.Common.{get_or, arith, refl, sym, ap, subst, ext_get_or}
use Rattle.std.specs.List.{range_with_len}
use Rattle.std.proofs.lemmas.Bool.{cases_lt}
use Rattle.std.proofs.lemmas.List.{get_or_past}
use Rattle.std.proofs.lemmas.List.FromFn.{get_or-map-range_with_len, length-map-range_with_len}
use Rattle.cfs_file.specs.declared.request.Request.{Request}
use Rattle.cfs_file.specs.declared.request.Request.TheVariants as requests
use Rattle.cfs_file.specs.declared.sizes.TheConstants.{LONGEST_FILE}
use Rattle.cfs_file.specs.File.{effect, resized}
use Rattle.cfs_file.specs.Span.{Touches}
use Rattle.cfs_file.proofs.Positions.{length-resized, put-writes, resized-resizes}
use Rattle.cfs_core.proofs.Registers.{byte_beside, byte_written}
use Rattle.cfs_medium.specs.Store.{taken_through}
use Rattle.cfs_medium.proofs.Blocks.{map-same}
use Rattle.cfs_home.specs.Parts.{ArePlaced, BytesMoved, Closed, IsHome, IsPlaced, IsSound, Keeps}
use Rattle.cfs_home.specs.Parts.{Part, SizeMoved, SomeTouches, own_byte, size_after, stored_by}
use Rattle.cfs_home.specs.Laws.{PartsAreKept}

-- ---- one request

touches-or-not : (request : Request) (p : ℕ) → IsPlaced request →
    Touches request 0 p ⊎ (Touches request 0 p → ⊥)
touches-or-not (requests.Write offset bytes) p placed = elim (cases_lt p offset) [
  | inl before ↦ inr (λ h. omega arith)
  | inr up ↦ elim (cases_lt p (offset + length bytes)) [
    | inl within ↦ inl (up, within)
    | inr past ↦ inr (λ h. omega arith)
  ]
]
touches-or-not (requests.Append bytes) p placed = absurd placed
touches-or-not (requests.Truncate n) p placed = elim (cases_lt p n) [
  | inl before ↦ inr (λ h. omega arith)
  | inr up ↦ inl up
]
touches-or-not (requests.Read offset count) p placed = absurd placed
touches-or-not requests.Sync p placed = absurd placed

long-after : (request : Request) (file : List ℕ) → IsPlaced request →
    length (effect file request) ≡ size_after request (length file)
long-after (requests.Write offset bytes) file placed = (put-writes file offset bytes).size
long-after (requests.Append bytes) file placed = absurd placed
long-after (requests.Truncate n) file placed = length-resized file n
long-after (requests.Read offset count) file placed = absurd placed
long-after requests.Sync file placed = absurd placed

byte_resized : (file : List ℕ) (n p : ℕ) → p < n → get_or (resized file n) p 0 ≡ get_or file p 0
byte_resized file n p below = elim (cases_lt p (length file)) [
  | inl within ↦ (resized-resizes file n).kept p below within
  | inr past ↦ (resized-resizes file n).grown p below past ∙ sym (get_or_past file p 0 past)
]

own-there : (request : Request) (file : List ℕ) (p : ℕ) → IsPlaced request →
    Touches request 0 p → get_or (effect file request) p 0 ≡ own_byte request p
own-there (requests.Write offset bytes) file p placed here =
    byte_written file bytes offset p here.0 here.1
own-there (requests.Append bytes) file p placed here = absurd placed
own-there (requests.Truncate n) file p placed here =
    get_or_past (resized file n) p 0 (omega (arith, length-resized file n))
own-there (requests.Read offset count) file p placed here = absurd placed
own-there requests.Sync file p placed here = absurd placed

stays-beside : (request : Request) (file : List ℕ) (p : ℕ) → IsPlaced request →
    (Touches request 0 p → ⊥) → get_or (effect file request) p 0 ≡ get_or file p 0
stays-beside (requests.Write offset bytes) file p placed out = elim (cases_lt p offset) [
  | inl before ↦ byte_beside file bytes offset p (inl before)
  | inr up ↦ elim (cases_lt p (offset + length bytes)) [
    | inl within ↦ absurd (out (up, within))
    | inr past ↦ byte_beside file bytes offset p (inr past)
  ]
]
stays-beside (requests.Append bytes) file p placed out = absurd placed
stays-beside (requests.Truncate n) file p placed out = elim (cases_lt p n) [
  | inl before ↦ byte_resized file n p before
  | inr up ↦ absurd (out up)
]
stays-beside (requests.Read offset count) file p placed out = absurd placed
stays-beside requests.Sync file p placed out = absurd placed

-- the position is past the size that a request makes smaller: the request touches it
cut-touches : (request : Request) (size p : ℕ) → IsPlaced request → size_after request size ≤ p →
    p < size → Touches request 0 p
cut-touches (requests.Write offset bytes) size p placed past within = absurd (omega arith)
cut-touches (requests.Append bytes) size p placed past within = absurd placed
cut-touches (requests.Truncate n) size p placed past within = past
cut-touches (requests.Read offset count) size p placed past within = absurd placed
cut-touches requests.Sync size p placed past within = absurd placed

size-fits : (request : Request) (size : ℕ) → IsPlaced request → size ≤ LONGEST_FILE →
    size_after request size ≤ LONGEST_FILE
size-fits (requests.Write offset bytes) size placed fits = omega arith
size-fits (requests.Append bytes) size placed fits = absurd placed
size-fits (requests.Truncate n) size placed fits = placed
size-fits (requests.Read offset count) size placed fits = absurd placed
size-fits requests.Sync size placed fits = absurd placed

size-again : (request : Request) (size : ℕ) → IsPlaced request →
    size_after request (size_after request size) ≡ size_after request size
size-again (requests.Write offset bytes) size placed = omega arith
size-again (requests.Append bytes) size placed = absurd placed
size-again (requests.Truncate n) size placed = refl
size-again (requests.Read offset count) size placed = absurd placed
size-again requests.Sync size placed = absurd placed

-- ---- all entries

size_through : List (ℕ × Request) → ℕ → ℕ
size_through [] size = size
size_through (entry ∷ entries) size = size_through entries (size_after entry.1 size)

AreAlike : List (ℕ × Request) → List ℕ → List ℕ → Type 0
AreAlike entries first second =
    (p : ℕ) → (SomeTouches entries p → ⊥) → get_or first p 0 ≡ get_or second p 0

-- Two files that differ only where an entry touches them, and that the entries take to one length,
-- are taken to one file.
agree : (entries : List (ℕ × Request)) (first second : List ℕ) → ArePlaced entries →
    size_through entries (length first) ≡ size_through entries (length second) →
    AreAlike entries first second → taken_through first entries ≡ taken_through second entries
unfolding size_through AreAlike
agree [] first second placed size alike =
    ext_get_or 0 first second size (λ p within. alike p (λ h. h))
agree (entry ∷ entries) first second placed size alike =
    agree entries (effect first entry.1) (effect second entry.1) placed.1 sizes bytes
  where
    sizes : size_through entries (length (effect first entry.1))
        ≡ size_through entries (length (effect second entry.1))
    sizes =
        ap (size_through entries) (long-after entry.1 first placed.0)
        ∙ (size ∙ ap (size_through entries) (sym (long-after entry.1 second placed.0)))

    bytes : AreAlike entries (effect first entry.1) (effect second entry.1)
    bytes p out = elim (touches-or-not entry.1 p placed.0) [
      | inl here ↦
          own-there entry.1 first p placed.0 here ∙ sym (own-there entry.1 second p placed.0 here)
      | inr beside ↦
          stays-beside entry.1 first p placed.0 beside
          ∙ (alike p (λ h. elim h [ inl own ↦ beside own | inr more ↦ out more ])
          ∙ sym (stays-beside entry.1 second p placed.0 beside))
    ]

-- ---- the stored file

pub long-stored : (size : ℕ) (byte : ℕ → ℕ) → length (stored_by size byte) ≡ size
long-stored size byte = length-map-range_with_len byte 0 size

stored-within : (size : ℕ) (byte : ℕ → ℕ) (p : ℕ) → p < size →
    get_or (stored_by size byte) p 0 ≡ byte p
stored-within size byte p within = get_or-map-range_with_len byte 0 size p p 0 within (omega arith)

stored-past : (size : ℕ) (byte : ℕ → ℕ) (p : ℕ) → size ≤ p → get_or (stored_by size byte) p 0 ≡ 0
stored-past size byte p past =
    get_or_past (stored_by size byte) p 0 (omega (arith, long-stored size byte))

-- where no entry touches, a sound part stores the byte at each position
pub stored-beside : (part : Part) (p : ℕ) → IsSound part → (SomeTouches part.entries p → ⊥) →
    get_or (stored_by part.size part.byte) p 0 ≡ part.byte p
stored-beside part p sound out = elim (cases_lt p part.size) [
  | inl within ↦ stored-within part.size part.byte p within
  | inr past ↦ stored-past part.size part.byte p past ∙ sym (sound.zero_past p past out)
]

-- ---- steps

-- two parts with the same entries, which differ only where these touch
moved-keeps : (first second : Part) → IsSound first → second.size ≤ LONGEST_FILE →
    second.entries ≡ first.entries →
    size_through first.entries second.size ≡ size_through first.entries first.size →
    ((p : ℕ) → (SomeTouches first.entries p → ⊥) → second.byte p ≡ first.byte p) →
    ((p : ℕ) → second.size ≤ p → (SomeTouches first.entries p → ⊥) → second.byte p ≡ 0) →
    Keeps first second
unfolding AreAlike
moved-keeps first second sound fits entries sizes beside past = record {
  recovers =
      ap (taken_through stored) entries
      ∙ agree first.entries stored (stored_by first.size first.byte) sound.placed
      (ap (size_through first.entries) (long-stored second.size second.byte)
      ∙ (sizes ∙ ap (size_through first.entries) (sym (long-stored first.size first.byte)))) alike;
  sound = sound_too;
}
  where
    stored : List ℕ
    stored = stored_by second.size second.byte

    sound_too : IsSound second
    sound_too = record {
      fits = fits;
      placed = subst ArePlaced (sym entries) sound.placed;
      zero_past = λ p over out.
          past p over (subst (λ (es : List (ℕ × Request)). SomeTouches es p → ⊥) entries out);
    }

    alike : (p : ℕ) → (SomeTouches first.entries p → ⊥) →
        get_or (stored_by second.size second.byte) p 0
        ≡ get_or (stored_by first.size first.byte) p 0
    alike p out =
        stored-beside second p sound_too
        (subst (λ (es : List (ℕ × Request)). SomeTouches es p → ⊥) (sym entries) out)
        ∙ (beside p out ∙ sym (stored-beside first p sound out))

bytes-moved : (first second : Part) → IsSound first → BytesMoved first second → Keeps first second
bytes-moved first second sound step =
    moved-keeps first second sound (omega (arith, step.size, sound.fits)) step.entries
    (ap (size_through first.entries) step.size)
    step.beside (λ p past out. step.beside p out ∙ sound.zero_past p (omega (arith, step.size)) out)

size-moved : (first second : Part) → IsSound first → (entry : ℕ × Request)
    (rest : List (ℕ × Request)) → SizeMoved first second entry rest → Keeps first second
unfolding size_through
size-moved first second sound entry rest step =
    moved-keeps first second sound
    (subst (λ (n : ℕ). n ≤ LONGEST_FILE) (sym step.size)
    (size-fits entry.1 first.size placed sound.fits))
    step.entries sizes (λ p out. step.bytes p)
    (λ p past out. step.bytes p ∙ zero p past out)
  where
    placed : IsPlaced entry.1
    placed = (subst ArePlaced step.lowest sound.placed).0

    sizes : size_through first.entries second.size ≡ size_through first.entries first.size
    sizes =
        ap (λ (es : List (ℕ × Request)). size_through es second.size) step.lowest
        ∙ (ap (λ (n : ℕ). size_through rest (size_after entry.1 n)) step.size
        ∙ (ap (size_through rest) (size-again entry.1 first.size placed)
        ∙ sym (ap (λ (es : List (ℕ × Request)). size_through es first.size) step.lowest)))

    zero : (p : ℕ) → second.size ≤ p → (SomeTouches first.entries p → ⊥) → first.byte p ≡ 0
    zero p past out = elim (cases_lt p first.size) [
      | inl within ↦
          let here = cut-touches entry.1 first.size p placed (omega (arith, step.size)) within in
          absurd (out (subst (λ (es : List (ℕ × Request)). SomeTouches es p) (sym step.lowest)
          (inl here)))
      | inr over ↦ sound.zero_past p over out
    ]

-- past the size that a request leaves, the bytes that it brings are 0
own-past : (request : Request) (size p : ℕ) → IsPlaced request → Touches request 0 p →
    size_after request size ≤ p → own_byte request p ≡ 0
own-past (requests.Write offset bytes) size p placed here past = absurd (omega arith)
own-past (requests.Append bytes) size p placed here past = absurd placed
own-past (requests.Truncate n) size p placed here past = refl
own-past (requests.Read offset count) size p placed here past = absurd placed
own-past requests.Sync size p placed here past = absurd placed

-- a request that is home changes nothing
home-same : (part : Part) (request : Request) → IsPlaced request → IsHome part request →
    effect (stored_by part.size part.byte) request ≡ stored_by part.size part.byte
home-same part request placed home = ext_get_or 0 (effect stored request) stored long same
  where
    stored : List ℕ
    stored = stored_by part.size part.byte

    long_is : length stored ≡ part.size
    long_is = long-stored part.size part.byte

    long : length (effect stored request) ≡ length stored
    long =
        long-after request stored placed
        ∙ (ap (size_after request) long_is ∙ (home.size_is ∙ sym long_is))

    same : (p : ℕ) → p < length (effect stored request) →
        get_or (effect stored request) p 0 ≡ get_or stored p 0
    same p within = elim (touches-or-not request p placed) [
      | inl here ↦
          own-there request stored p placed here
          ∙ (sym (home.bytes_are p here)
          ∙ sym (stored-within part.size part.byte p (omega (arith, long, long_is))))
      | inr beside ↦ stays-beside request stored p placed beside
    ]

closed-keeps : (first second : Part) → IsSound first → (entry : ℕ × Request)
    (rest : List (ℕ × Request)) → Closed first second entry rest → Keeps first second
closed-keeps first second sound entry rest step = record {
  recovers =
      ap (λ (es : List (ℕ × Request)). taken_through (stored_by second.size second.byte) es)
      step.entries
      ∙ (ap (λ (file : List ℕ). taken_through file rest) stored_same
      ∙ (ap (λ (file : List ℕ). taken_through file rest)
      (sym (home-same first entry.1 placed.0 step.home))
      ∙ sym (ap (λ (es : List (ℕ × Request)).
      taken_through (stored_by first.size first.byte) es) step.lowest)));
  sound = record {
    fits = omega (arith, step.size, sound.fits);
    placed = subst ArePlaced (sym step.entries) placed.1;
    zero_past = λ p past out.
        step.bytes p ∙ zero p (omega (arith, step.size))
        (subst (λ (es : List (ℕ × Request)). SomeTouches es p → ⊥) step.entries out);
  };
}
  where
    placed : ArePlaced (entry ∷ rest)
    placed = subst ArePlaced step.lowest sound.placed

    stored_same : stored_by second.size second.byte ≡ stored_by first.size first.byte
    stored_same =
        ap (λ (n : ℕ). stored_by n second.byte) step.size
        ∙ map-same second.byte first.byte step.bytes (range_with_len 0 first.size)

    zero : (p : ℕ) → first.size ≤ p → (SomeTouches rest p → ⊥) → first.byte p ≡ 0
    zero p past out = elim (touches-or-not entry.1 p placed.0) [
      | inl here ↦
          step.home.bytes_are p here
          ∙ own-past entry.1 first.size p placed.0 here (omega (arith, step.home.size_is))
      | inr beside ↦
          sound.zero_past p past (subst (λ (es : List (ℕ × Request)). SomeTouches es p → ⊥)
          (sym step.lowest) (λ h. elim h [ inl own ↦ beside own | inr more ↦ out more ]))
    ]

pub parts-kept : PartsAreKept
parts-kept first second sound =
    (bytes-moved first second sound, size-moved first second sound, closed-keeps first second sound)
