-- Words that hold a request whole.
use Rattle.std.proofs.Common.{ℕ, ◌+◌, ◌-◌, ◌*◌, ◌%◌, ◌^◌, ◌==◌, ◌<◌, ◌≤◌, ◌≡◌, ◌∙◌, true, false, List, [], ◌∷◌, ◌++◌, length, take, drop, get_or, if◌then◌else◌, inl, inr, refl, sym, ap, subst, arith, append_assoc}
use Rattle.std.proofs.Math.ListN.{replicate}
use Rattle.std.proofs.lemmas.List.{append-nil, take-append-drop, take_at, take_all, length-drop, length-take-le}
use Rattle.std.proofs.lemmas.Bool.{cases_lt, ne_eqb}
use Rattle.std.proofs.lemmas.Grind.{flat_map-append}
use Rattle.std.specs.Int.{w64, to_le_bytes}
use Rattle.std.specs.List.{flat_map}
use Rattle.cfs_file.specs.declared.request.Request.{Request}
use Rattle.cfs_file.specs.declared.request.Request.TheVariants.{Write, Append, Truncate, Read, Sync}
use Rattle.cfs_slot.specs.Words.{offset_of, kind_of, count_of, tails_of, bytes_of, area_of, payload_of, request_of}
use Rattle.cfs_slot.specs.Staging.{IsStageable, IsLong, IsStaged, IsPart, IsStagedLong, AreParts, HoldsPayload, staged_offset, staged_kind, staged_payload, staged_request, words_for}
use Rattle.cfs_slot.specs.Operations.{slot_ops, stage_ops, head_ops}
use Rattle.cfs_slot.specs.Tails.{set_of, numbers_in}
use Rattle.cfs_slot.specs.Writing.{HoldsFields}

-- the payload of words that hold it, and what stands behind it
pub record Holds (bytes area : List ℕ) : Type 0 where
  pub behind : List ℕ
  pub is : area ≡ bytes ++ behind

pub area_held : (payload words : List ℕ) → HoldsPayload payload words → Holds payload (area_of words)
area_held payload words held =
    let n : ℕ = words_for (length payload) in
    let zeros : List ℕ = replicate (8 * n - length payload) 0 in
    let rest : List ℕ = bytes_of (drop n (drop 6 words)) in
    record {
      behind = zeros ++ rest;
      is = ap (λ ws. bytes_of ws) (sym (take-append-drop n (drop 6 words)))
          ∙ flat_map-append (to_le_bytes w64) (take n (drop 6 words)) (drop n (drop 6 words))
          ∙ ap (λ bs. bs ++ rest) held
          ∙ append_assoc payload zeros rest;
    }

-- a payload of 4096 bytes fills all 512 words
pub area_full : (payload words : List ℕ) → length words ≡ 518 → length payload ≡ 4096 → HoldsPayload payload words → area_of words ≡ payload
area_full payload words size full held =
    let n : ℕ = words_for (length payload) in
    let all : take n (drop 6 words) ≡ drop 6 words = take_all n (drop 6 words) (omega (arith, length-drop 6 words)) in
    let none : 8 * n - length payload ≡ 0 = omega arith in
    ap (λ ws. bytes_of ws) (sym all) ∙ held ∙ ap (λ (k : ℕ). payload ++ replicate k 0) none ∙ append-nil payload

-- each of these lists of words is a slot's
abbrev pub AreSlots : List (List ℕ) → Type 0
AreSlots [] = Unit {0}
AreSlots (words ∷ rest) = (length words ≡ 518) × AreSlots rest

-- tails that hold bytes in order
pub parts_held : (ino grant : ℕ) (bytes : List ℕ) (tails : List (List ℕ)) → AreSlots tails → AreParts ino grant bytes tails → Holds bytes (flat_map area_of tails)
parts_held ino grant [] [] slots parts = record { behind = []; is = refl }
parts_held ino grant (b ∷ bytes) [] slots parts = absurd (omega (arith, parts))
parts_held ino grant bytes (words ∷ tails) slots parts =
    let rest = parts_held ino grant (drop 4096 bytes) tails slots.1 parts.2 in
    elim (cases_lt 4096 (length bytes)) [
      | inl more ↦
          let full : area_of words ≡ take 4096 bytes = area_full (take 4096 bytes) words slots.0 (length-take-le 4096 bytes (omega arith)) parts.1.payload_is in
          record {
            behind = rest.behind;
            is = ap (λ bs. bs ++ flat_map area_of tails) full ∙ ap (λ bs. take 4096 bytes ++ bs) rest.is
                ∙ sym (append_assoc (take 4096 bytes) (drop 4096 bytes) rest.behind) ∙ ap (λ bs. bs ++ rest.behind) (take-append-drop 4096 bytes);
          }
      | inr last ↦
          let all : take 4096 bytes ≡ bytes = take_all 4096 bytes last in
          let here = area_held (take 4096 bytes) words parts.1.payload_is in
          record {
            behind = here.behind ++ flat_map area_of tails;
            is = ap (λ bs. bs ++ flat_map area_of tails) here.is ∙ ap (λ bs. (bs ++ here.behind) ++ flat_map area_of tails) all
                ∙ append_assoc bytes here.behind (flat_map area_of tails);
          }
    ]

pub payload_held : (payload words : List ℕ) (tails : List (List ℕ)) → count_of words ≡ length payload → Holds payload (flat_map area_of (words ∷ tails)) → payload_of words tails ≡ payload
payload_held payload words tails count held =
    ap (λ (k : ℕ). take k (flat_map area_of (words ∷ tails))) count
    ∙ ap (λ bs. take (length payload) bs) held.is
    ∙ take_at payload held.behind (length payload) refl

-- one slot alone
pub alone_held : (payload words : List ℕ) → HoldsPayload payload words → Holds payload (flat_map area_of (words ∷ []))
alone_held payload words held =
    let here = area_held payload words held in
    record { behind = here.behind; is = append-nil (area_of words) ∙ here.is }

-- The kind, the length and the tails that share word 4.

pub short_kind : (words : List ℕ) (kind count : ℕ) → kind ≤ 4 → count ≤ 4096 → get_or words 4 0 ≡ kind * 65536 + count → kind_of words ≡ kind
short_kind words kind count few most is = omega (arith, is)

pub short_count : (words : List ℕ) (kind count : ℕ) → kind ≤ 4 → (kind == 3) ≡ false → count ≤ 4096 → get_or words 4 0 ≡ kind * 65536 + count → count_of words ≡ count
short_count words kind count few other most is =
    let low : get_or words 4 0 % 65536 ≡ count = omega (arith, is) in
    let at : (kind_of words == 3) ≡ false = ap (λ (k : ℕ). k == 3) (short_kind words kind count few most is) ∙ other in
    ap (λ b. if b then get_or words 4 0 % 65536 + 1 else get_or words 4 0 % 65536) at ∙ low

pub short_tails : (words : List ℕ) (kind count : ℕ) → kind ≤ 4 → count ≤ 4096 → get_or words 4 0 ≡ kind * 65536 + count → tails_of words ≡ 0
short_tails words kind count few most is = omega (arith, is)

pub long_kind : (words : List ℕ) (tails less : ℕ) → less < 65536 → get_or words 4 0 ≡ tails * 2 ^ 32 + (3 * 65536 + less) → kind_of words ≡ 3
long_kind words tails less few is = omega (arith, is)

pub long_count : (words : List ℕ) (tails less : ℕ) → less < 65536 → get_or words 4 0 ≡ tails * 2 ^ 32 + (3 * 65536 + less) → count_of words ≡ less + 1
long_count words tails less few is =
    let low : get_or words 4 0 % 65536 ≡ less = omega (arith, is) in
    let at : (kind_of words == 3) ≡ true = ap (λ (k : ℕ). k == 3) (long_kind words tails less few is) in
    ap (λ b. if b then get_or words 4 0 % 65536 + 1 else get_or words 4 0 % 65536) at ∙ ap (λ (n : ℕ). n + 1) low

pub long_tails : (words : List ℕ) (tails less : ℕ) → less < 65536 → get_or words 4 0 ≡ tails * 2 ^ 32 + (3 * 65536 + less) → tails_of words ≡ tails
long_tails words tails less few is = omega (arith, is)

-- the request that words stand for
write_of : (words : List ℕ) (tails : List (List ℕ)) (kind offset : ℕ) (payload : List ℕ) → kind_of words ≡ kind → (kind == 2) ≡ false → offset_of words ≡ offset → payload_of words tails ≡ payload
    → request_of words tails ≡ Write offset payload
write_of words tails kind offset payload k other at held =
    ap (λ (n : ℕ). if n == 2 then Truncate (offset_of words) else Write (offset_of words) (payload_of words tails)) k
    ∙ ap (λ b. if b then Truncate (offset_of words) else Write (offset_of words) (payload_of words tails)) other
    ∙ ap (λ o. Write o (payload_of words tails)) at ∙ ap (λ bs. Write offset bs) held

request_held : (request : Request) (words : List ℕ) → IsStageable request → kind_of words ≡ staged_kind request → offset_of words ≡ staged_offset request
    → payload_of words [] ≡ staged_payload request → request_of words [] ≡ staged_request request
request_held (Write offset bytes) words s kind at payload = write_of words [] 1 offset bytes kind refl at payload
request_held (Append bytes) words s kind at payload = write_of words [] 1 0 bytes kind refl at payload
request_held (Truncate n) words s kind at payload =
    ap (λ (k : ℕ). if k == 2 then Truncate (offset_of words) else Write (offset_of words) (payload_of words [])) kind
    ∙ ap (λ o. Truncate o) at
request_held (Read offset count) words s kind at payload = absurd s
request_held Sync words s kind at payload = absurd s

long_held : (request : Request) (words : List ℕ) (tails : List (List ℕ)) → IsLong request → kind_of words ≡ 3 → offset_of words ≡ staged_offset request
    → payload_of words tails ≡ staged_payload request → request_of words tails ≡ staged_request request
long_held (Write offset bytes) words tails s kind at payload = write_of words tails 3 offset bytes kind refl at payload
long_held (Append bytes) words tails s kind at payload = write_of words tails 3 0 bytes kind refl at payload
long_held (Truncate n) words tails s kind at payload = absurd s
long_held (Read offset count) words tails s kind at payload = absurd s
long_held Sync words tails s kind at payload = absurd s

pub payload_most : (request : Request) → IsStageable request → length (staged_payload request) ≤ 4096
payload_most (Write offset bytes) s = s.1
payload_most (Append bytes) s = s.1
payload_most (Truncate n) s = omega arith
payload_most (Read offset count) s = absurd s
payload_most Sync s = absurd s

kind_small : (request : Request) → IsStageable request → staged_kind request ≤ 2
kind_small (Write offset bytes) s = omega arith
kind_small (Append bytes) s = omega arith
kind_small (Truncate n) s = omega arith
kind_small (Read offset count) s = absurd s
kind_small Sync s = absurd s

pub long_bounds : (request : Request) → IsLong request → (4096 < length (staged_payload request)) × (length (staged_payload request) ≤ 65536)
long_bounds (Write offset bytes) s = s
long_bounds (Append bytes) s = s
long_bounds (Truncate n) s = absurd s
long_bounds (Read offset count) s = absurd s
long_bounds Sync s = absurd s

-- What stands in a slot after each of the three stages.

pub staged_short : (ino : ℕ) (request : Request) (grant : ℕ) (words : List ℕ) → IsStageable request
    → HoldsFields ino (staged_offset request) (staged_kind request * 65536 + length (staged_payload request)) grant (staged_payload request) words
    → IsStaged ino request grant words
staged_short ino request grant words s h =
    let kind : ℕ = staged_kind request in
    let count : ℕ = length (staged_payload request) in
    let few : kind ≤ 2 = kind_small request s in
    let most : count ≤ 4096 = payload_most request s in
    let other : (kind == 3) ≡ false = ne_eqb kind 3 (λ e. absurd (omega arith)) in
    let kind_is : kind_of words ≡ kind = short_kind words kind count (omega arith) most h.kind_is in
    let count_is : count_of words ≡ count = short_count words kind count (omega arith) other most h.kind_is in
    record {
      gate_is = h.gate_is;
      mark_is = h.mark_is;
      ino_is = h.ino_is;
      offset_is = h.offset_is;
      kind_is = kind_is;
      count_is = count_is;
      grant_is = h.grant_is;
      tails_are = short_tails words kind count (omega arith) most h.kind_is;
      payload_is = h.payload_is;
      stands_for = request_held request words s kind_is h.offset_is
          (payload_held (staged_payload request) words [] count_is (alone_held (staged_payload request) words h.payload_is));
    }

pub staged_part : (ino : ℕ) (part : List ℕ) (grant : ℕ) (words : List ℕ) → length part ≤ 4096 → HoldsFields ino 0 (4 * 65536 + length part) grant part words
    → IsPart ino part grant words
staged_part ino part grant words most h = record {
  gate_is = h.gate_is;
  mark_is = h.mark_is;
  ino_is = h.ino_is;
  offset_is = h.offset_is;
  kind_is = short_kind words 4 (length part) (omega arith) most h.kind_is;
  count_is = short_count words 4 (length part) (omega arith) refl most h.kind_is;
  grant_is = h.grant_is;
  payload_is = h.payload_is;
}

pub staged_long : (ino : ℕ) (request : Request) (grant set : ℕ) (numbers words : List ℕ) (tails : List (List ℕ)) → IsLong request → numbers_in set ≡ numbers
    → length words ≡ 518 → AreSlots tails → AreParts ino grant (drop 4096 (staged_payload request)) tails
    → HoldsFields ino (staged_offset request) (set * 2 ^ 32 + (3 * 65536 + (length (staged_payload request) - 1))) grant (take 4096 (staged_payload request)) words
    → IsStagedLong ino request grant numbers words tails
staged_long ino request grant set numbers words tails s numbers_are size slots parts h =
    let payload : List ℕ = staged_payload request in
    let bounds = long_bounds request s in
    let less : ℕ = length payload - 1 in
    let few : less < 65536 = omega (arith, bounds.1) in
    let kind_is : kind_of words ≡ 3 = long_kind words set less few h.kind_is in
    let all : less + 1 ≡ length payload = omega (arith, bounds.0) in
    let count_is : count_of words ≡ length payload = long_count words set less few h.kind_is ∙ all in
    let first : area_of words ≡ take 4096 payload = area_full (take 4096 payload) words size (length-take-le 4096 payload (omega (arith, bounds.0))) h.payload_is in
    let rest = parts_held ino grant (drop 4096 payload) tails slots parts in
    let held : Holds payload (flat_map area_of (words ∷ tails)) = record {
      behind = rest.behind;
      is = ap (λ bs. bs ++ flat_map area_of tails) first ∙ ap (λ bs. take 4096 payload ++ bs) rest.is
          ∙ sym (append_assoc (take 4096 payload) (drop 4096 payload) rest.behind) ∙ ap (λ bs. bs ++ rest.behind) (take-append-drop 4096 payload);
    } in
    record {
      gate_is = h.gate_is;
      mark_is = h.mark_is;
      ino_is = h.ino_is;
      offset_is = h.offset_is;
      kind_is = kind_is;
      count_is = count_is;
      grant_is = h.grant_is;
      tails_are = ap (λ (n : ℕ). numbers_in n) (long_tails words set less few h.kind_is) ∙ numbers_are;
      payload_is = h.payload_is;
      parts_are = parts;
      stands_for = long_held request words tails s kind_is h.offset_is (payload_held payload words tails count_is held);
    }

-- The operations of a stage, and what they leave, by what was computed of the request.

pub stage_is : (ino grant : ℕ) (request : Request) (offset kind : ℕ) (payload : List ℕ) → offset ≡ staged_offset request → kind ≡ staged_kind request → payload ≡ staged_payload request
    → slot_ops ino offset (kind * 65536 + length payload) grant payload ≡ stage_ops ino request grant
stage_is ino grant request offset kind payload o k p =
    ap (λ n. slot_ops ino n (kind * 65536 + length payload) grant payload) o
    ∙ ap (λ n. slot_ops ino (staged_offset request) (n * 65536 + length payload) grant payload) k
    ∙ ap (λ (bs : List ℕ). slot_ops ino (staged_offset request) (staged_kind request * 65536 + length bs) grant bs) p

pub stage_holds : (ino grant : ℕ) (request : Request) (offset kind : ℕ) (payload words : List ℕ) → offset ≡ staged_offset request → kind ≡ staged_kind request → payload ≡ staged_payload request
    → HoldsFields ino offset (kind * 65536 + length payload) grant payload words
    → HoldsFields ino (staged_offset request) (staged_kind request * 65536 + length (staged_payload request)) grant (staged_payload request) words
stage_holds ino grant request offset kind payload words o k p h =
    subst (λ (bs : List ℕ). HoldsFields ino (staged_offset request) (staged_kind request * 65536 + length bs) grant bs words) p
    (subst (λ n. HoldsFields ino (staged_offset request) (n * 65536 + length payload) grant payload words) k
    (subst (λ n. HoldsFields ino n (kind * 65536 + length payload) grant payload words) o h))

pub head_is : (ino grant : ℕ) (request : Request) (numbers : List ℕ) (offset set : ℕ) (payload first : List ℕ) → offset ≡ staged_offset request → set ≡ set_of numbers → payload ≡ staged_payload request
    → first ≡ take 4096 payload
    → slot_ops ino offset (set * 2 ^ 32 + (3 * 65536 + (length payload - 1))) grant first ≡ head_ops ino request grant numbers
head_is ino grant request numbers offset set payload first o s p f =
    ap (λ n. slot_ops ino n (set * 2 ^ 32 + (3 * 65536 + (length payload - 1))) grant first) o
    ∙ ap (λ n. slot_ops ino (staged_offset request) (n * 2 ^ 32 + (3 * 65536 + (length payload - 1))) grant first) s
    ∙ ap (λ bs. slot_ops ino (staged_offset request) (set_of numbers * 2 ^ 32 + (3 * 65536 + (length payload - 1))) grant bs) f
    ∙ ap (λ (bs : List ℕ). slot_ops ino (staged_offset request) (set_of numbers * 2 ^ 32 + (3 * 65536 + (length bs - 1))) grant (take 4096 bs)) p

pub head_holds : (ino grant : ℕ) (request : Request) (numbers : List ℕ) (offset set : ℕ) (payload first words : List ℕ) → offset ≡ staged_offset request → set ≡ set_of numbers → payload ≡ staged_payload request
    → first ≡ take 4096 payload
    → HoldsFields ino offset (set * 2 ^ 32 + (3 * 65536 + (length payload - 1))) grant first words
    → HoldsFields ino (staged_offset request) (set_of numbers * 2 ^ 32 + (3 * 65536 + (length (staged_payload request) - 1))) grant (take 4096 (staged_payload request)) words
head_holds ino grant request numbers offset set payload first words o s p f h =
    subst (λ (bs : List ℕ). HoldsFields ino (staged_offset request) (set_of numbers * 2 ^ 32 + (3 * 65536 + (length bs - 1))) grant (take 4096 bs) words) p
    (subst (λ bs. HoldsFields ino (staged_offset request) (set_of numbers * 2 ^ 32 + (3 * 65536 + (length payload - 1))) grant bs words) f
    (subst (λ n. HoldsFields ino (staged_offset request) (n * 2 ^ 32 + (3 * 65536 + (length payload - 1))) grant first words) s
    (subst (λ n. HoldsFields ino n (set * 2 ^ 32 + (3 * 65536 + (length payload - 1))) grant first words) o h)))
