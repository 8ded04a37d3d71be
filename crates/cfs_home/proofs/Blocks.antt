-- Blocks that are alike for one inode have the same bytes of it.
use Rattle.std.proofs.Common.{◌≡◌, ◌≢◌, ◌⊎◌, ◌∙◌, ◌==◌, inl, inr, ℕ, zero, suc, ◌/◌, ◌%◌, ◌<◌}
use Rattle.std.proofs.Common.{nat_lt, Bool, true, false, if◌then◌else◌, cond, Option, Some, None}
use Rattle.std.proofs.Common.{List, [], ◌∷◌, length, get_or, set, arith, refl, sym, ap, subst}
use Rattle.std.specs.List.{find}
use Rattle.std.proofs.lemmas.Bool.{cases_lt}
use Rattle.std.proofs.lemmas.Bool.Decides.{nat_tests}
use Rattle.std.proofs.lemmas.List.{get_or-set_other, get_or-set_same, set_past}
use Rattle.cfs_file.specs.declared.request.Request.{Request}
use Rattle.cfs_file.specs.declared.request.Request.TheVariants as requests
use Rattle.cfs_file.specs.declared.sizes.TheConstants.{BLOCK_LEN, FILE_BLOCKS}
use Rattle.cfs_file.specs.Span.{Touches}
use Rattle.cfs_block.specs.BlockImages.{Content}
use Rattle.cfs_medium.specs.Store.{byte_in, byte_of, tag_of}
use Rattle.cfs_medium.specs.Depicts.{IsFor, content_at}
use Rattle.cfs_medium.specs.Laws.{IsOfOthers}
use Rattle.cfs_medium.proofs.Others.{tags-apart}
use Rattle.cfs_home.specs.Disks.{BlocksBeside, BlocksHold, IsMapped}
use Rattle.cfs_home.specs.Parts.{IsPlaced, own_byte}

abbrev tagged_for : ℕ → ℕ → List Content → Option Content
tagged_for ino block blocks = find (λ content. content.tag == tag_of ino block) blocks

-- ---- the first block with a tag

record IsFirst (ino block : ℕ) (blocks : List Content) (at : ℕ) : Type 0 where
  here : IsFor ino block blocks at
  none_below : (k : ℕ) → k < at → IsFor ino block blocks k → ⊥
  found : tagged_for ino block blocks ≡ Some (content_at blocks at)

record IsNowhere (ino block : ℕ) (blocks : List Content) : Type 0 where
  none : (k : ℕ) → IsFor ino block blocks k → ⊥
  missing : tagged_for ino block blocks ≡ None

abbrev Is : ℕ → ℕ → List Content → Type 0
Is ino block blocks = ((at : ℕ) × IsFirst ino block blocks at) ⊎ IsNowhere ino block blocks

first-or-none : (ino block : ℕ) (blocks : List Content) → Is ino block blocks
first-or-none ino block [] = inr (record { none = λ k is. omega (arith, is); missing = refl })
first-or-none ino block (first ∷ rest) =
    test (first-or-none ino block rest) (first.tag == tag_of ino block) refl
  where
    shown : (b : Bool) → (first.tag == tag_of ino block) ≡ b →
        tagged_for ino block (first ∷ rest) ≡ cond b (Some first) (tagged_for ino block rest)
    shown b is = ap (λ (c : Bool). cond c (Some first) (tagged_for ino block rest)) is

    none_more : (first.tag == tag_of ino block) ≡ false → (n : ℕ) →
        ((k : ℕ) → k < n → IsFor ino block rest k → ⊥) →
        (k : ℕ) → k < suc n → IsFor ino block (first ∷ rest) k → ⊥
    none_more is n none zero less here = grind (arith, nat_tests)
    none_more is n none (suc k) less here = none k (omega arith) here

    nowhere : (first.tag == tag_of ino block) ≡ false → ((k : ℕ) → IsFor ino block rest k → ⊥) →
        (k : ℕ) → IsFor ino block (first ∷ rest) k → ⊥
    nowhere is none zero here = grind (arith, nat_tests)
    nowhere is none (suc k) here = none k here

    test : Is ino block rest → (b : Bool) → (first.tag == tag_of ino block) ≡ b →
        Is ino block (first ∷ rest)
    test later true is =
        let here : first.tag ≡ tag_of ino block = grind (arith, nat_tests) in
        inl (
          0,
          record {
            here = here;
            none_below = λ k less at. absurd (omega arith);
            found = shown true is;
          },
        )
    test later false is = elim later [
      | inl found ↦ inl (
        suc found.0,
        record {
          here = found.1.here;
          none_below = none_more is found.0 found.1.none_below;
          found = shown false is ∙ found.1.found;
        },
      )
      | inr nowhere_else ↦ inr (record {
        none = nowhere is nowhere_else.none;
        missing = shown false is ∙ nowhere_else.missing;
      })
    ]

-- ---- the byte at a position

-- For the block of this position the two have the same places tagged, with the same byte there.
pub record AreAlike (ino position : ℕ) (first second : List Content) : Type 0 where
  pub into : (at : ℕ) → IsFor ino (position / BLOCK_LEN) first at →
      IsFor ino (position / BLOCK_LEN) second at
  pub back : (at : ℕ) → IsFor ino (position / BLOCK_LEN) second at →
      IsFor ino (position / BLOCK_LEN) first at
  pub bytes : (at : ℕ) → IsFor ino (position / BLOCK_LEN) first at →
      get_or (content_at second at).bytes (position % BLOCK_LEN) 0
      ≡ get_or (content_at first at).bytes (position % BLOCK_LEN) 0

found-alike : (ino p : ℕ) (first second : List Content) → AreAlike ino p first second →
    byte_of (tagged_for ino (p / BLOCK_LEN) second) (p % BLOCK_LEN)
    ≡ byte_of (tagged_for ino (p / BLOCK_LEN) first) (p % BLOCK_LEN)
found-alike ino p first second alike =
    both (first-or-none ino (p / BLOCK_LEN) first) (first-or-none ino (p / BLOCK_LEN) second)
  where
    byte : Option Content → ℕ
    byte found = byte_of found (p % BLOCK_LEN)

    one_place : (a b : ℕ) → IsFirst ino (p / BLOCK_LEN) first a →
        IsFirst ino (p / BLOCK_LEN) second b → b ≡ a
    one_place a b one other = elim (cases_lt a b) [
      | inl below ↦ absurd (other.none_below a below (alike.into a one.here))
      | inr up ↦ elim (cases_lt b a) [
        | inl above ↦ absurd (one.none_below b above (alike.back b other.here))
        | inr neither ↦ omega arith
      ]
    ]

    both : Is ino (p / BLOCK_LEN) first → Is ino (p / BLOCK_LEN) second →
        byte (tagged_for ino (p / BLOCK_LEN) second) ≡ byte (tagged_for ino (p / BLOCK_LEN) first)
    both (inl one) (inl other) =
        let same = one_place one.0 other.0 one.1 other.1 in
        ap byte other.1.found
        ∙ (ap (λ (at : ℕ). get_or (content_at second at).bytes (p % BLOCK_LEN) 0) same
        ∙ (alike.bytes one.0 one.1.here ∙ sym (ap byte one.1.found)))
    both (inl one) (inr other) = absurd (other.none one.0 (alike.into one.0 one.1.here))
    both (inr one) (inl other) = absurd (one.none other.0 (alike.back other.0 other.1.here))
    both (inr one) (inr other) = ap byte other.missing ∙ sym (ap byte one.missing)

-- the premise is wanted within the longest file alone: past it no block counts
pub byte-alike : (ino p : ℕ) (first second : List Content) →
    (p / BLOCK_LEN < FILE_BLOCKS → AreAlike ino p first second) →
    byte_in ino second p ≡ byte_in ino first p
byte-alike ino p first second alike = elim (cases_lt (p / BLOCK_LEN) FILE_BLOCKS) [
  | inl within ↦
      let test : nat_lt (p / BLOCK_LEN) FILE_BLOCKS ≡ true = grind (arith, nat_tests) in
      chosen second true test
      ∙ (found-alike ino p first second (alike within) ∙ sym (chosen first true test))
  | inr past ↦
      let test : nat_lt (p / BLOCK_LEN) FILE_BLOCKS ≡ false = grind (arith, nat_tests) in
      chosen second false test ∙ sym (chosen first false test)
]
  where
    chosen : (blocks : List Content) (b : Bool) → nat_lt (p / BLOCK_LEN) FILE_BLOCKS ≡ b →
        byte_in ino blocks p
        ≡ byte_of (if b then tagged_for ino (p / BLOCK_LEN) blocks else None) (p % BLOCK_LEN)
    chosen blocks b test = ap (λ (c : Bool).
        byte_of (if c then tagged_for ino (p / BLOCK_LEN) blocks else None) (p % BLOCK_LEN)) test

-- ---- steps

-- a position that the request does not touch
pub written-beside : (ino : ℕ) (request : Request) (first second : List Content) (p : ℕ) →
    BlocksBeside ino request first second → (Touches request 0 p → ⊥) →
    byte_in ino second p ≡ byte_in ino first p
written-beside ino request first second p step out =
    byte-alike ino p first second (λ within. record {
      into = λ at here. step.tags at ∙ here;
      back = λ at here. sym (step.tags at) ∙ here;
      bytes = λ at here. step.beside at p within here out;
    })

-- and every position of another inode
pub written-other : (ino other : ℕ) (request : Request) (first second : List Content) (p : ℕ) →
    other ≢ ino → BlocksBeside ino request first second →
    byte_in other second p ≡ byte_in other first p
written-other ino other request first second p differs step =
    byte-alike other p first second (λ within. record {
      into = λ at here. step.tags at ∙ here;
      back = λ at here. sym (step.tags at) ∙ here;
      bytes = λ at here. ap (λ (content : Content). get_or content.bytes (p % BLOCK_LEN) 0)
          (step.others at (subst (IsOfOthers ino) (sym here)
          ((tags-apart ino).1 other (p / BLOCK_LEN) differs within)));
    })

-- what is set at a place is the new content, or the old one where there is no such place
set-tag : (ino at : ℕ) (blocks : List Content) (content : Content) →
    IsOfOthers ino (content_at blocks at).tag → IsOfOthers ino content.tag →
    IsOfOthers ino (content_at (set blocks at content) at).tag
set-tag ino at blocks content old new = elim (cases_lt at (length blocks)) [
  | inl within ↦ subst (λ (c : Content). IsOfOthers ino c.tag)
      (sym (get_or-set_same blocks at content (record { tag = 0; bytes = [] }) within)) new
  | inr past ↦ subst (λ (list : List Content). IsOfOthers ino (content_at list at).tag)
      (sym (set_past blocks at content past)) old
]

pub set-other : (ino at : ℕ) (blocks : List Content) (content : Content) →
    IsOfOthers ino (content_at blocks at).tag → IsOfOthers ino content.tag → (p : ℕ) →
    byte_in ino (set blocks at content) p ≡ byte_in ino blocks p
set-other ino at blocks content old new p =
    byte-alike ino p blocks (set blocks at content) (λ within. record {
      into = λ k here. ap (λ (c : Content). c.tag) (stays k (differs k within here)) ∙ here;
      back = λ k here.
          sym (ap (λ (c : Content). c.tag) (stays k (differs_new k within here))) ∙ here;
      bytes = λ k here. ap (λ (c : Content). get_or c.bytes (p % BLOCK_LEN) 0)
          (stays k (differs k within here));
    })
  where
    stays : (k : ℕ) → k ≢ at → content_at (set blocks at content) k ≡ content_at blocks k
    stays k apart = get_or-set_other blocks at k content (record { tag = 0; bytes = [] }) apart

    differs : (k : ℕ) → p / BLOCK_LEN < FILE_BLOCKS → IsFor ino (p / BLOCK_LEN) blocks k → k ≢ at
    differs k within here same = old (p / BLOCK_LEN) within
        (subst (λ (j : ℕ). IsFor ino (p / BLOCK_LEN) blocks j) same here)

    differs_new : (k : ℕ) → p / BLOCK_LEN < FILE_BLOCKS →
        IsFor ino (p / BLOCK_LEN) (set blocks at content) k → k ≢ at
    differs_new k within here same = set-tag ino at blocks content old new (p / BLOCK_LEN) within
        (subst (λ (j : ℕ). IsFor ino (p / BLOCK_LEN) (set blocks at content) j) same here)

-- ---- bytes that stand

-- the byte of the first block that is tagged for the position, or 0 where there is none
abbrev IsRead : ℕ → ℕ → List Content → Type 0
IsRead ino p blocks =
    ((at : ℕ) × ((p / BLOCK_LEN < FILE_BLOCKS) × (IsFor ino (p / BLOCK_LEN) blocks at
    × (byte_in ino blocks p ≡ get_or (content_at blocks at).bytes (p % BLOCK_LEN) 0))))
    ⊎ ((p / BLOCK_LEN < FILE_BLOCKS → (at : ℕ) → IsFor ino (p / BLOCK_LEN) blocks at → ⊥)
    × (byte_in ino blocks p ≡ 0))

read-byte : (ino p : ℕ) (blocks : List Content) → IsRead ino p blocks
read-byte ino p blocks = elim (cases_lt (p / BLOCK_LEN) FILE_BLOCKS) [
  | inl within ↦
      let test : nat_lt (p / BLOCK_LEN) FILE_BLOCKS ≡ true = grind (arith, nat_tests) in
      elim (first-or-none ino (p / BLOCK_LEN) blocks) [
        | inl found ↦ inl (
          found.0,
          (
            within,
            (
              found.1.here,
              chosen true test ∙ ap byte found.1.found,
            ),
          ),
        )
        | inr nowhere ↦ inr (λ less at. nowhere.none at, chosen true test ∙ ap byte nowhere.missing)
      ]
  | inr past ↦
      let test : nat_lt (p / BLOCK_LEN) FILE_BLOCKS ≡ false = grind (arith, nat_tests) in
      inr (λ less at is. omega arith, chosen false test)
]
  where
    byte : Option Content → ℕ
    byte found = byte_of found (p % BLOCK_LEN)

    chosen : (b : Bool) → nat_lt (p / BLOCK_LEN) FILE_BLOCKS ≡ b →
        byte_in ino blocks p
        ≡ byte (if b then tagged_for ino (p / BLOCK_LEN) blocks else None)
    chosen b test = ap (λ (c : Bool).
        byte (if c then tagged_for ino (p / BLOCK_LEN) blocks else None)) test

pub byte-held : (ino : ℕ) (request : Request) (blocks : List Content) (p : ℕ) →
    IsPlaced request → IsMapped ino request blocks → BlocksHold ino request blocks →
    Touches request 0 p → byte_in ino blocks p ≡ own_byte request p
byte-held ino (requests.Write offset bytes) blocks p placed mapped hold here =
    elim (read-byte ino p blocks) [
      | inl read ↦ read.1.1.1 ∙ hold read.0 p read.1.0 read.1.1.0 here
      | inr nowhere ↦
          let block = mapped p here in
          let high = here.1 in
          absurd (nowhere.0 (omega (arith, placed, high)) block.0 block.1)
    ]
byte-held ino (requests.Append bytes) blocks p placed mapped hold here = absurd placed
byte-held ino (requests.Truncate n) blocks p placed mapped hold here =
    elim (read-byte ino p blocks) [
      | inl read ↦ read.1.1.1 ∙ hold read.0 p read.1.0 read.1.1.0 here
      | inr nowhere ↦ nowhere.1
    ]
byte-held ino (requests.Read offset count) blocks p placed mapped hold here = absurd placed
byte-held ino requests.Sync blocks p placed mapped hold here = absurd placed
