-- Devices that say one thing each, with no request in their slots, show a core of which nothing is
-- logged.
use Rattle.std.proofs.Common.{◌≡◌, ℕ, ◌+◌, ◌-◌, ◌*◌, ◌<◌, Bool, true, false, ◌||◌, Option}
use Rattle.std.proofs.Common.{Some, None, List, [], ◌∷◌, length, get_or, refl, sym, ap, ◌∙◌, subst}
use Rattle.std.proofs.Common.{if◌then◌else◌, arith}
use Rattle.std.specs.Prelude.{◌==◌}
use Rattle.std.proofs.lemmas.Bool.{eq-eqb, ne_eqb}
use Rattle.cfs_file.specs.declared.sizes.TheConstants.{BLOCK_LEN, FILE_BLOCKS}
use Rattle.cfs_core.specs.declared.flag.Flag.{Flag}
use Rattle.cfs_core.specs.declared.flag.Flag.TheVariants.{Off, On}
use Rattle.cfs_core.specs.declared.inode_core.Core.{Core}
use Rattle.cfs_core.specs.declared.track.Track.{Track}
use Rattle.cfs_core.specs.Words.{blank, can_be, track}
use Rattle.cfs_pmem.specs.Images.{IsSure, Seen, words_of}
use Rattle.cfs_block.specs.BlockImages.{BlockStep, IsSureBlock, content_of}
use Rattle.cfs_medium.specs.Shows.{BlockFits, BlockShown, Shows, SlotsShown, holding}
use Rattle.cfs_medium.specs.Shows.{is_for}
use Rattle.cfs_medium.specs.Store.{tag_of}
use Rattle.cfs_medium.specs.World as media

abbrev pub rest_core : List ℕ → List Flag → Core
rest_core base tags = record {
  base = base;
  log = [];
  tracks = [];
  doubt = None;
  size = length base;
  sizes = [];
  tags = tags;
  bytes = base;
  loose = [];
  crashed = false;
}

-- the block that is there has the tag and the bytes of the base
pub record IsTold (ino k : ℕ) (base : List ℕ) (seen : Seen BlockStep) : Type 0 where
  pub sure : IsSureBlock seen
  pub tag : (content_of seen).tag ≡ tag_of ino k
  pub bytes : (p : ℕ) → p < BLOCK_LEN →
      get_or (content_of seen).bytes p 0 ≡ get_or base (BLOCK_LEN * k + p) 0

abbrev pub IsRestBlock : ℕ → ℕ → Flag → List ℕ → Option (Seen BlockStep) → Type 0
IsRestBlock ino k tag base None = tag ≡ Off
IsRestBlock ino k tag base (Some seen) = (tag ≡ On) × IsTold ino k base seen

-- ---- slots

none-open : (core : Core) (place : ℕ) → core.tracks ≡ [] →
    can_be (track core.tracks place).gate false ≡ true
none-open core place none =
    subst (λ (tracks : List Track). can_be (track tracks place).gate false ≡ true) (sym none)
    (by-test (place == 0))
  where
    by-test : (b : Bool) →
        can_be (if b then blank else get_or [] (place - 1) blank).gate false ≡ true
    by-test true = refl
    by-test false = refl

no-slots : (ino place : ℕ) (core : Core) → core.tracks ≡ [] →
    SlotsShown ino place (holding core None place) []
no-slots ino place core none [] each = record {
  gate = none-open core place none;
  number = λ is. absurd (cc);
  mark = λ is. absurd (cc);
  file = λ is. absurd (cc);
  request = λ is. absurd (cc);
}
no-slots ino place core none (words ∷ slots) each = absurd each

-- ---- blocks

flag-none : (ino k : ℕ) → is_for ino k media.nothing ≡ false
flag-none ino k = ne_eqb 0 (ino * 65536 + k + 1) (λ is. omega (arith, is))

none-shown : (ino k : ℕ) (base : List ℕ) → BlockShown ino k Off [] base None
none-shown ino k base = record {
  images = λ content is. subst (BlockFits ino k Off [] base) (sym is) (record {
    tag_is = ap (can_be Off) (flag-none ino k);
    free = λ no. refl;
    bytes_are = λ yes. (let wrong : false ≡ true = sym (flag-none ino k) ∙ yes in absurd (cc));
  });
  reads = tt;
}

told-shown : (ino k : ℕ) (base : List ℕ) (seen : Seen BlockStep) → IsTold ino k base seen →
    BlockShown ino k On [] base (Some seen)
told-shown ino k base seen told = record {
  images = λ content is.
      subst (BlockFits ino k On [] base) (sym (told.sure content is)) (record {
        tag_is = mine;
        free = λ no. (let wrong : true ≡ false = sym mine ∙ no in absurd (cc));
        bytes_are = λ yes p low firm. told.bytes p low;
      });
  reads = λ yes p low. told.bytes p low;
}
  where
    mine : is_for ino k (content_of seen) ≡ true
    mine = eq-eqb (content_of seen).tag (tag_of ino k) told.tag

block-rests : (ino k : ℕ) (tag : Flag) (base : List ℕ) (here : Option (Seen BlockStep)) →
    IsRestBlock ino k tag base here → BlockShown ino k tag [] base here
block-rests ino k tag base None rests =
    subst (λ flag. BlockShown ino k flag [] base None) (sym rests) (none-shown ino k base)
block-rests ino k tag base (Some seen) rests =
    subst (λ flag. BlockShown ino k flag [] base (Some seen)) (sym rests.0)
    (told-shown ino k base seen rests.1)

-- ---- the whole

size-of : (n size : ℕ) → n ≡ size → ((n == size) || false) ≡ true
size-of n size same = ap (λ b. b || false) (eq-eqb n size same)

pub rest-shows : (ino : ℕ) (base : List ℕ) (tags : List Flag) (world : media.World) →
    length tags ≡ FILE_BLOCKS → IsSure world.size →
    get_or (words_of world.size) 0 0 ≡ length base → ((place : ℕ) → world.slots place ≡ []) →
    ((k : ℕ) → k < FILE_BLOCKS → IsRestBlock ino k (get_or tags k Off) base (world.blocks k)) →
    Shows ino (rest_core base tags) world
rest-shows ino base tags world full sure size slots blocks = record {
  shape = record {
    tags = full;
    tracks = refl;
    doubt = λ d is. absurd (cc);
    loose = λ p is. absurd (cc);
  };
  sizes = λ words is.
      size-of (get_or words 0 0) (length base) (ap (λ w. get_or w 0 0) (sure words is) ∙ size);
  size_now = size;
  slots = λ place.
      subst (SlotsShown ino place (holding (rest_core base tags) None place)) (sym (slots place))
      (no-slots ino place (rest_core base tags) refl);
  blocks = λ k low.
      block-rests ino k (get_or tags k Off) base (world.blocks k) (blocks k low);
}
