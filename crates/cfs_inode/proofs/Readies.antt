-- What a staged request is ready for.
use Rattle.std.proofs.Common.{◌≡◌, ◌∙◌, ap, arith, cond, List, [], ◌∷◌, length, map, not, Some, refl, false, ℕ}
use Rattle.std.specs.List.{find}
use Rattle.std.specs.Option.{option_map}
use Rattle.cfs_file.specs.declared.request.Request.{Request}
use Rattle.cfs_file.specs.Span.{span}
use Rattle.cfs_core.specs.Medium.{placed}
use Rattle.cfs_core.specs.Words.{blocks_needed}
use Rattle.cfs_pmem.specs.Images.{Seen, WordStep, AllImages, IsImage, IsSure, words_of}
use Rattle.cfs_pmem.specs.Objects.{IsEachImage}
use Rattle.cfs_slot.specs.Regions.{words_in}
use Rattle.cfs_slot.specs.Words.{IsClosed, ino_of, mark_of, request_of}
use Rattle.cfs_long.specs.Whole.{StandsWhole}
use Rattle.cfs_medium.specs.Shows.{is_gated}
use Rattle.cfs_medium.specs.World.{head_words}
use Rattle.cfs_tracker.specs.declared.cell.Cell.{Cell}
use Rattle.cfs_tracker.specs.declared.cell.Cell.TheVariants as kinds
use Rattle.cfs_tracker.specs.Admit.{MayAdmit, is_mapped}
use Rattle.cfs_tracker.specs.Cells.{cell_at}
use Rattle.cfs_tracker.specs.View.{TrackerView}
use Rattle.cfs_inode.specs.View.{Seens, StateView, told, told_cell, told_doubt}
use Rattle.cfs_inode.proofs.Cases.{mapped-at}
use Rattle.cfs_inode.proofs.Openings.{IsReady}

shut-all : (head : Seen WordStep) (tails : Seens) → AllImages head IsClosed →
    (slots : List (List ℕ)) → IsEachImage IsImage (head ∷ tails) slots →
    is_gated (head_words slots) ≡ false
shut-all head tails closed [] each = absurd each
shut-all head tails closed (image ∷ rest) each = rw (closed image each.0) refl

-- a request that stands whole in slots that are shut
pub ready : {R : Type 0} (seen : R → Seen WordStep) (old : StateView) (request : Request)
    (head : R) (tails : List R) → AllImages (seen head) IsClosed →
    AllImages (seen head) (λ image. mark_of image ≡ 0) →
    length (words_of (seen head)) ≡ 518 → IsSure (seen head) →
    ino_of (words_of (seen head)) ≡ old.ino →
    request_of (words_of (seen head)) (words_in seen tails)
    ≡ placed (span request old.tracker.long) request →
    StandsWhole (request_of (words_of (seen head)) (words_in seen tails))
    (map seen (head ∷ tails)) →
    IsReady old request (map seen (head ∷ tails))
ready seen old request head tails closed unmarked size sure file holds whole = record {
  head = seen head;
  tails = map seen tails;
  is = refl;
  shut = shut-all (seen head) (map seen tails) closed;
  some = omega (arith, size);
  holds = λ image rest own each. record {
    gate = closed image own;
    mark = unmarked image own;
    file = ap ino_of (sure image own) ∙ file;
    is = whole (image ∷ rest) (own, each) ∙ holds;
  };
}

-- ---- which blocks are mapped is told of a tracker as it is

pub unmapped-told : {B C : Type 0} (tell : B → C) (cells : List (Cell B)) (blocks : List ℕ) →
    find (λ k. not (is_mapped (cell_at (map (told_cell tell) cells) k))) blocks
    ≡ find (λ k. not (is_mapped (cell_at cells k))) blocks
unmapped-told tell cells [] = refl
unmapped-told tell cells (block ∷ blocks) =
    rw (mapped-at tell cells block)
    (ap (λ o. cond (not (is_mapped (cell_at cells block))) (Some block) o)
    (unmapped-told tell cells blocks))

pub told-may : {S D B T E C : Type 0} (live : S → T) (doubt : D → E) (block : B → C)
    (view : TrackerView S D B) (request : Request) → MayAdmit view request →
    MayAdmit (told live doubt block view) request
told-may live doubt block view request admits = record {
  settled = ap (λ d. option_map (told_doubt doubt) d) admits.settled;
  change = admits.change;
  fits = admits.fits;
  mapped = unmapped-told block view.cells (blocks_needed (span request view.long))
      ∙ admits.mapped;
}
