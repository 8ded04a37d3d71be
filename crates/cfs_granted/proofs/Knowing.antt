-- What is known of a file with its grants stays known.
use Rattle.std.proofs.Common.{◌≡◌, ◌∙◌, ℕ, Bool, List, Option, Some, None, ap, false, length, map}
use Rattle.std.proofs.Common.{refl, set, sym, true}
use Rattle.std.specs.Prelude.{is_some}
use Rattle.std.proofs.lemmas.Bool.{true≢false}
use Rattle.std.proofs.lemmas.List.{length-set}
use Rattle.cfs_grants.specs.declared.grant.Grant.{Grant}
use Rattle.cfs_grants.specs.Grants.{grant_at}
use Rattle.cfs_tracker.specs.declared.in_doubt.InDoubt.{InDoubt}
use Rattle.cfs_tracker.specs.View.{reading_place}
use Rattle.cfs_inode.specs.View.{StateView}
use Rattle.cfs_active.specs.View.{ActiveView}
use Rattle.cfs_granted.specs.declared.reader.Reader.{Reader}
use Rattle.cfs_granted.specs.Granted.{IsGranted, does_doubt_pass}
use Rattle.cfs_granted.specs.Rows.{Rows, stands}
use Rattle.cfs_granted.proofs.Passings.{Passes}
use Rattle.cfs_granted.proofs.Standing.{all-weaker, stands-given}

-- through a call that changes the state and the jobs alone
pub stays-granted : (rows : Rows) (readers : List Reader) (old new : ActiveView) →
    Passes (λ n. stands n rows) old new → IsGranted rows readers old.state →
    IsGranted rows readers new.state
stays-granted rows readers old new passes known = record {
  many = known.many;
  places = known.places ∙ ap (λ reads. map reading_place reads) (sym passes.reads);
  reads = known.reads;
  entries = passes.entries known.entries;
  doubt = passes.doubt known.doubt;
  word = passes.word ∙ known.word;
}

-- ---- other grants

doubt-weaker : {D : Type 0} (p q : ℕ → Bool) → ((n : ℕ) → p n ≡ true → q n ≡ true) →
    (doubt : Option (InDoubt D)) → does_doubt_pass p doubt ≡ true →
    does_doubt_pass q doubt ≡ true
doubt-weaker p q weaker None here = refl
doubt-weaker p q weaker (Some doubt) here = weaker doubt.grant here

-- where all that stood stands yet
pub more-granted : (rows now : Rows) (readers : List Reader) (state : StateView) →
    length now ≡ length rows → ((n : ℕ) → stands n rows ≡ true → stands n now ≡ true) →
    IsGranted rows readers state → IsGranted now readers state
more-granted rows now readers state long covers known = record {
  many = long ∙ known.many;
  places = known.places;
  reads = all-weaker _ _ readers (λ r there. covers r.grant there) known.reads;
  entries = all-weaker _ _ state.tracker.entries (λ e there. covers e.grant there) known.entries;
  doubt = doubt-weaker _ _ covers state.tracker.doubt known.doubt;
  word = known.word;
}

pub none-is : {X : Type 0} (x : Option X) → is_some x ≡ false → x ≡ None
none-is None none = refl
none-is (Some x) none = absurd (true≢false none)

-- a grant is given
pub given-granted : (rows now : Rows) (readers : List Reader) (state : StateView) (queue : ℕ)
    (grant : Grant) → grant_at rows queue ≡ None → now ≡ set rows queue (Some grant) →
    IsGranted rows readers state → IsGranted now readers state
given-granted rows now readers state queue grant none is known =
    more-granted rows now readers state
    (ap (λ rs. length rs) is ∙ length-set rows queue (Some grant))
    (λ n there. ap (λ rs. stands n rs) is ∙ stands-given n queue grant rows none there) known
