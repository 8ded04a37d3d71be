-- The lines of workers keep a world shown by its devices.
use Rattle.std.proofs.Common.{◌≡◌, ℕ, Bool, true, false, not, refl, sym, subst}
use Rattle.std.proofs.Common.{is_none}
use Rattle.std.specs.Prelude.{Result, Ok, Err}
use Rattle.cfs_core.specs.declared.state.State.{State}
use Rattle.cfs_core.specs.declared.state.State.TheVariants.{Closed, Noop, Out, Unserved, Waiting}
use Rattle.cfs_core.specs.Words.{is_noop, is_out, track}
use Rattle.cfs_meaning.specs.World.{World, core_in}
use Rattle.cfs_meaning.specs.Inode.{job_in, trim}
use Rattle.cfs_meaning.specs.Workers.{finish_line, settle_line, skip_line, there, trim_line}
use Rattle.cfs_meaning.specs.Devices.{IsShown, NoneHasEnded}
use Rattle.cfs_meaning.specs.Laws.{AreReached}
use Rattle.cfs_meaning.specs.Ways.{Halt, Way}
use Rattle.cfs_meaning.proofs.Hoare.{Leaves, leave-give, leave-look, leave-refuse, leave-then}
use Rattle.cfs_meaning.proofs.Hoare.{leave-weaker}
use Rattle.cfs_meaning.proofs.Keeping.{Keeps}
use Rattle.cfs_meaning.proofs.KeptInode.{kept-trim}
use Rattle.cfs_meaning.proofs.Reached.{reached_law}
use Rattle.cfs_meaning.proofs.ShownEnds.{AtEnd, finish-shown}
use Rattle.cfs_meaning.proofs.ShownGates.{AtNoop, settle-shown, skip-shown}
use Rattle.cfs_meaning.proofs.ShownJobs.{AtWork}
use Rattle.cfs_meaning.proofs.ShownOpen.{Opens, leave-both, leave-repeats, open-file, open-trim}
use Rattle.cfs_meaning.proofs.ShownTrims.{trim-shown}
use Rattle.cfs_meaning.proofs.Total.{IfEnds}
use Rattle.cfs_meaning.proofs.Worlds.{law_of}

-- ---- all files

-- what is known of a world where all files may be worked at
pub record AllWork (world : World) : Type 0 where
  pub shown : IsShown world
  pub reached : AreReached world
  pub open_ : NoneHasEnded world

pub at-work : (world : World) (ino : ℕ) → AllWork world → AtWork ino world
at-work world ino all = record {
  shown = all.shown;
  reached = all.reached;
  goes_on = open-file world ino all.open_;
}

-- a part that keeps each law keeps cores reached
same-ends : {A : Type 0} (P : World → Type 0) (end : Result A Halt) (new : World) → P new →
    IfEnds (λ a. P) P end new
same-ends P (Ok a) new holds = holds
same-ends P (Err halt) new holds = holds

pub leave-kept : {A : Type 0} {R : A → Type 0} {way : Way A} →
    Keeps (law_of (reached_law 0)).base R way →
    Leaves AreReached (λ a. AreReached) AreReached way
leave-kept kept = record {
  by = λ old end new holds way.
      same-ends AreReached end new (kept.means.by old end new holds way).1;
}

pub part-all : {A : Type 0} {P : World → Type 0} {way : Way A} →
    Leaves P (λ a. IsShown) IsShown way → Leaves AreReached (λ a. AreReached) AreReached way →
    Opens way → Leaves (λ w. P w × AllWork w) (λ a. AllWork) AllWork way
part-all {P = P} shown reached opens =
    leave-weaker {P = λ w. P w × (AreReached w × NoneHasEnded w)}
    (λ w holds. (holds.0, (holds.1.reached, holds.1.open_)))
    (λ a w left. record { shown = left.0; reached = left.1.0; open_ = left.1.1 })
    (λ w left. record { shown = left.0; reached = left.1.0; open_ = left.1.1 })
    (leave-both shown (leave-both reached opens))

pub trim-all : (ino : ℕ) → Leaves AllWork (λ more. AllWork) AllWork (trim ino)
trim-all ino =
    leave-weaker {P = λ w. AtWork ino w × AllWork w} (λ w all. (at-work w ino all, all))
    (λ a w q. q) (λ w e. e)
    (part-all (trim-shown ino) (leave-kept (kept-trim (law_of (reached_law 0)) ino))
    (open-trim ino))

-- ---- single lines

pub leave-there : {P E : World → Type 0} (ino : ℕ) → ((w : World) → P w → E w) →
    Leaves P (λ u. P) E (there ino)
leave-there {P = P} ino left =
    leave-look (λ x.
    leave-weaker {P = P} (λ w holds. holds.1) (λ u w q. q.1) (λ w e. e)
    (leave-refuse _ _ left))

passed : (b : Bool) → not b ≡ false → b ≡ true
passed true is = refl
passed false is = absurd (cc)

pub skip-line : (ino place : ℕ) →
    Leaves (AtWork ino) (λ answer. IsShown) IsShown (skip_line ino place)
skip-line ino place =
    leave-then {Q = λ u. AtWork ino} (leave-there ino (λ w work. work.shown)) (λ u.
    leave-look (λ x.
    leave-then {Q = λ v. AtNoop ino place}
    (leave-weaker {P = λ w. (w ≡ x) × AtWork ino w} (λ w holds. holds) (λ v w left. record {
      work = left.1.1;
      idle = subst (λ y. is_noop (track (core_in y ino).tracks place).state ≡ true)
          (sym left.1.0) (passed _ left.0);
    }) (λ w e. e)
    (leave-refuse _ _ (λ w holds. holds.1.shown))) (λ v.
    leave-then {Q = λ t. IsShown} (skip-shown ino place) (λ t.
    leave-give (λ w shown. shown)))))

pub settle-line : (ino : ℕ) →
    Leaves (AtWork ino) (λ answer. IsShown) IsShown (settle_line ino)
settle-line ino =
    leave-then {Q = λ u. AtWork ino} (leave-there ino (λ w work. work.shown)) (λ u.
    leave-look (λ x.
    leave-then {Q = λ v. AtWork ino}
    (leave-weaker {P = AtWork ino} (λ w holds. holds.1) (λ v w left. left.1) (λ w e. e)
    (leave-refuse _ _ (λ w work. work.shown))) (λ v.
    leave-then {Q = λ t. IsShown} (settle-shown ino) (λ t.
    leave-give (λ w shown. shown)))))

job-out : (s : State) → is_none (job_in s) ≡ false → is_out s ≡ true
job-out Waiting is = absurd (cc)
job-out (Out job) is = refl
job-out Noop is = absurd (cc)
job-out Unserved is = absurd (cc)
job-out Closed is = absurd (cc)

pub finish-line : (ino place : ℕ) →
    Leaves (AtWork ino) (λ answer. IsShown) IsShown (finish_line ino place)
finish-line ino place =
    leave-look (λ x.
    leave-then {Q = λ u. AtEnd ino place}
    (leave-weaker {P = λ w. (w ≡ x) × AtWork ino w} (λ w holds. holds) (λ u w left. record {
      work = left.1.1;
      out = subst (λ y. is_out (track (core_in y ino).tracks place).state ≡ true)
          (sym left.1.0) (job-out (track (core_in x ino).tracks place).state left.0);
    }) (λ w e. e)
    (leave-refuse _ _ (λ w holds. holds.1.shown))) (λ u.
    leave-then {Q = λ v. AtEnd ino place}
    (leave-weaker {P = AtEnd ino place} (λ w holds. holds) (λ v w left. left.1) (λ w e. e)
    (leave-refuse _ _ (λ w at. at.work.shown))) (λ v.
    leave-then {Q = λ more. IsShown} (finish-shown ino place) (λ more.
    leave-give (λ w shown. shown)))))

pub trim-line : (ino : ℕ) → Leaves AllWork (λ answer. IsShown) IsShown (trim_line ino)
trim-line ino =
    leave-then {Q = λ n. AllWork}
    (leave-then {Q = λ u. AllWork} (leave-there ino (λ w all. all.shown)) (λ u.
    leave-weaker {P = AllWork} (λ w all. all) (λ n w all. all) (λ w all. all.shown)
    (leave-repeats (trim-all ino)))) (λ n.
    leave-give (λ w all. all.shown))
