-- Jobs that are out may be told in any order.
use Rattle.std.proofs.Common.{◌≢◌, ℕ, List, [], ◌∷◌, ◌++◌, sym}
use Rattle.cfs_core.specs.declared.inode_core.Core.{Core}
use Rattle.cfs_job.specs.Views.{JobView}
use Rattle.cfs_medium.specs.World.{World}
use Rattle.cfs_inode.specs.Stands.{AllStand, AreOnce, IsBeside, Together}
use Rattle.cfs_inode.specs.View.{StateView}

all-front : (ino : ℕ) (xs : List JobView) (job : JobView) (ys : List JobView) (core : Core)
    (world : World) → AllStand ino (xs ++ job ∷ ys) core world →
    AllStand ino (job ∷ (xs ++ ys)) core world
all-front ino [] job ys core world all = all
all-front ino (x ∷ xs) job ys core world all =
    let rest = all-front ino xs job ys core world all.1 in
    (rest.0, (all.0, rest.1))

all-back : (ino : ℕ) (xs : List JobView) (job : JobView) (ys : List JobView) (core : Core)
    (world : World) → AllStand ino (job ∷ (xs ++ ys)) core world →
    AllStand ino (xs ++ job ∷ ys) core world
all-back ino [] job ys core world all = all
all-back ino (x ∷ xs) job ys core world all =
    (all.1.0, all-back ino xs job ys core world (all.0, all.1.1))

beside-front : (place : ℕ) (xs : List JobView) (job : JobView) (ys : List JobView) →
    IsBeside place (xs ++ job ∷ ys) → IsBeside place (job ∷ (xs ++ ys))
beside-front place [] job ys beside = beside
beside-front place (x ∷ xs) job ys beside =
    let rest = beside-front place xs job ys beside.1 in
    (rest.0, (beside.0, rest.1))

beside-back : (place : ℕ) (xs : List JobView) (job : JobView) (ys : List JobView) →
    IsBeside place (job ∷ (xs ++ ys)) → IsBeside place (xs ++ job ∷ ys)
beside-back place [] job ys beside = beside
beside-back place (x ∷ xs) job ys beside =
    (beside.1.0, beside-back place xs job ys (beside.0, beside.1.1))

turned : (one other : ℕ) → one ≢ other → other ≢ one
turned one other apart = λ same. apart (sym same)

once-front : (xs : List JobView) (job : JobView) (ys : List JobView) →
    AreOnce (xs ++ job ∷ ys) → AreOnce (job ∷ (xs ++ ys))
once-front [] job ys once = once
once-front (x ∷ xs) job ys once =
    let beside = beside-front x.place xs job ys once.0 in
    let rest = once-front xs job ys once.1 in (
      (turned job.place x.place beside.0, rest.0),
      (beside.1, rest.1),
    )

once-back : (xs : List JobView) (job : JobView) (ys : List JobView) →
    AreOnce (job ∷ (xs ++ ys)) → AreOnce (xs ++ job ∷ ys)
once-back [] job ys once = once
once-back (x ∷ xs) job ys once = (
  beside-back x.place xs job ys (turned x.place job.place once.0.0, once.1.0),
  once-back xs job ys (once.0.1, once.1.1),
)

-- a job among others, and the same job before them
pub to-front : (state : StateView) (xs : List JobView) (job : JobView) (ys : List JobView)
    (core : Core) (world : World) → Together state (xs ++ job ∷ ys) core world →
    Together state (job ∷ (xs ++ ys)) core world
to-front state xs job ys core world together = record {
  stands = together.stands;
  out = all-front state.ino xs job ys core world together.out;
  once = once-front xs job ys together.once;
}

pub to-back : (state : StateView) (xs : List JobView) (job : JobView) (ys : List JobView)
    (core : Core) (world : World) → Together state (job ∷ (xs ++ ys)) core world →
    Together state (xs ++ job ∷ ys) core world
to-back state xs job ys core world together = record {
  stands = together.stands;
  out = all-back state.ino xs job ys core world together.out;
  once = once-back xs job ys together.once;
}
