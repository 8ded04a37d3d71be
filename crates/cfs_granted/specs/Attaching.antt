-- A grant is attached to the state of a record.
use Rattle.std.specs.Prelude.{ℕ, ◌≡◌, ◌==◌, ◌||◌, Bool, true, false, not, Option, Some, None, Result, Ok, Err, [], if◌then◌else◌, is_some, nat_le, replicate, set}
use Rattle.cfs_grants.specs.declared.grant.Grant.{Grant}
use Rattle.cfs_grants.specs.Grants.{grant_at}
use Rattle.cfs_inode.specs.New.{stored_state}
use Rattle.cfs_pmem.specs.Images.{Seen, WordStep}
use Rattle.cfs_granted.specs.declared.busy.AttachRefusal.{AttachRefusal}
use Rattle.cfs_granted.specs.declared.busy.AttachRefusal.TheVariants as refusals
use Rattle.cfs_granted.specs.Rows.{Rows, stands}
use Rattle.cfs_granted.specs.View.{FileView, LifeView, ending, free, life, moving}

abbrev pub no_rows : Rows
no_rows = replicate 64 None

-- ---- when it is not

-- the file is another one, or the grant's number or queue is taken
abbrev pub is_taken : Grant → LifeView → Bool
is_taken grant view =
    not (view.active.state.ino == grant.ino)
    || (is_some (grant_at view.grants grant.queue) || stands grant.number view.grants)

-- with which inode number the record is busy for a grant
abbrev pub busy_life : Grant → LifeView → Option ℕ
busy_life grant view = if is_taken grant view then Some view.active.state.ino else None

abbrev pub busy_with : Grant → FileView → Option ℕ
busy_with grant (free latest size) = if nat_le grant.ino latest then Some latest else None
busy_with grant (life view) = busy_life grant view
busy_with grant (ending state) = Some state.ino
busy_with grant moving = None

-- ---- what is then

abbrev pub with_grant : Grant → LifeView → LifeView
with_grant grant view = record view { grants = set view.grants grant.queue (Some grant) }

-- an empty file, of which nothing is pending, without a grant
abbrev pub empty_life : ℕ → Seen WordStep → LifeView
empty_life ino size = record {
  active = record { state = stored_state ino size 0 []; jobs = [] };
  grants = no_rows;
  readers = [];
}

abbrev pub attached : Grant → FileView → FileView
attached grant (free latest size) = life (with_grant grant (empty_life grant.ino size))
attached grant (life view) = life (with_grant grant view)
attached grant (ending state) = ending state
attached grant moving = moving

-- What `attach` answers and leaves. After a refusal nothing has changed.
abbrev pub Attaches : Grant → Result (Unit {0}) AttachRefusal → FileView → FileView → Type 0
Attaches grant (Ok done) old new = (busy_with grant old ≡ None) × (new ≡ attached grant old)
Attaches grant (Err (refusals.Busy has)) old new = (busy_with grant old ≡ Some has) × (new ≡ old)
Attaches grant (Err refusals.NoMemory) old new = (busy_with grant old ≡ None) × (new ≡ old)

-- the same of a file
abbrev pub LifeAttaches : Grant → Result (Unit {0}) AttachRefusal → LifeView → LifeView → Type 0
LifeAttaches grant (Ok done) old new =
    (busy_life grant old ≡ None) × (new ≡ with_grant grant old)
LifeAttaches grant (Err (refusals.Busy has)) old new =
    (busy_life grant old ≡ Some has) × (new ≡ old)
LifeAttaches grant (Err refusals.NoMemory) old new = ⊥

-- why a free record does not take a grant
abbrev pub IsRefused : Grant → ℕ → AttachRefusal → Type 0
IsRefused grant latest (refusals.Busy has) =
    (has ≡ latest) × (nat_le grant.ino latest ≡ true)
IsRefused grant latest refusals.NoMemory = nat_le grant.ino latest ≡ false
