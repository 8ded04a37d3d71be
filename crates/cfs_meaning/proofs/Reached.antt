-- Cores stay reached.
use Rattle.std.proofs.Common.{◌≡◌, ℕ, Bool, true, false, List, [], ◌∷◌, refl, if◌then◌else◌}
use Rattle.std.specs.List.{flat_map}
use Rattle.cfs_core.specs.declared.inode_core.Core.{Core}
use Rattle.cfs_core.specs.Fresh.{IsEmpty}
use Rattle.cfs_core.proofs.Freshly.{fresh-empty}
use Rattle.cfs_core.specs.Good.{IsGood}
use Rattle.cfs_core.proofs.Goods.{good-kept}
use Rattle.cfs_core_laws.proofs.Whole.{whole}
use Rattle.cfs_core_laws.specs.Reached.{IsReached, begins, comes}
use Rattle.cfs_dir.specs.declared.change.Change.{Change}
use Rattle.cfs_dir.specs.declared.change.Change.TheVariants as changes
use Rattle.cfs_dir.specs.Namespace.{is_directory}
use Rattle.cfs_meaning.specs.NameSteps.{changes_of}
use Rattle.cfs_script.specs.declared.line.Line.{Line}
use Rattle.cfs_print.specs.declared.out_line.OutLine.{OutLine}
use Rattle.cfs_meaning.specs.World.{File, World, core_in, empty_core, new_file}
use Rattle.cfs_meaning.specs.Names.{files_made}
use Rattle.cfs_meaning.specs.Laws.{AreReached, CoresStayReached, FilesAreGood, RunsKeepCores, is_mount, OfEachCore}
use Rattle.cfs_meaning.specs.Play.{Step, goes_on, run_ends, steps_so}
use Rattle.cfs_meaning.proofs.Keeping.{Any}
use Rattle.cfs_meaning.proofs.Kept.{Requests}
use Rattle.cfs_meaning.proofs.Worlds.{NameLaw, WorldLaw, law_of, moves, requests_of}
use Rattle.cfs_meaning.proofs.Lines.{Powers, kept-form, line-kept}
use Rattle.cfs_meaning.proofs.Quiet as quiet

empty-is : IsEmpty empty_core
empty-is = record {
  base = refl;
  log = refl;
  tracks = refl;
  doubt = refl;
  size = refl;
  sizes = refl;
  blocks = refl;
  tags = refl;
  bytes = refl;
  loose = refl;
  up = refl;
}

pub empty-reached : IsReached empty_core
empty-reached = begins empty_core (fresh-empty empty_core empty-is)

-- what holds of each empty core holds of each file that a change makes
made-has : (P : ℕ → Core → Type 0) → ((ino : ℕ) → P ino empty_core) → (change : Change) →
    OfEachCore P (files_made change)
made-has P empty (changes.Create node) = unless-directory (is_directory node.kind)
  where
    unless-directory : (test : Bool) →
        OfEachCore P (if test then [] else new_file node.ino node.rec ∷ [])
    unless-directory true = tt
    unless-directory false = ((λ up. empty node.ino), tt)
made-has P empty (changes.Remove rec ino) = tt
made-has P empty (changes.Move node replaced) = tt

pub all-made-have : (P : ℕ → Core → Type 0) → ((ino : ℕ) → P ino empty_core) →
    (list : List Change) → OfEachCore P (flat_map files_made list)
all-made-have P empty [] = tt
all-made-have P empty (change ∷ list) =
    quiet.joined P (files_made change) (flat_map files_made list) (made-has P empty change)
    (all-made-have P empty list)

abbrev Reached : ℕ → Core → Type 0
Reached ino core = IsReached core

abbrev pub reached_law : ℕ → WorldLaw
reached_law line = record {
  fact = record {
    Holds = AreReached;
    MayBe = Any;
    MayEnd = Any;
    tries = λ ops world holds. (tt, holds);
    quiet = λ old new q holds. q.cores Reached (λ ino. empty-reached) holds;
    fault = λ may. tt;
    waits = λ place. tt;
    says = λ answer given. tt;
  };
  line = line;
  comes = λ ino e world own may_be holds.
      quiet.replaced Reached _ world.files
      (λ up. comes (core_in world ino) e
      (quiet.file-has Reached world ino (λ k. empty-reached) holds up) may_be)
      holds;
}

reached-names : (line : ℕ) → NameLaw (reached_law line)
reached-names line = record {
  asks = λ c request rec step world is holds.
      quiet.joined Reached world.files _ holds
      (all-made-have Reached (λ ino. empty-reached) (changes_of world.names.now request rec));
  opens = λ c change world holds. holds;
}

pub reached-requests : (line : ℕ) → Requests (law_of (reached_law line))
reached-requests line = requests_of (reached_law line) (reached-names line)

reached-powers : (line : ℕ) → Powers (law_of (reached_law line))
reached-powers line = record {
  joins = λ c uid gid. moves (reached_law line).fact (λ world holds. holds);
  stops = λ n. moves (reached_law line).fact (λ world holds. holds);
  plans = λ device writing k. moves (reached_law line).fact (λ world holds. holds);
  crashes = λ k. moves (reached_law line).fact (λ world holds. holds);
}

pub cores-stay : CoresStayReached
cores-stay old new line out up (steps_so end way) reached =
    (line-kept (reached_law line.number) (reached-requests line.number)
    (reached-powers line.number) line.form old end new up reached way).1

all-good : (files : List File) → OfEachCore Reached files →
    OfEachCore (λ ino core. IsGood core) files
all-good [] all = tt
all-good (f ∷ files) all =
    (λ up. good-kept f.core (whole (all.0 up)).kept, all-good files all.1)

pub files-good : FilesAreGood
files-good world reached = all-good world.files reached

step-keeps : {old new : World} {line : Line} {out : List OutLine} → is_mount line.form ≡ false →
    Step line old out new → AreReached old → AreReached new
step-keeps {new = new} {line = line} other (steps_so end way) reached =
    ((kept-form (law_of (reached_law line.number)) (reached-requests line.number)
    (reached-powers line.number) line.form other).means.by _ end new reached way).1

pub runs-keep : RunsKeepCores
runs-keep old new [] outs none run_ends reached = reached
runs-keep old new (line ∷ lines) outs none
    (goes_on {mid = mid} {later = later} step rest) reached =
    runs-keep mid new lines later none.1 rest (step-keeps none.0 step reached)
