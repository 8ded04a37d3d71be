-- Each line keeps files whose file blocks have one block each.
use Rattle.std.proofs.Common.{◌≡◌, ℕ, Bool, true, false, List, []}
use Rattle.std.proofs.Common.{◌∷◌}
use Rattle.std.proofs.Common.{if◌then◌else◌}
use Rattle.std.specs.Prelude.{Result, Ok, Err}
use Rattle.std.specs.List.{flat_map}
use Rattle.cfs_dir.specs.declared.change.Change.{Change}
use Rattle.cfs_dir.specs.declared.change.Change.TheVariants as changes
use Rattle.cfs_dir.specs.Namespace.{is_directory}
use Rattle.cfs_print.specs.declared.out_line.OutLine.{OutLine}
use Rattle.cfs_script.specs.declared.line.Line.{Line}
use Rattle.cfs_meaning.specs.NameSteps.{changes_of}
use Rattle.cfs_meaning.specs.Names.{files_made}
use Rattle.cfs_meaning.specs.World.{File, World, new_file}
use Rattle.cfs_meaning.specs.Play.{Step, goes_on, run_ends, steps_so}
use Rattle.cfs_meaning.specs.Ways.{Halt, Way}
use Rattle.cfs_meaning.specs.Devices.{OfEachFile}
use Rattle.cfs_meaning.specs.Laws.{is_mount}
use Rattle.cfs_meaning.specs.Stock.{AreMappedOnce, HaveOwnKeys, RunsKeepMapped}
use Rattle.cfs_meaning.proofs.Hoare.{Leaves}
use Rattle.cfs_meaning.proofs.Keeping.{Any, Keeps}
use Rattle.cfs_meaning.proofs.Keyed.{files-joined, mapped-kept}
use Rattle.cfs_meaning.proofs.Lines.{Powers, kept-form}
use Rattle.cfs_meaning.proofs.Total.{IfEnds}
use Rattle.cfs_meaning.proofs.Worlds.{NameLaw, WorldLaw, law_of, moves, requests_of}

abbrev Keyed : File → Type 0
Keyed f = HaveOwnKeys f.blocks

made-keyed : (change : Change) → OfEachFile Keyed (files_made change)
made-keyed (changes.Create node) = unless-directory (is_directory node.kind)
  where
    unless-directory : (test : Bool) →
        OfEachFile Keyed (if test then [] else new_file node.ino node.rec ∷ [])
    unless-directory true = tt
    unless-directory false = (tt, tt)
made-keyed (changes.Remove rec ino) = tt
made-keyed (changes.Move node replaced) = tt

pub all-made-keyed : (list : List Change) → OfEachFile Keyed (flat_map files_made list)
all-made-keyed [] = tt
all-made-keyed (change ∷ list) =
    files-joined Keyed (files_made change) (flat_map files_made list) (made-keyed change)
    (all-made-keyed list)

abbrev pub mapped_law : ℕ → WorldLaw
mapped_law line = record {
  fact = record {
    Holds = AreMappedOnce;
    MayBe = Any;
    MayEnd = Any;
    tries = λ ops world holds. (tt, holds);
    quiet = λ old new q holds. q.mapped holds;
    fault = λ may. tt;
    waits = λ place. tt;
    says = λ answer given. tt;
  };
  line = line;
  comes = λ ino e world own may_be holds. mapped-kept world ino _ (λ keys. keys) holds;
}

mapped-names : (line : ℕ) → NameLaw (mapped_law line)
mapped-names line = record {
  asks = λ c request rec step world is holds.
      files-joined Keyed world.files _ holds
      (all-made-keyed (changes_of world.names.now request rec));
  opens = λ c change world holds. holds;
}

mapped-powers : (line : ℕ) → Powers (law_of (mapped_law line))
mapped-powers line = record {
  joins = λ c uid gid. moves (mapped_law line).fact (λ world holds. holds);
  stops = λ n. moves (mapped_law line).fact (λ world holds. holds);
  plans = λ device writing k. moves (mapped_law line).fact (λ world holds. holds);
  crashes = λ k. moves (mapped_law line).fact (λ world holds. holds);
}

-- a part that keeps each law keeps this one
same-ends : {A : Type 0} (P : World → Type 0) (end : Result A Halt) (new : World) → P new →
    IfEnds (λ a. P) P end new
same-ends P (Ok a) new holds = holds
same-ends P (Err halt) new holds = holds

pub leave-mapped : {A : Type 0} {R : A → Type 0} {way : Way A} →
    Keeps (law_of (mapped_law 0)).base R way →
    Leaves AreMappedOnce (λ a. AreMappedOnce) AreMappedOnce way
leave-mapped kept = record {
  by = λ old end new holds way.
      same-ends AreMappedOnce end new (kept.means.by old end new holds way).1;
}

step-keeps : {old new : World} {line : Line} {out : List OutLine} → is_mount line.form ≡ false →
    Step line old out new → AreMappedOnce old → AreMappedOnce new
step-keeps {new = new} {line = line} other (steps_so end way) holds =
    ((kept-form (law_of (mapped_law line.number))
    (requests_of (mapped_law line.number) (mapped-names line.number))
    (mapped-powers line.number) line.form other).means.by _ end new holds way).1

pub runs-keep-mapped : RunsKeepMapped
runs-keep-mapped old new [] outs none run_ends holds = holds
runs-keep-mapped old new (line ∷ lines) outs none
    (goes_on {mid = mid} {later = later} step rest) holds =
    runs-keep-mapped mid new lines later none.1 rest (step-keeps none.0 step holds)
