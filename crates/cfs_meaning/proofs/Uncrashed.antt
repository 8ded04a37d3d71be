-- No line leaves a core as one that a crash left.
use Rattle.std.proofs.Common.{◌≡◌, ℕ, Bool, true, false, List, [], ◌∷◌, map, Option, Some, None}
use Rattle.std.proofs.Common.{refl, if◌then◌else◌}
use Rattle.std.specs.Prelude.{Result}
use Rattle.std.specs.List.{flat_map}
use Rattle.cfs_core.specs.declared.event.Event.{Event}
use Rattle.cfs_core.specs.declared.event.Event.TheVariants as events
use Rattle.cfs_core.specs.declared.event.End.TheVariants as ends
use Rattle.cfs_core.specs.declared.event.SizeEnd.TheVariants as sizes
use Rattle.cfs_core.specs.declared.inode_core.Core.{Core}
use Rattle.cfs_core.specs.After.{after}
use Rattle.cfs_dir.specs.declared.change.Change.{Change}
use Rattle.cfs_dir.specs.declared.change.Change.TheVariants as changes
use Rattle.cfs_dir.specs.declared.node.Node.{Node}
use Rattle.cfs_dir.specs.Namespace.{is_directory}
use Rattle.cfs_print.specs.declared.printed.Printed.{Printed}
use Rattle.cfs_script.specs.declared.form.Form.{Form}
use Rattle.cfs_script.specs.declared.line.Line.{Line}
use Rattle.cfs_print.specs.declared.out_line.OutLine.{OutLine}
use Rattle.cfs_meaning.specs.Drive.{Drive}
use Rattle.cfs_meaning.specs.Mounting.{files_of, mounted_file, mounted_world, recovered_tree}
use Rattle.cfs_meaning.specs.NameSteps.{changes_of}
use Rattle.cfs_meaning.specs.Names.{files_made}
use Rattle.cfs_meaning.specs.World.{Caller, World, core_in, new_file}
use Rattle.cfs_meaning.specs.Play.{Run, does}
use Rattle.cfs_meaning.specs.Ways.{Halt}
use Rattle.cfs_meaning.proofs.Keeping.{Any, AreUncrashed}
use Rattle.cfs_meaning.proofs.Kept.{IsOfLine}
use Rattle.cfs_meaning.proofs.Lines.{Mounts, Powers, kept-each, kept-run}
use Rattle.cfs_meaning.proofs.Quiet.{core-up, joined-up, replaced-up}
use Rattle.cfs_meaning.proofs.Worlds.{NameLaw, WorldLaw, law_of, moves, requests_of}

pub after-up : (line : ℕ) (core : Core) (e : Event) → IsOfLine line e → core.crashed ≡ false →
    (after core e).crashed ≡ false
after-up line core (events.Tag block kept) own up = up
after-up line core (events.Admit entry grant true) own up = up
after-up line core (events.Admit entry grant false) own up = up
after-up line core (events.AdmitRead entry) own up = up
after-up line core (events.Serve place answer) own up = up
after-up line core (events.Mark place by kept) own up = up
after-up line core (events.Dispatch place) own up = up
after-up line core (events.BlockWrite place block None) own up = up
after-up line core (events.BlockWrite place block (Some left)) own up = up
after-up line core (events.Flush place block true) own up = up
after-up line core (events.Flush place block false) own up = up
after-up line core (events.Finish place ends.Retired) own up = up
after-up line core (events.Finish place ends.More) own up = up
after-up line core (events.Finish place (ends.Back sizes.AsBefore gate applied)) own up = up
after-up line core (events.Finish place (ends.Back sizes.Set gate applied)) own up = up
after-up line core (events.Finish place (ends.Back sizes.Either gate applied)) own up = up
after-up line core (events.Skip place) own up = up
after-up line core (events.Trim block kept) own up = up
after-up line core events.Settle own up = up
after-up line core (events.Crash image) own up = absurd own
after-up line core events.Mount own up = absurd own

made-up : (change : Change) → AreUncrashed (files_made change)
made-up (changes.Create node) = unless-directory (is_directory node.kind)
  where
    unless-directory : (test : Bool) →
        AreUncrashed (if test then [] else new_file node.ino node.rec ∷ [])
    unless-directory true = tt
    unless-directory false = (refl, tt)
made-up (changes.Remove rec ino) = tt
made-up (changes.Move node replaced) = tt

all-made-up : (list : List Change) → AreUncrashed (flat_map files_made list)
all-made-up [] = tt
all-made-up (change ∷ list) =
    joined-up (files_made change) (flat_map files_made list) (made-up change) (all-made-up list)

abbrev pub up_law : ℕ → WorldLaw
up_law line = record {
  fact = record {
    Holds = λ w. AreUncrashed w.files;
    MayBe = Any;
    MayEnd = Any;
    tries = λ ops world holds. (tt, holds);
    quiet = λ old new q holds. q.uncrashed holds;
    fault = λ may. tt;
    waits = λ place. tt;
    says = λ answer given. tt;
  };
  line = line;
  comes = λ ino e world own may_be holds.
      replaced-up _ world.files
      (after-up line (core_in world ino) e own (core-up world ino holds)) holds;
}

up-names : (line : ℕ) → NameLaw (up_law line)
up-names line = record {
  asks = λ c request rec step world is holds.
      joined-up world.files _ holds (all-made-up (changes_of world.names.now request rec));
  opens = λ c change world holds. holds;
}

up-powers : (line : ℕ) → Powers (law_of (up_law line))
up-powers line = record {
  joins = λ c uid gid. moves (up_law line).fact (λ world holds. holds);
  stops = λ n. moves (up_law line).fact (λ world holds. holds);
  plans = λ device writing k. moves (up_law line).fact (λ world holds. holds);
  crashes = λ k. moves (up_law line).fact (λ world holds. holds);
}

found-up : (drive : Drive) (nodes : List Node) → AreUncrashed (map (mounted_file drive) nodes)
found-up drive [] = tt
found-up drive (node ∷ nodes) = (refl, found-up drive nodes)

pub mounted-up : (callers : List Caller) (drive : Drive) →
    AreUncrashed (mounted_world callers drive).files
mounted-up callers drive = found-up drive (files_of (recovered_tree drive))

up-mounts : (line : ℕ) → Mounts (up_law line)
up-mounts line = record {
  fails = λ world holds. holds;
  leaves = λ world holds. mounted-up world.callers world.drive;
}

line-up : (line : ℕ) (form : Form) (old : World) (end : Result (Option Printed) Halt)
    (new : World) → AreUncrashed old.files → does line form old end new → AreUncrashed new.files
line-up line form old end new holds way =
    ((kept-each (up_law line) (requests_of (up_law line) (up-names line)) (up-powers line)
    (up-mounts line) form).means.by old end new holds way).1

pub runs-up : (old new : World) (lines : List Line) (outs : List OutLine) →
    Run old lines outs new → AreUncrashed old.files → AreUncrashed new.files
runs-up = kept-run (λ w. AreUncrashed w.files) line-up
