-- The logs follow the lines.
use Rattle.std.proofs.Common.{◌≡◌, ℕ, ◌≤◌, true, false, Some, None, List, [], ◌∷◌, ◌++◌, arith}
use Rattle.cfs_file.specs.declared.entry.Entry.{Entry}
use Rattle.cfs_core.specs.declared.event.End.TheVariants as ends
use Rattle.cfs_core.specs.declared.event.Event.{Event}
use Rattle.cfs_core.specs.declared.event.Event.TheVariants as events
use Rattle.cfs_core.specs.declared.event.SizeEnd.TheVariants as sizes
use Rattle.cfs_core.specs.declared.inode_core.Core.{Core}
use Rattle.cfs_core.specs.After.{after}
use Rattle.cfs_meaning.specs.NameSteps.{changes_of}
use Rattle.cfs_meaning.specs.World.{File, core_in}
use Rattle.cfs_meaning.specs.Laws.{AreLogsOfLines, AreOfLines, LogsFollowLines, OfEachCore}
use Rattle.cfs_meaning.specs.Play.{steps_so}
use Rattle.cfs_meaning.proofs.Keeping.{Any}
use Rattle.cfs_meaning.proofs.Kept.{IsOfLine}
use Rattle.cfs_meaning.proofs.Worlds.{NameLaw, WorldLaw, law_of, moves, requests_of}
use Rattle.cfs_meaning.proofs.Lines.{Powers, line-kept}
use Rattle.cfs_meaning.proofs.Quiet as quiet
use Rattle.cfs_meaning.proofs.Reached.{all-made-have}

-- one more entry of the last line, and a later last line
one-more : (from to : ℕ) (log : List Entry) (entry : Entry) → AreOfLines from to log →
    entry.line ≡ to → AreOfLines from to (log ++ entry ∷ [])
one-more from to [] entry low is = (rw is low, omega (arith, is))
one-more from to (first ∷ log) entry all is = (all.0, one-more first.line to log entry all.1 is)

widen : (from to more : ℕ) (log : List Entry) → to ≤ more → AreOfLines from to log →
    AreOfLines from more log
widen from to more [] high low = omega (arith, high, low)
widen from to more (first ∷ log) high all = (all.0, widen first.line to more log high all.1)

-- what an event of the line makes of a log
after-event : (line : ℕ) (core : Core) (e : Event) → IsOfLine line e →
    AreOfLines 0 line core.log → AreOfLines 0 line (after core e).log
after-event line core (events.Tag block kept) own all = all
after-event line core (events.Admit entry grant true) own all =
    one-more 0 line core.log entry all own
after-event line core (events.Admit entry grant false) own all = all
after-event line core (events.AdmitRead entry) own all = one-more 0 line core.log entry all own
after-event line core (events.Serve place answer) own all = all
after-event line core (events.Mark place by kept) own all = all
after-event line core (events.Dispatch place) own all = all
after-event line core (events.BlockWrite place block None) own all = all
after-event line core (events.BlockWrite place block (Some left)) own all = all
after-event line core (events.Flush place block true) own all = all
after-event line core (events.Flush place block false) own all = all
after-event line core (events.Finish place ends.Retired) own all = all
after-event line core (events.Finish place ends.More) own all = all
after-event line core (events.Finish place (ends.Back sizes.AsBefore gate applied)) own all = all
after-event line core (events.Finish place (ends.Back sizes.Set gate applied)) own all = all
after-event line core (events.Finish place (ends.Back sizes.Either gate applied)) own all = all
after-event line core (events.Skip place) own all = all
after-event line core (events.Trim block kept) own all = all
after-event line core events.Settle own all = all
after-event line core (events.Crash image) own all = all
after-event line core events.Mount own all = omega arith

abbrev Goes : ℕ → ℕ → Core → Type 0
Goes line ino core = AreOfLines 0 line core.log

abbrev log_law : ℕ → WorldLaw
log_law line = record {
  fact = record {
    Holds = AreLogsOfLines line;
    MayBe = Any;
    MayEnd = Any;
    tries = λ ops world holds. (tt, holds);
    quiet = λ old new q holds. q.cores (Goes line) (λ ino. omega arith) holds;
    fault = λ may. tt;
    waits = λ place. tt;
    says = λ answer given. tt;
  };
  line = line;
  comes = λ ino e world own may_be holds.
      quiet.replaced (Goes line) _ world.files
      (λ up. after-event line (core_in world ino) e own
      (quiet.file-has (Goes line) world ino (λ k. omega arith) holds up))
      holds;
}

log-names : (line : ℕ) → NameLaw (log_law line)
log-names line = record {
  asks = λ c request rec step world is holds.
      quiet.joined (Goes line) world.files _ holds
      (all-made-have (Goes line) (λ ino. omega arith) (changes_of world.names.now request rec));
  opens = λ c change world holds. holds;
}

log-powers : (line : ℕ) → Powers (law_of (log_law line))
log-powers line = record {
  joins = λ c uid gid. moves (log_law line).fact (λ world holds. holds);
  stops = λ n. moves (log_law line).fact (λ world holds. holds);
  plans = λ device writing k. moves (log_law line).fact (λ world holds. holds);
  crashes = λ k. moves (log_law line).fact (λ world holds. holds);
}

all-widened : (to more : ℕ) (files : List File) → to ≤ more → OfEachCore (Goes to) files →
    OfEachCore (Goes more) files
all-widened to more [] high all = tt
all-widened to more (f ∷ files) high all =
    (λ up. widen 0 to more f.core.log high (all.0 up), all-widened to more files high all.1)

pub logs-follow : LogsFollowLines
logs-follow old new line out to up (steps_so end way) low all =
    (line-kept (log_law line.number)
    (requests_of (log_law line.number) (log-names line.number)) (log-powers line.number)
    line.form old end new up
    (all-widened to line.number old.files low all) way).1
