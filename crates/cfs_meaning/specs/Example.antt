-- Two short scripts, and what they answer: one makes a file, writes and reads; in the other one two
-- descriptors write to one file, and the second write covers the first.
use Rattle.std.specs.Prelude.{ℕ, List, None, [], false, replicate, true, ◌∷◌}
use Rattle.std.specs.List.{range_with_len}
use Rattle.cfs_dir.specs.declared.kind.Kind.TheVariants.{Directory}
use Rattle.cfs_dir.specs.Namespace.{Namespace}
use Rattle.cfs_words.specs.declared.flags.Flags.{Flags}
use Rattle.cfs_script.specs.declared.form.Form.TheVariants as forms
use Rattle.cfs_script.specs.declared.line.Line.{Line}
use Rattle.cfs_print.specs.declared.out_line.OutLine.{OutLine}
use Rattle.cfs_print.specs.declared.listed.Letter.TheVariants as letters
use Rattle.cfs_print.specs.declared.printed.Printed.TheVariants as answers
use Rattle.cfs_meaning.specs.Drive.{Drive}
use Rattle.cfs_meaning.specs.NameSteps.{new_order}
use Rattle.cfs_meaning.specs.World.{Up, World}
use Rattle.cfs_meaning.specs.Play.{Run}
use Rattle.cfs_meaning.specs.Laws.{IsCalm}

-- the tree of a new store
abbrev pub new_tree : Namespace
new_tree = record {
  nodes = record {
    ino = 1;
    parent = 1;
    name = [];
    kind = Directory;
    mode = 511;
    uid = 0;
    gid = 0;
    rec = 0;
  } ∷ [];
  next = 2;
}

-- a store of so many queues and of two free blocks that holds this tree, mounted, with any devices
abbrev pub new_world : ℕ → Drive → World
new_world queues drive = record {
  drive = drive;
  phase = Up;
  names = record {
    base = new_order queues new_tree;
    log = [];
    now = new_order queues new_tree;
    through = 0;
    records = 0;
    doubt = None;
    selector_unsure = false;
  };
  files = [];
  free = 0 ∷ 1 ∷ [];
  queues = replicate queues (record { free = range_with_len 0 16; returned = [] });
  callers = [];
}

-- rwc
abbrev pub its_flags : Flags
its_flags = record { read = true; write = true; create = true; exclusive = false; append = false }

-- caller 1 10 10
-- 1 open /a rwc 0644
-- 1 pwrite 0 0 t:hi
-- 1 pread 0 0 4
abbrev pub the_lines : List Line
the_lines =
    record { number = 1; form = forms.Caller 1 10 10 }
    ∷ record {
      number = 2;
      form = forms.Open 1 ((97 ∷ []) ∷ []) its_flags 420;
    }
    ∷ record { number = 3; form = forms.Pwrite 1 0 0 (104 ∷ 105 ∷ []) }
    ∷ record { number = 4; form = forms.Pread 1 0 0 4 }
    ∷ []

-- 2 ok ns=1 fd=0 ino=2
-- 3 ok ino=2 place=1 off=0 n=2
-- 4 ok ino=2 place=2 n=2 h:6869
abbrev pub its_answers : List OutLine
its_answers =
    record { number = 2; answer = answers.Opened 1 0 2 }
    ∷ record { number = 3; answer = answers.Wrote 2 1 0 2 }
    ∷ record { number = 4; answer = answers.Got 2 2 (104 ∷ 105 ∷ []) }
    ∷ []

-- Whatever the devices hold, while none is made to fail, the script has a run with these answers.
abbrev pub TheLinesAnswer : Type 0
TheLinesAnswer =
    (drive : Drive) → IsCalm drive →
    (end : World) × Run (new_world 1 drive) the_lines its_answers end

-- caller 1 10 10
-- 1 open /a rwc 0644
-- 1 open /a rw
-- 1 pwrite 0 0 t:aa
-- 1 pwrite 1 0 t:bbb
-- queue 1 0
-- queue 1 1
abbrev pub two_writes : List Line
two_writes =
    record { number = 1; form = forms.Caller 1 10 10 }
    ∷ record { number = 2; form = forms.Open 1 ((97 ∷ []) ∷ []) its_flags 420 }
    ∷ record {
      number = 3;
      form = forms.Open 1 ((97 ∷ []) ∷ []) (record its_flags { create = false }) 0;
    }
    ∷ record { number = 4; form = forms.Pwrite 1 0 0 (97 ∷ 97 ∷ []) }
    ∷ record { number = 5; form = forms.Pwrite 1 1 0 (98 ∷ 98 ∷ 98 ∷ []) }
    ∷ record { number = 6; form = forms.Queue 1 0 }
    ∷ record { number = 7; form = forms.Queue 1 1 }
    ∷ []

-- 2 ok ns=1 fd=0 ino=2
-- 3 ok ns=2 fd=1 ino=2
-- 4 ok ino=2 place=1 off=0 n=2
-- 5 ok ino=2 place=2 off=0 n=3
-- 6 ok 1n
-- 7 ok 2w
abbrev pub their_answers : List OutLine
their_answers =
    record { number = 2; answer = answers.Opened 1 0 2 }
    ∷ record { number = 3; answer = answers.Opened 2 1 2 }
    ∷ record { number = 4; answer = answers.Wrote 2 1 0 2 }
    ∷ record { number = 5; answer = answers.Wrote 2 2 0 3 }
    ∷ record {
      number = 6;
      answer = answers.Queued (record { place = 1; letter = letters.Idle } ∷ []);
    }
    ∷ record {
      number = 7;
      answer = answers.Queued (record { place = 2; letter = letters.Waiting } ∷ []);
    }
    ∷ []

-- The second write covers the first one, which becomes a no-op.
abbrev pub TheWritesAnswer : Type 0
TheWritesAnswer =
    (drive : Drive) → IsCalm drive →
    (end : World) × Run (new_world 2 drive) two_writes their_answers end
