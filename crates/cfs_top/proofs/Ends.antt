-- How calls of the program end.
use Rattle.std.proofs.Common.{◌≡◌, ◌∙◌, ◌≤◌, length, inl, inr, ℕ, Some, None, List, []}
use Rattle.std.proofs.Common.{refl, subst, sym, true}
use Rattle.std.specs.declared.option.Option.{Option}
use Rattle.std.specs.Io.KnownBytes.{Consumes, IsAtEnd}
use Rattle.cfs_file.specs.declared.entry.Entry.{Entry}
use Rattle.cfs_io.specs.declared.script.TheConstants.{LONGEST_SCRIPT}
use Rattle.cfs_io.specs.Files.{Files}
use Rattle.cfs_image.specs.Fresh.{new_image_of}
use Rattle.cfs_move.specs.Upgraded.{upgraded}
use Rattle.cfs_script.specs.declared.line.Line.{Line}
use Rattle.cfs_script.specs.declared.command.Command.TheVariants as commands
use Rattle.cfs_script.specs.Script.{IsScript}
use Rattle.cfs_top.specs.Stage.{are_served}
use Rattle.cfs_top.specs.declared.out_line.OutLine.{OutLine}
use Rattle.cfs_top.specs.declared.status.Status.{Status}
use Rattle.cfs_top.specs.declared.status.Status.TheVariants.{Done, Usage, Script, Image, Input}
use Rattle.cfs_top.specs.declared.status.Status.TheVariants.{Output, Shelf, NoMemory, Absent, NoFile}
use Rattle.cfs_image.specs.declared.refusal.ImageRefusal.{ImageRefusal}
use Rattle.cfs_image.specs.declared.refusal.ImageRefusal.TheVariants as refusals
use Rattle.cfs_top.specs.Command.{IsCheck, IsDump, IsMkfs, IsUpgrade}
use Rattle.cfs_top.specs.Outside.{ArePlay, CheckIsDue, DoLoad, DumpIsDue, Ends, IsDue, IsHeeded}
use Rattle.cfs_top.specs.Outside.{LeavesShelf, Loads, Makes, MaySay, PlayIsDue}
use Rattle.cfs_top.specs.Outside.{SaveNone, Says, SaysWhy, Shelved, UpgradeIsDue, Upgrades, Writes}
use Rattle.cfs_top.specs.Outside.{WritesAll, WritesFront}
use Rattle.cfs_top.specs.Play.{PlaysAll, PlaysFront, Run}
use Rattle.cfs_top.specs.Text.{damaged_text, texts}
use Rattle.cfs_top.proofs.Orders.{KeepsOrder-run}
use Rattle.cfs_top.proofs.Runs.{Appends-none}

-- all of a text that is due was written
writes_all : (due : Status → List ℕ → Type 0) (status : Status) (before after : Option (List ℕ)) → IsHeeded status →
    WritesAll due status before after → Writes due status before after
writes_all due Done before after heeded all = all
writes_all due Usage before after heeded all = all
writes_all due Script before after heeded all = all
writes_all due Image before after heeded all = all
writes_all due Input before after heeded all = absurd heeded
writes_all due Output before after heeded all = absurd heeded
writes_all due Shelf before after heeded all = absurd heeded
writes_all due NoMemory before after heeded all = absurd heeded
writes_all due Absent before after heeded all = all
writes_all due NoFile before after heeded all = all

-- a text that is due was written, or a front of it
pub said_writes : (due : Status → List ℕ → Type 0) (result status : Status) (text : List ℕ) (before after : Option (List ℕ)) →
    IsHeeded status → due status text → Says result status text before after → Writes due result before after
said_writes due result status text before after heeded is_due (inl all) =
    let P : Status → Type 0 = λ s. Writes due s before after in
    subst P (sym all.0) (writes_all due status before after heeded (record { text = text; is_due = is_due; written = all.1 }))
said_writes due result status text before after heeded is_due (inr front) =
    let P : Status → Type 0 = λ s. Writes due s before after in
    subst P (sym front.0) (record { status = status; text = text; is_due = is_due; written = front.1 })

-- the text of a script's run is due
pub script_is_due : (left rest : Option (List ℕ)) (bytes : List ℕ) (lines : List Line) (outs : List OutLine) (log : List Entry) →
    Consumes left rest bytes → length bytes ≤ LONGEST_SCRIPT → IsAtEnd rest → IsScript commands.Play bytes lines → are_served 0 lines ≡ true → Run [] lines outs log → PlayIsDue left rest Done (texts outs)
script_is_due left rest bytes lines outs log came short end script served run = record {
  bytes = bytes;
  came = came;
  short = short;
  end = end;
  lines = lines;
  script = script;
  served = served;
  outs = outs;
  log = log;
  run = run;
  order = KeepsOrder-run lines outs log served run;
  is_text = refl;
}

-- a front of the text of a script's run
pub front_of_script : (left rest : Option (List ℕ)) (bytes : List ℕ) (lines : List Line) (before after : Option (List ℕ)) →
    Consumes left rest bytes → length bytes ≤ LONGEST_SCRIPT → IsAtEnd rest → IsScript commands.Play bytes lines → are_served 0 lines ≡ true → PlaysFront [] lines before after →
    WritesFront (PlayIsDue left rest) before after
front_of_script left rest bytes lines before after came short end script served front = record {
  status = Done;
  text = texts front.outs;
  is_due = script_is_due left rest bytes lines front.outs front.new came short end script served front.run;
  written = front.written;
}

-- the whole of it
pub all_of_script : (left rest : Option (List ℕ)) (bytes : List ℕ) (lines : List Line) (log : List Entry) (before after : Option (List ℕ)) →
    Consumes left rest bytes → length bytes ≤ LONGEST_SCRIPT → IsAtEnd rest → IsScript commands.Play bytes lines → are_served 0 lines ≡ true → PlaysAll [] lines log before after →
    WritesAll (PlayIsDue left rest) Done before after
all_of_script left rest bytes lines log before after came short end script served all = record {
  text = texts all.outs;
  is_due = script_is_due left rest bytes lines all.outs log came short end script served all.run;
  written = all.written;
}

front_weaker : (due other : Status → List ℕ → Type 0) (before after : Option (List ℕ)) →
    ((status : Status) (text : List ℕ) → due status text → other status text) →
    WritesFront due before after → WritesFront other before after
front_weaker due other before after more front = record {
  status = front.status;
  text = front.text;
  is_due = more front.status front.text front.is_due;
  written = front.written;
}

all_weaker : (due other : Status → List ℕ → Type 0) (status : Status)
    (before after : Option (List ℕ)) → ((text : List ℕ) → due status text → other status text) →
    WritesAll due status before after → WritesAll other status before after
all_weaker due other status before after more all = record {
  text = all.text;
  is_due = more all.text all.is_due;
  written = all.written;
}

-- what was due of one command is due of the call
writes_weaker : (due other : Status → List ℕ → Type 0) (status : Status)
    (before after : Option (List ℕ)) →
    ((status : Status) (text : List ℕ) → due status text → other status text) →
    Writes due status before after → Writes other status before after
writes_weaker due other Done before after more w =
    all_weaker due other Done before after (more Done) w
writes_weaker due other Usage before after more w =
    all_weaker due other Usage before after (more Usage) w
writes_weaker due other Script before after more w =
    all_weaker due other Script before after (more Script) w
writes_weaker due other Image before after more w =
    all_weaker due other Image before after (more Image) w
writes_weaker due other Input before after more w = w
writes_weaker due other Output before after more w = front_weaker due other before after more w
writes_weaker due other Shelf before after more w = w
writes_weaker due other NoMemory before after more (inl same) = inl same
writes_weaker due other NoMemory before after more (inr front) =
    inr (front_weaker due other before after more front)
writes_weaker due other Absent before after more w =
    all_weaker due other Absent before after (more Absent) w
writes_weaker due other NoFile before after more w =
    all_weaker due other NoFile before after (more NoFile) w

-- what `play` wrote is what the call wrote
pub play_writes : (words : List (List ℕ)) (files : Option Files) (left rest : Option (List ℕ))
    (status : Status) (before after : Option (List ℕ)) → ArePlay words →
    Writes (PlayIsDue left rest) status before after →
    Writes (IsDue words files left rest) status before after
play_writes words files left rest status before after are w =
    writes_weaker (PlayIsDue left rest) (IsDue words files left rest) status before after
    (λ s text due. inl (are, due)) w

-- three ends of a call that differ
pub usage_input : Usage ≡ Input → ⊥
usage_input same = cc

pub output_input : Output ≡ Input → ⊥
output_input same = cc

-- no byte came
pub Consumes-none : (left : Option (List ℕ)) → Consumes left left []
Consumes-none None = tt
Consumes-none (Some bytes) = refl

-- a call that made a store and wrote nothing ended so
pub mkfs_ends : (status : Status) (words : List (List ℕ)) (image : List ℕ) (blocks queues : ℕ)
    (left written : Option (List ℕ)) (old new : Shelved) →
    IsMkfs words image blocks queues → Makes status image blocks queues old new →
    Ends status words (record { left = left; written = written; shelf = old })
    (record { left = left; written = written; shelf = new })
mkfs_ends Done words image blocks queues left written old new is made = record {
  writes = record { text = []; is_due = inr (inl ((image, (blocks, (queues, is))), refl, refl)); written = Appends-none written };
  asked = λ input. cc;
  came = ([], Consumes-none left);
  unread = λ none. refl;
  shelf = inl
      (record {
        name = image;
        bytes = new_image_of blocks queues;
        are =
            inl (blocks, (queues, (is, refl)));
        saved = made;
      });
}
mkfs_ends Usage words image blocks queues left written old new is made = absurd made
mkfs_ends Script words image blocks queues left written old new is made = absurd made
mkfs_ends Image words image blocks queues left written old new is made = absurd made
mkfs_ends Input words image blocks queues left written old new is made = absurd made
mkfs_ends Output words image blocks queues left written old new is made = absurd made
mkfs_ends Shelf words image blocks queues left written old new is made = record {
  writes = refl;
  asked = λ input. cc;
  came = ([], Consumes-none left);
  unread = λ none. refl;
  shelf = inr
      (record {
        name = image;
        bytes = new_image_of blocks queues;
        are =
            inl (blocks, (queues, (is, refl)));
        fails = made;
      });
}
mkfs_ends NoMemory words image blocks queues left written old new is made = record {
  writes = inl refl;
  asked = λ input. cc;
  came = ([], Consumes-none left);
  unread = λ none. refl;
  shelf = made;
}
mkfs_ends Absent words image blocks queues left written old new is made = absurd made
mkfs_ends NoFile words image blocks queues left written old new is made = absurd made

-- what became of the shelf by `upgrade` is what became of it by the call
upgrade_leaves : (status : Status) (words : List (List ℕ)) (image name : List ℕ) (old new : Shelved)
    →
    IsUpgrade words image name → Upgrades status image name old new →
    LeavesShelf status words old new
upgrade_leaves Done words image name old new is renews =
    inl (record {
      name = name;
      bytes = upgraded renews.bytes;
      are =
          inr (image, (renews.bytes, (is, (renews.is_old, refl))));
      saved = renews.saved;
    })
upgrade_leaves Usage words image name old new is made = absurd made
upgrade_leaves Script words image name old new is made = absurd made
upgrade_leaves Image words image name old new is made = made
upgrade_leaves Input words image name old new is made = absurd made
upgrade_leaves Output words image name old new is made = made
upgrade_leaves Shelf words image name old new is (inl load) =
    inl (inl (image, (name, is)), load)
upgrade_leaves Shelf words image name old new is (inr save) =
    inr (record {
      name = name;
      bytes = upgraded save.bytes;
      are =
          inr (image, (save.bytes, (is, (save.is_old, refl))));
      fails = save.fails;
    })
upgrade_leaves NoMemory words image name old new is made = made
upgrade_leaves Absent words image name old new is made = made
upgrade_leaves NoFile words image name old new is made = made

-- a call that upgraded an image, or wrote why not, ended so
pub upgrade_ends : (status : Status) (words : List (List ℕ)) (image name : List ℕ)
    (left before after : Option (List ℕ)) (old new : Shelved) →
    IsUpgrade words image name → Writes (UpgradeIsDue old.files image) status before after →
    Upgrades status image name old new →
    Ends status words (record { left = left; written = before; shelf = old })
    (record { left = left; written = after; shelf = new })
upgrade_ends status words image name left before after old new is w made = record {
  writes =
      writes_weaker (UpgradeIsDue old.files image) (IsDue words old.files left left) status before
      after
      (λ s text due. inr (inr (inl (image, (name, (is, due)))))) w;
  asked = λ input. absurd (subst (λ s. Upgrades s image name old new) input made);
  came = ([], Consumes-none left);
  unread = λ none. refl;
  shelf = upgrade_leaves status words image name old new is made;
}

-- the shelf stays as it was, with words that save none
pub kept_shelf : (status : Status) (words : List (List ℕ)) (shelf : Shelved) → SaveNone words →
    (status ≡ Shelf → ⊥) → LeavesShelf status words shelf shelf
kept_shelf Done words shelf none other = inr (none, refl)
kept_shelf Usage words shelf none other = refl
kept_shelf Script words shelf none other = refl
kept_shelf Image words shelf none other = refl
kept_shelf Input words shelf none other = refl
kept_shelf Output words shelf none other = refl
kept_shelf Shelf words shelf none other = absurd (other refl)
kept_shelf NoMemory words shelf none other = refl
kept_shelf Absent words shelf none other = refl
kept_shelf NoFile words shelf none other = refl

pub usage_shelf : Usage ≡ Shelf → ⊥
usage_shelf same = cc

pub output_shelf : Output ≡ Shelf → ⊥
output_shelf same = cc

-- what became of the shelf by a call that only loads
loads_leave : (status : Status) (words : List (List ℕ)) (old new : Shelved) → DoLoad words →
    SaveNone words → Loads status old new → LeavesShelf status words old new
loads_leave Done words old new load none made = inr (none, made)
loads_leave Usage words old new load none made = absurd made
loads_leave Script words old new load none made = absurd made
loads_leave Image words old new load none made = made
loads_leave Input words old new load none made = absurd made
loads_leave Output words old new load none made = made
loads_leave Shelf words old new load none made = inl (load, made)
loads_leave NoMemory words old new load none made = made
loads_leave Absent words old new load none made = made
loads_leave NoFile words old new load none made = made

-- a call that only loads, and wrote what is due of it, ended so
load_ends : (due : Status → List ℕ → Type 0) (status : Status) (words : List (List ℕ))
    (left before after : Option (List ℕ)) (old new : Shelved) → DoLoad words → SaveNone words →
    ((s : Status) (text : List ℕ) → due s text → IsDue words old.files left left s text) →
    Writes due status before after → Loads status old new →
    Ends status words (record { left = left; written = before; shelf = old })
    (record { left = left; written = after; shelf = new })
load_ends due status words left before after old new load none more w made = record {
  writes = writes_weaker due (IsDue words old.files left left) status before after more w;
  asked = λ input. absurd (subst (λ s. Loads s old new) input made);
  came = ([], Consumes-none left);
  unread = λ other. refl;
  shelf = loads_leave status words old new load none made;
}

-- a call that told what an image holds, or what is wrong with it, ended so
pub check_ends : (status : Status) (words : List (List ℕ)) (image : List ℕ)
    (left before after : Option (List ℕ)) (old new : Shelved) →
    IsCheck words image → SaveNone words →
    Writes (CheckIsDue old.files image) status before after → Loads status old new →
    Ends status words (record { left = left; written = before; shelf = old })
    (record { left = left; written = after; shelf = new })
check_ends status words image left before after old new is none w made =
    load_ends (CheckIsDue old.files image) status words left before after old new
    (inr (inl (image, is))) none (λ s text due. inr (inr (inr (inl (image, (is, due)))))) w made

-- a call that wrote the bytes of a file, or why not, ended so
pub dump_ends : (status : Status) (words : List (List ℕ)) (image : List ℕ) (path : List (List ℕ))
    (left before after : Option (List ℕ)) (old new : Shelved) →
    IsDump words image path → SaveNone words →
    Writes (DumpIsDue old.files image path) status before after → Loads status old new →
    Ends status words (record { left = left; written = before; shelf = old })
    (record { left = left; written = after; shelf = new })
dump_ends status words image path left before after old new is none w made =
    load_ends (DumpIsDue old.files image path) status words left before after old new
    (inr (inr (image, (path, is)))) none
    (λ s text due. inr (inr (inr (inr (inl (image, (path, (is, due)))))))) w made

-- a text for which memory may lack
pub may_say_writes : (due : Status → List ℕ → Type 0) (result status : Status) (text : List ℕ)
    (before mid after : Option (List ℕ)) → mid ≡ before → IsHeeded status → due status text →
    MaySay result status text mid after → Writes due result before after
may_say_writes due result status text before mid after same heeded is_due (inl none) =
    let P : Status → Type 0 = λ s. Writes due s before after in
    subst P (sym none.0) (inl (none.1 ∙ same))
may_say_writes due result status text before mid after same heeded is_due (inr said) =
    subst (λ from. Writes due result from after) same
    (said_writes due result status text mid after heeded is_due said)

-- a refusal, where the line of the damage that it names is due
pub refused_writes : (due : Status → List ℕ → Type 0) (refusal : ImageRefusal) (result : Status)
    (before mid after : Option (List ℕ)) → mid ≡ before →
    ((offset found against : ℕ) → refusal ≡ refusals.Damaged offset found against →
    due Image (damaged_text record { offset = offset; found = found; against = against })) →
    SaysWhy refusal result mid after → Writes due result before after
refused_writes due (refusals.Damaged offset found against) result before mid after same is_due
    said =
    may_say_writes due result Image
    (damaged_text record { offset = offset; found = found; against = against }) before mid after
    same tt (is_due offset found against refl) said
refused_writes due refusals.NoMemory result before mid after same is_due said =
    subst (λ s. Writes due s before after) (sym said.0) (inl (said.1 ∙ same))
