-- The lines of workers, and the choice of the next piece of work.
use Rattle.std.specs.Prelude.{ℕ, ◌+◌, ◌==◌, Bool, true, false, not, ◌&&◌, ◌||◌, if◌then◌else◌, min}
use Rattle.std.specs.Prelude.{Option, Some, None, List, [], ◌∷◌, length, filter, nat_lt, is_none}
use Rattle.std.specs.Prelude.{is_some}
use Rattle.std.specs.List.{flat_map, list_any, range_with_len}
use Rattle.cfs_file.specs.Span.{meets}
use Rattle.cfs_core.specs.declared.inode_core.Core.{Core}
use Rattle.cfs_core.specs.Words.{is_noop, is_unserved, track}
use Rattle.cfs_core.specs.May.{is_sync_at}
use Rattle.cfs_sched.specs.declared.summary.Summary.{Summary}
use Rattle.cfs_sched.specs.Choice.{urgency}
use Rattle.cfs_print.specs.declared.printed.Printed.{Printed}
use Rattle.cfs_print.specs.declared.printed.Printed.TheVariants.{Drained, Fine, Freed, Left, More}
use Rattle.cfs_print.specs.declared.printed.Printed.TheVariants.{Nothing, Pending, Placed}
use Rattle.cfs_print.specs.declared.printed.Printed.TheVariants.{Unfinished}
use Rattle.cfs_meaning.specs.World.{File, World, all_placed, core_in, file_in, is_there, with_file}
use Rattle.cfs_meaning.specs.Ways.{Changes, Now, Repeats, Way, choose, done, give, refuse_if, say}
use Rattle.cfs_meaning.specs.Ways.{◌>>=◌, ◌>>◌}
use Rattle.cfs_meaning.specs.Inode.{Absent, Behind, Ready, Verdict, apply, dispatch, finish, job_at}
use Rattle.cfs_meaning.specs.Inode.{left_at, run_job, settle, skip, trim, verdict, with_passed}

-- ---- one step at a time

abbrev pub there : ℕ → Way (Unit {0})
there ino = Now >>= (λ w. refuse_if (not (is_there w ino)) Nothing)

abbrev pub say_left : ℕ → ℕ → Way Printed
say_left ino place = Now >>= (λ w. give (Left (left_at w ino place)))

abbrev pub dispatch_by : ℕ → ℕ → Verdict → Way Printed
dispatch_by ino place Absent = say Nothing
dispatch_by ino place (Behind q) = say (Pending q)
dispatch_by ino place Ready = dispatch ino place >> say_left ino place

abbrev pub dispatch_line : ℕ → ℕ → Way Printed
dispatch_line ino place =
    there ino >> Now >>= (λ w. dispatch_by ino place (verdict (core_in w ino) place))

abbrev pub apply_line : ℕ → ℕ → Way Printed
apply_line ino place = do
  world ← Now
  refuse_if (is_none (job_at world ino place)) Nothing
  apply ino place
  say_left ino place

abbrev pub finish_line : ℕ → ℕ → Way Printed
finish_line ino place = do
  world ← Now
  refuse_if (is_none (job_at world ino place)) Nothing
  refuse_if (nat_lt 0 (left_at world ino place)) (Unfinished (left_at world ino place))
  more ← finish ino place
  give (if more then More else Fine)

abbrev pub skip_line : ℕ → ℕ → Way Printed
skip_line ino place = do
  there ino
  world ← Now
  refuse_if (not (is_noop (track (core_in world ino).tracks place).state)) Nothing
  skip ino place
  give Fine

abbrev pub trim_line : ℕ → Way Printed
trim_line ino = there ino >> Repeats (trim ino) >>= (λ n. give (Freed n))

abbrev pub settle_line : ℕ → Way Printed
settle_line ino = do
  there ino
  world ← Now
  refuse_if (is_none (core_in world ino).doubt) Nothing
  settle ino
  give Fine

-- ---- turns

-- a piece of work: a no-op, or an entry that could be dispatched
abbrev pub Item : Type 0
Item = Summary

abbrev pub is_ready : Verdict → Bool
is_ready Ready = true
is_ready other = false

-- a later unserved read that overlaps, or a later unserved sync
abbrev pub is_wanted_by : Core → ℕ → ℕ → Bool
is_wanted_by core place p =
    nat_lt place p
    && (is_unserved (track core.tracks p).state
    && (is_sync_at core.log p || meets (track core.tracks p).span (track core.tracks place).span))

abbrev pub is_wanted : Core → ℕ → Bool
is_wanted core place = list_any (is_wanted_by core place) (range_with_len 1 (length core.tracks))

abbrev pub item : File → ℕ → Bool → Item
item f place noop = record {
  rec = f.rec;
  ino = f.ino;
  place = place;
  noop = noop;
  read_waits = not noop && is_wanted f.core place;
  passed = f.passed place;
}

abbrev pub work_at : File → ℕ → List Item
work_at f place =
    if is_noop (track f.core.tracks place).state then item f place true ∷ []
    else (if is_ready (verdict f.core place) then item f place false ∷ [] else [])

abbrev pub work_of : File → List Item
work_of f = flat_map (work_at f) (range_with_len 1 (length f.core.tracks))

-- by ascending record and place
abbrev pub work : World → List Item
work world =
    flat_map (λ rec. flat_map work_of (filter (λ f. f.rec == rec) world.files))
    (range_with_len 0 256)

-- Of items as urgent the earlier one comes first.
abbrev pub comes_first : Item → Item → Bool
comes_first later earlier = nat_lt (urgency earlier) (urgency later)

abbrev pub best : Item → List Item → Item
best x [] = x
best x (y ∷ ys) = best (if comes_first y x then y else x) ys

abbrev pub chosen : List Item → Option Item
chosen [] = None
chosen (first ∷ rest) = Some (best first rest)

-- each item but the chosen one is passed over once more
abbrev pub once_more : ℕ → ℕ
once_more n = min (n + 1) 18446744073709551615

abbrev pub pass_over : Item → Item → World → World
pass_over x y world =
    if (x.ino == y.ino) && (x.place == y.place) then world
    else let f : File = file_in world y.ino in
    with_file (with_passed y.place (once_more (f.passed y.place)) f) world

abbrev pub pass_over_all : Item → List Item → World → World
pass_over_all x [] world = world
pass_over_all x (y ∷ ys) world = pass_over_all x ys (pass_over x y world)

abbrev pub do_item : Item → Way (Unit {0})
do_item x = choose x.noop (skip x.ino x.place) (run_job x.ino x.place >> done)

abbrev pub take_turn : Option Item → Way (Option Item)
take_turn None = give None
take_turn (Some x) = do
  Changes (λ w. pass_over_all x (work w) w)
  do_item x
  give (Some x)

-- one piece of work, if there is any
abbrev pub turn : Way (Option Item)
turn = Now >>= (λ w. take_turn (chosen (work w)))

abbrev pub say_turn : Option Item → Way Printed
say_turn None = say Nothing
say_turn (Some x) = give (Placed x.ino x.place)

abbrev pub turn_line : Way Printed
turn_line = turn >>= say_turn

-- turns until there is no work, and then each file that is there is trimmed, by ascending inode
-- number
abbrev pub trim_each : List ℕ → ℕ → Way ℕ
trim_each [] freed = give freed
trim_each (ino ∷ rest) freed = Repeats (trim ino) >>= (λ n. trim_each rest (freed + n))

abbrev pub files_there : World → List ℕ
files_there world =
    all_placed (flat_map (λ f. if is_there world f.ino then f.ino ∷ [] else []) world.files) []

abbrev pub drain : Way Printed
drain = do
  turns ← Repeats (turn >>= (λ x. give (is_some x)))
  world ← Now
  freed ← trim_each (files_there world) 0
  give (Drained turns freed)
