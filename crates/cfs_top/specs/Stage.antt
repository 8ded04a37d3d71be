-- Which scripts the program serves yet: those of one caller and one file.
use Rattle.std.specs.Prelude.{ℕ, ◌+◌, ◌==◌, ◌&&◌, not, nat_le, Bool, true, false, List, []}
use Rattle.std.specs.Prelude.{◌∷◌, length}
use Rattle.cfs_dir.specs.Path.{same_names}
use Rattle.cfs_words.specs.declared.flags.Flags.{Flags}
use Rattle.cfs_script.specs.declared.form.Form.{Form}
use Rattle.cfs_script.specs.declared.form.Form.TheVariants as forms
use Rattle.cfs_script.specs.declared.line.Line.{Line}

-- where the last transfer may begin, and the most bytes that one moves
abbrev pub last_offset : ℕ
last_offset = 1044480

abbrev pub most_bytes : ℕ
most_bytes = 4096

-- the flags `rwc`
abbrev pub is_rwc : Flags → Bool
is_rwc flags =
    flags.read && (flags.write && (flags.create && (not flags.exclusive && not flags.append)))

-- the path `/a`
abbrev pub is_a : List (List ℕ) → Bool
is_a path = same_names path ((97 ∷ []) ∷ [])

-- a transfer of caller 1 over descriptor 0, behind the caller and the open
abbrev pub is_transfer : ℕ → ℕ → ℕ → ℕ → Bool
is_transfer before caller fd offset =
    nat_le 2 before && (caller == 1 && (fd == 0 && nat_le offset last_offset))

-- what is served behind so many lines: caller 1 with user and group 10, then `/a` opened with flags
-- `rwc` and mode 0644, then reads and writes at offsets of the one descriptor
abbrev pub is_served : ℕ → Form → Bool
is_served before (forms.Caller caller uid gid) =
    before == 0 && (caller == 1 && (uid == 10 && gid == 10))
is_served before (forms.Open caller path flags mode) =
    before == 1 && (caller == 1 && (is_a path && (is_rwc flags && mode == 420)))
is_served before (forms.Pwrite caller fd offset bytes) =
    is_transfer before caller fd offset
    && (nat_le 1 (length bytes) && nat_le (length bytes) most_bytes)
is_served before (forms.Pread caller fd offset count) =
    is_transfer before caller fd offset && nat_le count most_bytes
is_served before _ = false

-- all lines are served, behind so many
abbrev pub are_served : ℕ → List Line → Bool
are_served before [] = true
are_served before (line ∷ lines) = is_served before line.form && are_served (before + 1) lines
