-- The kinds of a workload's requests.
use Rattle.std.specs.Prelude.{ℕ, ◌/◌, ◌%◌, ◌==◌, nat_le, Option, Some, None, if◌then◌else◌}
use Rattle.cfs_script.specs.declared.form.Form.{Form}
use Rattle.cfs_script.specs.declared.form.Form.TheVariants as forms
use Rattle.cfs_gen.specs.declared.kind.Kind.{Kind}
use Rattle.cfs_gen.specs.declared.kind.Kind.TheVariants.{Write, Read, Sync}

-- each kind is that of eight requests, one of each caller: three times a write, a read, a sync
abbrev pub kind_at : ℕ → Kind
kind_at index =
    if nat_le (index / 8 % 5) 2 then Write else (if index / 8 % 5 == 3 then Read else Sync)

-- the kind of a form, if it is a request of a workload
abbrev pub kind_of : Form → Option Kind
kind_of (forms.Pwrite caller fd offset bytes) = Some Write
kind_of (forms.Pread caller fd offset count) = Some Read
kind_of (forms.Fsync caller fd) = Some Sync
kind_of _ = None
