-- The summary of a workload: what it counts, and its text.
use Rattle.std.specs.Prelude.{ℕ, ◌+◌, ◌&&◌, Bool, true, false, List, [], ◌∷◌, ◌++◌, codes, count_by, Option, Some, None, if◌then◌else◌}
use Rattle.std.specs.Fmt.{decimal}
use Rattle.cfs_script.specs.declared.form.Form.{Form}
use Rattle.cfs_gen.specs.declared.kind.Kind.{Kind}
use Rattle.cfs_gen.specs.declared.kind.Kind.TheVariants.{Write, Read, Sync}
use Rattle.cfs_gen.specs.Kinds.{kind_of}
use Rattle.cfs_gen.specs.Totals.{Totals}

abbrev pub is_some_kind : Option Kind → Bool
is_some_kind (Some kind) = true
is_some_kind None = false

abbrev pub is_write_kind : Option Kind → Bool
is_write_kind (Some Write) = true
is_write_kind _ = false

abbrev pub is_read_kind : Option Kind → Bool
is_read_kind (Some Read) = true
is_read_kind _ = false

abbrev pub is_sync_kind : Option Kind → Bool
is_sync_kind (Some Sync) = true
is_sync_kind _ = false

-- the counts of a workload's lines, each with whether it was answered ok
abbrev pub summary_of : ℕ → List (Form × Bool) → Totals
summary_of number lines = record {
  number = number;
  requests = count_by (λ line. is_some_kind (kind_of line.0)) lines;
  writes = count_by (λ line. is_write_kind (kind_of line.0)) lines;
  reads = count_by (λ line. is_read_kind (kind_of line.0)) lines;
  syncs = count_by (λ line. is_sync_kind (kind_of line.0)) lines;
  ok = count_by (λ line. is_some_kind (kind_of line.0) && line.1) lines;
}

abbrev pub one_if : Bool → ℕ
one_if b = if b then 1 else 0

-- the counts with one line more
abbrev pub counted : Totals → Form → Bool → Totals
counted totals form is_ok = record {
  number = totals.number;
  requests = totals.requests + one_if (is_some_kind (kind_of form));
  writes = totals.writes + one_if (is_write_kind (kind_of form));
  reads = totals.reads + one_if (is_read_kind (kind_of form));
  syncs = totals.syncs + one_if (is_sync_kind (kind_of form));
  ok = totals.ok + one_if (is_some_kind (kind_of form) && is_ok);
}

-- the line, ended by its byte 10
abbrev pub summary_text : Totals → List ℕ
summary_text totals =
    codes "gen number=" ++ (decimal totals.number ++ (codes " requests=" ++ (decimal totals.requests
    ++ (codes " writes=" ++ (decimal totals.writes ++ (codes " reads=" ++ (decimal totals.reads
    ++ (codes " syncs=" ++ (decimal totals.syncs
    ++ (codes " ok=" ++ (decimal totals.ok ++ (10 ∷ []))))))))))))
