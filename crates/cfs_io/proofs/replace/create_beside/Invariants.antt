use Rattle.std.proofs.Common.{◌≡◌, ◌≤◌, ℕ, ◌<◌, List, false}
use Rattle.cfs_io.specs.Folder.{LeavesNoMoreAt, is_kept_name}
use Rattle.cfs_io.specs.Saves.{Stands, name_beside}
use Rattle.cfs_io.proofs.replace.create_beside.Given as goal

abbrev pub invariant-loop-number : goal.invariant-loop-number
invariant-loop-number g l = record {
  same : g.F.Folder.files l.folder ≡ g.F.Folder.files l.initial.folder;
  left : (q : List ℕ) → is_kept_name q ≡ false → LeavesNoMoreAt (g.F.Folder.MayLeave l.initial.folder) (g.F.Folder.MayLeave l.folder) q;
  taken : (number : ℕ) → number < l.number → Stands (g.F.Folder.files l.initial.folder) (name_beside l.name number);
  later : g.F.Folder.faults l.initial.folder ≤ g.F.Folder.faults l.folder;
}
