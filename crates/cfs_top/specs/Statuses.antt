-- The number of each status.
use Rattle.std.specs.Prelude.{ℕ}
use Rattle.cfs_top.specs.declared.status.Status.{Status}
use Rattle.cfs_top.specs.declared.status.Status.TheVariants.{Done, Usage, Script, Image, Input}
use Rattle.cfs_top.specs.declared.status.Status.TheVariants.{Output, Shelf, NoMemory, Absent, NoFile}

abbrev pub number_of : Status → ℕ
number_of Done = 0
number_of Usage = 1
number_of Script = 2
number_of Image = 3
number_of Input = 4
number_of Output = 5
number_of Shelf = 6
number_of NoMemory = 7
number_of Absent = 8
number_of NoFile = 9
