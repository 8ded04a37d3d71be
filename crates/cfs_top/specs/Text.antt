-- The text of the output.
use Rattle.std.specs.Prelude.{ℕ, List, [], ◌∷◌, ◌++◌, length, codes}
use Rattle.std.specs.Fmt.{decimal}
use Rattle.hex.specs.Hex.{encode_lower}
use Rattle.cfs_fsck.specs.declared.report.Report.{Report}
use Rattle.cfs_image.specs.Checks.{Damage}
use Rattle.cfs_top.specs.declared.printed.Printed.{Printed}
use Rattle.cfs_top.specs.declared.printed.Printed.TheVariants.{Opened, Wrote, Got, Done}
use Rattle.cfs_top.specs.declared.out_line.OutLine.{OutLine}

abbrev pub usage_text : List ℕ
usage_text = codes "usage\n"

abbrev pub refused_text : List ℕ
refused_text = codes "script refused\n"

abbrev pub absent_text : List ℕ
absent_text = codes "absent\n"

abbrev pub no_file_text : List ℕ
no_file_text = codes "no file\n"

-- what the first check of an image that fails has found, and where, and against which number
abbrev pub damaged_text : Damage → List ℕ
damaged_text damage =
    codes "image refused: offset " ++ (decimal damage.offset ++ (codes " found "
    ++ (decimal damage.found ++ (codes " against " ++ (decimal damage.against ++ codes "\n")))))

-- what a store holds
abbrev pub report_text : Report → List ℕ
report_text report =
    codes "ok nodes=" ++ (decimal report.nodes ++ (codes " live=" ++ (decimal report.live
    ++ (codes " noop=" ++ (decimal report.noop ++ (codes " blocks=" ++ (decimal report.blocks
    ++ codes "\n")))))))

-- the line's number, and the file and the place of its request
abbrev pub head_text : ℕ → ℕ → ℕ → List ℕ
head_text number ino place =
    decimal number ++ codes " ok ino=" ++ decimal ino ++ codes " place=" ++ decimal place

-- what a line of that number answers; the bytes of a read are hexadecimal
abbrev pub answer_text : ℕ → Printed → List ℕ
answer_text number (Opened place fd ino) =
    decimal number ++ codes " ok ns=" ++ decimal place
    ++ codes " fd=" ++ decimal fd ++ codes " ino=" ++ decimal ino
answer_text number (Wrote ino place offset count) =
    head_text number ino place ++ codes " off=" ++ decimal offset ++ codes " n=" ++ decimal count
answer_text number (Got ino place bytes) =
    head_text number ino place ++ codes " n=" ++ decimal (length bytes)
    ++ codes " h:" ++ encode_lower bytes
answer_text number (Done ino place) = head_text number ino place

-- each line of output is ended by the byte 10
abbrev pub line_text : OutLine → List ℕ
line_text line = answer_text line.number line.answer ++ codes "\n"

abbrev pub texts : List OutLine → List ℕ
texts [] = []
texts (line ∷ lines) = line_text line ++ texts lines
