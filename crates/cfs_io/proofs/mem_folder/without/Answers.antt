use Rattle.std.proofs.Common.{◌∙◌, ◌≤◌, ap, filter, length, not, arith}
use Rattle.std.proofs.Math.Seq.{take_all}
use Rattle.std.specs.Str.{bytes_eq}
use Rattle.cfs_io.specs.Files.{files_of}
use Rattle.cfs_io.proofs.Folders.{files_of-others}
use Rattle.cfs_io.proofs.mem_folder.without.Goals as goal

pub returns : goal.returns
returns c =
    let all : length c.args.files.now ≤ c.loop-file.file-index = omega arith in
    ap files_of (c.loop-file.invariant ∙ ap (λ files. filter (λ file. not (bytes_eq file.0 c.args.name.now)) files) (take_all c.loop-file.file-index c.args.files.now all))
    ∙ files_of-others c.args.name.now c.args.files.now
