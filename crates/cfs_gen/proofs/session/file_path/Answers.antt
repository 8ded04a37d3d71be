use Rattle.std.proofs.Common.{Err, ap}
use Rattle.cfs_gen.specs.Workload.{file_path}
use Rattle.cfs_gen.proofs.Files.{file_path_is, file_text}
use Rattle.cfs_gen.proofs.session.file_path.Goals as goal

pub unreachable-requires : goal.unreachable-requires
unreachable-requires c =
    c.in-Err-Malformed.ensures.malformed (ap Err c.in-Err-Malformed.field-0-is) (file_path c.args.file) (file_text c.args.file c.requires)

pub returns-in-Ok : goal.returns-in-Ok
returns-in-Ok c = file_path_is c.in-Ok.path c.args.file c.requires c.in-Ok.ensures.parsed
