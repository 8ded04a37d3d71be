use Rattle.std.proofs.Common.{rules}
use Rattle.cfs_words.proofs.Paths.{path_of-again, path_of-none}
use Rattle.cfs_words.proofs.path.path_in.Goals as goal

pub returns-in-Ok : goal.returns-in-Ok
returns-in-Ok c = path_of-again c.args.word.now c.in-Ok.path c.in-Ok.ensures.parsed

pub returns-in-Err-Malformed : goal.returns-in-Err-Malformed
returns-in-Err-Malformed c = path_of-none c.args.word.now (c.parse.ensures.malformed (search rules))
