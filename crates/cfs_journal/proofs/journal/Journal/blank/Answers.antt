use Rattle.cfs_journal.proofs.Standings.{blank_stands}
use Rattle.cfs_journal.proofs.journal.Journal.blank.Goals as goal

pub new-requires : goal.new-requires
new-requires g c = blank_stands c.requires
