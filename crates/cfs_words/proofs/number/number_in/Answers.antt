use Rattle.cfs_words.proofs.Numbers.{number_of-found, number_of-none}
use Rattle.cfs_words.proofs.number.number_in.Goals as goal

pub returns-clause-found : goal.returns-clause-found
returns-clause-found c = number_of-found c.args.least c.args.most c.args.word.now _ c.read_number.ensures

pub returns-clause-none : goal.returns-clause-none
returns-clause-none c = number_of-none c.args.least c.args.most c.args.word.now _ c.read_number.ensures
