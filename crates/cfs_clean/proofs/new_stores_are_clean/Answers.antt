use Rattle.cfs_clean.proofs.News.{news-clean}
use Rattle.cfs_clean.proofs.new_stores_are_clean.Goals as goal

pub returns : goal.returns
returns c = news-clean
