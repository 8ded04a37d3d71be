use Rattle.std.proofs.Common.{◌≡◌, ◌<◌, [], ◌∷◌, length, get_or, sym, subst, lit<, refl}
use Rattle.cfs_pmem.specs.Images.{IsSure, Seen, WordStep, words_of}
use Rattle.cfs_pmem.proofs.ImageLemmas.{sure_began}
use Rattle.cfs_active_bench.proofs.inode.empty_file.Goals as goal

pub new-requires : goal.new-requires
new-requires c =
    let size = sym c.in_ok-size.ensures in record {
      number = lit< tt;
      sized = subst (λ (s : Seen WordStep). 0 < length (words_of s)) size (lit< tt);
      sure = subst IsSure size (sure_began 69 (0 ∷ []));
      empty = subst (λ (s : Seen WordStep). get_or (words_of s) 0 0 ≡ 0) size refl;
    }
