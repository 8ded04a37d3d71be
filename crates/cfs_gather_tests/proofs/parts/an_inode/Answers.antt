use Rattle.std.proofs.Common.{◌≡◌, ◌<◌, [], ◌∷◌, length, get_or, sym, subst, lit<, refl}
use Rattle.cfs_pmem.specs.declared.mem_region.MemRegion.{MemRegion}
use Rattle.cfs_pmem.specs.Images.{IsSure, words_of}
use Rattle.cfs_pmem.proofs.ImageLemmas.{sure_began}
use Rattle.cfs_gather_tests.proofs.parts.an_inode.Goals as goal

pub new-requires : goal.new-requires
new-requires c =
    let size = sym c.in_ok-size.ensures in record {
      number = lit< tt;
      sized = subst (λ (r : MemRegion). 0 < length (words_of r.seen)) size (lit< tt);
      sure = subst (λ (r : MemRegion). IsSure r.seen) size (sure_began 68 (0 ∷ []));
      empty = subst (λ (r : MemRegion). get_or (words_of r.seen) 0 0 ≡ 0) size refl;
    }
