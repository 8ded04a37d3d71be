use Rattle.std.proofs.Common.{◌≡◌, ◌++◌, All, take}
use Rattle.std.specs.List.{flat_map}
use Rattle.cfs_image.specs.Image.{IsWord, words_bytes, words_in}
use Rattle.cfs_image.proofs.write.push_regions.Given as goal

abbrev pub invariant-loop-region : goal.invariant-loop-region
invariant-loop-region l = record {
  image : l.image.items ≡ l.initial.image.items ++ flat_map words_bytes (words_in (take l.region-index l.regions));
  fit : All (λ words. All IsWord words) (words_in (take l.region-index l.regions));
}
