-- Where the journal and the checkpoint stand for a tree, each image of them recovers it.
use Rattle.std.proofs.Common.{ℕ, List, [], sym, subst}
use Rattle.std.proofs.lemmas.List.{take-append-drop}
use Rattle.cfs_dir.specs.Namespace.{Namespace}
use Rattle.cfs_pmem.specs.AllMoments.{AreDistinct}
use Rattle.cfs_pmem.specs.Images.{IsImage, Seen, WordStep}
use Rattle.cfs_pmem.specs.Objects.{IsEachImage, all_devices}
use Rattle.cfs_pmem.proofs.AllMomentLemmas.{all_at_end}
use Rattle.cfs_names.specs.Recovered.{IsTreeOr, recovered}
use Rattle.cfs_names.proofs.Recovering.{at_rest}
use Rattle.cfs_meaning.specs.World.{World}
use Rattle.cfs_meaning.specs.Trees.{IsTreeStored, front_in}

pub stored-recovers : (tree : Namespace) (world : World) → IsTreeStored tree world →
    (images : List (List ℕ)) → IsEachImage IsImage (front_in world.drive) images →
    IsTreeOr tree world.names.doubt (recovered images)
stored-recovers tree world stored images each =
    let same = take-append-drop 3 (front_in world.drive) in
    all_at_end
    (at_rest [] stored.selector.size
    (subst (λ (list : List (Seen WordStep)). AreDistinct (all_devices list)) (sym same)
    stored.distinct) stored.behind stored.journal)
    images
    (subst (λ (list : List (Seen WordStep)). IsEachImage IsImage list images) (sym same) each)
