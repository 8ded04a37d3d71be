use Rattle.std.proofs.Common.{◌≡◌, ◌∙◌, ◌++◌, ◌*◌, ◌/◌, List, ap, ap₂, arith}
use Rattle.std.proofs.Common.{length, map, rules, subst, sym, vec_len}
use Rattle.std.proofs.lemmas.List.{drop-map}
use Rattle.cfs_image.specs.Layout.{queues_of}
use Rattle.cfs_names.specs.StoredTrees.{seens_in}
use Rattle.cfs_pmem.specs.Images.{MemoryRegion, Seen, WordStep}
use Rattle.cfs_survey.specs.Surveys.{recovered_tree, words_of}
use Rattle.cfs_mount.specs.Names.{mounted_kernel}
use Rattle.cfs_mount.specs.Queues.{AreFreeSlots}
use Rattle.cfs_mount.proofs.Parting.{front-parted, parts-are-front, sixteen-each}
use Rattle.cfs_mount.proofs.kernel.mount_regions.Goals as goal

abbrev see : MemoryRegion → Seen WordStep
see region = region.seen

pub mounted_tree-requires-clause-front : goal.mounted_tree-requires-clause-front
mounted_tree-requires-clause-front c =
    let split = c.in_ok-split.split in
    let made = c.in_ok-split.ensures in
    front-parted see c.args.regions.items (words_of c.args.words.now) split.selector
    split.tables.items split.records.items made.selector made.tables made.records
    c.requires.settled.front

-- there are 16 slots for each queue
counted : (c : goal.After-len) →
    (c.len.result / 16 ≡ queues_of (length c.args.regions.items))
    × (length c.in_ok-split.split.slots.items ≡ 16 * (c.len.result / 16))
counted c =
    let slots : List MemoryRegion = c.in_ok-split.split.slots.items in
    let size : vec_len c.in_ok-split.split.slots ≡ length slots = search rules in
    sixteen-each c.args.regions.items slots c.len.result (c.len.ensures ∙ size)
    c.in_ok-split.ensures.slots c.requires.queues

pub overflow_cast-queues : goal.overflow_cast-queues
overflow_cast-queues c = omega (arith, (counted c).0, c.requires.most)

pub mounted_names-requires-clause-most : goal.mounted_names-requires-clause-most
mounted_names-requires-clause-most c = omega (arith, (counted c).0, c.requires.most)

pub mounted_names-requires-clause-count : goal.mounted_names-requires-clause-count
mounted_names-requires-clause-count c = (counted c).1

pub mounted_names-requires-clause-free : goal.mounted_names-requires-clause-free
mounted_names-requires-clause-free c =
    subst (λ seens. AreFreeSlots 323 seens)
    (drop-map see 323 c.args.regions.items
    ∙ ap (λ slots. map see slots) (sym c.in_ok-split.ensures.slots))
    c.requires.settled.slots

pub returns-clause-kernel : goal.returns-clause-kernel
returns-clause-kernel c =
    let slots : List MemoryRegion = c.in_ok-split.split.slots.items in
    let size : vec_len c.in_ok-split.split.slots ≡ length slots = search rules in
    let count = sixteen-each c.args.regions.items slots c.len.result (c.len.ensures ∙ size)
    c.in_ok-split.ensures.slots c.requires.queues in
    c.in_ok-names.ensures.kernel
    ∙ ap (λ tree. mounted_kernel tree slots (c.len.result / 16)) c.in_ok-stored.ensures.tree
    ∙ ap₂ (λ all number. mounted_kernel (recovered_tree (words_of c.args.words.now)) all number)
    c.in_ok-split.ensures.slots count.0

pub returns-clause-front : goal.returns-clause-front
returns-clause-front c =
    let split = c.in_ok-split.split in
    let made = c.in_ok-split.ensures in
    ap (λ stored. seens_in see stored) c.in_ok-names.ensures.stored
    ∙ ap₂ (λ tables records. tables ++ map see records) c.in_ok-stored.ensures.front
    c.in_ok-stored.ensures.records
    ∙ parts-are-front see c.args.regions.items split.selector split.tables.items
    split.records.items made.selector made.tables made.records
