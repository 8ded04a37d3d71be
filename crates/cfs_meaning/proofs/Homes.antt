-- A mount of devices that have everything home makes a world that they show.
use Rattle.std.proofs.Common.{◌≡◌, ◌≢◌, ℕ, zero, suc, ◌+◌, ◌*◌, ◌<◌, ◌≤◌, false, not, Some}
use Rattle.std.proofs.Common.{List, [], ◌∷◌, map, take, inl, inr, refl, sym, ap}
use Rattle.std.proofs.Common.{◌∙◌, arith}
use Rattle.std.specs.List.{All, Contains}
use Rattle.std.proofs.lemmas.List.Elements.{All-tail}
use Rattle.cfs_file.specs.declared.sizes.TheConstants.{FILE_BLOCKS}
use Rattle.cfs_core_laws.specs.Reached.{IsReached, begins}
use Rattle.cfs_pmem.specs.Images.{IsImage, IsSure, Seen, WordStep, words_of}
use Rattle.cfs_pmem.specs.Objects.{IsEachImage}
use Rattle.cfs_dir.specs.declared.node.Node.{Node}
use Rattle.cfs_dir.specs.Namespace.{is_directory, node_of}
use Rattle.cfs_names.specs.Recovered.{recovered}
use Rattle.cfs_meaning.specs.Drive.{Drive}
use Rattle.cfs_meaning.specs.World.{Caller}
use Rattle.cfs_meaning.specs.Mounting.{files_of, mounted_file, mounted_world, recovered_tree}
use Rattle.cfs_meaning.specs.Devices.{AreApart, IsFileEquipped}
use Rattle.cfs_meaning.specs.Devices.{IsFileShown, IsPlaced, IsTreeShown, OfEachFile}
use Rattle.cfs_meaning.specs.Home.{HomesAreShown, IsFileHome, IsHome}
use Rattle.cfs_meaning.specs.Laws.{OfEachCore}
use Rattle.cfs_meaning.proofs.HomeFiles.{block-is, core-fresh, file-equipped, file-home}
use Rattle.cfs_meaning.proofs.HomeNodes.{all-has, each-mounted, has-kept, own-numbers, same-record}
use Rattle.cfs_medium.proofs.Has.{Has}

-- ---- what is known of a node

record IsNode (drive : Drive) (node : Node) : Type 0 where
  pub among : Has (recovered_tree drive).nodes node
  pub file : IsFileHome drive node
  pub number : node.ino ≢ 0
  pub low : node.rec < 256

node-known : (drive : Drive) → IsHome drive → (node : Node) →
    Has (files_of (recovered_tree drive)) node → IsNode drive node
node-known drive home node had =
    let among = has-kept (λ (n : Node). not (is_directory n.kind)) (recovered_tree drive).nodes node
    had in
    let numbers = all-has (λ (n : Node). (1 ≤ n.ino) × (n.ino < (recovered_tree drive).next))
    (recovered_tree drive).nodes node home.tree.numbers among in
    record {
      among = among;
      file = all-has (IsFileHome drive) (files_of (recovered_tree drive)) node home.files had;
      number = λ none. (let from = numbers.0 in omega (arith, from, none));
      low = all-has (λ (n : Node). n.rec < 256) (recovered_tree drive).nodes node
          home.tree.records among;
    }

-- ---- files

no-device : (device : ℕ) → Contains [] device → ⊥
no-device device is = omega (arith, is.1)

tag-apart : (i j k n : ℕ) → j < FILE_BLOCKS → n < FILE_BLOCKS →
    i * 65536 + j + 1 ≡ k * 65536 + n + 1 → (i ≡ k) × (j ≡ n)
tag-apart i j k n low less same = (omega (arith, low, less, same), omega (arith, low, less, same))

nodes-apart : (drive : Drive) (one other : Node) → IsHome drive → IsNode drive one →
    IsNode drive other → AreApart (mounted_file drive one) (mounted_file drive other)
nodes-apart drive one other home is also = record {
  records = λ same.
      ap (λ (n : Node). n.ino)
      (same-record 0 (recovered_tree drive).nodes one other home.tree.ascending is.among also.among
      same);
  slots = λ gate at device had more. absurd (no-device device had);
  blocks = λ j k b here there.
      let first = block-is drive one j b here in
      let second = block-is drive other k b there in
      tag-apart one.ino j other.ino k first.low second.low (sym first.tag ∙ second.tag);
}

node-placed : (drive : Drive) (node : Node) → IsHome drive → IsNode drive node →
    IsPlaced drive (mounted_file drive node)
node-placed drive node home is = record {
  number = is.number;
  low = is.low;
  size = home.sizes node.rec is.low;
  slots = λ gate device had. absurd (no-device device had);
  heads = λ gate s tails here had. absurd (cc);
  blocks = λ k b here. (block-is drive node k b here).within;
}

-- ---- the tree

sure-images : (n : ℕ) (seens : List (Seen WordStep)) (images : List (List ℕ)) →
    All IsSure seens → IsEachImage IsImage (take n seens) images →
    images ≡ map words_of (take n seens)
sure-images zero seens [] sure each = refl
sure-images zero seens (image ∷ images) sure each = absurd each
sure-images (suc n) [] [] sure each = refl
sure-images (suc n) [] (image ∷ images) sure each = absurd each
sure-images (suc n) (seen ∷ seens) [] sure each = absurd each
sure-images (suc n) (seen ∷ seens) (image ∷ images) sure each =
    let here : image ≡ words_of seen = sure 0 seen (omega arith) image each.0 in
    ap (λ i. i ∷ images) here
    ∙ ap (λ list. words_of seen ∷ list)
    (sure-images n seens images (All-tail IsSure seen seens sure) each.1)

tree-home : (callers : List Caller) (drive : Drive) → IsHome drive →
    IsTreeShown (mounted_world callers drive)
tree-home callers drive home images each =
    inl (ap recovered (sure-images 67 drive.regions images home.regions each))

-- ---- the world

cores-fresh : (drive : Drive) (nodes : List Node) →
    ((node : Node) → Has nodes node → IsFileHome drive node) →
    OfEachCore (λ ino core. IsReached core) (map (mounted_file drive) nodes)
cores-fresh drive [] all = tt
cores-fresh drive (node ∷ nodes) all = (
  λ up. begins _ (core-fresh drive node (all node (inl refl))),
  cores-fresh drive nodes (λ other had. all other (inr had)),
)

pub homes-are-shown : HomesAreShown
homes-are-shown callers drive home = record {
  shown = record {
    files = each-mounted (IsFileShown drive) drive nodes
        (λ node had up. (let is = node-known drive home node had in
        file-home drive node home is.file is.low));
    apart = each-mounted (λ f. OfEachFile (AreApart f) (map (mounted_file drive) nodes)) drive nodes
        (λ one had.
        each-mounted (AreApart (mounted_file drive one)) drive nodes
        (λ other more.
        nodes-apart drive one other home (node-known drive home one had)
        (node-known drive home other more)));
    placed = each-mounted (IsPlaced drive) drive nodes
        (λ node had. node-placed drive node home (node-known drive home node had));
    equipped = each-mounted IsFileEquipped drive nodes (λ node had up. file-equipped drive node);
    numbers = own-numbers drive (λ (n : Node). not (is_directory n.kind))
        (recovered_tree drive).nodes 0 (recovered_tree drive).nodes home.tree.ascending
        (λ node had.
        all-has
        (λ (n : Node). node_of (recovered_tree drive).nodes n.ino ≡ Some n)
        (recovered_tree drive).nodes node home.tree.number_once had);
    even = home.even;
    tree = tree-home callers drive home;
  };
  reached = cores-fresh drive nodes (λ node had. (node-known drive home node had).file);
  open_ = each-mounted (λ f. f.ended ≡ false) drive nodes (λ node had. refl);
}
  where
    nodes : List Node
    nodes = files_of (recovered_tree drive)
