-- Behind a mount's work on the devices all files are stored.
use Rattle.std.proofs.Common.{◌≡◌, ◌≢◌, ◌∙◌, ℕ, zero, suc, ◌+◌, ◌-◌, ◌/◌, ◌%◌, ◌<◌, ◌≤◌, ◌^◌}
use Rattle.std.proofs.Common.{inl, inr, Bool, true, None, List, [], ◌∷◌, length}
use Rattle.std.proofs.Common.{map, get_or, set, drop, arith, sym, ap, subst}
use Rattle.std.proofs.Common.{if◌then◌else◌}
use Rattle.std.specs.Prelude.{◌==◌, is_none, nat_le, nat_lt, unwrap_or}
use Rattle.std.specs.List.{All, Contains, range_with_len}
use Rattle.std.proofs.lemmas.Bool.{cases_lt, leb-true}
use Rattle.std.proofs.lemmas.Bool.Decides.{nat_tests}
use Rattle.std.proofs.lemmas.List.{get_or_default, get_or-drop, get_or-map, get_or-set_same}
use Rattle.std.proofs.lemmas.List.{get_or-take, get_or_past, length-drop, length-map, length-take}
use Rattle.std.proofs.lemmas.List.Elements.{All-contains_itself}
use Rattle.cfs_file.specs.declared.sizes.TheConstants.{LONGEST_FILE}
use Rattle.cfs_core.proofs.Legal.{both}
use Rattle.cfs_core.proofs.Order.{same_or_not}
use Rattle.cfs_pmem.specs.Images.{IsImage, IsSure, Seen, WordStep, words_of}
use Rattle.cfs_pmem.specs.Objects.{IsEachImage, seen_at}
use Rattle.cfs_block.specs.BlockImages.{BlockStep, Content, IsSureBlock, content_of}
use Rattle.cfs_dir.specs.declared.node.Node.{Node}
use Rattle.cfs_home.specs.Calls.{size_in}
use Rattle.cfs_home.specs.Disks.{Disk, File, IsReady, part_of, recovered_in}
use Rattle.cfs_home.specs.Parts.{SomeTouches}
use Rattle.cfs_image.specs.Checks.{Check, check, damage_of}
use Rattle.cfs_medium.proofs.Has.{has-contained}
use Rattle.cfs_medium.specs.Depicts.{content_at}
use Rattle.cfs_medium.specs.Store.{byte_in}
use Rattle.cfs_plan.proofs.Found.{tag-free}
use Rattle.cfs_plan.proofs.Members.{find-none, has-range}
use Rattle.cfs_plan.proofs.Plans.{size-at}
use Rattle.cfs_plan.proofs.TreeFiles.{all-has, file-is, file-node}
use Rattle.cfs_plan.specs.Files.{files_of}
use Rattle.cfs_recover.proofs.Only.{have-sure, words-now}
use Rattle.cfs_replay.specs.Plans.{IsBroughtHome, IsTagOrFree}
use Rattle.cfs_survey.proofs.FirstFaults.{holds_at, passed, sound_parts}
use Rattle.cfs_survey.specs.Tags.{block_of, is_block_tag, is_file, own_checks, tag_at, tag_checks}
use Rattle.cfs_survey.specs.Tags.{tags_checks}
use Rattle.cfs_states.specs.Behind.{BroughtHomeAreStored, FoundTags, HaveSizes, sizes_in}
use Rattle.cfs_states.specs.Stored.{AreOnce, AreStored, IsTagAmong, bytes_in, size_word}

abbrev Block : Type 0
Block = Seen BlockStep

abbrev Regions : Type 0
Regions = List (Seen WordStep)

-- ---- the size regions

size-region : (regions : Regions) (node : ℕ) → 323 ≤ length regions → node < 256 →
    seen_at (sizes_in regions) node ≡ seen_at regions (67 + node)
size-region regions node many low =
    get_or-take 256 (drop 67 regions) node (record { device = 0; also = []; history = [] }) low
    ∙ get_or-drop 67 regions node (record { device = 0; also = []; history = [] })

sizes-many : (regions : Regions) → 323 ≤ length regions → length (sizes_in regions) ≡ 256
sizes-many regions many =
    omega (arith, length-take 256 (drop 67 regions), length-drop 67 regions)

-- another image of one of them
each-set : {Form Image : Type 0} (IsImage_ : List Form → Image → Type 0)
    (olds : List (Seen Form)) (images : List Image) (k : ℕ) (image : Image) →
    IsEachImage IsImage_ olds images → IsImage_ (seen_at olds k).history image →
    IsEachImage IsImage_ olds (set images k image)
each-set IsImage_ [] [] k image each is = tt
each-set IsImage_ [] (first ∷ images) k image each is = absurd each
each-set IsImage_ (old ∷ olds) [] k image each is = absurd each
each-set IsImage_ (old ∷ olds) (first ∷ images) zero image each is = (is, each.1)
each-set IsImage_ (old ∷ olds) (first ∷ images) (suc k) image each is =
    (each.0, each-set IsImage_ olds images k image each.1 is)

-- lists of one word
one-word : (xs ys : List ℕ) → length xs ≡ 1 → length ys ≡ 1 → get_or xs 0 0 ≡ get_or ys 0 0 →
    xs ≡ ys
one-word [] ys long more same = absurd (omega arith)
one-word (x ∷ []) [] long more same = absurd (omega arith)
one-word (x ∷ []) (y ∷ []) long more same = ap (λ (w : ℕ). w ∷ []) same
one-word (x ∷ []) (y ∷ z ∷ ys) long more same = absurd (omega arith)
one-word (x ∷ z ∷ xs) ys long more same = absurd (omega arith)

-- ---- tags that passed their checks

tag-in-range : (offset : ℕ) (nodes : List Node) (tags : List ℕ) (at : ℕ) →
    damage_of (tags_checks offset nodes tags) ≡ None → at < length tags →
    is_file nodes (get_or tags at 0 / 65536) ≡ true → is_block_tag (get_or tags at 0) ≡ true
unfolding tags_checks
tag-in-range offset nodes tags at sound below file =
    let here : damage_of (tag_checks offset nodes tags at) ≡ None =
    holds_at (tag_checks offset nodes tags) 0 (length tags) at at (omega arith) below sound in
    let own : damage_of (own_checks offset tags at (get_or tags at 0)) ≡ None =
    ap (λ (b : Bool). damage_of (if b then own_checks offset tags at (get_or tags at 0) else []))
    (sym file) ∙ here in
    let first : Check =
    check (is_block_tag (get_or tags at 0)) (tag_at offset at) (get_or tags at 0) 256 in
    let rest : List Check =
    check (is_none (block_of tags at (get_or tags at 0))) (tag_at offset at) (get_or tags at 0)
    (unwrap_or (block_of tags at (get_or tags at 0)) 0) ∷ [] in
    passed first (sound_parts (first ∷ []) rest own).0

in-range : (word : ℕ) → is_block_tag word ≡ true → (1 ≤ word % 65536) × (word % 65536 ≤ 256)
in-range word is =
    let parts = both (nat_le 1 (word % 65536)) (nat_le (word % 65536) 256) is in
    (leb-true 1 (word % 65536) parts.0, leb-true (word % 65536) 256 parts.1)

tagged-within : (tags : List ℕ) (at : ℕ) → get_or tags at 0 ≢ 0 → at < length tags
tagged-within tags at some = elim (cases_lt at (length tags)) [
  | inl below ↦ below
  | inr past ↦ absurd (some (get_or_past tags at 0 past))
]

-- a tag of a file is that of one of its blocks
named : (nodes : List Node) (next offset : ℕ) (tags : List ℕ) (first : Disk) (at : ℕ)
    (file : File) → FoundTags nodes next offset tags first → Contains (files_of nodes) file →
    get_or tags at 0 ≢ 0 → get_or tags at 0 / 65536 ≡ file.ino →
    IsTagAmong (files_of nodes) (get_or tags at 0)
named nodes next offset tags first at file found among some own =
    let word : ℕ = get_or tags at 0 in
    let is : is_file nodes (word / 65536) ≡ true =
    ap (is_file nodes) own
    ∙ file-is nodes next found.tree file (has-contained (files_of nodes) file among) in
    let low = in-range word (tag-in-range offset nodes tags at found.sound
    (tagged-within tags at some) is) in
    let least : 1 ≤ word % 65536 = low.0 in
    let most : word % 65536 ≤ 256 = low.1 in
    inr (file, word % 65536 - 1, (among, (omega arith, omega arith)))

-- two blocks with the tag of a file are one
no-lower : (nodes : List Node) (next offset : ℕ) (tags : List ℕ) (first : Disk)
    (low high : ℕ) → FoundTags nodes next offset tags first → low < high →
    get_or tags low 0 ≡ get_or tags high 0 → get_or tags high 0 ≢ 0 →
    is_file nodes (get_or tags high 0 / 65536) ≡ true → ⊥
no-lower nodes next offset tags first low high found less same some is =
    let none = tag-free offset nodes tags high found.sound (tagged-within tags high some) is in
    let other = find-none (λ block. get_or tags block 0 == get_or tags high 0)
    (range_with_len 0 high) low none (has-range 0 high low (omega arith) (omega arith)) in
    let test : (get_or tags low 0 == get_or tags high 0) ≡ true = grind (arith, nat_tests) in
    absurd (cc)

-- ---- what stands

module _ (nodes : List Node) (next offset : ℕ) (tags : List ℕ) (start first : Disk)
    (regions : Regions) (blocks : List Block) (found : FoundTags nodes next offset tags first)
    (have : HaveSizes regions blocks)
    (home : IsBroughtHome (files_of nodes) start first regions blocks) where
  abbrev files : List File
  files = files_of nodes

  read-blocks : map content_of blocks ≡ home.now.blocks
  read-blocks = sym (ap (λ (d : Disk). d.blocks) home.holds)

  read-size : (node : ℕ) → node < 256 → size_word (sizes_in regions) node ≡ home.now.sizes node
  read-size node low =
      ap (λ (region : Seen WordStep). get_or (words_of region) 0 0)
      (size-region regions node have.many low)
      ∙ sym (ap (λ (d : Disk). d.sizes node) home.holds ∙ size-at regions node low)

  below : (file : File) → Contains files file → (file.node < 256) × (file.ino < 2 ^ 32)
  below file among =
      let node = file-node nodes file (has-contained files file among) in
      let rec = all-has (λ n. n.rec < 256) nodes node.0 found.tree.records node.1.among in
      let number = all-has (λ n. (1 ≤ n.ino) × (n.ino < next)) nodes node.0 found.tree.numbers
      node.1.among in
      let high = found.tree.next_high in
      (omega (arith, rec, node.1.rec), omega (arith, number.1, node.1.ino, high))

  each-file : (P : File → Type 0) → ((file : File) → Contains files file → P file) → All P files
  each-file P holds k d less =
      holds (get_or files k d) (All-contains_itself files k d less)

  -- regions

  size-sure : (node : ℕ) → node < 256 → IsSure (seen_at regions (67 + node))
  size-sure node low image is =
      let words = set (map words_of regions) (67 + node) image in
      let each : IsEachImage IsImage regions words =
      each-set IsImage regions (map words_of regions) (67 + node) image (words-now regions) is in
      let long : length (map words_of regions) ≡ length regions = length-map regions words_of in
      let less : 67 + node < length (map words_of regions) =
      (let many = have.many in omega arith) in
      let here : get_or words (67 + node) [] ≡ image =
      get_or-set_same (map words_of regions) (67 + node) image [] less in
      let told : size_in words node ≡ home.now.sizes node =
      (home.stands.words words each).sizes node in
      let now : size_in (map words_of regions) node ≡ home.now.sizes node =
      (home.stands.words (map words_of regions) (words-now regions)).sizes node in
      one-word image (words_of (seen_at regions (67 + node)))
      (is.size ∙ have.words node low) (have.words node low)
      (sym (ap (λ (ws : List ℕ). get_or ws 0 0) here)
      ∙ first-word words node low
      ∙ told ∙ sym now ∙ size-at regions node low)
    where
      first-word : (words : List (List ℕ)) (node : ℕ) → node < 256 →
          get_or (get_or words (67 + node) []) 0 0 ≡ size_in words node
      first-word words node low =
          let test : nat_lt node 256 ≡ true = grind (arith, nat_tests) in
          sym (ap (λ (b : Bool). if b then get_or (get_or words (67 + node) []) 0 0 else 0) test)

  each-size : (P : Seen WordStep → Type 0) → ((node : ℕ) → node < 256 →
      P (seen_at regions (67 + node))) → All P (sizes_in regions)
  each-size P holds k d less =
      let long = sizes-many regions have.many in
      let low : k < 256 = omega arith in
      subst P
      (sym (size-region regions k have.many low)
      ∙ sym (get_or_default (sizes_in regions) k d
      (record { device = 0; also = []; history = [] }) less))
      (holds k low)

  -- blocks

  block-at : (k : ℕ) (d : Block) → k < length blocks → get_or blocks k d ≡ seen_at blocks k
  block-at k d less =
      get_or_default blocks k d (record { device = 0; also = []; history = [] }) less

  tag-at : (k : ℕ) (d : Block) → k < length blocks →
      (content_at home.now.blocks k).tag ≡ (content_of (get_or blocks k d)).tag
  tag-at k d less =
      ap (λ (contents : List Content). (content_at contents k).tag) (sym read-blocks)
      ∙ ap (λ (content : Content). content.tag) (get_or-map content_of blocks k d
      (record { tag = 0; bytes = [] }) less)

  tag-was : (k : ℕ) (d : Block) → k < length blocks → (content_of (get_or blocks k d)).tag ≢ 0 →
      (content_of (get_or blocks k d)).tag ≡ get_or tags k 0
  tag-was k d less some = elim (home.kept k) [
    | inl same ↦ sym (tag-at k d less) ∙ (same ∙ found.read k)
    | inr freed ↦ absurd (some (sym (tag-at k d less) ∙ freed.0))
  ]

  tag-among : (k : ℕ) (d : Block) → k < length blocks →
      IsTagAmong files (content_of (get_or blocks k d)).tag
  tag-among k d less = elim (same_or_not (content_of (get_or blocks k d)).tag 0) [
    | inl none ↦ inl none
    | inr some ↦ elim (subst (IsTagOrFree files) (tag-at k d less) (home.tags k)) [
      | inl none ↦ inl none
      | inr own ↦
          let was = tag-was k d less some in
          subst (IsTagAmong files) (sym was)
          (named nodes next offset tags first k own.0 found own.1.0
          (λ none. some (was ∙ none)) (ap (λ (w : ℕ). w / 65536) (sym was) ∙ own.1.1))
    ]
  ]

  tag-of-file : (k : ℕ) (d : Block) → k < length blocks →
      (content_of (get_or blocks k d)).tag ≢ 0 → is_file nodes (get_or tags k 0 / 65536) ≡ true
  tag-of-file k d less some =
      elim (subst (IsTagOrFree files) (tag-at k d less) (home.tags k)) [
        | inl none ↦ absurd (some none)
        | inr own ↦
            ap (is_file nodes) (ap (λ (w : ℕ). w / 65536) (sym (tag-was k d less some)) ∙ own.1.1)
            ∙ file-is nodes next found.tree own.0 (has-contained files own.0 own.1.0)
      ]

  once : AreOnce blocks
  once one two d low high same some =
      let other : (content_of (get_or blocks two d)).tag ≢ 0 = λ none. some (same ∙ none) in
      let was = tag-was one d low some in
      let now = tag-was two d high other in
      let both_are : get_or tags one 0 ≡ get_or tags two 0 = sym was ∙ same ∙ now in
      elim (cases_lt one two) [
        | inl less ↦ absurd (no-lower nodes next offset tags first one two found less both_are
            (λ none. other (now ∙ none)) (tag-of-file two d high other))
        | inr not_less ↦ elim (cases_lt two one) [
          | inl less ↦ absurd (no-lower nodes next offset tags first two one found less
              (sym both_are) (λ none. some (was ∙ none)) (tag-of-file one d low some))
          | inr neither ↦ omega arith
        ]
      ]

  -- files

  ready : (file : File) → Contains files file → IsReady file home.now
  ready file among = (home.stands.stay.each file among).ready

  fits : (file : File) → Contains files file →
      size_word (sizes_in regions) file.node ≤ LONGEST_FILE
  fits file among =
      subst (λ (n : ℕ). n ≤ LONGEST_FILE) (sym (read-size file.node (below file among).0))
      (ready file among).sound.fits

  untouched : (file : File) (position : ℕ) → Contains files file →
      SomeTouches (part_of file home.now).entries position → ⊥
  untouched file position among touched =
      subst (λ (entries : List _). SomeTouches entries position) (home.drained file among) touched

  past : (file : File) (position : ℕ) → Contains files file →
      size_word (sizes_in regions) file.node ≤ position →
      byte_in file.ino (map content_of blocks) position ≡ 0
  past file position among behind =
      ap (λ (contents : List Content). byte_in file.ino contents position) read-blocks
      ∙ (ready file among).sound.zero_past position
      (subst (λ (n : ℕ). n ≤ position) (read-size file.node (below file among).0) behind)
      (untouched file position among)

  stored : AreStored files (sizes_in regions) blocks
  stored = record {
    are = home.stands.are;
    records = each-file (λ file. file.node < length (sizes_in regions)) (λ file among.
        let low = (below file among).0 in omega (arith, sizes-many regions have.many));
    numbers = each-file (λ file. file.ino < 2 ^ 32) (λ file among. (below file among).1);
    words = each-size (λ region. 0 < length (words_of region)) (λ node low.
        let one = have.words node low in omega arith);
    sure = each-size IsSure size-sure;
    sure_blocks = λ k d less.
        subst IsSureBlock (sym (block-at k d less))
        (have-sure home.now blocks have.full home.stands.blocks_are k less);
    tags = tag-among;
    once = once;
    fits = each-file (λ file. size_word (sizes_in regions) file.node ≤ LONGEST_FILE) fits;
    zero_past = past;
  }

  stored-bytes : (file : File) → Contains files file →
      bytes_in file (sizes_in regions) blocks ≡ recovered_in file start
  stored-bytes file among =
      ap (λ (size : ℕ). map (λ p. byte_in file.ino (map content_of blocks) p)
      (range_with_len 0 size)) (read-size file.node (below file among).0)
      ∙ ap (λ (contents : List Content). map (λ p. byte_in file.ino contents p)
      (range_with_len 0 (home.now.sizes file.node))) read-blocks
      ∙ home.stored file among

pub home-stored : BroughtHomeAreStored
home-stored nodes next offset tags start first regions blocks found have home = (
  stored nodes next offset tags start first regions blocks found have home,
  stored-bytes nodes next offset tags start first regions blocks found have home,
)
