use Rattle.std.proofs.Common.{◌∙◌, ◌≡◌, ◌*◌, ℕ, List, length, map, ap, arith}
use Rattle.std.proofs.lemmas.List.{get_or_default}
use Rattle.std.specs.List.{filter_map, range_with_len}
use Rattle.cfs_image.specs.Image.{word_at}
use Rattle.cfs_image.specs.Layout.{size_at}
use Rattle.cfs_medium.specs.Store.{byte_in, stored_file, taken_through}
use Rattle.cfs_survey.specs.Surveys.{words_of}
use Rattle.cfs_dump.specs.Reads.{request_in}
use Rattle.cfs_dump.specs.Stores.{blocks_in, store_in}
use Rattle.cfs_dump.proofs.Told.{has_slots, many-sizes, queues-told, size-told, slots-told}
use Rattle.cfs_dump.proofs.dump.recovered.Goals as goal

pub overflow_cast-queues : goal.overflow_cast-queues
overflow_cast-queues c =
    let has = has_slots c.args.bytes.now c.requires.header in
    omega (
      arith,
      has.few,
      c.len.ensures,
      c.args.words.now.slots.ok.0,
      queues-told c.args.bytes.now (words_of c.args.words.now) c.requires.words,
    )

pub index-size-requires : goal.index-size-requires
index-size-requires c =
    omega (
      arith,
      c.requires.told.number,
      c.args.words.now.sizes.ok.0,
      many-sizes c.args.bytes.now (words_of c.args.words.now) c.requires.words,
    )

pub stored_bytes-requires-clause-queues : goal.stored_bytes-requires-clause-queues
stored_bytes-requires-clause-queues c =
    let many : c.len.result ≡ 16 * word_at c.args.bytes.now 24 =
    omega (
      arith,
      c.len.ensures,
      c.args.words.now.slots.ok.0,
      queues-told c.args.bytes.now (words_of c.args.words.now) c.requires.words,
    ) in
    omega (arith, many)

pub take_through-requires-clause-image : goal.take_through-requires-clause-image
take_through-requires-clause-image c = has_slots c.args.bytes.now c.requires.header

pub take_through-requires-clause-heads : goal.take_through-requires-clause-heads
take_through-requires-clause-heads c =
    c.deref.ensures.value
    ∙ slots-told c.args.bytes.now (words_of c.args.words.now) c.requires.words

pub returns : goal.returns
returns c =
    let bytes : List ℕ = c.args.bytes.now in
    let ino : ℕ = c.args.node.now.ino in
    let sizes : List ℕ = c.args.words.now.sizes.items in
    let many : length sizes ≡ 256 =
    many-sizes bytes (words_of c.args.words.now) c.requires.words in
    let size : c.index-size.result.now ≡ word_at bytes (size_at c.args.node.now.rec) =
    c.index-size.ensures
    ∙ (get_or_default sizes c.args.node.now.rec c.index-size.result.now 0
    (omega (arith, many, c.requires.told.number))
    ∙ size-told bytes (words_of c.args.words.now) c.args.node.now.rec c.requires.words
    c.requires.told.number) in
    c.in_ok-take_through.ensures
    ∙ (ap (λ (file : List ℕ). taken_through file
    (filter_map (request_in bytes ino) c.args.entries.now))
    (c.from_vec-file.ensures ∙ (c.in_ok-stored.ensures
    ∙ ap (λ (n : ℕ). map (byte_in ino (blocks_in bytes)) (range_with_len 0 n)) size))
    ∙ ap (taken_through (stored_file ino (store_in bytes c.args.node.now.rec)))
    c.requires.told.live)
