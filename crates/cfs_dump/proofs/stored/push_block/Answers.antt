use Rattle.std.proofs.Common.{◌≡◌, ◌≤◌, ◌∙◌, ◌+◌, ◌-◌, ◌++◌, ℕ, Option, List, take, drop, length}
use Rattle.std.proofs.Common.{replicate, ap, arith, sym}
use Rattle.std.proofs.lemmas.List.{take_all}
use Rattle.std.specs.Option.{option_map}
use Rattle.cfs_image.specs.Image.{word_at}
use Rattle.cfs_image.specs.Layout.{block_at}
use Rattle.cfs_dump.specs.Reads.{front_of}
use Rattle.cfs_dump.specs.Stores.{content_in}
use Rattle.cfs_dump.proofs.Blocks.{front-bytes, front-zeros}
use Rattle.cfs_dump.proofs.stored.push_block.Goals as goal

pub returns-in_ok-extend_from_slice-in-Some : goal.returns-in_ok-extend_from_slice-in-Some
returns-in_ok-extend_from_slice-in-Some c =
    let bytes : List ℕ = c.args.bytes.now in
    let at : ℕ = block_at (word_at bytes 24) c.in-Some.block in
    let within : block_at c.args.queues (c.in-Some.block + 1) ≤ length bytes =
    c.requires.within c.in-Some.block c.in-Some.is in
    let from : c.block_at-from.result + 8 ≡ at + 8 =
    omega (arith, c.block_at-from.ensures, c.requires.queues) in
    let room : c.block_at-from.result + 8 + c.args.len - (c.block_at-from.result + 8)
    ≡ c.args.len = omega arith in
    c.in_ok-extend_from_slice-in-Some.ensures.items
    ∙ ap (λ (xs : List ℕ). c.args.file.now.items ++ xs)
    (ap (λ (n : ℕ). take n (drop (c.block_at-from.result + 8) bytes)) room
    ∙ (ap (λ (k : ℕ). take c.args.len (drop k bytes)) from
    ∙ (front-bytes bytes at c.args.len (omega (arith, within, c.requires.queues)) c.requires.len
    ∙ ap (λ (block : Option ℕ). front_of (option_map (content_in bytes) block) c.args.len)
    (sym c.in-Some.is))))

pub returns-in_ok-resize-in-None : goal.returns-in_ok-resize-in-None
returns-in_ok-resize-in-None c =
    let items : List ℕ = c.args.file.now.items in
    let few : length items ≤ c.len.result + c.args.len = omega arith in
    let more : c.len.result + c.args.len - c.args.file.now.len ≡ c.args.len = omega arith in
    c.in_ok-resize-in-None.ensures.items
    ∙ (ap (λ (xs : List ℕ). xs ++ replicate (c.len.result + c.args.len - c.args.file.now.len) 0)
    (take_all (c.len.result + c.args.len) items few)
    ∙ ap (λ (xs : List ℕ). items ++ xs)
    (ap (λ (n : ℕ). replicate n 0) more
    ∙ (front-zeros c.args.len
    ∙ ap (λ (block : Option ℕ). front_of (option_map (content_in c.args.bytes.now) block)
    c.args.len) (sym c.in-None.is))))
