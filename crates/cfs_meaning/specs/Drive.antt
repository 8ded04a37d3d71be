-- The devices of a store under one power: what is asked of them, one operation after another, until
-- one is refused.
use Rattle.std.specs.Prelude.{ℕ, ◌+◌, Bool, true, false, List, [], ◌∷◌, length, map, reverse, set}
use Rattle.std.specs.Prelude.{if◌then◌else◌}
use Rattle.cfs_pmem.specs.declared.trace.Asked.{Asked}
use Rattle.cfs_pmem.specs.Images.{Seen, WordStep, failed, words_of}
use Rattle.cfs_pmem.specs.Meter.{answer}
use Rattle.cfs_pmem.specs.Objects.{seen_at}
use Rattle.cfs_pmem.specs.Operations.{Ask, answered}
use Rattle.cfs_pmem.specs.WordOps.{WordOp, get, put, persist, word_asks, word_done}
use Rattle.cfs_block.specs.BlockImages.{BlockStep, Content, content_of, unflushed, unretagged}
use Rattle.cfs_block.specs.BlockImages.{unwritten}
use Rattle.cfs_block.specs.BlockOps.{BlockOp, get_bytes, get_tag, put_bytes, put_tag, flush}
use Rattle.cfs_block.specs.BlockOps.{block_asks, block_done}

-- All that the power was asked and told, and each device with all its writing steps: what it holds
-- now, what a crash may leave and what is saved follow from these. A region's place is its device
-- number. Block b has the number behind those of the regions.
pub record Drive : Type 0 where
  pub asked : List Asked
  pub regions : List (Seen WordStep)
  pub blocks : List (Seen BlockStep)

abbrev pub region_at : Drive → ℕ → Seen WordStep
region_at drive r = seen_at drive.regions r

abbrev pub block_at : Drive → ℕ → Seen BlockStep
block_at drive b = seen_at drive.blocks b

-- what stands there now
abbrev pub words_at : Drive → ℕ → List ℕ
words_at drive r = words_of (region_at drive r)

abbrev pub content_at : Drive → ℕ → Content
content_at drive b = content_of (block_at drive b)

-- an operation on a region, or on a block
pub data Op : Type 0 where
  Word : ℕ → WordOp → Op
  Block : ℕ → BlockOp → Op

-- the step that it asks for
abbrev pub asks : Op → Drive → Ask
asks (Word r op) drive = word_asks r op
asks (Block b op) drive = block_asks (length drive.regions + b) op

-- the power allows it
abbrev pub is_allowed : Op → Drive → Bool
is_allowed op drive = answer (asks op drive).device (asks op drive).writing drive.asked

-- the power notes the step with its answer
abbrev pub noted : Op → Bool → Drive → Drive
noted op allowed drive = record drive { asked = answered (asks op drive) allowed ∷ drive.asked }

abbrev pub with_region : ℕ → (Seen WordStep → Seen WordStep) → Drive → Drive
with_region r change drive =
    record drive { regions = set drive.regions r (change (region_at drive r)) }

abbrev pub with_block : ℕ → (Seen BlockStep → Seen BlockStep) → Drive → Drive
with_block b change drive =
    record drive { blocks = set drive.blocks b (change (block_at drive b)) }

-- what an operation does
abbrev pub made : Op → Drive → Drive
made (Word r op) drive = with_region r (word_done op) drive
made (Block b op) drive = with_block b (block_done op) drive

-- In memory all that is read is as before a step that was refused. The step is noted.
abbrev pub word_refused : WordOp → Seen WordStep → Seen WordStep
word_refused (get at) seen = seen
word_refused (put at word) seen = failed seen
word_refused persist seen = failed seen

abbrev pub block_refused : BlockOp → Seen BlockStep → Seen BlockStep
block_refused get_bytes seen = seen
block_refused get_tag seen = seen
block_refused (put_bytes from bytes) seen = unwritten from (length bytes) seen
block_refused (put_tag tag) seen = unretagged tag seen
block_refused flush seen = unflushed seen

abbrev pub refused : Op → Drive → Drive
refused (Word r op) drive = with_region r (word_refused op) drive
refused (Block b op) drive = with_block b (block_refused op) drive

-- whether all were done, and the drive behind them
pub record Attempt : Type 0 where
  pub whole : Bool
  pub drive : Drive

-- The operations are done in order. The first one that is refused ends them.
unfoldable pub attempt : List Op → Drive → Attempt
attempt [] drive = record { whole = true; drive = drive }
attempt (op ∷ ops) drive =
    if is_allowed op drive then attempt ops (made op (noted op true drive))
    else record { whole = false; drive = refused op (noted op false drive) }

-- the list of a call on one object, the newest first as calls have it, in order
abbrev pub on_region : ℕ → List WordOp → List Op
on_region r ops = map (Word r) (reverse ops)

abbrev pub on_block : ℕ → List BlockOp → List Op
on_block b ops = map (Block b) (reverse ops)
