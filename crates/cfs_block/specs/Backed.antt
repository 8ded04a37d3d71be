-- What a block in memory keeps true: its history is that of its two copies and of its bits.
use Rattle.std.specs.Prelude.{ℕ, ◌<◌, ◌≡◌, List, length}
use Rattle.cfs_pmem.specs.declared.dirty.Dirty.{Dirty}
use Rattle.cfs_pmem.specs.Range.{DifferWithin}
use Rattle.cfs_block.specs.BlockImages.{BlockStep, Content, content_now, content_kept}
use Rattle.cfs_block.specs.Written.{is_written, is_set, IsSetWithin}

pub record IsBacked (history : List BlockStep) (dirty : Dirty) (kept now : Content)
    (written : List ℕ) : Type 0 where
  pub now_is : content_now history ≡ now
  pub kept_is : content_kept history ≡ kept
  pub differ : DifferWithin dirty kept.bytes now.bytes
  pub full : length now.bytes ≡ 4096
  pub words : length written ≡ 64
  pub within : IsSetWithin dirty.from dirty.to written
  pub bits : (k : ℕ) → k < 4096 → is_set written k ≡ is_written history k
