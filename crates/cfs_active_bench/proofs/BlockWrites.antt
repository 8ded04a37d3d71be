-- What follows of a write of a block.
use Rattle.std.proofs.Common.{ℕ, ◌≡◌, true, List, inl, ap, arith}
use Rattle.std.specs.Prelude.{◌&&◌, nat_le}
use Rattle.cfs_file.specs.declared.request.Request.{Request}
use Rattle.cfs_file.specs.declared.request.Request.TheVariants as requests
use Rattle.cfs_file.specs.declared.sizes.TheConstants.{LONGEST_WRITE}
use Rattle.cfs_core.specs.May.{is_change}
use Rattle.cfs_pmem.specs.Images.{IsSure, Seen, WordStep}
use Rattle.cfs_slot.specs.Staging.{IsStageable, IsStaged, staged_request}
use Rattle.cfs_slot.specs.Words.{ino_of}
use Rattle.cfs_long.specs.Chain.{IsChained}
use Rattle.cfs_inode.specs.Placing.{IsStagedFor, IsSureFor}
use Rattle.cfs_active_bench.specs.Writes.{IsBlockWrite}

pub stageable : (request : Request) → IsBlockWrite request → IsStageable request
stageable (requests.Write offset bytes) is = (omega (arith, is), omega (arith, is))
stageable (requests.Append bytes) is = absurd is
stageable (requests.Truncate n) is = absurd is
stageable (requests.Read offset count) is = absurd is
stageable requests.Sync is = absurd is

pub chained : (request : Request) → IsBlockWrite request → IsChained request
chained request is = inl (stageable request is)

pub changes : (request : Request) → IsBlockWrite request → is_change request ≡ true
changes (requests.Write offset bytes) is =
    ap (λ (n : ℕ). nat_le 1 n && nat_le n LONGEST_WRITE) is
changes (requests.Append bytes) is = absurd is
changes (requests.Truncate n) is = absurd is
changes (requests.Read offset count) is = absurd is
changes requests.Sync is = absurd is

pub is_of_inode : (request : Request) (ino grant : ℕ) (words : List ℕ) → IsBlockWrite request →
    (IsStageable request → IsStaged ino request grant words) → ino_of words ≡ ino
is_of_inode request ino grant words is staged = (staged (stageable request is)).ino_is

pub staged_for : (request held : Request) → IsBlockWrite request → held ≡ staged_request request →
    IsStagedFor request held
staged_for (requests.Write offset bytes) held is same = same
staged_for (requests.Append bytes) held is same = absurd is
staged_for (requests.Truncate n) held is same = absurd is
staged_for (requests.Read offset count) held is same = absurd is
staged_for requests.Sync held is same = absurd is

pub sure_for : (request : Request) (head : Seen WordStep) → IsBlockWrite request → IsSure head →
    IsSureFor request head
sure_for (requests.Write offset bytes) head is sure = sure
sure_for (requests.Append bytes) head is sure = absurd is
sure_for (requests.Truncate n) head is sure = absurd is
sure_for (requests.Read offset count) head is sure = absurd is
sure_for requests.Sync head is sure = absurd is
