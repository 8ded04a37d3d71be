-- Behind the writes and flushes of an entry.
use Rattle.std.proofs.Common.{ℕ, ◌%◌, ◌≡◌, ◌∙◌, List, length, map, get_or, refl, sym, ap, subst}
use Rattle.cfs_file.specs.declared.request.Request.{Request}
use Rattle.cfs_file.specs.declared.request.Request.TheVariants as requests
use Rattle.cfs_file.specs.declared.sizes.TheConstants.{BLOCK_LEN}
use Rattle.cfs_pmem.specs.declared.trace.Asked.{Asked}
use Rattle.cfs_pmem.specs.AllMoments.{AreDistinct}
use Rattle.cfs_pmem.specs.Images.{Seen, WordStep, words_of}
use Rattle.cfs_pmem.proofs.AllMomentLemmas.{all_at_end}
use Rattle.cfs_block.specs.BlockImages.{BlockStep, Content, content_of}
use Rattle.cfs_block.specs.Devices.{numbers_of}
use Rattle.cfs_home.specs.Calls.{MountMoments, disk_of}
use Rattle.cfs_home.specs.Disks.{AllStay, BlocksHold, Disk, File, IsMapped}
use Rattle.cfs_home.proofs.Disks.{all-same}
use Rattle.cfs_medium.specs.Depicts.{content_at}
use Rattle.cfs_recover.specs.declared.entry.Entry.{Entry}
use Rattle.cfs_recover.specs.declared.piece.Piece.{Piece}
use Rattle.cfs_recover.specs.Begins.{both}
use Rattle.cfs_recover.specs.Brought.{AreBrought, BytesAreBrought, TakesUp, with_blocks}
use Rattle.cfs_recover.specs.Held.{AllBring, AllLieWithin, AreAllOf, AreFull}
use Rattle.cfs_recover.specs.Pieces.{with_flushes, with_writes, with_writes_through}
use Rattle.cfs_recover.specs.Sure.{AreSure}
use Rattle.cfs_recover.proofs.Held.{content_in, contents-at, flushes-full, flushes-stay}
use Rattle.cfs_recover.proofs.Held.{pieces-hold, tags-stay, writes-full}
use Rattle.cfs_recover.proofs.Only.{contents-now, have-read, have-sure, words-now}
use Rattle.cfs_recover.proofs.Sure.{pieces-sure, sure-blocks, through-sure}
use Rattle.cfs_recover.proofs.Through.{AreAlike, through-full, through-same}

abbrev pub HaveTags : List Content → List Content → Type 0
HaveTags first second = (at : ℕ) → (content_at second at).tag ≡ (content_at first at).tag

mapped-still : (ino : ℕ) (request : Request) (first second : List Content) →
    HaveTags first second → IsMapped ino request first → IsMapped ino request second
mapped-still ino (requests.Write offset bytes) first second tags mapped = λ p touches.
    let has = mapped p touches in (has.0, tags has.0 ∙ has.1)
mapped-still ino (requests.Append bytes) first second tags mapped = tt
mapped-still ino (requests.Truncate n) first second tags mapped = tt
mapped-still ino (requests.Read offset count) first second tags mapped = tt
mapped-still ino requests.Sync first second tags mapped = tt

-- what stands in blocks of which a crash leaves nothing else
pub brought-of : (files : List File) (file : File) (entry : Entry) (live : ℕ × Request)
    (rest : List (ℕ × Request)) (start first : Disk) (regions : List (Seen WordStep))
    (old new : List (Seen BlockStep)) (pieces : List Piece) (bytes : List ℕ)
    (asked_old asked_new : List Asked) →
    TakesUp files file entry live rest start first bytes pieces regions old → AreSure new →
    AreFull new → HaveTags first.blocks (map content_of new) →
    BlocksHold file.ino live.1 (map content_of new) →
    AreDistinct (numbers_of (both regions new)) →
    MountMoments files start asked_old (both regions old) asked_new (both regions new) →
    AreBrought files file entry live rest start (with_blocks new first) regions new
brought-of files file entry live rest start first regions old new pieces bytes _ _ takes sure full
    tags hold distinct moments = record {
      begins = record {
        stands = record {
          are = takes.begins.stands.are;
          stay = stays;
          words = λ words each. record {
            front = (takes.begins.stands.words words each).front;
            sizes = (takes.begins.stands.words words each).sizes;
            slots = (takes.begins.stands.words words each).slots;
          };
          blocks_are = sure-blocks new first sure;
          distinct = distinct;
        };
        among = takes.begins.among;
        low = record { here = takes.begins.low.here; lowest = takes.begins.low.lowest };
      };
      is = record { node = takes.is.node; size = takes.is.size; after = takes.is.after };
      hold = hold;
      mapped = mapped-still file.ino live.1 first.blocks (map content_of new) tags takes.mapped;
    }
  where
    there : AllStay files start (disk_of
        (record { words = map words_of regions; contents = map content_of new }))
    there = all_at_end moments
        (record { words = map words_of regions; contents = map content_of new })
        (record { words = words-now regions; contents = contents-now new full })

    stays : AllStay files start (with_blocks new first)
    stays =
        let are = takes.begins.stands.words (map words_of regions) (words-now regions) in
        all-same files start
        (disk_of (record { words = map words_of regions; contents = map content_of new }))
        (with_blocks new first) there (sym are.front) (λ node. sym (are.sizes node))
        (sym are.slots) refl

-- blocks that read as behind the writes and flushes
module _ (files : List File) (file : File) (entry : Entry) (live : ℕ × Request)
    (rest : List (ℕ × Request)) (start first : Disk) (regions : List (Seen WordStep))
    (old : List (Seen BlockStep)) (pieces : List Piece) (bytes : List ℕ)
    (takes : TakesUp files file entry live rest start first bytes pieces regions old)
    (full : AreFull old) (within : AllLieWithin (length old) (length bytes) pieces) where
  pub sure-old : AreSure old
  sure-old = have-sure first old full takes.begins.stands.blocks_are

  read : map content_of old ≡ first.blocks
  read = have-read first old full takes.begins.stands.blocks_are

  hold : BlocksHold file.ino live.1
      (map content_of (with_flushes pieces (with_writes pieces bytes old)))
  hold = pieces-hold file.ino live.1 pieces bytes old full within
      (subst (λ (contents : List Content). AllBring file.ino live.1 contents bytes pieces)
      (sym read) takes.cut.bring)
      (subst (λ (contents : List Content). AreAllOf file.ino live.1 contents pieces) (sym read)
      takes.cut.all)

  tags : HaveTags first.blocks
      (map content_of (with_flushes pieces (with_writes pieces bytes old)))
  tags at =
      ap (λ (c : Content). c.tag)
      (contents-at (with_flushes pieces (with_writes pieces bytes old)) at
      ∙ flushes-stay pieces (with_writes pieces bytes old) at)
      ∙ (tags-stay pieces bytes old at full within
      ∙ (sym (ap (λ (c : Content). c.tag) (contents-at old at))
      ∙ ap (λ (contents : List Content). (content_at contents at).tag) read))

  pub brought-alike : (new : List (Seen BlockStep)) (asked_old asked_new : List Asked) →
      AreAlike new (with_flushes pieces (with_writes pieces bytes old)) → AreSure new →
      AreFull new → AreDistinct (numbers_of (both regions new)) →
      MountMoments files start asked_old (both regions old) asked_new (both regions new) →
      AreBrought files file entry live rest start (with_blocks new first) regions new
  brought-alike new _ _ alike sure full_new distinct moments =
      brought-of files file entry live rest start first regions old new pieces bytes _ _ takes
      sure full_new (λ at. ap (λ (c : Content). c.tag) (same at) ∙ tags at)
      (λ at p less here touched. ap (λ (c : Content). get_or c.bytes (p % BLOCK_LEN) 0) (same at)
      ∙ hold at p less (sym (ap (λ (c : Content). c.tag) (same at)) ∙ here) touched)
      distinct moments
    where
      same : (at : ℕ) → content_at (map content_of new) at
          ≡ content_at (map content_of (with_flushes pieces (with_writes pieces bytes old))) at
      same at = contents-at new at
          ∙ (alike at
          ∙ sym (contents-at (with_flushes pieces (with_writes pieces bytes old)) at))

pub bytes-brought : BytesAreBrought
bytes-brought files file entry live rest start first regions old new pieces bytes _ _ takes full
    within is distinct moments =
    brought-alike files file entry live rest start first regions old pieces bytes takes full within
    new _ _ (λ at. ap (λ (blocks : List (Seen BlockStep)). content_in blocks at) is)
    (subst AreSure (sym is)
    (pieces-sure pieces bytes old
    (sure-old files file entry live rest start first regions old pieces bytes takes full within)
    within))
    (subst AreFull (sym is)
    (flushes-full pieces (with_writes pieces bytes old)
    (writes-full pieces bytes old full within)))
    distinct moments

-- each piece flushed before the next
pub through-brought : (files : List File) (file : File) (entry : Entry) (live : ℕ × Request)
    (rest : List (ℕ × Request)) (start first : Disk) (regions : List (Seen WordStep))
    (old new : List (Seen BlockStep)) (pieces : List Piece) (bytes : List ℕ)
    (asked_old asked_new : List Asked) →
    TakesUp files file entry live rest start first bytes pieces regions old → AreFull old →
    AllLieWithin (length old) (length bytes) pieces →
    new ≡ with_writes_through pieces bytes old → AreDistinct (numbers_of (both regions new)) →
    MountMoments files start asked_old (both regions old) asked_new (both regions new) →
    AreBrought files file entry live rest start (with_blocks new first) regions new
through-brought files file entry live rest start first regions old new pieces bytes _ _ takes full
    within is distinct moments =
    brought-alike files file entry live rest start first regions old pieces bytes takes full within
    new _ _ (λ at. ap (λ (blocks : List (Seen BlockStep)). content_in blocks at) is
    ∙ through-same pieces bytes old at)
    (subst AreSure (sym is)
    (through-sure pieces bytes old (length bytes) within
    (sure-old files file entry live rest start first regions old pieces bytes takes full within)))
    (subst AreFull (sym is) (through-full pieces bytes old full within))
    distinct moments
