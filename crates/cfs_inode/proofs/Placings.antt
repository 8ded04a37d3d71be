-- The offset of a staged append.
use Rattle.std.proofs.Common.{◌≡◌, ◌∙◌, ◌≤◌, ◌+◌, ap, arith, List, [], length, refl}
use Rattle.std.proofs.Common.{sym, true, ℕ}
use Rattle.std.specs.Prelude.{nat_le, nat_lt}
use Rattle.std.proofs.lemmas.Bool.Decides.{nat_tests}
use Rattle.cfs_file.specs.declared.request.Request.{Request}
use Rattle.cfs_file.specs.declared.request.Request.TheVariants as requests
use Rattle.cfs_file.specs.declared.sizes.TheConstants.{LONGEST_WRITE}
use Rattle.cfs_file.specs.declared.span.Span.{Span}
use Rattle.cfs_file.specs.declared.span.Span.TheVariants.{Range}
use Rattle.cfs_file.specs.Span.{between, span}
use Rattle.cfs_core.specs.May.{is_change}
use Rattle.cfs_core.specs.Medium.{placed}
use Rattle.cfs_core.specs.Words.{start_of}
use Rattle.cfs_core.proofs.Legal.{both}
use Rattle.cfs_pmem.specs.Images as images
use Rattle.cfs_pmem.specs.Images.{Seen, WordStep}
use Rattle.cfs_slot.specs.Words.{with_offset}
use Rattle.cfs_inode.specs.Placing.{IsPlaced, IsStagedFor, IsSureFor}

pub placed-append : (bytes : List ℕ) (long offset : ℕ) (was now : Request) →
    is_change (requests.Append bytes) ≡ true → was ≡ requests.Write offset bytes →
    now ≡ with_offset long was →
    now ≡ placed (span (requests.Append bytes) long) (requests.Append bytes)
placed-append bytes long offset was now change is set =
    let low : nat_le 1 (length bytes) ≡ true =
    (both (nat_le 1 (length bytes)) (nat_le (length bytes) LONGEST_WRITE) change).0 in
    let some : 1 ≤ length bytes = grind (arith, nat_tests) in
    let up : nat_lt long (long + length bytes) ≡ true = grind (arith, nat_tests) in
    let range : between long (long + length bytes) ≡ Range long (long + length bytes) =
    rw up refl in
    set ∙ (ap (λ (r : Request). with_offset long r) is
    ∙ ap (λ (s : Span). requests.Write (start_of s) bytes) (sym range))

-- another offset leaves the inode and the grant

abbrev pub bytes_in : Request → List ℕ
bytes_in (requests.Append bytes) = bytes
bytes_in (requests.Write offset bytes) = bytes
bytes_in (requests.Truncate n) = []
bytes_in (requests.Read offset count) = []
bytes_in requests.Sync = []

pub placed-other : (request : Request) (long : ℕ) (head : Seen WordStep) (held : Request) →
    (request ≡ requests.Append (bytes_in request) → ⊥) → IsStagedFor request held →
    IsSureFor request head → IsPlaced request long head held
placed-other (requests.Append bytes) long head held other staged sure = absurd (other refl)
placed-other (requests.Write offset bytes) long head held other staged sure =
    record { holds = staged; sure = sure }
placed-other (requests.Truncate n) long head held other staged sure =
    record { holds = staged; sure = sure }
placed-other (requests.Read offset count) long head held other staged sure =
    record { holds = staged; sure = sure }
placed-other requests.Sync long head held other staged sure =
    record { holds = staged; sure = sure }
