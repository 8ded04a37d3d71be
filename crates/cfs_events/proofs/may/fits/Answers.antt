use Rattle.std.proofs.Common.{ap, nat_le, sym}
use Rattle.cfs_file.specs.declared.sizes.TheConstants.{LONGEST_FILE}
use Rattle.cfs_file.proofs.Positions.{length-resized}
use Rattle.cfs_core.proofs.Sizes.{length-put}
use Rattle.cfs_events.proofs.may.fits.Goals as goal

pub returns-in-Write : goal.returns-in-Write
returns-in-Write c =
    rw (c.end_fits.ensures, c.len-len.ensures, c.len.ensures, c.in-Write.is)
    (ap (λ size. nat_le size LONGEST_FILE) (sym (length-put _ _ _)))

pub returns-in-Append : goal.returns-in-Append
returns-in-Append c =
    rw (c.end_fits-in-Append.ensures, c.len-len.ensures, c.len-in-Append.ensures, c.in-Append.is)
    (ap (λ size. nat_le size LONGEST_FILE) (sym (length-put _ _ _)))

pub returns-in-Truncate : goal.returns-in-Truncate
returns-in-Truncate c =
    rw (c.size_fits.ensures, c.in-Truncate.is)
    (ap (λ size. nat_le size LONGEST_FILE) (sym (length-resized _ _)))
