use Rattle.std.proofs.Common.{◌≡◌, inl, inr, Err, ap, sym, ◌∙◌, arith, ◌≤◌, ◌<◌, length}
use Rattle.std.proofs.lemmas.Result.{err_from_is_err_and}
use Rattle.cfs_io.specs.declared.load_refusal.LoadRefusal.TheVariants.{Absent, Failed}
use Rattle.cfs_io.proofs.Folders.{Finds-front, Finds-shelf, IsLonger-front, Misses-kept, Misses-shelf}
use Rattle.cfs_io.proofs.file_shelf.load_file.Goals as goal

pub returns-then-is_kept-clause-absent : goal.returns-then-is_kept-clause-absent
returns-then-is_kept-clause-absent g c = λ _. Misses-kept _ _ (sym c.is_kept.ensures ∙ c.if-is_kept.true)

pub returns-in_err-size-clause-absent : goal.returns-in_err-size-clause-absent
returns-in_err-size-clause-absent g c = λ absent.
    let failed = err_from_is_err_and c.from_residual.result c.from_residual.ensures.1 in
    let same : Err failed.0 ≡ Err Absent = sym failed.1 ∙ absent in
    let is : failed.0 ≡ Absent = cc in
    Misses-shelf _ _ (sym c.is_kept.ensures ∙ c.if-is_kept.false) (c.in_err-size.ensures.absent (ap Err (sym failed.2 ∙ is)))

pub returns-in_err-bytes-clause-cause : goal.returns-in_err-bytes-clause-cause
returns-in_err-bytes-clause-cause g c = λ refused.
    let failed = err_from_is_err_and c.from_residual-in_err-bytes.result c.from_residual-in_err-bytes.ensures.1 in
    let same : Err failed.0 ≡ Err Failed = sym failed.1 ∙ refused in
    let is : failed.0 ≡ Failed = cc in
    let rose = c.in_err-bytes.ensures.failed (ap Err (sym failed.2 ∙ is)) in
    let later = c.in_ok-size.ensures.later in
    inl (omega arith)

pub returns-then-len-gt-LARGEST_FILE-clause-cause : goal.returns-then-len-gt-LARGEST_FILE-clause-cause
returns-then-len-gt-LARGEST_FILE-clause-cause g c = λ _.
    let more : 1073741824 < length c.in_ok-bytes.bytes = let len = c.len.ensures in let test = c.if-len-gt-LARGEST_FILE.true in omega arith in
    inr (IsLonger-front _ _ _ _ _ 1073741824 c.in_ok-size.ensures.size c.if-branch-gt-LARGEST_FILE.false c.in_ok-size.ensures.same c.in_ok-bytes.ensures.front more)

pub returns-clause-found : goal.returns-clause-found
returns-clause-found g c =
    let short : c.in_ok-size.field-0 ≤ 1073741825 = let test = c.if-branch-gt-LARGEST_FILE.false in omega arith in
    Finds-shelf _ _ _ (sym c.is_kept.ensures ∙ c.if-is_kept.false)
    (Finds-front _ _ _ _ _ _ c.in_ok-size.ensures.size short c.in_ok-size.ensures.same c.in_ok-bytes.ensures.front)
