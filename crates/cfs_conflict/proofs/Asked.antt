-- The answer of a search, as a test.
use Rattle.std.proofs.Common.{◌≡◌, ℕ, Option, None, Some, sym, subst}
use Rattle.std.specs.Prelude.{is_some, IsSomeAnd}
use Rattle.cfs_file.specs.declared.span.Span.{Span}
use Rattle.cfs_tree.specs.Spans.{span_at, IsLeast, OverlapsBetween}
use Rattle.cfs_conflict.specs.Conflicts.{Lists, ReadBetween}

pub read_between : (lists : Lists) (first last : ℕ) (span : Span) (found : Option ℕ) → span_at lists.entries first ≡ Some span →
    IsLeast (OverlapsBetween lists.reads span first last) found → ReadBetween (is_some found) lists first last
read_between lists first last span None e l = λ read h.
    let P : Option Span → Type 0 = λ w. IsSomeAnd w (λ s. OverlapsBetween lists.reads s first last read) in
    l read (subst P e h)
read_between lists first last span (Some n) e l =
    let P : Option Span → Type 0 = λ w. IsSomeAnd w (λ s. OverlapsBetween lists.reads s first last n) in
    (n, subst P (sym e) l.0)
