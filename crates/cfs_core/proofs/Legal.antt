-- The log of a run stays legal until a mount.
use Rattle.std.proofs.Common.{◌≡◌, inl, inr, ℕ, ◌+◌, ◌≤◌, ◌==◌, Bool, true, false, ◌&&◌, Some, None, List, [], ◌∷◌, ◌++◌, length, take, arith, refl, length-append, nat_le, ◌||◌}
use Rattle.std.proofs.lemmas.List.{take_all}
use Rattle.std.proofs.lemmas.Bool.{cases_lt}
use Rattle.std.proofs.lemmas.Bool.Decides.{nat_tests}
use Rattle.cfs_file.specs.declared.entry.Entry.{Entry}
use Rattle.cfs_file.specs.declared.request.Request.{Request}
use Rattle.cfs_file.specs.declared.request.Request.TheVariants as requests
use Rattle.cfs_file.specs.File.{IsFile, effect}
use Rattle.cfs_file.specs.Log.{IsLegal, file_of}
use Rattle.cfs_file.proofs.Logs.{file_of-append, slice_get-snoc, take-snoc_within}
use Rattle.cfs_core.specs.declared.event.Event.{Event}
use Rattle.cfs_core.specs.declared.event.Event.TheVariants as events
use Rattle.cfs_core.specs.declared.event.End.TheVariants as ends
use Rattle.cfs_core.specs.declared.event.SizeEnd.TheVariants as sizes
use Rattle.cfs_core.specs.declared.inode_core.Core.{Core}
use Rattle.cfs_core.specs.May.{case, is_query, may_admit}
use Rattle.cfs_core.specs.After.{after}

-- both tests hold
pub both : (a b : Bool) → (a && b) ≡ true → (a ≡ true) × (b ≡ true)
both true b h = (refl, h)
both false b h = cc

pub and_all : (a b : Bool) → a ≡ true → b ≡ true → (a && b) ≡ true
and_all true b h k = k
and_all false b h k = h

pub or_right : (a b : Bool) → b ≡ true → (a || b) ≡ true
or_right true b h = refl
or_right false b h = h

pub neither : (a b : Bool) → (a || b) ≡ false → (a ≡ false) × (b ≡ false)
neither true b h = cc
neither false b h = (refl, h)

-- the next entry, whose file is short enough
pub IsLegal-next : (base : List ℕ) (log : List Entry) (entry : Entry) → IsLegal base log [] →
    entry.place ≡ length log + 1 → IsFile (effect (file_of base log) entry.request) →
    IsLegal base (log ++ entry ∷ []) []
IsLegal-next base log entry legal next file =
    let whole : file_of base (log ++ entry ∷ []) ≡ effect (file_of base log) entry.request =
    file_of-append base log (entry ∷ []) in
    record {
      places = λ k e is. elim (slice_get-snoc log entry k e is) [
        | inl within ↦ legal.places k e within.1
        | inr at_end ↦ rw (at_end.1, at_end.0) next
      ];
      files = λ k within. elim (cases_lt k (length log + 1)) [
        | inl inside ↦ rw (take-snoc_within log entry k (omega arith)) (legal.files k (omega arith))
        | inr outside ↦
            let all : take k (log ++ entry ∷ []) ≡ log ++ entry ∷ [] =
            take_all k (log ++ entry ∷ []) (omega (arith, length-append log (entry ∷ []))) in
            rw (all, whole) file
      ];
      answers = λ k e reply is given. cc;
    }

file_now : (base : List ℕ) (log : List Entry) → IsLegal base log [] → IsFile (file_of base log)
file_now base log legal =
    let all : take (length log) log ≡ log = take_all (length log) log (omega arith) in
    rw all at (legal.files (length log) (omega arith))

query_file : (file : List ℕ) (request : Request) → is_query request ≡ true → IsFile file →
    IsFile (effect file request)
query_file file (requests.Write offset bytes) h is = cc
query_file file (requests.Append bytes) h is = cc
query_file file (requests.Truncate n) h is = cc
query_file file (requests.Read offset count) h is = is
query_file file requests.Sync h is = is

pub same_number : (a b : ℕ) → (a == b) ≡ true → a ≡ b
same_number a b h = grind (arith, nat_tests)

pub at_most : (a b : ℕ) → nat_le a b ≡ true → a ≤ b
at_most a b h = grind (arith, nat_tests)

abbrev IsOrderly : Core → Type 0
IsOrderly core = IsLegal core.base core.log []

admit : (core : Core) (entry : Entry) (grant : ℕ) (kept : Bool) → IsOrderly core →
    may_admit core entry ≡ true → IsOrderly (after core (events.Admit entry grant kept))
admit core entry grant false legal may_be = legal
admit core entry grant true legal may_be =
    let rest = both _ _ may_be in
    let next = both _ _ rest.1 in
    let change = both _ _ next.1 in
    let fits = both _ _ change.1 in
    IsLegal-next core.base core.log entry legal (same_number _ _ next.0) (at_most _ _ fits.0)

abbrev pub is_mount : Event → Bool
is_mount (events.Tag block kept) = false
is_mount (events.Admit entry grant kept) = false
is_mount (events.AdmitRead entry) = false
is_mount (events.Serve place answer) = false
is_mount (events.Mark place by kept) = false
is_mount (events.Dispatch place) = false
is_mount (events.BlockWrite place block left) = false
is_mount (events.Flush place block ok) = false
is_mount (events.Finish place end) = false
is_mount (events.Skip place) = false
is_mount (events.Trim block kept) = false
is_mount events.Settle = false
is_mount (events.Crash image) = false
is_mount events.Mount = true

pub legal-after : (core : Core) (event : Event) → IsOrderly core → case core event ≡ true →
    is_mount event ≡ false → IsOrderly (after core event)
legal-after core (events.Tag block kept) legal may_be calm = legal
legal-after core (events.Admit entry grant kept) legal may_be calm =
    admit core entry grant kept legal may_be
legal-after core (events.AdmitRead entry) legal may_be calm =
    let rest = both _ _ may_be in
    IsLegal-next core.base core.log entry legal (same_number _ _ rest.0)
    (query_file _ entry.request rest.1 (file_now core.base core.log legal))
legal-after core (events.Serve place answer) legal may_be calm = legal
legal-after core (events.Mark place by kept) legal may_be calm = legal
legal-after core (events.Dispatch place) legal may_be calm = legal
legal-after core (events.BlockWrite place block None) legal may_be calm = legal
legal-after core (events.BlockWrite place block (Some left)) legal may_be calm = legal
legal-after core (events.Flush place block true) legal may_be calm = legal
legal-after core (events.Flush place block false) legal may_be calm = legal
legal-after core (events.Finish place ends.Retired) legal may_be calm = legal
legal-after core (events.Finish place ends.More) legal may_be calm = legal
legal-after core (events.Finish place (ends.Back sizes.AsBefore gate applied)) legal may_be calm =
    legal
legal-after core (events.Finish place (ends.Back sizes.Set gate applied)) legal may_be calm = legal
legal-after core (events.Finish place (ends.Back sizes.Either gate applied)) legal may_be calm =
    legal
legal-after core (events.Skip place) legal may_be calm = legal
legal-after core (events.Trim block kept) legal may_be calm = legal
legal-after core events.Settle legal may_be calm = legal
legal-after core (events.Crash image) legal may_be calm = legal
legal-after core events.Mount legal may_be calm = cc
