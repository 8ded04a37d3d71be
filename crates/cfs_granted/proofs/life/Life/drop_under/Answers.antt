use Rattle.std.proofs.Common.{◌≡◌, ◌∙◌, ◌<◌, List, ap, arith, sym, None, Some, find}
use Rattle.std.proofs.Common.{length}
use Rattle.cfs_active.specs.View.{active_view}
use Rattle.cfs_granted.specs.declared.reader.Reader.{Reader}
use Rattle.cfs_granted.specs.Readers.{is_under}
use Rattle.cfs_granted.specs.View.{LifeView, life_view}
use Rattle.cfs_granted.proofs.Detachings.{dropping-ends, dropping-none, dropping-on, known-goes}
use Rattle.cfs_granted.proofs.Readings.{found-fewer, found-pending, none-under}
use Rattle.cfs_granted.proofs.life.Life.drop_under.Goals as goal

pub loop-reader-init : goal.loop-reader-init
loop-reader-init c = dropping-none c.args.number (life_view c.args.self.now)

pub drop_read-requires : goal.drop_read-requires
drop_read-requires c =
    let now = c.loop-reader.self in
    let found : find (λ r. is_under c.args.number r) now.readers.items ≡ Some c.in-Some.reader =
    ap (λ (rs : List Reader). find (λ r. is_under c.args.number r) rs) (sym c.deref.ensures.value)
    ∙ sym c.first_under.ensures ∙ c.in-Some.is in
    found-pending c.args.number now.readers.items (active_view now.active).state.tracker.reads
    c.in-Some.reader now.known.places found

pub loop-reader-smaller : goal.loop-reader-smaller
loop-reader-smaller c =
    let now = c.loop-reader.self in
    let found : find (λ r. is_under c.args.number r) now.readers.items ≡ Some c.in-Some.reader =
    ap (λ (rs : List Reader). find (λ r. is_under c.args.number r) rs) (sym c.deref.ensures.value)
    ∙ sym c.first_under.ensures ∙ c.in-Some.is in
    let less : length c.drop_read.new.self.readers.items < length now.readers.items =
    omega (
      arith,
      ap (λ (v : LifeView). length v.readers) c.drop_read.ensures.view,
      found-fewer c.args.number now.readers.items c.in-Some.reader found,
    ) in less

pub loop-reader-preserved : goal.loop-reader-preserved
loop-reader-preserved c =
    let now = c.loop-reader.self in
    let state = (active_view now.active).state in
    let found : find (λ r. is_under c.args.number r) now.readers.items ≡ Some c.in-Some.reader =
    ap (λ (rs : List Reader). find (λ r. is_under c.args.number r) rs) (sym c.deref.ensures.value)
    ∙ sym c.first_under.ensures ∙ c.in-Some.is in
    dropping-on c.args.number (life_view c.args.self.now) (life_view now)
    (life_view c.drop_read.new.self) c.in-Some.reader c.loop-reader.invariant
    (known-goes c.args.number now.readers.items c.in-Some.reader state
    (active_view now.active).jobs now.known.places found now.active.known)
    c.drop_read.ensures.view c.drop_read.ensures.makes

pub returns-clause-view : goal.returns-clause-view
returns-clause-view c =
    let now = c.loop-reader.self in
    let none : find (λ r. is_under c.args.number r) now.readers.items ≡ None =
    ap (λ (rs : List Reader). find (λ r. is_under c.args.number r) rs) (sym c.deref.ensures.value)
    ∙ sym c.first_under.ensures ∙ c.in_default.is in
    (dropping-ends c.args.number (life_view c.args.self.now) (life_view now)
    c.loop-reader.invariant (none-under c.args.number now.readers.items none)).0

pub returns-clause-makes : goal.returns-clause-makes
returns-clause-makes c =
    let now = c.loop-reader.self in
    let none : find (λ r. is_under c.args.number r) now.readers.items ≡ None =
    ap (λ (rs : List Reader). find (λ r. is_under c.args.number r) rs) (sym c.deref.ensures.value)
    ∙ sym c.first_under.ensures ∙ c.in_default.is in
    (dropping-ends c.args.number (life_view c.args.self.now) (life_view now)
    c.loop-reader.invariant (none-under c.args.number now.readers.items none)).1

pub returns-clause-none : goal.returns-clause-none
returns-clause-none c =
    let now = c.loop-reader.self in
    let none : find (λ r. is_under c.args.number r) now.readers.items ≡ None =
    ap (λ (rs : List Reader). find (λ r. is_under c.args.number r) rs) (sym c.deref.ensures.value)
    ∙ sym c.first_under.ensures ∙ c.in_default.is in
    none-under c.args.number now.readers.items none
