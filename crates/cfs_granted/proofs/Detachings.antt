-- A grant is taken away, and the reads under it are dropped.
use Rattle.std.proofs.Common.{◌≡◌, ◌∙◌, ◌≤◌, ◌==◌, ◌&&◌, ◌++◌, ℕ, Bool, true, false, not, List, []}
use Rattle.std.proofs.Common.{◌∷◌, Option, Some, None, ap, arith, find, get_or, inl, inr, length, map}
use Rattle.std.proofs.Common.{refl, set, subst, sym}
use Rattle.std.specs.Prelude.{nat_lt}
use Rattle.std.specs.List.{list_all, position}
use Rattle.std.proofs.Math.Logic.{∥∥₁_elim}
use Rattle.std.proofs.Props.{props}
use Rattle.std.proofs.lemmas.Bool.{and_from, and_left, and_parts, cases_Bool, eq-eqb, eqb-true}
use Rattle.std.proofs.lemmas.Bool.{lt-ltb, not_from_false, true≢false}
use Rattle.std.proofs.lemmas.List.{append-nil, append_assoc, length-set, map-append}
use Rattle.std.proofs.lemmas.List.Quantifiers.{position-Some}
use Rattle.cfs_core.specs.declared.doubt.Doubt.{Doubt}
use Rattle.cfs_core.specs.declared.event.Event.TheVariants as events
use Rattle.cfs_core.specs.declared.inode_core.Core.{Core}
use Rattle.cfs_grants.specs.declared.grant.Grant.{Grant}
use Rattle.cfs_job.specs.Views.{JobView}
use Rattle.cfs_tracker.specs.declared.in_doubt.InDoubt.{InDoubt}
use Rattle.cfs_tracker.specs.declared.listing.EntryState.TheVariants as states
use Rattle.cfs_tracker.specs.declared.listing.Listed.{Listed}
use Rattle.cfs_tracker.specs.declared.pending.Pending.{Pending}
use Rattle.cfs_tracker.specs.Follows.{DoubtStands, Rise}
use Rattle.cfs_tracker.specs.Listing.{is_listed, listed, listed_doubt, listing}
use Rattle.cfs_tracker.specs.View.{entry_place, reading_place}
use Rattle.cfs_inode.specs.Makes.{Makes}
use Rattle.cfs_inode.specs.Stands.{Together}
use Rattle.cfs_inode.specs.View.{StateView}
use Rattle.cfs_inode.proofs.Composing.{makes-then}
use Rattle.cfs_inode.proofs.Goods.{steps-in}
use Rattle.cfs_inode.proofs.Resting.{rests}
use Rattle.cfs_active.specs.Known.{IsActive}
use Rattle.cfs_active.specs.Makes.{QuietlyMakes}
use Rattle.cfs_granted.specs.declared.reader.Reader.{Reader}
use Rattle.cfs_granted.specs.Asking.{dropped}
use Rattle.cfs_granted.specs.Detaching.{all_dropped, drop_events}
use Rattle.cfs_granted.specs.Granted.{IsGranted, does_doubt_pass}
use Rattle.cfs_granted.specs.Readers.{is_under, places_under, reader_place, without_reader}
use Rattle.cfs_granted.specs.Rows.{Rows, is_numbered, stands}
use Rattle.cfs_granted.specs.View.{LifeView}
use Rattle.cfs_granted.proofs.Readings.{first-goes, readers-rise, some-none}
use Rattle.cfs_granted.proofs.Standing.{stands-closed}

-- ---- the reads under it

-- the first one goes, since the places of what is pending rise
pub known-goes : (number : ℕ) (readers : List Reader) (reader : Reader) (state : StateView)
    (jobs : List JobView) → map reader_place readers ≡ map reading_place state.tracker.reads →
    find (λ r. is_under number r) readers ≡ Some reader → ∥ IsActive state jobs ∥₁ →
    places_under number readers
    ≡ reader.place ∷ places_under number (without_reader reader.place readers)
known-goes number readers reader state jobs same found known =
    ∥∥₁_elim known (hlevel props)
    (λ k. first-goes number 0 readers reader
    (readers-rise 0 readers state.tracker.reads same k.together.stands.follows.reads_rise) found)

-- What is left to be dropped leads to the same end; and what was dropped comes before it.
pub record IsDropping (number : ℕ) (old now : LifeView) : Type 0 where
  pub same : all_dropped (places_under number now.readers) now
      ≡ all_dropped (places_under number old.readers) old
  pub gone : List ℕ
  pub all : places_under number old.readers ≡ gone ++ places_under number now.readers
  pub makes : QuietlyMakes (drop_events gone) old.active now.active
  pub grants : now.grants ≡ old.grants
  pub ino : now.active.state.ino ≡ old.active.state.ino
  pub entries : now.active.state.tracker.entries ≡ old.active.state.tracker.entries
  pub doubt : now.active.state.tracker.doubt ≡ old.active.state.tracker.doubt

pub dropping-on : (number : ℕ) (old now new : LifeView) (reader : Reader) →
    IsDropping number old now →
    places_under number now.readers
    ≡ reader.place ∷ places_under number (without_reader reader.place now.readers) →
    new ≡ dropped reader.place now →
    QuietlyMakes (events.Serve reader.place None ∷ []) now.active new.active →
    IsDropping number old new
dropping-on number old now new reader dropping goes is makes = record {
  same = ap (λ (v : LifeView). all_dropped (places_under number v.readers) v) is
      ∙ ap (λ ps. all_dropped ps now) (sym goes) ∙ dropping.same;
  gone = dropping.gone ++ reader.place ∷ [];
  all = dropping.all ∙ ap (λ ps. dropping.gone ++ ps) goes
      ∙ sym (append_assoc dropping.gone (reader.place ∷ []) _)
      ∙ ap (λ (v : LifeView). (dropping.gone ++ reader.place ∷ []) ++ places_under number v.readers)
      (sym is);
  makes = λ asked. subst (λ es. QuietlyMakes es old.active new.active)
      (sym (map-append (λ place. events.Serve place None) dropping.gone (reader.place ∷ [])))
      (λ asked. makes-then old.active.state.ino (Together old.active.state old.active.jobs)
      (Together now.active.state now.active.jobs) (Together new.active.state new.active.jobs)
      (drop_events dropping.gone) (events.Serve reader.place None ∷ []) asked asked asked
      (dropping.makes asked)
      (subst (λ (n : ℕ). Makes n (Together now.active.state now.active.jobs)
      (events.Serve reader.place None ∷ []) asked asked
      (Together new.active.state new.active.jobs)) dropping.ino (makes asked))) asked;
  grants = ap (λ (v : LifeView). v.grants) is ∙ dropping.grants;
  ino = ap (λ (v : LifeView). v.active.state.ino) is ∙ dropping.ino;
  entries = ap (λ (v : LifeView). v.active.state.tracker.entries) is ∙ dropping.entries;
  doubt = ap (λ (v : LifeView). v.active.state.tracker.doubt) is ∙ dropping.doubt;
}

-- none was dropped yet
pub dropping-none : (number : ℕ) (old : LifeView) → IsDropping number old old
dropping-none number old = record {
  same = refl;
  gone = [];
  all = refl;
  makes = λ asked. rests old.active.state asked old.active.jobs;
  grants = refl;
  ino = refl;
  entries = refl;
  doubt = refl;
}

-- all were dropped
pub dropping-ends : (number : ℕ) (old now : LifeView) → IsDropping number old now →
    places_under number now.readers ≡ [] →
    (now ≡ all_dropped (places_under number old.readers) old)
    × QuietlyMakes (drop_events (places_under number old.readers)) old.active now.active
dropping-ends number old now dropping none = (
  sym (ap (λ ps. all_dropped ps now) none) ∙ dropping.same,
  subst (λ (ps : List ℕ). QuietlyMakes (drop_events ps) old.active now.active)
      (sym (dropping.all ∙ ap (λ ps. dropping.gone ++ ps) none ∙ append-nil dropping.gone))
      dropping.makes,
)

-- ---- what is asked under other grants

listed-none : {S : Type 0} (entry : Option (Pending S)) (doubt : Option Listed) →
    listed entry doubt ≡ None → (entry ≡ None) × (doubt ≡ None)
listed-none None doubt none = (refl, none)
listed-none (Some entry) doubt none = absurd (some-none _ none)

none-of : {S : Type 0} (number low : ℕ) (entries : List (Pending S)) →
    Rise entry_place low entries → find (λ e. is_listed number 0 e) entries ≡ None →
    list_all (λ e. not (e.grant == number)) entries ≡ true
none-of number low [] rise none = refl
none-of number low (entry ∷ entries) rise none = elim (cases_Bool (entry.grant == number)) [
  | inl own ↦
      let behind : nat_lt 0 entry.place ≡ true = lt-ltb 0 entry.place (omega (arith, rise.0)) in
      let here : is_listed number 0 entry ≡ true =
      and_from (entry.grant == number) (nat_lt 0 entry.place) own behind in
      let first : find (λ e. is_listed number 0 e) (entry ∷ entries) ≡ Some entry = rw here refl in
      absurd (some-none entry (sym first ∙ none))
  | inr other ↦
      let there : is_listed number 0 entry ≡ false =
      and_left (entry.grant == number) (nat_lt 0 entry.place) other in
      let later : find (λ e. is_listed number 0 e) (entry ∷ entries)
      ≡ find (λ e. is_listed number 0 e) entries = rw there refl in
      and_from (not (entry.grant == number)) (list_all (λ e. not (e.grant == number)) entries)
      (not_from_false (entry.grant == number) other)
      (none-of number entry.place entries rise.1 (sym later ∙ none))
]

doubt-of : {D : Type 0} (number : ℕ) (core : Core) (doubt : Option (InDoubt D)) →
    ((one : Doubt) → core.doubt ≡ Some one → 1 ≤ one.entry.place) →
    DoubtStands doubt core.doubt → listed_doubt doubt number 0 ≡ None →
    does_doubt_pass (λ n. not (n == number)) doubt ≡ true
doubt-of number core None from tie none = refl
doubt-of number core (Some doubt) from tie none =
    by core.doubt refl tie
  where
    by : (other : Option Doubt) → core.doubt ≡ other → DoubtStands (Some doubt) other →
        not (doubt.grant == number) ≡ true
    by None is tie = absurd tie
    by (Some one) is tie = elim (cases_Bool (doubt.grant == number)) [
      | inl own ↦
          let behind : nat_lt 0 doubt.place ≡ true =
          lt-ltb 0 doubt.place (omega (arith, from one is, tie.place)) in
          let here : ((doubt.grant == number) && nat_lt 0 doubt.place) ≡ true =
          and_from (doubt.grant == number) (nat_lt 0 doubt.place) own behind in
          let told : listed_doubt (Some doubt) number 0
          ≡ Some (record { place = doubt.place; state = states.Doubt }) = rw here refl in
          absurd (some-none _ (sym told ∙ none))
      | inr other ↦ not_from_false (doubt.grant == number) other
    ]

-- nothing is pending or in doubt under the grant
pub known-none : (number : ℕ) (state : StateView) (jobs : List JobView) →
    listing state.tracker number 0 ≡ None → ∥ IsActive state jobs ∥₁ →
    (list_all (λ e. not (e.grant == number)) state.tracker.entries ≡ true)
    × (does_doubt_pass (λ n. not (n == number)) state.tracker.doubt ≡ true)
known-none number state jobs none known =
    let both = listed-none _ _ none in
    ∥∥₁_elim known (hlevel props) (λ k.
    let follows = k.together.stands.follows in
    let step = steps-in k.core follows.reached in (
      none-of number 0 state.tracker.entries follows.rise both.0,
      doubt-of number k.core state.tracker.doubt (λ one is. (step.doubt one is).from)
          follows.doubt both.1,
    ))

-- ---- the grant goes

other-number : (n number : ℕ) (row : Option Grant) → is_numbered number row ≡ true →
    not (n == number) ≡ true → is_numbered n row ≡ false
other-number n number None own other = absurd (true≢false (sym own))
other-number n number (Some grant) own other = elim (cases_Bool (grant.number == n)) [
  | inl same ↦
      let one : grant.number ≡ n = eqb-true grant.number n same in
      let two : grant.number ≡ number = eqb-true grant.number number own in
      let equal : (n == number) ≡ true = eq-eqb n number (sym one ∙ two) in
      absurd (true≢false (sym other ∙ ap not equal))
  | inr apart ↦ apart
]

all-both : {X : Type 0} (p q r : X → Bool) (xs : List X) →
    ((x : X) → p x ≡ true → q x ≡ true → r x ≡ true) → list_all p xs ≡ true →
    list_all q xs ≡ true → list_all r xs ≡ true
all-both p q r [] both one two = refl
all-both p q r (x ∷ xs) both one two =
    let first = and_parts (p x) (list_all p xs) one in
    let second = and_parts (q x) (list_all q xs) two in
    and_from (r x) (list_all r xs) (both x first.0 second.0)
    (all-both p q r xs both first.1 second.1)

doubt-both : {D : Type 0} (p q r : ℕ → Bool) →
    ((n : ℕ) → p n ≡ true → q n ≡ true → r n ≡ true) → (doubt : Option (InDoubt D)) →
    does_doubt_pass p doubt ≡ true → does_doubt_pass q doubt ≡ true →
    does_doubt_pass r doubt ≡ true
doubt-both p q r both None one two = refl
doubt-both p q r both (Some doubt) one two = both doubt.grant one two

none-reads : (number : ℕ) (readers : List Reader) → places_under number readers ≡ [] →
    list_all (λ (r : Reader). not (r.grant == number)) readers ≡ true
none-reads number [] none = refl
none-reads number (x ∷ xs) none = elim (cases_Bool (is_under number x)) [
  | inl own ↦
      let first : places_under number (x ∷ xs) ≡ x.place ∷ places_under number xs = rw own refl in
      absurd (omega (arith, ap (λ ps. length ps) (sym first ∙ none)))
  | inr other ↦
      let later : places_under number (x ∷ xs) ≡ places_under number xs = rw other refl in
      and_from (not (x.grant == number)) (list_all (λ (r : Reader). not (r.grant == number)) xs)
      (not_from_false (x.grant == number) other) (none-reads number xs (sym later ∙ none))
]

pub closed-granted : (number queue : ℕ) (rows now : Rows) (readers : List Reader)
    (state : StateView) (jobs : List JobView) → listing state.tracker number 0 ≡ None →
    places_under number readers ≡ [] → position (λ row. is_numbered number row) rows ≡ Some queue →
    now ≡ set rows queue None → ∥ IsActive state jobs ∥₁ → IsGranted rows readers state →
    IsGranted now readers state
closed-granted number queue rows now readers state jobs none reads found is known granted =
    let own = (position-Some (λ row. is_numbered number row) rows queue None found).1 in
    let covers : (n : ℕ) → stands n rows ≡ true → not (n == number) ≡ true →
    stands n now ≡ true = λ n there other. ap (λ rs. stands n rs) is
    ∙ stands-closed n queue rows (other-number n number (get_or rows queue None) own other) there in
    let changes = known-none number state jobs none known in record {
      many = ap (λ rs. length rs) is ∙ length-set rows queue None ∙ granted.many;
      places = granted.places;
      reads = all-both _ _ _ readers (λ r there other. covers r.grant there other) granted.reads
          (none-reads number readers reads);
      entries = all-both _ _ _ state.tracker.entries
          (λ e there other. covers e.grant there other) granted.entries changes.0;
      doubt = doubt-both _ _ _ covers state.tracker.doubt granted.doubt changes.1;
      word = granted.word;
    }
