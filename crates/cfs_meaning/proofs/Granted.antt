-- The grants of open descriptors stand.
use Rattle.std.proofs.Common.{◌≡◌, ◌≢◌, ℕ, Bool, true, false, not, Option, Some, None, List, []}
use Rattle.std.proofs.Common.{◌∷◌, ◌++◌, map, filter, refl, sym, ap, ◌∙◌, subst, cond}
use Rattle.std.proofs.Common.{if◌then◌else◌}
use Rattle.std.specs.Prelude.{Result, Ok, Err, ◌==◌, set}
use Rattle.std.proofs.lemmas.Bool.{eq-eqb, eqb-false, ne_eqb}
use Rattle.cfs_dir.specs.declared.moved.Moved.{Moved}
use Rattle.cfs_dir.specs.declared.node.Node.{Node}
use Rattle.cfs_grants.specs.declared.grant.Grant.{Grant}
use Rattle.cfs_grants.specs.Grants.{free_queue, grant_at}
use Rattle.cfs_cred.specs.declared.credential.Credential.{Credential}
use Rattle.cfs_requests.specs.declared.name_refusal.NameRefusal.{NameRefusal}
use Rattle.cfs_requests.specs.declared.opening.Opening.{Opening}
use Rattle.cfs_requests.specs.Looks.{makes, moves, opens, removes, unlinks}
use Rattle.cfs_requests.specs.Steps.{NameAnswer, NameRequest, Names, Step, close_step, closes_queue}
use Rattle.cfs_requests.specs.Steps.{granted, make_step, makes_directory, move_step, moves_node}
use Rattle.cfs_requests.specs.Steps.{numbered, done, open_step, opens_file, remove_step}
use Rattle.cfs_requests.specs.Steps.{removes_directory, unlinks_file}
use Rattle.cfs_words.specs.declared.flags.Flags.{Flags}
use Rattle.cfs_print.specs.declared.printed.Printed.{Printed}
use Rattle.cfs_script.specs.declared.form.Form.{Form}
use Rattle.cfs_script.specs.declared.form.Form.TheVariants as forms
use Rattle.cfs_meaning.specs.Drive.{Drive}
use Rattle.cfs_meaning.specs.Mounting.{mounted_names, mounted_world, queue_count}
use Rattle.cfs_meaning.specs.NameSteps.{Order, closing, step_of}
use Rattle.cfs_meaning.specs.World.{Caller, Descriptor, Down, Failed, Phase, Up, World, changes_own}
use Rattle.cfs_meaning.specs.World.{descriptor_in, without_descriptors}
use Rattle.cfs_meaning.specs.Names.{ask, ask_and_purge, open_with}
use Rattle.cfs_meaning.specs.Files.{close, close_in, opened}
use Rattle.cfs_meaning.specs.Laws.{is_mount}
use Rattle.cfs_meaning.specs.Granted.{AreGranted, IsGranted, OfEach, OfEachOpen}
use Rattle.cfs_meaning.specs.Granted.{OpenFilesAreGranted}
use Rattle.cfs_meaning.specs.Play.{by, does, up, while_up}
use Rattle.cfs_meaning.specs.Ways.{Changes, Halt, Then, Way, changes, ends, follows, gives, halts}
use Rattle.cfs_meaning.specs.Ways.{known, now, ◌>>=◌}
use Rattle.cfs_meaning.proofs.Keeping.{Any, IsQuiet, Keeps, keep-each, keep-give, keep-look}
use Rattle.cfs_meaning.proofs.Keeping.{keep-now, keep-repeats, keep-say, keep-then, keep-when}
use Rattle.cfs_meaning.proofs.KeptInode.{kept-drop, kept-settle}
use Rattle.cfs_meaning.proofs.KeptNames.{kept-ask-purge}
use Rattle.cfs_meaning.proofs.KeptFiles.{kept-collect, kept-lowest}
use Rattle.cfs_meaning.proofs.KeptLines.{IsGivenIfAny, is_of_names, is_plain, keeps_grants}
use Rattle.cfs_meaning.proofs.KeptLines.{kept-file, kept-tree}
use Rattle.cfs_meaning.proofs.Lines.{Mounts, Powers, kept-mounting, kept-power, kept-run}
use Rattle.cfs_meaning.proofs.Lines.{only-mount}
use Rattle.cfs_meaning.proofs.Quiet.{opened-has, own-changed}
use Rattle.cfs_meaning.proofs.Tables.{at-other, at-set, free-is}
use Rattle.cfs_meaning.proofs.Worlds.{EndsAs, EndsIn, Logs, WorldLaw, ask-by, ask-ends, law_of}
use Rattle.cfs_meaning.proofs.Worlds.{moves as stays}

abbrev Table : Type 0
Table = List (Option Grant)

-- ---- each open descriptor

each-maps : (P Q : ℕ → Grant → Type 0) → ((fd : ℕ) (grant : Grant) → P fd grant → Q fd grant) →
    (list : List Descriptor) → OfEach P list → OfEach Q list
each-maps P Q give [] all = tt
each-maps P Q give (d ∷ list) all = (give d.fd d.grant all.0, each-maps P Q give list all.1)

all-maps : (P Q : ℕ → ℕ → Grant → Type 0) →
    ((c fd : ℕ) (grant : Grant) → P c fd grant → Q c fd grant) → (callers : List Caller) →
    OfEachOpen P callers → OfEachOpen Q callers
all-maps P Q give [] all = tt
all-maps P Q give (x ∷ callers) all = (
  each-maps (P x.number) (Q x.number) (give x.number) x.descriptors all.0,
  all-maps P Q give callers all.1,
)

one-more : (P : ℕ → Grant → Type 0) (list : List Descriptor) (d : Descriptor) → OfEach P list →
    P d.fd d.grant → OfEach P (list ++ d ∷ [])
one-more P [] d all here = (here, tt)
one-more P (o ∷ list) d all here = (all.0, one-more P list d all.1 here)

none-open : (P : ℕ → ℕ → Grant → Type 0) (callers : List Caller) →
    OfEachOpen P (map without_descriptors callers)
none-open P [] = tt
none-open P (x ∷ callers) = (tt, none-open P callers)

one-joins : (P : ℕ → ℕ → Grant → Type 0) (callers : List Caller) (c : ℕ)
    (credential : Credential) → OfEachOpen P callers →
    OfEachOpen P (callers ++ record { number = c; credential = credential; descriptors = [] } ∷ [])
one-joins P [] c credential all = (tt, tt)
one-joins P (x ∷ callers) c credential all = (all.0, one-joins P callers c credential all.1)

-- ---- the law

on-quiet : (old new : World) → IsQuiet old new → AreGranted old → AreGranted new
on-quiet old new q holds = (
  holds.0,
  subst (λ (o : Order). OfEachOpen (IsGranted o.grants holds.0) new.callers) (sym q.order)
      (q.opened (IsGranted old.names.now.grants holds.0) holds.1),
)

abbrev granted_law : ℕ → WorldLaw
granted_law line = record {
  fact = record {
    Holds = AreGranted;
    MayBe = Any;
    MayEnd = Any;
    tries = λ ops world holds. (tt, holds);
    quiet = on-quiet;
    fault = λ may. tt;
    waits = λ place. tt;
    says = λ answer given. tt;
  };
  line = line;
  comes = λ ino e world own may_be holds. holds;
}

-- ---- requests that change the tree alone

abbrev grants_in : Step → Table
grants_in None = []
grants_in (Some step) = step.1.grants

made-stays : (names : Names) (found : Result Node NameRefusal) (step : NameAnswer × Names) →
    make_step names found ≡ Some step → step.1.grants ≡ names.grants
made-stays names (Err refusal) step is = absurd (cc)
made-stays names (Ok node) step is = sym (ap grants_in is)

removed-stays : (names : Names) (found : Result Node NameRefusal) (step : NameAnswer × Names) →
    remove_step names found ≡ Some step → step.1.grants ≡ names.grants
removed-stays names (Err refusal) step is = absurd (cc)
removed-stays names (Ok node) step is = sym (ap grants_in is)

moved-stays : (names : Names) (found : Result Moved NameRefusal) (step : NameAnswer × Names) →
    move_step names found ≡ Some step → step.1.grants ≡ names.grants
moved-stays names (Err refusal) step is = absurd (cc)
moved-stays names (Ok moved) step is = sym (ap grants_in is)

grants-stay : (order : Order) (c : ℕ) (request : NameRequest) (rec : Option ℕ)
    (step : NameAnswer × Order) → keeps_grants request ≡ true →
    step_of order c request rec ≡ Some step → step.1.grants ≡ order.grants
grants-stay order c (opens_file credential path flags mode) rec step keeps is = absurd (cc)
grants-stay order c (makes_directory credential path mode) rec step keeps is =
    made-stays order (makes order.tree credential path mode rec) step is
grants-stay order c (unlinks_file credential path) rec step keeps is =
    removed-stays order (unlinks order.tree credential path) step is
grants-stay order c (removes_directory credential path) rec step keeps is =
    removed-stays order (removes order.tree credential path) step is
grants-stay order c (moves_node credential from to) rec step keeps is =
    moved-stays order (moves order.tree credential from to) step is
grants-stay order c (closes_queue queue) rec step keeps is = absurd (cc)

tree-logs : (line c : ℕ) (request : NameRequest) → keeps_grants request ≡ true →
    Logs (granted_law line) c request (λ reply. AreGranted)
tree-logs line c request keeps rec step world is holds = (
  holds.0,
  subst (λ (table : Table). OfEachOpen (IsGranted table holds.0) world.callers)
      (sym (grants-stay world.names.now c request rec step keeps is)) holds.1,
)

tree-asks : (line c : ℕ) (request : NameRequest) → keeps_grants request ≡ true →
    Keeps (law_of (granted_law line)).base Any (ask c line request)
tree-asks line c request keeps =
    record {
      means = record {
        by = ask-by (granted_law line) c request (tree-logs line c request keeps);
      };
    }

-- ---- open

-- granted, and at another queue
abbrev Apart : Table → (ℕ → ℕ) → ℕ → ℕ → ℕ → Grant → Type 0
Apart table number_at queue c fd grant =
    IsGranted table number_at c fd grant × (grant.queue ≢ queue)

-- the grant of an open stands, and no descriptor has its queue yet
abbrev OpensIn : ℕ → NameAnswer → Table → List Caller → Type 0
OpensIn c (granted grant) table callers =
    (number_at : ℕ → ℕ) × OfEachOpen (Apart table number_at grant.queue) callers
    × (grant_at table grant.queue ≡ Some grant) × (grant.caller ≡ c)
OpensIn c (numbered ino) table callers = Unit {0}
OpensIn c done table callers = Unit {0}

-- what stands at other queues stays
apart-stays : (table : Table) (number_at : ℕ → ℕ) (queue : ℕ) (row : Option Grant) (c fd : ℕ)
    (grant : Grant) → Apart table number_at queue c fd grant →
    Apart (set table queue row) number_at queue c fd grant
apart-stays table number_at queue row c fd grant h = (
  record {
    stands = at-other table queue grant.queue row h.1 ∙ h.0.stands;
    own = h.0.own;
    only = h.0.only;
  },
  h.1,
)

-- nothing stands at a free queue
apart-free : (table : Table) (number_at : ℕ → ℕ) (queue : ℕ) → grant_at table queue ≡ None →
    (c fd : ℕ) (grant : Grant) → IsGranted table number_at c fd grant →
    Apart table number_at queue c fd grant
apart-free table number_at queue none c fd grant h = (h, never)
  where
    never : grant.queue ≢ queue
    never same =
        let wrong : grant_at table queue ≡ Some grant =
        subst (λ q. grant_at table q ≡ Some grant) same h.stands in
        let clash : Some grant ≡ None = sym wrong ∙ none in absurd (cc)

open-logs : (order : Order) (c : ℕ) (flags : Flags) (queue : Option ℕ)
    (found : Result Opening NameRefusal) (step : NameAnswer × Order) (number_at : ℕ → ℕ)
    (callers : List Caller) → free_queue order.grants ≡ queue →
    open_step order c flags queue found ≡ Some step →
    OfEachOpen (IsGranted order.grants number_at) callers →
    OpensIn c step.0 step.1.grants callers
open-logs order c flags queue (Err refusal) step number_at callers free is all = absurd (cc)
open-logs order c flags None (Ok opening) step number_at callers free is all = absurd (cc)
open-logs order c flags (Some queue) (Ok opening) step number_at callers free is all =
    let here = free-is order.grants queue free in
    subst (λ (s : Step). Opened s) is (
      number_at,
      all-maps (IsGranted order.grants number_at) _
          (λ k fd grant h.
          apart-stays order.grants number_at queue _ k fd grant
          (apart-free order.grants number_at queue here.1 k fd grant h))
          callers all,
      at-set order.grants queue _ here.0,
      refl,
    )
  where
    Opened : Step → Type 0
    Opened None = Unit {0}
    Opened (Some s) = OpensIn c s.0 s.1.grants callers

-- the queue that is new has the descriptor's number
abbrev number_more : ℕ → ℕ → (ℕ → ℕ) → ℕ → ℕ
number_more queue fd number_at q = if q == queue then fd else number_at q

others-number : (table : Table) (number_at : ℕ → ℕ) (queue fd : ℕ) (c k : ℕ) (grant : Grant) →
    Apart table number_at queue c k grant →
    IsGranted table (number_more queue fd number_at) c k grant
others-number table number_at queue fd c k grant h = record {
  stands = h.0.stands;
  own = h.0.own;
  only = h.0.only ∙ sym (ap (λ b. if b then fd else number_at grant.queue)
      (ne_eqb grant.queue queue h.1));
}

own-number : (table : Table) (number_at : ℕ → ℕ) (c fd : ℕ) (grant : Grant) →
    grant_at table grant.queue ≡ Some grant → grant.caller ≡ c →
    IsGranted table (number_more grant.queue fd number_at) c fd grant
own-number table number_at c fd grant stands own = record {
  stands = stands;
  own = own;
  only = sym (ap (λ b. if b then fd else number_at grant.queue)
      (eq-eqb grant.queue grant.queue refl));
}

open-keeps : (c : ℕ) (grant : Grant) (d : Descriptor) (world : World) → d.grant ≡ grant →
    OpensIn c (granted grant) world.names.now.grants world.callers →
    AreGranted (record world {
      callers = map (changes_own c (λ list. list ++ d ∷ [])) world.callers;
    })
open-keeps c grant d world is opens =
    let table : Table = world.names.now.grants in
    let more : ℕ → ℕ = number_more grant.queue d.fd opens.0 in (
      more,
      own-changed (IsGranted table more) c (λ list. list ++ d ∷ []) world.callers
          (λ list each. one-more (IsGranted table more c) list d each
          (subst (IsGranted table more c d.fd) (sym is)
          (own-number table opens.0 c d.fd grant opens.2 opens.3)))
          (all-maps (Apart table opens.0 grant.queue) (IsGranted table more)
          (others-number table opens.0 grant.queue d.fd) world.callers opens.1),
    )

open-ends : (c : ℕ) (appends : Bool) (reply : NameAnswer) (old : World)
    (end : Result Printed Halt) (new : World) →
    OpensIn c reply old.names.now.grants old.callers → open_with c appends reply old end new →
    AreGranted new
open-ends c appends (granted grant) old end new opens (ends way) = elim way [ ]
open-ends c appends (granted grant) old end new opens (follows now (ends way)) = elim way [ ]
open-ends c appends (granted grant) old end new opens (follows now (follows changes gives)) =
    open-keeps c grant _ old refl opens
open-ends c appends (numbered ino) old end new opens way = absurd way
open-ends c appends done old end new opens way = absurd way

open-log : (line c : ℕ) (credential : Credential) (path : List (List ℕ)) (flags : Flags)
    (mode : ℕ) → Logs (granted_law line) c (opens_file credential path flags mode)
    (λ reply w. OpensIn c reply w.names.now.grants w.callers)
open-log line c credential path flags mode rec step world is holds =
    open-logs world.names.now c flags (free_queue world.names.now.grants)
    (opens world.names.now.tree credential path flags mode rec) step holds.0 world.callers refl is
    holds.1

open-line : (line c : ℕ) (path : List (List ℕ)) (flags : Flags) (mode : ℕ) (old : World)
    (end : Result Printed Halt) (new : World) → AreGranted old →
    Then (by c (λ credential. ask c line (opens_file credential path flags mode)))
    (open_with c flags.append) old end new → AreGranted new
open-line line c path flags mode old end new holds (ends (ends way)) = elim way [ ]
open-line line c path flags mode old end new holds (ends {halt = halt} (follows now way)) =
    (ask-ends (granted_law line) c _ (λ reply w. OpensIn c reply w.names.now.grants w.callers)
    (open-log line c _ path flags mode) old (Err halt) new holds way).1
open-line line c path flags mode old end new holds
    (follows {mid = mid} {a = reply} (follows now way) rest) =
    open-ends c flags.append reply mid end new
    (ask-ends (granted_law line) c _ (λ answer w. OpensIn c answer w.names.now.grants w.callers)
    (open-log line c _ path flags mode) old (Ok reply) mid holds way) rest

-- ---- close

-- the descriptor of a caller is one of those that are granted
abbrev Stands : ℕ → Descriptor → World → Type 0
Stands c d world =
    (number_at : ℕ → ℕ) × OfEachOpen (IsGranted world.names.now.grants number_at) world.callers
    × IsGranted world.names.now.grants number_at c d.fd d.grant

-- no descriptor has the queue
abbrev AreApart : ℕ → World → Type 0
AreApart queue world =
    (number_at : ℕ → ℕ) × OfEachOpen (Apart world.names.now.grants number_at queue) world.callers

stands-on : (c : ℕ) (d : Descriptor) (old new : World) → IsQuiet old new → Stands c d old →
    Stands c d new
stands-on c d old new q holds = (
  holds.0,
  subst (λ (o : Order). OfEachOpen (IsGranted o.grants holds.0) new.callers) (sym q.order)
      (q.opened (IsGranted old.names.now.grants holds.0) holds.1),
  subst (λ (o : Order). IsGranted o.grants holds.0 c d.fd d.grant) (sym q.order) holds.2,
)

apart-on : (queue : ℕ) (old new : World) → IsQuiet old new → AreApart queue old →
    AreApart queue new
apart-on queue old new q holds = (
  holds.0,
  subst (λ (o : Order). OfEachOpen (Apart o.grants holds.0 queue) new.callers) (sym q.order)
      (q.opened (Apart old.names.now.grants holds.0 queue) holds.1),
)

abbrev standing_law : ℕ → ℕ → Descriptor → WorldLaw
standing_law line c d = record {
  fact = record {
    Holds = Stands c d;
    MayBe = Any;
    MayEnd = Any;
    tries = λ ops world holds. (tt, holds);
    quiet = stands-on c d;
    fault = λ may. tt;
    waits = λ place. tt;
    says = λ answer given. tt;
  };
  line = line;
  comes = λ ino e world own may_be holds. holds;
}

abbrev apart_law : ℕ → ℕ → WorldLaw
apart_law line queue = record {
  fact = record {
    Holds = AreApart queue;
    MayBe = Any;
    MayEnd = Any;
    tries = λ ops world holds. (tt, holds);
    quiet = apart-on queue;
    fault = λ may. tt;
    waits = λ place. tt;
    says = λ answer given. tt;
  };
  line = line;
  comes = λ ino e world own may_be holds. holds;
}

-- the queue's descriptor is the one that closes
apart-of : (table : Table) (number_at : ℕ → ℕ) (c fd : ℕ) (grant : Grant) →
    IsGranted table number_at c fd grant → (k n : ℕ) (g : Grant) →
    IsGranted table number_at k n g → (k ≡ c → n ≡ fd → ⊥) →
    Apart table number_at grant.queue k n g
apart-of table number_at c fd grant here k n g h other = (h, never)
  where
    never : g.queue ≢ grant.queue
    never same =
        let one : Some g ≡ Some grant =
        sym h.stands ∙ ap (grant_at table) same ∙ here.stands in
        let own : g ≡ grant = cc in
        other (sym h.own ∙ ap (λ (x : Grant). x.caller) own ∙ here.own)
        (h.only ∙ ap number_at same ∙ sym here.only)

closed-each : (P Q : ℕ → Grant → Type 0) (fd : ℕ) →
    ((n : ℕ) (g : Grant) → P n g → (n ≡ fd → ⊥) → Q n g) → (list : List Descriptor) →
    OfEach P list → OfEach Q (filter (λ o. not (o.fd == fd)) list)
closed-each P Q fd give [] all = tt
closed-each P Q fd give (o ∷ list) all =
    pick (o.fd == fd) refl (closed-each P Q fd give list all.1)
  where
    pick : (b : Bool) → (o.fd == fd) ≡ b → OfEach Q (filter (λ x. not (x.fd == fd)) list) →
        OfEach Q (cond (not b) (o ∷ filter (λ x. not (x.fd == fd)) list)
        (filter (λ x. not (x.fd == fd)) list))
    pick true is rest = rest
    pick false is rest = (give o.fd o.grant all.0 (eqb-false o.fd fd is), rest)

closed-all : (P Q : ℕ → ℕ → Grant → Type 0) (c fd : ℕ) →
    ((k n : ℕ) (g : Grant) → P k n g → (k ≡ c → n ≡ fd → ⊥) → Q k n g) →
    (callers : List Caller) → OfEachOpen P callers →
    OfEachOpen Q (map (changes_own c (filter (λ o. not (o.fd == fd)))) callers)
closed-all P Q c fd give [] all = tt
closed-all P Q c fd give (x ∷ callers) all =
    (by-test (x.number == c) refl, closed-all P Q c fd give callers all.1)
  where
    left : List Descriptor
    left = filter (λ o. not (o.fd == fd)) x.descriptors

    by-test : (b : Bool) → (x.number == c) ≡ b →
        OfEach (Q (if b then record x { descriptors = left } else x).number)
        (if b then record x { descriptors = left } else x).descriptors
    by-test true is =
        closed-each (P x.number) (Q x.number) fd
        (λ n g h apart. give x.number n g h (λ own same. apart same)) x.descriptors all.0
    by-test false is =
        each-maps (P x.number) (Q x.number)
        (λ n g h. give x.number n g h (λ own same. eqb-false x.number c is own))
        x.descriptors all.0

closed-apart : (c : ℕ) (d : Descriptor) (world : World) → Stands c d world →
    AreApart d.grant.queue (close_in c d.fd world)
closed-apart c d world holds = (
  holds.0,
  closed-all (IsGranted world.names.now.grants holds.0)
      (Apart world.names.now.grants holds.0 d.grant.queue) c d.fd
      (apart-of world.names.now.grants holds.0 c d.fd d.grant holds.2) world.callers holds.1,
)

given-back : (order : Order) (c queue : ℕ) (row : Option Grant) (step : NameAnswer × Order) →
    close_step order c queue row ≡ Some step → step.1.grants ≡ set order.grants queue None
given-back order c queue None step is = absurd (cc)
given-back order c queue (Some grant) step is = by-test (grant.caller == c) is
  where
    by-test : (b : Bool) →
        (if b then Some (done, record order { grants = set order.grants queue None }) else None)
        ≡ Some step → step.1.grants ≡ set order.grants queue None
    by-test true e = sym (ap grants_in e)
    by-test false e = absurd (cc)

close-log : (line c queue : ℕ) →
    Logs (apart_law line queue) c (closes_queue queue) (λ reply. AreApart queue)
close-log line c queue rec step world is holds = (
  holds.0,
  subst (λ (table : Table). OfEachOpen (Apart table holds.0 queue) world.callers)
      (sym (given-back world.names.now c queue (grant_at world.names.now.grants queue) step is))
      (all-maps (Apart world.names.now.grants holds.0 queue) _
      (apart-stays world.names.now.grants holds.0 queue None) world.callers holds.1),
)

forget : (queue : ℕ) (world : World) → AreApart queue world → AreGranted world
forget queue world holds = (
  holds.0,
  all-maps (Apart world.names.now.grants holds.0 queue) _ (λ c fd grant h. h.0)
      world.callers holds.1,
)

-- from a world where the descriptor is granted to one where all are
record Turns (c : ℕ) (d : Descriptor) {A : Type 0} (way : Way A) : Type 0 where
  by : (old : World) (end : Result A Halt) (new : World) → Stands c d old → way old end new →
      AreGranted new

turn-by : {c : ℕ} {d : Descriptor} (line : ℕ) {A B : Type 0} {first : Way A} {next : A → Way B} →
    Keeps (law_of (standing_law line c d)).base Any first → ((a : A) → Turns c d (next a)) →
    (old : World) (end : Result B Halt) (new : World) → Stands c d old →
    Then first next old end new → AreGranted new
turn-by line first more old end new holds (ends way) =
    let kept = (first.means.by old _ new holds way).1 in (kept.0, kept.1)
turn-by line first more old end new holds (follows {mid = mid} {a = a} way rest) =
    (more a).by mid end new (first.means.by old _ mid holds way).1 rest

turn-then : {c : ℕ} {d : Descriptor} (line : ℕ) {A B : Type 0} {first : Way A}
    {next : A → Way B} → Keeps (law_of (standing_law line c d)).base Any first →
    ((a : A) → Turns c d (next a)) → Turns c d (first >>= next)
turn-then line first more = record { by = turn-by line first more }

close-tail : (line c : ℕ) (d : Descriptor) (old : World) (end : Result Printed Halt)
    (new : World) → Stands c d old →
    Then (Changes (close_in c d.fd)) (λ u. ask_and_purge c line (closing d.grant)) old end new →
    AreGranted new
close-tail line c d old end new holds (ends way) = elim way [ ]
close-tail line c d old end new holds (follows changes rest) =
    forget d.grant.queue new
    ((kept-ask-purge (law_of (apart_law line d.grant.queue)) c (closing d.grant)
    (record {
      means = record {
        by = ask-by (apart_law line d.grant.queue) c (closing d.grant)
            (close-log line c d.grant.queue);
      };
    })).means.by (close_in c d.fd old) end new (closed-apart c d old holds) rest).1

close-turns : (line c : ℕ) (d : Descriptor) → Turns c d (close d c line)
close-turns line c d =
    turn-then line keep-now (λ w.
    turn-then line (keep-each _ (kept-drop (law_of (standing_law line c d)) d.grant.ino)) (λ u.
    turn-then line (keep-when _ (kept-settle (law_of (standing_law line c d)) d.grant.ino)) (λ u.
    turn-then line (keep-repeats (kept-lowest (law_of (standing_law line c d)) d)) (λ u.
    turn-then line (kept-collect (law_of (standing_law line c d)) d.grant.queue) (λ u.
    record { by = close-tail line c d })))))

known-stands : (c fd : ℕ) (answer : Printed) (option : Option Descriptor) (old : World)
    (end : Result Descriptor Halt) (new : World) → descriptor_in old c fd ≡ option →
    AreGranted old → known option answer old end new →
    EndsIn (granted_law 0).fact (Stands c) end new
known-stands c fd answer None old end new is holds halts = (tt, holds)
known-stands c fd answer (Some d) old end new is holds gives = (
  holds.0,
  holds.1,
  opened-has (IsGranted old.names.now.grants holds.0) old.callers c fd d is holds.1,
)

close-line : (line c fd : ℕ) (old : World) (end : Result Printed Halt) (new : World) →
    AreGranted old → Then (opened c fd) (λ d. close d c line) old end new → AreGranted new
close-line line c fd old end new holds (ends (ends way)) = elim way [ ]
close-line line c fd old end new holds (ends {halt = halt} (follows now way)) =
    (known-stands c fd _ (descriptor_in old c fd) old (Err halt) new refl holds way).1
close-line line c fd old end new holds (follows {mid = mid} {a = d} (follows now way) rest) =
    (close-turns line c d).by mid end new
    (known-stands c fd _ (descriptor_in old c fd) old (Ok d) mid refl holds way) rest

-- ---- lines

any-ends : (line : ℕ) {A : Type 0} (end : Result A Halt) → EndsAs (granted_law line).fact Any end
any-ends line (Ok a) = tt
any-ends line (Err halt) = tt

holding : (line : ℕ) {A : Type 0} {way : Way A} → ((old : World) (end : Result A Halt)
    (new : World) → AreGranted old → way old end new → AreGranted new) →
    Keeps (law_of (granted_law line)).base Any way
holding line kept = record {
  means = record {
    by = λ old end new holds way. (any-ends line end, kept old end new holds way);
  };
}

while-any : (line : ℕ) (phase : Phase) {way : Way Printed} →
    Keeps (law_of (granted_law line)).base Any way →
    Keeps (law_of (granted_law line)).base Any (while_up phase way)
while-any line Up kept = kept
while-any line Down kept = keep-say tt
while-any line Failed kept = keep-say tt

up-any : (line : ℕ) {way : Way Printed} → Keeps (law_of (granted_law line)).base Any way →
    Keeps (law_of (granted_law line)).base Any (up way)
up-any line kept =
    keep-then (keep-look (λ w. while-any line w.phase kept)) (λ answer a. keep-give tt)

any-of : (line : ℕ) {A : Type 0} {R : A → Type 0} {way : Way A} →
    Keeps (law_of (granted_law line)).base R way → Keeps (law_of (granted_law line)).base Any way
any-of line kept = holding line (λ old end new holds way. (kept.means.by old end new holds way).1)

granted-names : (line : ℕ) (form : Form) → is_of_names form ≡ true →
    Keeps (law_of (granted_law line)).base Any (does line form)
granted-names line (forms.Open c path flags mode) names =
    up-any line (holding line (open-line line c path flags mode))
granted-names line (forms.Close c fd) names = up-any line (holding line (close-line line c fd))
granted-names line form names =
    any-of line (kept-tree (law_of (granted_law line)) (tree-asks line) form names)

granted-powers : (line : ℕ) → Powers (law_of (granted_law line))
granted-powers line = record {
  joins = λ c uid gid. stays (granted_law line).fact (λ world holds. (
    holds.0,
    one-joins (IsGranted world.names.now.grants holds.0) world.callers c _ holds.1,
  ));
  stops = λ n. stays (granted_law line).fact (λ world holds. holds);
  plans = λ device writing k. stays (granted_law line).fact (λ world holds. holds);
  crashes = λ k. stays (granted_law line).fact (λ world holds. (
    holds.0,
    none-open (IsGranted world.names.now.grants holds.0) world.callers,
  ));
}

mounted-granted : (callers : List Caller) (drive : Drive) →
    AreGranted (mounted_world callers drive)
mounted-granted callers drive = (
  (λ q. 0),
  none-open (IsGranted (mounted_names (queue_count drive) drive).now.grants (λ q. 0))
      callers,
)

granted-mounts : (line : ℕ) → Mounts (granted_law line)
granted-mounts line = record {
  fails = λ world holds. holds;
  leaves = λ world holds. mounted-granted world.callers world.drive;
}

granted-line : (line : ℕ) (form : Form) →
    Keeps (law_of (granted_law line)).base Any (does line form)
granted-line line form = by-kind (is_of_names form) refl (is_plain form) refl (is_mount form) refl
  where
    by-kind : (names : Bool) → is_of_names form ≡ names → (plain : Bool) → is_plain form ≡ plain →
        (mounts : Bool) → is_mount form ≡ mounts →
        Keeps (law_of (granted_law line)).base Any (does line form)
    by-kind true is plain same mounts also = granted-names line form is
    by-kind false is true same mounts also =
        any-of line (kept-file (law_of (granted_law line)) form same is)
    by-kind false is false same false also =
        any-of line (kept-power (law_of (granted_law line)) (granted-powers line) form same also)
    by-kind false is false same true also =
        any-of line (subst (λ f. Keeps (law_of (granted_law line)).base IsGivenIfAny (does line f))
        (sym (only-mount form also)) (kept-mounting (granted_law line) (granted-mounts line)))

line-keeps : (line : ℕ) (form : Form) (old : World) (end : Result (Option Printed) Halt)
    (new : World) → AreGranted old → does line form old end new → AreGranted new
line-keeps line form old end new holds way =
    ((granted-line line form).means.by old end new holds way).1

pub open-granted : OpenFilesAreGranted
open-granted = (mounted-granted, kept-run AreGranted line-keeps)
