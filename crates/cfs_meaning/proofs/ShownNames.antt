-- The lines on names keep a world shown by its devices, and its tree stored.
use Rattle.std.proofs.Common.{◌≡◌, ℕ, Bool, Option, Some, List, [], ◌∷◌, ◌++◌, refl}
use Rattle.std.proofs.Common.{◌≢◌, ◌<◌, length, get_or, sym, ap, subst, arith}
use Rattle.std.specs.Prelude.{Result, Ok, Err}
use Rattle.std.specs.List.{flat_map}
use Rattle.std.proofs.lemmas.List.{append-nil}
use Rattle.cfs_cred.specs.declared.credential.Credential.{Credential}
use Rattle.cfs_dir.specs.declared.change.Change.{Change}
use Rattle.cfs_dir.specs.Change.{changed, changed_by}
use Rattle.cfs_dir.specs.Namespace.{Namespace}
use Rattle.cfs_dir.specs.Tree.{IsTree}
use Rattle.cfs_pmem.specs.Images.{AllImages, Seen, WordStep, words_of}
use Rattle.cfs_names.specs.Recovered.{IsTreeOr, recovered}
use Rattle.cfs_print.specs.declared.printed.Printed.{Printed}
use Rattle.cfs_requests.specs.Looks.{makes, moves, opens, removes, unlinks}
use Rattle.cfs_requests.specs.Steps.{NameAnswer, NameRequest, closes_queue, makes_directory}
use Rattle.cfs_requests.specs.Steps.{moves_node, opens_file, removes_directory, unlinks_file}
use Rattle.cfs_requests.specs.Steps as names
use Rattle.cfs_script.specs.declared.form.Form.{Form}
use Rattle.cfs_script.specs.declared.form.Form.TheVariants as forms
use Rattle.cfs_meaning.specs.NameSteps.{Order, changes_of, made_changes, moved_changes}
use Rattle.cfs_meaning.specs.NameSteps.{opening_changes, removed_changes, tree_of}
use Rattle.cfs_meaning.specs.World.{Down, Failed, File, Phase, Up, World, credential_in, file_in}
use Rattle.cfs_meaning.specs.Names.{ask, ask_and_purge, dying, files_made, free_record, log_step}
use Rattle.cfs_meaning.specs.Names.{open_with, purge_all, refusal_answer, say_made, say_named}
use Rattle.cfs_meaning.specs.Names.{step_in, store_change}
use Rattle.cfs_meaning.specs.NameSteps.{refusal_of}
use Rattle.cfs_meaning.specs.Drive.{region_at}
use Rattle.cfs_meaning.specs.Steps.{size_word}
use Rattle.cfs_meaning.specs.Devices.{IsShown, OfEachFile}
use Rattle.cfs_meaning.specs.Inode.{purge}
use Rattle.cfs_meaning.specs.Play.{by, does, steps_so, up, while_up}
use Rattle.cfs_meaning.specs.Stock.{AreMappedOnce, HaveOwnKeys}
use Rattle.cfs_meaning.specs.Trees.{AreWell, ChangesWell, IsStored, IsTreeStored, NamesKeepShown}
use Rattle.cfs_meaning.specs.Trees.{MayBegin, NamesSuit}
use Rattle.cfs_meaning.specs.Ways.{Changes, Halt, Now, Way, each, give, known, never, ◌>>=◌, ◌>>◌}
use Rattle.cfs_meaning.proofs.Changes.{changes-make}
use Rattle.cfs_meaning.proofs.Hoare.{Leaves, leave-changes, leave-end, leave-give, leave-known}
use Rattle.cfs_meaning.proofs.Hoare.{leave-look, leave-then, leave-weaker}
use Rattle.cfs_meaning.proofs.KeptInode.{kept-purge}
use Rattle.cfs_meaning.proofs.KeptNames.{kept-store}
use Rattle.cfs_meaning.proofs.Begun.{begun-shown}
use Rattle.cfs_meaning.proofs.Beside.{IsSame, r-stores, same-itself}
use Rattle.cfs_meaning.proofs.Keyed.{files-joined, keyed-in}
use Rattle.cfs_meaning.proofs.Mapping.{all-made-keyed, leave-mapped, mapped_law}
use Rattle.cfs_meaning.proofs.ShownFiles.{files-map}
use Rattle.cfs_meaning.proofs.ShownOpen.{leave-both, leave-each, leave-shrugs}
use Rattle.cfs_meaning.proofs.ShownPurges.{purge-shown}
use Rattle.cfs_meaning.proofs.ShownRecords.{store-shown}
use Rattle.cfs_meaning.proofs.ShownSaves.{checkpoint-shown}
use Rattle.cfs_meaning.proofs.ShownTrees.{AreFilesShown, IsStoring, files-shown, storing-shown}
use Rattle.cfs_meaning.proofs.StoredKept.{purge-stored, still-stored}
use Rattle.cfs_meaning.proofs.TreeRests.{stored-recovers}
use Rattle.cfs_meaning.proofs.Total.{IfEnds}
use Rattle.cfs_meaning.proofs.Worlds.{law_of}

-- ---- what holds before and behind a request

-- shown, stored, and each file mapped once
abbrev pub IsWhole : World → Type 0
IsWhole world = IsShown world × IsStored world × AreMappedOnce world

abbrev IsKept : World → Type 0
IsKept world = IsShown world × IsStored world

-- a change of neither devices nor files nor names
same-whole : (old new : World) → new.drive ≡ old.drive → new.files ≡ old.files →
    new.names ≡ old.names → IsWhole old → IsWhole new
same-whole old new drive files names whole =
    subst (λ n. IsWhole (record new { names = n })) (sym names)
    (subst (λ f. IsWhole (record new { names = old.names; files = f })) (sym files)
    (subst (λ d. IsWhole (record new { names = old.names; files = old.files; drive = d }))
    (sym drive) (
      record {
        files = whole.0.files;
        apart = whole.0.apart;
        placed = whole.0.placed;
        equipped = whole.0.equipped;
        numbers = whole.0.numbers;
        even = whole.0.even;
        tree = whole.0.tree;
      },
      still-stored old (record new {
        names = old.names;
        files = old.files;
        drive = old.drive;
      }) refl refl whole.1,
      whole.2,
    )))

-- what is known beside
beside-ends : {A : Type 0} (C : Type 0) (Q : A → World → Type 0) (E : World → Type 0) → C →
    (end : Result A Halt) (new : World) → IfEnds Q E end new →
    IfEnds (λ a w. C × Q a w) E end new
beside-ends C Q E c (Ok a) new holds = (c, holds)
beside-ends C Q E c (Err halt) new holds = holds

leave-beside : {A : Type 0} {C : Type 0} {P : World → Type 0} {Q : A → World → Type 0}
    {E : World → Type 0} {way : Way A} → Leaves P Q E way →
    Leaves (λ w. C × P w) (λ a w. C × Q a w) E way
leave-beside {C = C} {Q = Q} {E = E} one = record {
  by = λ old end new holds way.
      beside-ends C Q E holds.0 end new (one.by old end new holds.1 way);
}

-- ---- a request is logged

-- what a request changes follows from the tree alone
same-changes : (one other : Order) (request : NameRequest) (rec : Option ℕ) →
    one.tree ≡ other.tree → changes_of one request rec ≡ changes_of other request rec
same-changes one other (opens_file credential path flags mode) rec same =
    ap (λ t. opening_changes (opens t credential path flags mode rec)) same
same-changes one other (makes_directory credential path mode) rec same =
    ap (λ t. made_changes (makes t credential path mode rec)) same
same-changes one other (unlinks_file credential path) rec same =
    ap (λ t. removed_changes (unlinks t credential path)) same
same-changes one other (removes_directory credential path) rec same =
    ap (λ t. removed_changes (removes t credential path)) same
same-changes one other (moves_node credential from to) rec same =
    ap (λ (t : Namespace). moved_changes t.nodes (moves t credential from to)) same
same-changes one other (closes_queue queue) rec same = refl

-- files that may begin may still where the rest is the same
still-may : (x w : World) (f : File) → IsSame x w → MayBegin x f → MayBegin w f
still-may x w f same may =
    let here : region_at w.drive (size_word f.rec) ≡ region_at x.drive (size_word f.rec) =
    same.drive.regions (size_word f.rec) (omega arith) in
    record {
      number = may.number;
      low = may.low;
      size = record {
        within = (let within = may.size.within in let long = same.drive.long in
            omega (arith, within, long));
        word = subst (λ (s : Seen WordStep). 0 < length (words_of s)) (sym here) may.size.word;
      };
      clear = subst (λ (s : Seen WordStep). AllImages s (λ words. get_or words 0 0 ≡ 0)) (sym here)
          may.clear;
      other = subst (OfEachFile (λ g. (g.ino ≢ f.ino) × (g.rec ≢ f.rec))) (sym same.files)
          may.other;
    }

begins : (x w : World) (list : List Change) → AreWell x list → IsSame x w → AreFilesShown w →
    AreFilesShown (record w { files = w.files ++ flat_map files_made list })
begins x w [] well same shown =
    subst (λ files. AreFilesShown (record w { files = files })) (sym (append-nil w.files)) shown
begins x w (change ∷ rest) well same shown =
    subst (λ (more : List Change). AreFilesShown (record w {
      files = w.files ++ (files_made change ++ flat_map files_made more);
    })) (sym well.2)
    (subst (λ (made : List File). AreFilesShown (record w { files = w.files ++ made }))
    (sym (append-nil (files_made change)))
    (begun-shown w change shown
    (files-map (MayBegin x) (MayBegin w) (λ f may. still-may x w f same may) (files_made change)
    well.3)))

-- what is shown of another world with these devices, and with a tree that is stored
log-shown : (tree : Namespace) (new : World) → tree_of new.names.now ≡ tree → AreFilesShown new →
    IsTreeStored tree new → AreMappedOnce new → IsWhole new
log-shown tree new now all stored mapped = (
  record {
    files = all.files;
    apart = all.apart;
    placed = all.placed;
    equipped = all.equipped;
    numbers = all.numbers;
    even = all.even;
    tree = λ images each.
        subst (λ t. IsTreeOr t new.names.doubt (recovered images)) (sym now)
        (stored-recovers tree new stored images each);
  },
  subst (λ t. IsTreeStored t new) (sym now) stored,
  mapped,
)

logged : (x w : World) (c line : ℕ) (request : NameRequest) (step : NameAnswer × Order) →
    step_in x c request (free_record x) ≡ Some step → ChangesWell x request → IsStored x →
    IsStoring
    (changed_by (tree_of x.names.now) (changes_of x.names.now request (free_record x)))
    (tree_of x.names.now) w →
    AreMappedOnce w → IsSame x w → IsWhole (log_step c line request (free_record x) step w)
logged x w c line request step is well stored storing mapped rest =
    let rec : Option ℕ = free_record x in
    let tree : Namespace = tree_of x.names.now in
    let list : List Change = changes_of x.names.now request rec in
    let after : Namespace = changed_by tree list in
    let new : World = log_step c line request rec step w in
    let same : changes_of w.names.now request rec ≡ list =
    same-changes w.names.now x.names.now request rec storing.now_is in
    let files : new.files ≡ w.files ++ flat_map files_made list =
    ap (λ (changes : List Change). w.files ++ flat_map files_made changes) same in
    let now : tree_of step.1 ≡ after =
    sym (changes-make x.names.now step.1 step.0 c request rec stored.whole is) in
    let all : AreFilesShown (record w { files = new.files }) =
    subst (λ fs. AreFilesShown (record w { files = fs })) (sym files)
    (begins x w list well rest storing.files) in
    log-shown after new now
    (record {
      files = all.files;
      apart = all.apart;
      placed = all.placed;
      equipped = all.equipped;
      numbers = all.numbers;
      even = all.even;
    })
    (record {
      changes = storing.stored.changes;
      count = storing.stored.count;
      journal = storing.stored.journal;
      word = storing.stored.word;
      selector = storing.stored.selector;
      behind = storing.stored.behind;
      distinct = storing.stored.distinct;
      whole = storing.stored.whole;
    })
    (files-joined (λ f. HaveOwnKeys f.blocks) w.files
    (flat_map files_made (changes_of w.names.now request rec)) mapped
    (all-made-keyed (changes_of w.names.now request rec)))

-- ---- a request

whole-storing : (w : World) → IsWhole w → IsStoring (tree_of w.names.now) (tree_of w.names.now) w
whole-storing w whole = record {
  files = files-shown w whole.0;
  stored = whole.1;
  now_is = refl;
}

storing-whole : (tree : Namespace) (w : World) → IsStoring tree tree w → AreMappedOnce w →
    IsWhole w
storing-whole tree w storing mapped = (
  storing-shown tree w storing,
  subst (λ t. IsTreeStored t w) (sym storing.now_is) storing.stored,
  mapped,
)

-- one change at most is stored
stores-shown : (x : World) (tree : Namespace) (list : List Change) → tree_of x.names.now ≡ tree →
    AreWell x list → Leaves (λ w. IsStoring tree tree w × AreMappedOnce w)
    (λ u w. IsStoring (changed_by tree list) tree w × AreMappedOnce w) IsWhole
    (each list store_change)
stores-shown x tree [] is well = leave-give (λ w holds. holds)
stores-shown x tree (change ∷ rest) is well =
    subst (λ (more : List Change). Leaves (λ w. IsStoring tree tree w × AreMappedOnce w)
    (λ u w. IsStoring (changed_by tree (change ∷ more)) tree w × AreMappedOnce w) IsWhole
    (each (change ∷ more) store_change)) (sym well.2)
    (leave-then {Q = λ u w. IsStoring (changed_by tree (change ∷ [])) tree w × AreMappedOnce w}
    (leave-weaker {P = λ w. IsStoring tree tree w × AreMappedOnce w}
    {Q = λ u w. IsStoring (changed_by tree (change ∷ [])) tree w × AreMappedOnce w}
    {E = λ w. IsStoring tree tree w × AreMappedOnce w}
    (λ w holds. holds) (λ u w holds. holds) (λ w holds. storing-whole tree w holds.0 holds.1)
    (leave-both (store-shown tree change well.0
    (subst (λ t. IsTree (changed t change).nodes (changed t change).next) is well.1)
    (checkpoint-shown tree))
    (leave-mapped (kept-store (law_of (mapped_law 0)).base change)))) (λ u.
    leave-give (λ w holds. holds)))

-- a request as it is asked of a world
abbrev asks : ℕ → ℕ → NameRequest → World → Way NameAnswer
asks c line request x = do
  step ← known (step_in x c request (free_record x))
      (refusal_answer x (refusal_of x.names.now request (free_record x)))
  each (changes_of x.names.now request (free_record x)) store_change
  Changes (log_step c line request (free_record x) step)
  give step.0

asked : (c line : ℕ) (request : NameRequest) (x : World) → ChangesWell x request → IsStored x →
    Leaves (λ w. (w ≡ x) × IsWhole w) (λ answer. IsWhole) IsWhole (asks c line request x)
asked c line request x well stored =
    leave-then {Q = λ step w. (step_in x c request (free_record x) ≡ Some step)
    × ((w ≡ x) × IsWhole w)}
    (leave-known _ _ (λ w holds. holds.1)) (λ step.
    leave-then {Q = λ u w. (step_in x c request (free_record x) ≡ Some step)
    × ((IsStoring (changed_by (tree_of x.names.now)
    (changes_of x.names.now request (free_record x))) (tree_of x.names.now) w
    × AreMappedOnce w) × IsSame x w)}
    (leave-beside
    (leave-weaker
    {P = λ w. (IsStoring (tree_of x.names.now) (tree_of x.names.now) w × AreMappedOnce w)
    × IsSame x w}
    {E = λ w. IsWhole w × IsSame x w}
    (λ w holds. (
      (
        subst (λ (v : World). IsStoring (tree_of v.names.now) (tree_of v.names.now) w) holds.0
            (whole-storing w holds.1),
        holds.1.2,
      ),
      subst (IsSame x) (sym holds.0) (same-itself x),
    )) (λ u w q. q) (λ w e. e.0)
    (leave-both
    (stores-shown x (tree_of x.names.now) (changes_of x.names.now request (free_record x)) refl
    well)
    (r-stores x (changes_of x.names.now request (free_record x))))))
    (λ u.
    leave-then {Q = λ v. IsWhole}
    (leave-changes (λ w holds.
    logged x w c line request step holds.0 well stored holds.1.0.0 holds.1.0.1 holds.1.1)) (λ v.
    leave-give (λ w whole. whole))))

pub ask-shown : (c line : ℕ) (request : NameRequest) →
    Leaves (λ w. ChangesWell w request × IsWhole w) (λ answer. IsWhole) IsWhole
    (ask c line request)
ask-shown c line request =
    leave-look (λ x.
    record {
      by = λ old end new holds way.
          (asked c line request x (subst (λ v. ChangesWell v request) holds.0 holds.1.0)
          (subst IsStored holds.0 holds.1.1.1)).by old end new (holds.0, holds.1.1) way;
    })

-- ---- removed files

purge-whole : (ino : ℕ) → Leaves IsWhole (λ u. IsWhole) IsWhole (purge ino)
purge-whole ino =
    leave-weaker
    {P = λ w. (IsShown w × HaveOwnKeys (file_in w ino).blocks) × (IsStored w × AreMappedOnce w)}
    {Q = λ u w. IsShown w × (IsStored w × AreMappedOnce w)}
    {E = λ w. IsShown w × (IsStored w × AreMappedOnce w)}
    (λ w whole. ((whole.0, keyed-in w ino whole.2), (whole.1, whole.2)))
    (λ u w q. (q.0, q.1.0, q.1.1)) (λ w e. (e.0, e.1.0, e.1.1))
    (leave-both (purge-shown ino)
    (leave-both (purge-stored ino) (leave-mapped (kept-purge (law_of (mapped_law 0)) ino))))

purges-whole : Leaves IsWhole (λ u. IsWhole) IsWhole purge_all
purges-whole =
    leave-look (λ x.
    leave-weaker {P = IsWhole} {Q = λ u. IsWhole} {E = IsWhole} (λ w holds. holds.1)
    (λ u w whole. whole) (λ w whole. whole)
    (leave-each (dying x) _ (λ ino. leave-shrugs (purge-whole ino))))

-- ---- lines

any-whole : {A : Type 0} {next : World → Way A} →
    ((x : World) → Leaves IsWhole (λ a. IsWhole) IsWhole (next x)) →
    Leaves IsWhole (λ a. IsWhole) IsWhole (Now >>= next)
any-whole more =
    leave-look (λ x.
    leave-weaker {P = IsWhole} (λ w holds. holds.1) (λ a w q. q) (λ w e. e) (more x))

leave-never : {A : Type 0} {P E : World → Type 0} {Q : A → World → Type 0} →
    Leaves P Q E (never {A = A})
leave-never = record { by = λ old end new holds way. absurd way }

named : Leaves IsWhole (λ answer. IsWhole) IsWhole say_named
named = any-whole (λ x. leave-give (λ w whole. whole))

made : (answer : NameAnswer) → Leaves IsWhole (λ a. IsWhole) IsWhole (say_made answer)
made (names.granted grant) = leave-never
made (names.numbered ino) = any-whole (λ x. leave-give (λ w whole. whole))
made names.done = leave-never

opened : (c : ℕ) (appends : Bool) (answer : NameAnswer) →
    Leaves IsWhole (λ a. IsWhole) IsWhole (open_with c appends answer)
opened c appends (names.granted grant) =
    any-whole (λ x.
    leave-then {Q = λ u. IsWhole}
    (leave-changes (λ w whole. same-whole w _ refl refl refl whole)) (λ u.
    leave-give (λ w all. all)))
opened c appends (names.numbered ino) = leave-never
opened c appends names.done = leave-never

-- a request by the caller's credential
ask-by : (c line : ℕ) (request : Credential → NameRequest) →
    Leaves (λ w. ChangesWell w (request (credential_in w c)) × IsWhole w) (λ answer. IsWhole)
    IsWhole (by c (λ credential. ask c line (request credential)))
ask-by c line request =
    leave-look (λ x.
    leave-weaker {P = λ w. ChangesWell w (request (credential_in x c)) × IsWhole w}
    (λ w holds. (
      subst (λ v. ChangesWell w (request (credential_in v c))) holds.0 holds.1.0,
      holds.1.1,
    )) (λ a w q. q) (λ w e. e) (ask-shown c line (request (credential_in x c))))

purge-by : (c line : ℕ) (request : Credential → NameRequest) →
    Leaves (λ w. ChangesWell w (request (credential_in w c)) × IsWhole w) (λ answer. IsWhole)
    IsWhole (by c (λ credential. ask_and_purge c line (request credential)))
purge-by c line request =
    leave-look (λ x.
    leave-then {Q = λ u. IsWhole}
    (leave-then {Q = λ a. IsWhole}
    (leave-weaker {P = λ w. ChangesWell w (request (credential_in x c)) × IsWhole w}
    (λ w holds. (
      subst (λ v. ChangesWell w (request (credential_in v c))) holds.0 holds.1.0,
      holds.1.1,
    )) (λ a w q. q) (λ w e. e) (ask-shown c line (request (credential_in x c)))) (λ a.
    purges-whole)) (λ u. named))

in-up : {P : World → Type 0} {way : Way Printed} → ((w : World) → P w → IsWhole w) →
    Leaves P (λ answer. IsWhole) IsWhole way → Leaves P (λ answer. IsWhole) IsWhole (up way)
in-up {P = P} {way = way} shows one =
    leave-then {Q = λ answer. IsWhole}
    (leave-look (λ x.
    leave-weaker {P = P} (λ w holds. holds.1) (λ a w q. q) (λ w e. e)
    (by-phase x.phase))) (λ answer. leave-give (λ w whole. whole))
  where
    by-phase : (phase : Phase) → Leaves P (λ answer. IsWhole) IsWhole (while_up phase way)
    by-phase Up = one
    by-phase Down = leave-end shows
    by-phase Failed = leave-end shows

name-line : (line : ℕ) (form : Form) →
    Leaves (λ w. NamesSuit w form × IsWhole w) (λ answer. IsWhole) IsWhole (does line form)
name-line line (forms.Open c path flags mode) =
    in-up (λ w holds. holds.1)
    (leave-then {Q = λ answer. IsWhole}
    (ask-by c line (λ credential. opens_file credential path flags mode)) (λ answer.
    opened c flags.append answer))
name-line line (forms.Mkdir c path mode) =
    in-up (λ w holds. holds.1)
    (leave-then {Q = λ answer. IsWhole}
    (ask-by c line (λ credential. makes_directory credential path mode)) made)
name-line line (forms.Unlink c path) =
    in-up (λ w holds. holds.1) (purge-by c line (λ credential. unlinks_file credential path))
name-line line (forms.Rmdir c path) =
    in-up (λ w holds. holds.1)
    (leave-then {Q = λ answer. IsWhole}
    (ask-by c line (λ credential. removes_directory credential path)) (λ answer. named))
name-line line (forms.Rename c from to) =
    in-up (λ w holds. holds.1) (purge-by c line (λ credential. moves_node credential from to))
name-line line form = record { by = λ old end new holds way. absurd holds.0 }

whole-ends : (end : Result (Option Printed) Halt) (world : World) →
    IfEnds (λ answer. IsWhole) IsWhole end world → IsWhole world
whole-ends (Ok answer) world holds = holds
whole-ends (Err halt) world holds = holds

pub names-keep-shown : NamesKeepShown
names-keep-shown old new line out mounted suits mapped stored shown (steps_so end way) =
    let whole = whole-ends end new
    ((name-line line.number line.form).by old end new (suits, (shown, stored, mapped)) way) in
    (whole.0, whole.1)
