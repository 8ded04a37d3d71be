-- A call's list of operations on one object, and the same list attempted on a drive.
use Rattle.std.proofs.Common.{◌≡◌, ◌∙◌, ℕ, ◌+◌, ◌<◌, Bool, true, false, List, [], ◌∷◌, ◌++◌, length, map, reverse, take, drop, set, refl, sym, ap, subst, if◌then◌else◌}
use Rattle.std.specs.Prelude.{Result, Ok, Err, is_ok}
use Rattle.std.proofs.lemmas.List.{reverse-append, map-append, take-append-drop, set-set, set-get_or, get_or-set_same}
use Rattle.cfs_pmem.specs.declared.trace.Asked.{Asked}
use Rattle.cfs_pmem.specs.Images.{Seen, WordStep}
use Rattle.cfs_pmem.specs.Meter.{Answers, IsAnswered, answer}
use Rattle.cfs_pmem.specs.Objects.{seen_at}
use Rattle.cfs_pmem.specs.Operations.{Ask, Does, LastFails, after_all, all_allowed, answered, last_refused}
use Rattle.cfs_pmem.specs.WordOps.{DoesWords, WordFails, WordOp, get, persist, put, word_asks, word_done}
use Rattle.cfs_block.specs.BlockImages.{BlockStep}
use Rattle.cfs_block.specs.BlockOps.{BlockFails, BlockOp, DoesBlock, block_asks, block_done, flush, get_bytes, get_tag, put_bytes, put_tag}
use Rattle.cfs_meaning.specs.Drive.{Attempt, Block, Drive, Op, Word, asks, attempt, block_refused, is_allowed, made, noted, on_block, on_region, refused, word_refused}
use Rattle.cfs_meaning.specs.Shown.{AttemptsBlock, AttemptsWords, ShowsBlock, ShowsRegion}

-- ---- one list behind another

abbrev pub go-on : List Op → Attempt → Attempt
go-on ops it = if it.whole then attempt ops it.drive else it

behind-one : (xs ys : List Op) (op : Op) (drive : Drive) (test : Bool) →
    attempt (xs ++ ys) (made op (noted op true drive))
    ≡ go-on ys (attempt xs (made op (noted op true drive))) →
    (if test then attempt (xs ++ ys) (made op (noted op true drive))
    else record { whole = false; drive = refused op (noted op false drive) })
    ≡ go-on ys (if test then attempt xs (made op (noted op true drive))
    else record { whole = false; drive = refused op (noted op false drive) })
behind-one xs ys op drive true same = same
behind-one xs ys op drive false same = refl

pub attempt-append : (xs ys : List Op) (drive : Drive) →
    attempt (xs ++ ys) drive ≡ go-on ys (attempt xs drive)
unfolding attempt
attempt-append [] ys drive = refl
attempt-append (op ∷ xs) ys drive =
    behind-one xs ys op drive (is_allowed op drive)
    (attempt-append xs ys (made op (noted op true drive)))

-- ---- one operation

attempt-allowed : (op : Op) (drive : Drive) → is_allowed op drive ≡ true →
    attempt (op ∷ []) drive ≡ record { whole = true; drive = made op (noted op true drive) }
unfolding attempt
attempt-allowed op drive is =
    ap (λ b. if b then record { whole = true; drive = made op (noted op true drive) }
    else record { whole = false; drive = refused op (noted op false drive) }) is

attempt-refused : (op : Op) (drive : Drive) → is_allowed op drive ≡ false →
    attempt (op ∷ []) drive ≡ record { whole = false; drive = refused op (noted op false drive) }
unfolding attempt
attempt-refused op drive is =
    ap (λ b. if b then record { whole = true; drive = made op (noted op true drive) }
    else record { whole = false; drive = refused op (noted op false drive) }) is

-- ---- one object of a drive

-- The drive with that history and that object, and what the operations of the object do to it.
record IsPart {Form O : Type 0} (inject : O → Op) (its_asks : O → Ask)
    (its_done its_refused : O → Seen Form → Seen Form)
    (place : List Asked → Seen Form → Drive) : Type 0 where
  history : (asked : List Asked) (seen : Seen Form) → (place asked seen).asked ≡ asked
  asking : (o : O) (asked : List Asked) (seen : Seen Form) →
      asks (inject o) (place asked seen) ≡ its_asks o
  making : (o : O) (asked : List Asked) (seen : Seen Form) →
      made (inject o) (noted (inject o) true (place asked seen))
      ≡ place (answered (its_asks o) true ∷ asked) (its_done o seen)
  refusing : (o : O) (asked : List Asked) (seen : Seen Form) →
      refused (inject o) (noted (inject o) false (place asked seen))
      ≡ place (answered (its_asks o) false ∷ asked) (its_refused o seen)

part-answers : {Form O : Type 0} {inject : O → Op} {its_asks : O → Ask}
    {its_done its_refused : O → Seen Form → Seen Form} {place : List Asked → Seen Form → Drive} →
    IsPart inject its_asks its_done its_refused place → (o : O) (asked : List Asked)
    (seen : Seen Form) (allowed : Bool) →
    Answers allowed (answer (its_asks o).device (its_asks o).writing asked) →
    is_allowed (inject o) (place asked seen) ≡ allowed
part-answers {its_asks = its_asks} {place = place} part o asked seen allowed is =
    ap (λ (a : Ask). answer a.device a.writing (place asked seen).asked) (part.asking o asked seen)
    ∙ ap (λ (h : List Asked). answer (its_asks o).device (its_asks o).writing h)
    (part.history asked seen)
    ∙ sym is

-- the newest operation stands last in order
pub in-order : {O : Type 0} (inject : O → Op) (o : O) (before : List O) →
    map inject (reverse (o ∷ before)) ≡ map inject (reverse before) ++ inject o ∷ []
in-order inject o before =
    ap (map inject) (reverse-append (o ∷ []) before)
    ∙ map-append inject (reverse before) (o ∷ [])

-- all were done
all-done : {Form O : Type 0} {inject : O → Op} {its_asks : O → Ask}
    {its_done its_refused : O → Seen Form → Seen Form} {place : List Asked → Seen Form → Drive} →
    IsPart inject its_asks its_done its_refused place → (ops : List O) (asked : List Asked)
    (seen : Seen Form) → IsAnswered (all_allowed its_asks ops ++ asked) →
    attempt (map inject (reverse ops)) (place asked seen)
    ≡ record {
      whole = true;
      drive = place (all_allowed its_asks ops ++ asked) (after_all its_done ops seen);
    }
unfolding attempt
all-done part [] asked seen right = refl
all-done {inject = inject} {its_asks = its_asks} {its_done = its_done} {place = place} part
    (o ∷ before) asked seen right =
    let now : List Asked = all_allowed its_asks before ++ asked in
    let here = after_all its_done before seen in
    ap (λ ops. attempt ops (place asked seen)) (in-order inject o before)
    ∙ attempt-append (map inject (reverse before)) (inject o ∷ []) (place asked seen)
    ∙ ap (go-on (inject o ∷ [])) (all-done part before asked seen right.1)
    ∙ attempt-allowed (inject o) (place now here) (part-answers part o now here true right.0)
    ∙ ap (λ (d : Drive). record { whole = true; drive = d }) (part.making o now here)

-- all but the newest were done, which was refused
front-done : {Form O : Type 0} {inject : O → Op} {its_asks : O → Ask}
    {its_done its_refused : O → Seen Form → Seen Form} {place : List Asked → Seen Form → Drive}
    (Fails : O → Seen Form → Seen Form → Type 0) →
    IsPart inject its_asks its_done its_refused place →
    ((o : O) (old new : Seen Form) → Fails o old new → new ≡ its_refused o old) →
    (ops : List O) (asked : List Asked) (old new : Seen Form) →
    LastFails its_done Fails ops old new →
    IsAnswered (last_refused its_asks ops ++ asked) →
    attempt (map inject (reverse ops)) (place asked old)
    ≡ record { whole = false; drive = place (last_refused its_asks ops ++ asked) new }
front-done Fails part only [] asked old new fails right = absurd fails
front-done {inject = inject} {its_asks = its_asks} {its_done = its_done} {place = place} Fails part
    only (o ∷ before) asked old new fails right =
    let now : List Asked = all_allowed its_asks before ++ asked in
    let here = after_all its_done before old in
    ap (λ ops. attempt ops (place asked old)) (in-order inject o before)
    ∙ attempt-append (map inject (reverse before)) (inject o ∷ []) (place asked old)
    ∙ ap (go-on (inject o ∷ [])) (all-done part before asked old right.1)
    ∙ attempt-refused (inject o) (place now here) (part-answers part o now here false right.0)
    ∙ ap (λ (d : Drive). record { whole = false; drive = d })
    (part.refusing o now here
    ∙ ap (place (answered (its_asks o) false ∷ now)) (sym (only o here new fails)))

-- what is behind a refused operation is not come to
not-reached : {O : Type 0} (inject : O → Op) (ops : List O) (left : ℕ) (drive end : Drive) →
    attempt (map inject (reverse (drop left ops))) drive ≡ record { whole = false; drive = end } →
    attempt (map inject (reverse ops)) drive ≡ record { whole = false; drive = end }
not-reached inject ops left drive end stopped =
    ap (λ list. attempt (map inject (reverse list)) drive) (sym (take-append-drop left ops))
    ∙ ap (λ list. attempt (map inject list) drive) (reverse-append (take left ops) (drop left ops))
    ∙ ap (λ list. attempt list drive)
    (map-append inject (reverse (drop left ops)) (reverse (take left ops)))
    ∙ attempt-append (map inject (reverse (drop left ops))) (map inject (reverse (take left ops)))
    drive
    ∙ ap (go-on (map inject (reverse (take left ops)))) stopped

does-attempt : {Form O T E : Type 0} {inject : O → Op} {its_asks : O → Ask}
    {its_done its_refused : O → Seen Form → Seen Form} {place : List Asked → Seen Form → Drive}
    (Fails : O → Seen Form → Seen Form → Type 0) →
    IsPart inject its_asks its_done its_refused place →
    ((o : O) (old new : Seen Form) → Fails o old new → new ≡ its_refused o old) →
    (ops : List O) (result : Result T E) (asked_old asked_new : List Asked) (old new : Seen Form) →
    IsAnswered asked_new → Does its_asks its_done Fails ops result asked_old old asked_new new →
    attempt (map inject (reverse ops)) (place asked_old old)
    ≡ record { whole = is_ok result; drive = place asked_new new }
does-attempt {its_done = its_done} {place = place} Fails part only ops (Ok value) asked_old
    asked_new old new right does =
    all-done part ops asked_old old (subst IsAnswered does.all.asked right)
    ∙ ap (λ (d : Drive). record { whole = true; drive = d })
    (ap (λ h. place h (after_all its_done ops old)) (sym does.all.asked)
    ∙ ap (place asked_new) (sym does.all.state))
does-attempt {inject = inject} {its_asks = its_asks} {place = place} Fails part only ops (Err error)
    asked_old asked_new old new right does =
    let front = does.front in
    not-reached inject ops front.left (place asked_old old) (place asked_new new)
    (front-done Fails part only (drop front.left ops) asked_old old new front.state
    (subst IsAnswered front.asked right)
    ∙ ap (λ h. record { whole = false; drive = place h new }) (sym front.asked))

-- ---- a region, and a block

region_in : ℕ → Drive → List Asked → Seen WordStep → Drive
region_in r drive asked seen =
    record drive { asked = asked; regions = set drive.regions r seen }

region-part : (r : ℕ) (drive : Drive) → r < length drive.regions →
    IsPart (Word r) (word_asks r) word_done word_refused (region_in r drive)
unfolding region_in
region-part r drive within = record {
  history = λ asked seen. refl;
  asking = λ o asked seen. refl;
  making = λ o asked seen. again asked seen (answered (word_asks r o) true ∷ asked) (word_done o);
  refusing = λ o asked seen.
      again asked seen (answered (word_asks r o) false ∷ asked) (word_refused o);
}
  where
    again : (asked : List Asked) (seen : Seen WordStep) (now : List Asked)
        (change : Seen WordStep → Seen WordStep) →
        record drive {
          asked = now;
          regions = set (set drive.regions r seen) r
              (change (seen_at (set drive.regions r seen) r));
        }
        ≡ record drive { asked = now; regions = set drive.regions r (change seen) }
    again asked seen now change =
        ap (λ list. record drive { asked = now; regions = list })
        (set-set drive.regions r seen (change (seen_at (set drive.regions r seen) r))
        ∙ ap (λ s. set drive.regions r (change s)) (get_or-set_same drive.regions r seen _ within))

word-only : (op : WordOp) (old new : Seen WordStep) → WordFails op old new →
    new ≡ word_refused op old
word-only (get at) old new fails = fails
word-only (put at word) old new fails = fails
word-only persist old new fails = fails

pub attempts-words : {T E : Type 0} (ops : List WordOp) (result : Result T E)
    (asked_old asked_new : List Asked) (old new : Seen WordStep) → IsAnswered asked_new →
    DoesWords ops result asked_old old asked_new new →
    AttemptsWords ops result asked_old old asked_new new
unfolding region_in
attempts-words ops result asked_old asked_new old new right does r drive shows =
    let own : Does (word_asks r) word_done WordFails ops result asked_old old asked_new new =
    subst (λ d. Does (word_asks d) word_done WordFails ops result asked_old old asked_new new)
    shows.device does in
    ap (attempt (on_region r ops)) (here shows)
    ∙ does-attempt WordFails (region-part r drive shows.within) word-only ops result asked_old
    asked_new old new right own
  where
    here : ShowsRegion r asked_old old drive → drive ≡ region_in r drive asked_old old
    here s =
        ap (λ list. record drive { regions = list })
        (sym (set-get_or drive.regions r (record { device = 0; also = []; history = [] })))
        ∙ ap (λ seen. record drive { regions = set drive.regions r seen }) s.seen_is
        ∙ ap (λ asked. record drive { asked = asked; regions = set drive.regions r old }) s.asked_is

block_in : ℕ → Drive → List Asked → Seen BlockStep → Drive
block_in b drive asked seen = record drive { asked = asked; blocks = set drive.blocks b seen }

block-part : (b : ℕ) (drive : Drive) → b < length drive.blocks →
    IsPart (Block b) (block_asks (length drive.regions + b)) block_done block_refused
    (block_in b drive)
unfolding block_in
block-part b drive within = record {
  history = λ asked seen. refl;
  asking = λ o asked seen. refl;
  making = λ o asked seen.
      again asked seen (answered (block_asks (length drive.regions + b) o) true ∷ asked)
      (block_done o);
  refusing = λ o asked seen.
      again asked seen (answered (block_asks (length drive.regions + b) o) false ∷ asked)
      (block_refused o);
}
  where
    again : (asked : List Asked) (seen : Seen BlockStep) (now : List Asked)
        (change : Seen BlockStep → Seen BlockStep) →
        record drive {
          asked = now;
          blocks = set (set drive.blocks b seen) b (change (seen_at (set drive.blocks b seen) b));
        }
        ≡ record drive { asked = now; blocks = set drive.blocks b (change seen) }
    again asked seen now change =
        ap (λ list. record drive { asked = now; blocks = list })
        (set-set drive.blocks b seen (change (seen_at (set drive.blocks b seen) b))
        ∙ ap (λ s. set drive.blocks b (change s)) (get_or-set_same drive.blocks b seen _ within))

-- a block that leaves all that is read as it was after a refusal
block-only : (op : BlockOp) (old new : Seen BlockStep) → BlockFails true op old new →
    new ≡ block_refused op old
block-only get_bytes old new fails = fails
block-only get_tag old new fails = fails
block-only (put_bytes from bytes) old new fails = fails.kept refl
block-only (put_tag tag) old new fails = fails.kept refl
block-only flush old new fails = fails

pub attempts-block : {T E : Type 0} (ops : List BlockOp) (result : Result T E)
    (asked_old asked_new : List Asked) (old new : Seen BlockStep) → IsAnswered asked_new →
    DoesBlock true ops result asked_old old asked_new new →
    AttemptsBlock ops result asked_old old asked_new new
unfolding block_in
attempts-block ops result asked_old asked_new old new right does b drive shows =
    let own : Does (block_asks (length drive.regions + b)) block_done (BlockFails true) ops result
    asked_old old asked_new new =
    subst (λ d. Does (block_asks d) block_done (BlockFails true) ops result asked_old old
    asked_new new) shows.device does in
    ap (attempt (on_block b ops)) (here shows)
    ∙ does-attempt (BlockFails true) (block-part b drive shows.within) block-only ops result
    asked_old asked_new old new right own
  where
    here : ShowsBlock b asked_old old drive → drive ≡ block_in b drive asked_old old
    here s =
        ap (λ list. record drive { blocks = list })
        (sym (set-get_or drive.blocks b (record { device = 0; also = []; history = [] })))
        ∙ ap (λ seen. record drive { blocks = set drive.blocks b seen }) s.seen_is
        ∙ ap (λ asked. record drive { asked = asked; blocks = set drive.blocks b old }) s.asked_is
