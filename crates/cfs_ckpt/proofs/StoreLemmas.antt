-- Three calls one after another: the selector is settled, a copy is written, and it is selected.
use Rattle.std.proofs.Common.{ℕ, zero, suc, ◌+◌, ◌<◌, ◌≡◌, ◌⊎◌, ◌∙◌, ◌==◌, Bool, true, false, Result, Ok, Err, List, [], ◌∷◌, ◌++◌, length, drop, inl, inr, refl, sym, ap, subst, arith}
use Rattle.std.proofs.lemmas.Bool.{ne_eqb}
use Rattle.std.proofs.lemmas.List.{drop-append-le, length-append, length-drop, length-map}
use Rattle.std.proofs.Math.Seq.{drop-append-add}
use Rattle.cfs_dir.specs.Namespace.{Namespace}
use Rattle.cfs_dir.specs.Tree.{IsTree}
use Rattle.cfs_dir.specs.Words.{table_in, table_words}
use Rattle.cfs_dir.proofs.Tables.{table_told}
use Rattle.cfs_pmem.specs.declared.trace.Asked.{Asked}
use Rattle.cfs_pmem.specs.Images.{Seen, WordStep, words_of, IsImage}
use Rattle.cfs_pmem.specs.Objects.{MomentsOf, seen_at}
use Rattle.cfs_pmem.specs.Operations.{AllDone, FrontDone, LastFails, last_refused}
use Rattle.cfs_pmem.specs.WordOps.{WordOp, persist, set_ops}
use Rattle.cfs_pmem.proofs.AllMomentLemmas.{all_after, all_at_end, all_weaker}
use Rattle.cfs_pmem.proofs.CallLemmas.{fails_behind, refused_behind}
use Rattle.cfs_pmem.proofs.WordLemmas.{length-puts}
use Rattle.cfs_ckpt.specs.Loads.{CanLoad, Loaded, loaded}
use Rattle.cfs_ckpt.specs.Placed.{PlacedFails, PlacedOp, at_place, numbers_of, placed_asks, placed_done}
use Rattle.cfs_ckpt.specs.Stores.{Stores, StopsAt, StoresTakeSteps, free_copy, is_at_selector, put_ops, select_ops, settle_ops, store_ops, word_for}
use Rattle.cfs_ckpt.specs.Tables.{table_ops}
use Rattle.cfs_ckpt.proofs.PlacedLemmas.{numbers_after, placed_after}
use Rattle.cfs_ckpt.proofs.TableLemmas.{length-table}

-- ---- a call that stopped

at_heads : (place : ℕ) (ops : List WordOp) (left : ℕ) → left < length (at_place place ops) → (place == 0) ≡ is_at_selector (drop left (at_place place ops))
at_heads place [] left l = absurd (omega arith)
at_heads place (op ∷ ops) zero l = refl
at_heads place (op ∷ ops) (suc left) l = at_heads place ops left (omega arith)

pub stops_at : {asked_old asked_new : List Asked} {old new : List (Seen WordStep)} (place : ℕ) (ops : List WordOp)
    → FrontDone (placed_asks (numbers_of old)) placed_done PlacedFails (at_place place ops) asked_old old asked_new new
    → StopsAt (at_place place ops) (place == 0) asked_old old asked_new new
stops_at place ops h = record { front = h; doubt = at_heads place ops h.left h.within }

pub stops_settling : {asked_old asked_new : List Asked} {old new : List (Seen WordStep)} (unsure : Bool)
    → FrontDone (placed_asks (numbers_of old)) placed_done PlacedFails (settle_ops unsure) asked_old old asked_new new
    → StopsAt (settle_ops unsure) true asked_old old asked_new new
stops_settling false h = absurd (omega (arith, h.within))
stops_settling true h = stops_at 0 (persist ∷ []) h

-- it did not come to later steps
pub stops_before : {ops : List PlacedOp} {unsure : Bool} {asked_old asked_new : List Asked} {old new : List (Seen WordStep)} (later : List PlacedOp)
    → StopsAt ops unsure asked_old old asked_new new → StopsAt (later ++ ops) unsure asked_old old asked_new new
stops_before {ops} {unsure} {asked_old} {asked_new} {old} {new} later h =
    let same : drop (length later + h.front.left) (later ++ ops) ≡ drop h.front.left ops = drop-append-add later ops h.front.left in
    record {
      front = record {
        left = length later + h.front.left;
        within = omega (arith, length-append later ops, h.front.within);
        state = subst (λ xs. LastFails placed_done PlacedFails xs old new) (sym same) h.front.state;
        asked = h.front.asked ∙ ap (λ xs. last_refused (placed_asks (numbers_of old)) xs ++ asked_old) (sym same);
      };
      doubt = h.doubt ∙ ap (λ xs. is_at_selector xs) (sym same);
    }

newest_same : (later earlier : List PlacedOp) → 0 < length later → is_at_selector later ≡ is_at_selector (later ++ earlier)
newest_same [] earlier l = absurd (omega arith)
newest_same (op ∷ later) earlier l = refl

-- earlier steps went well
pub stops_after : {later earlier : List PlacedOp} {unsure : Bool} {asked_old asked_mid asked_new : List Asked} {old mid new : List (Seen WordStep)}
    → AllDone (placed_asks (numbers_of old)) placed_done earlier asked_old old asked_mid mid → StopsAt later unsure asked_mid mid asked_new new
    → StopsAt (later ++ earlier) unsure asked_old old asked_new new
stops_after {later} {earlier} {unsure} {asked_old} {asked_mid} {asked_new} {old} {mid} {new} a b =
    let left : ℕ = b.front.left in
    let numbers : numbers_of mid ≡ numbers_of old = ap (λ seens. numbers_of seens) a.state ∙ numbers_after earlier old in
    let some : 0 < length (drop left later) = omega (arith, length-drop left later, b.front.within) in
    let front : drop left (later ++ earlier) ≡ drop left later ++ earlier = drop-append-le left later earlier (omega (arith, b.front.within)) in
    record {
      front = record {
        left = left;
        within = omega (arith, length-append later earlier, b.front.within);
        state = subst (λ xs. LastFails placed_done PlacedFails xs old new) (sym front)
            (fails_behind placed_done PlacedFails (drop left later) earlier old new (subst (λ s. LastFails placed_done PlacedFails (drop left later) s new) a.state b.front.state));
        asked = b.front.asked ∙ ap (λ ns. last_refused (placed_asks ns) (drop left later) ++ asked_mid) numbers
            ∙ ap (λ s. last_refused (placed_asks (numbers_of old)) (drop left later) ++ s) a.asked
            ∙ refused_behind (placed_asks (numbers_of old)) (drop left later) earlier asked_old some
            ∙ ap (λ xs. last_refused (placed_asks (numbers_of old)) xs ++ asked_old) (sym front);
      };
      doubt = b.doubt ∙ newest_same (drop left later) earlier some ∙ ap (λ xs. is_at_selector xs) (sym front);
    }

-- ---- what could be loaded before an earlier call

abbrev pub CouldLoad : List (Seen WordStep) → List (List ℕ) → Type 0
CouldLoad seens images = CanLoad seens (loaded images)

pub loads_back : {asked_old asked_new : List Asked} {old new : List (Seen WordStep)} {x : Loaded} → MomentsOf IsImage (CouldLoad old) asked_old old asked_new new → CanLoad new x → CanLoad old x
loads_back {old = old} m h = subst (λ y. CanLoad old y) h.loads (all_at_end m h.images h.possible)

pub both_moments : {asked_old asked_mid asked_new : List Asked} {old mid new : List (Seen WordStep)} → MomentsOf IsImage (CouldLoad old) asked_old old asked_mid mid
    → MomentsOf IsImage (CouldLoad mid) asked_mid mid asked_new new → MomentsOf IsImage (CouldLoad old) asked_old old asked_new new
both_moments a b = all_after a (all_weaker (λ images h. loads_back a h) b)

pub all_moments : {asked_old asked_mid asked_new : List Asked} {old mid new : List (Seen WordStep)} {x y : Loaded} → x ≡ y → MomentsOf IsImage (CouldLoad old) asked_old old asked_mid mid
    → MomentsOf IsImage (λ images. CanLoad mid (loaded images) ⊎ (loaded images ≡ x)) asked_mid mid asked_new new
    → MomentsOf IsImage (λ images. CanLoad old (loaded images) ⊎ (loaded images ≡ y)) asked_old old asked_new new
all_moments same a b = all_after (all_weaker (λ images h. inl h) a) (all_weaker (λ images h. elim h [
  | inl was ↦ inl (loads_back a was)
  | inr this ↦ inr (this ∙ same)
]) b)

-- the words of a table load its tree
pub told_words : (words : List ℕ) (tree : Namespace) (through : ℕ) → IsTree tree.nodes tree.next → words ≡ table_words tree
    → ◌≡◌ {A = Loaded} record { tree = table_in words; through = through } record { tree = tree; through = through }
told_words words tree through whole is =
    ap (λ (t : Namespace). record { tree = t; through = through }) (ap (λ (ws : List ℕ). table_in ws) is ∙ table_told tree whole)

-- ---- each way to end

pub stores_stopped : {T E : Type 0} {ops : List PlacedOp} {stopped unsure : Bool} {asked_old asked_new : List Asked} {old new : List (Seen WordStep)} {result : Result T E} (e : E) → result ≡ Err e
    → unsure ≡ stopped → StopsAt ops stopped asked_old old asked_new new → Stores ops unsure result asked_old old asked_new new
stores_stopped {ops = ops} {unsure = unsure} {asked_old = asked_old} {asked_new = asked_new} {old = old} {new = new} e is same h =
    subst (λ r. Stores ops unsure r asked_old old asked_new new) (sym is) record { ok = tt; err = subst (λ u. StopsAt ops u asked_old old asked_new new) (sym same) h }

-- the selector was under way
pub stop_at_settle : {asked_old asked_new : List Asked} {old new : List (Seen WordStep)} (unsure : Bool) (word : ℕ) (tree : Namespace) (through : ℕ)
    → FrontDone (placed_asks (numbers_of old)) placed_done PlacedFails (settle_ops unsure) asked_old old asked_new new
    → StopsAt (store_ops unsure word tree through) true asked_old old asked_new new
stop_at_settle unsure word tree through h =
    stops_before (select_ops (word_for through (free_copy word))) (stops_before (put_ops (free_copy word) tree) (stops_settling unsure h))

-- the copy was under way; its word is told by the call before
pub stop_at_put : {asked_old asked_mid asked_new : List Asked} {old mid new : List (Seen WordStep)} (unsure : Bool) (word again : ℕ) (tree : Namespace) (through : ℕ) → again ≡ word
    → AllDone (placed_asks (numbers_of old)) placed_done (settle_ops unsure) asked_old old asked_mid mid
    → FrontDone (placed_asks (numbers_of mid)) placed_done PlacedFails (put_ops (free_copy again) tree) asked_mid mid asked_new new
    → StopsAt (store_ops unsure word tree through) false asked_old old asked_new new
stop_at_put {asked_old} {asked_mid} {asked_new} {old} {mid} {new} unsure word again tree through same a b =
    subst (λ w. StopsAt (select_ops (word_for through (free_copy word)) ++ (put_ops (free_copy w) tree ++ settle_ops unsure)) false asked_old old asked_new new) same
    (stops_before (select_ops (word_for through (free_copy word))) (stops_after a
    (subst (λ first. StopsAt (put_ops (free_copy again) tree) first asked_mid mid asked_new new) (ne_eqb (suc (free_copy again)) 0 (λ same. omega (arith, same)))
    (stops_at (suc (free_copy again)) (table_ops (table_words tree)) b))))

-- the copy stands
both_done : {asked_old asked_mid asked_new : List Asked} {old mid new : List (Seen WordStep)} (unsure : Bool) (word again : ℕ) (tree : Namespace) → again ≡ word
    → AllDone (placed_asks (numbers_of old)) placed_done (settle_ops unsure) asked_old old asked_mid mid
    → AllDone (placed_asks (numbers_of mid)) placed_done (put_ops (free_copy again) tree) asked_mid mid asked_new new
    → AllDone (placed_asks (numbers_of old)) placed_done (put_ops (free_copy word) tree ++ settle_ops unsure) asked_old old asked_new new
both_done {asked_old} {asked_mid} {asked_new} {old} {mid} {new} unsure word again tree same a b =
    subst (λ w. AllDone (placed_asks (numbers_of old)) placed_done (put_ops (free_copy w) tree ++ settle_ops unsure) asked_old old asked_new new) same
    (placed_after {T = Unit {0}} {E = Unit {0}} (Ok tt) a record { all = b; front = tt }).all

pub stop_at_select : {asked_old asked_mid asked_put asked_new : List Asked} {old mid put new : List (Seen WordStep)} (unsure : Bool) (word again later : ℕ) (tree : Namespace) (through : ℕ) → again ≡ word → later ≡ again
    → AllDone (placed_asks (numbers_of old)) placed_done (settle_ops unsure) asked_old old asked_mid mid
    → AllDone (placed_asks (numbers_of mid)) placed_done (put_ops (free_copy again) tree) asked_mid mid asked_put put
    → FrontDone (placed_asks (numbers_of put)) placed_done PlacedFails (select_ops (word_for through (free_copy later))) asked_put put asked_new new
    → StopsAt (store_ops unsure word tree through) true asked_old old asked_new new
stop_at_select {asked_old} {asked_mid} {asked_put} {asked_new} {old} {mid} {put} {new} unsure word again later tree through same next a b c =
    subst (λ w. StopsAt (select_ops (word_for through (free_copy w)) ++ (put_ops (free_copy word) tree ++ settle_ops unsure)) true asked_old old asked_new new) (next ∙ same)
    (stops_after (both_done unsure word again tree same a b) (stops_at 0 (set_ops 0 (word_for through (free_copy later))) c))

pub all_stored : {asked_old asked_mid asked_put asked_new : List Asked} {old mid put new : List (Seen WordStep)} (unsure : Bool) (word again later : ℕ) (tree : Namespace) (through : ℕ) → again ≡ word → later ≡ again
    → AllDone (placed_asks (numbers_of old)) placed_done (settle_ops unsure) asked_old old asked_mid mid
    → AllDone (placed_asks (numbers_of mid)) placed_done (put_ops (free_copy again) tree) asked_mid mid asked_put put
    → AllDone (placed_asks (numbers_of put)) placed_done (select_ops (word_for through (free_copy later))) asked_put put asked_new new
    → AllDone (placed_asks (numbers_of old)) placed_done (store_ops unsure word tree through) asked_old old asked_new new
all_stored {asked_old} {asked_mid} {asked_put} {asked_new} {old} {mid} {put} {new} unsure word again later tree through same next a b c =
    subst (λ w. AllDone (placed_asks (numbers_of old)) placed_done (select_ops (word_for through (free_copy w)) ++ (put_ops (free_copy word) tree ++ settle_ops unsure)) asked_old old asked_new new) (next ∙ same)
    (placed_after {T = Unit {0}} {E = Unit {0}} (Ok tt) (both_done unsure word again tree same a b) record { all = c; front = tt }).all

-- what a copy holds, where its word is told by the call before
pub copy_words : {words : List ℕ} (seens : List (Seen WordStep)) (later again : ℕ) → later ≡ again → words_of (seen_at seens (suc (free_copy again))) ≡ words → words_of (seen_at seens (suc (free_copy later))) ≡ words
copy_words seens later again same h = ap (λ (w : ℕ). words_of (seen_at seens (suc (free_copy w)))) same ∙ h

-- ---- how many steps a store takes

pub stores_take_steps : StoresTakeSteps
stores_take_steps word tree through = (steps false, steps true)
  where
    steps : (unsure : Bool) → length (store_ops unsure word tree through) ≡ 3076 + length (settle_ops unsure)
    steps unsure =
        let copy : ℕ = free_copy word in
        let words : List ℕ = table_words tree in
        let more : List PlacedOp = put_ops copy tree ++ settle_ops unsure in
        let whole : length (select_ops (word_for through copy) ++ more) ≡ 2 + length more = length-append (select_ops (word_for through copy)) more in
        let part : length more ≡ length (put_ops copy tree) + length (settle_ops unsure) = length-append (put_ops copy tree) (settle_ops unsure) in
        let copied : length (put_ops copy tree) ≡ length (table_ops words) = length-map {B = PlacedOp} (table_ops words) (λ (op : WordOp). record { place = suc copy; op = op }) in
        let one : length (table_ops words) ≡ suc (length words) = ap (λ (n : ℕ). suc n) (length-puts 0 words (length words)) in
        omega (arith, whole, part, copied, one, length-table tree)
