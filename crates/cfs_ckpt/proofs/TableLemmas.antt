-- A table that is written row by row, and persisted.
use Rattle.std.proofs.Common.{ℕ, zero, suc, ◌+◌, ◌-◌, ◌*◌, ◌<◌, ◌≤◌, ◌≡◌, ◌∙◌, Bool, true, false, IsTrue, Result, Ok, Err, List, [], ◌∷◌, ◌++◌, length, get_or, take, drop, Option, Some, None, refl, sym, ap, subst, arith}
use Rattle.std.proofs.Math.ListN.{set}
use Rattle.std.proofs.lemmas.List.{append-nil, drop_all, get_or-append-add, get_or-drop, get_or_append_left, length-append, length-set, take_all}
use Rattle.cfs_dir.specs.declared.node.Node.{Node}
use Rattle.cfs_dir.specs.Namespace.{Namespace, node_at}
use Rattle.cfs_dir.specs.Words.{row_of, rows, table_words}
use Rattle.cfs_pmem.specs.declared.trace.Asked.{Asked}
use Rattle.cfs_pmem.specs.declared.trace.Asked.TheVariants.{Step}
use Rattle.cfs_pmem.specs.Asks.{AsksSome}
use Rattle.cfs_pmem.specs.Images.{Seen, WordStep, devices_of, words_of, wrote, failed, kept, patched, IsImage}
use Rattle.cfs_pmem.specs.Moments.{Moments}
use Rattle.cfs_pmem.specs.Operations.{AllDone, FrontDone, after_all, all_allowed}
use Rattle.cfs_pmem.specs.WordOps.{put, persist, word_asks, word_done, WordFails, puts, WritesWords}
use Rattle.cfs_pmem.proofs.CallLemmas.{after_all-append, done_more, done_none, fails_next, front_of, words_after}
use Rattle.cfs_pmem.proofs.ImageLemmas.{sure_kept}
use Rattle.cfs_pmem.proofs.MomentLemmas.{after, begun, extended, on_failure, on_persist, weaker}
use Rattle.cfs_pmem.proofs.Patches.{patched_more, patched_none}
use Rattle.cfs_ckpt.specs.Tables.{table_ops, IsAny, WritesTable}

-- ---- where a record stands in a table

length-row : (node : Option Node) → length (row_of node) ≡ 12
length-row None = refl
length-row (Some node) = refl

length-rows : (n rec : ℕ) (nodes : List Node) → length (rows n rec nodes) ≡ 12 * n
unfolding rows
length-rows zero rec nodes = refl
length-rows (suc n) rec nodes =
    let rest = length-rows n (suc rec) nodes in
    length-append (row_of (node_at nodes rec)) (rows n (suc rec) nodes) ∙ omega (arith, length-row (node_at nodes rec))

pub length-table : (namespace : Namespace) → length (table_words namespace) ≡ 3073
length-table namespace = ap (λ n. suc n) (length-rows 256 0 namespace.nodes)

row_at : (n rec : ℕ) (nodes : List Node) (j k : ℕ) → j < n → k < 12
    → get_or (rows n rec nodes) (12 * j + k) 0 ≡ get_or (row_of (node_at nodes (rec + j))) k 0
unfolding rows
row_at zero rec nodes j k l lk = absurd (omega arith)
row_at (suc n) rec nodes zero k l lk =
    let row : List ℕ = row_of (node_at nodes rec) in
    ap (λ i. get_or (row ++ rows n (suc rec) nodes) i 0) (omega arith)
    ∙ get_or_append_left row (rows n (suc rec) nodes) 0 k (omega (arith, length-row (node_at nodes rec)))
    ∙ ap (λ r. get_or (row_of (node_at nodes r)) k 0) (omega arith)
row_at (suc n) rec nodes (suc j) k l lk =
    let row : List ℕ = row_of (node_at nodes rec) in
    let further : 12 * suc j + k ≡ length row + (12 * j + k) = omega (arith, length-row (node_at nodes rec)) in
    ap (λ i. get_or (row ++ rows n (suc rec) nodes) i 0) further
    ∙ get_or-append-add row (rows n (suc rec) nodes) (12 * j + k) 0
    ∙ row_at n (suc rec) nodes j k (omega arith) lk
    ∙ ap (λ r. get_or (row_of (node_at nodes r)) k 0) (omega arith)

row_in_table : (namespace : Namespace) (rec k : ℕ) → rec < 256 → k < 12
    → get_or (table_words namespace) (1 + 12 * rec + k) 0 ≡ get_or (row_of (node_at namespace.nodes rec)) k 0
row_in_table namespace rec k l lk =
    let next : 1 + 12 * rec + k ≡ suc (12 * rec + k) = omega arith in
    ap (λ i. get_or (table_words namespace) i 0) next
    ∙ row_at 256 0 namespace.nodes rec k l lk
    ∙ ap (λ r. get_or (row_of (node_at namespace.nodes r)) k 0) (omega arith)

pub length-words : (node : Option Node) (row : List ℕ) → row ≡ row_of node → length row ≡ 12
length-words node row is = ap (λ (ws : List ℕ). length ws) is ∙ length-row node

-- the words of a record, as the call that makes them gives them
pub row_same : (namespace : Namespace) (rec : ℕ) (node : Option Node) (row : List ℕ) → rec < 256 → node ≡ node_at namespace.nodes rec → row ≡ row_of node
    → (j : ℕ) → j < length row → get_or (table_words namespace) (1 + 12 * rec + j) 0 ≡ get_or row j 0
row_same namespace rec node row l is same j lj =
    row_in_table namespace rec j l (omega (arith, length-words node row same))
    ∙ ap (λ n. get_or (row_of n) j 0) (sym is) ∙ ap (λ (ws : List ℕ). get_or ws j 0) (sym same)

-- ---- words one after another, in several parts

puts_more : (words part : List ℕ) (from n : ℕ) → ((k : ℕ) → k < n → get_or words (from + k) 0 ≡ get_or part k 0)
    → puts 0 words (from + n) ≡ puts from part n ++ puts 0 words from
puts_more words part from zero same = ap (λ n. puts 0 words n) (omega arith)
puts_more words part from (suc n) same =
    let next : from + suc n ≡ suc (from + n) = omega arith in
    let here : 0 + (from + n) ≡ from + n = omega arith in
    ap (λ i. puts 0 words i) next
    ∙ ap (λ i. put i (get_or words (from + n) 0) ∷ puts 0 words (from + n)) here
    ∙ ap (λ w. put (from + n) w ∷ puts 0 words (from + n)) (same n (omega arith))
    ∙ ap (λ ops. put (from + n) (get_or part n 0) ∷ ops) (puts_more words part from n (λ k l. same k (omega arith)))

-- a front of the words is a front of the table
front_in : (words : List ℕ) {asked_old asked_new : List Asked} {old new : Seen WordStep} (k : ℕ) → k ≤ length words
    → FrontDone (word_asks old.device) word_done WordFails (puts 0 words k) asked_old old asked_new new
    → FrontDone (word_asks old.device) word_done WordFails (table_ops words) asked_old old asked_new new
front_in words {asked_old} {asked_new} {old} {new} k l h =
    let n : ℕ = length words - k in
    let all : k + n ≡ length words = omega arith in
    let same : puts 0 words (length words) ≡ puts k (drop k words) n ++ puts 0 words k =
    ap (λ i. puts 0 words i) (sym all) ∙ puts_more words (drop k words) k n (λ j lj. sym (get_or-drop k words j 0)) in
    subst (λ ops. FrontDone (word_asks old.device) word_done WordFails (persist ∷ ops) asked_old old asked_new new) (sym same)
    (front_of (persist ∷ puts k (drop k words) n) h)

words_put : (old : Seen WordStep) (words : List ℕ) (k : ℕ) → k ≤ length words → length words ≤ length (words_of old)
    → words_of (after_all word_done (puts 0 words k) old) ≡ patched (words_of old) 0 (take k words)
words_put old words zero l fits = sym (patched_none (words_of old) 0 words)
words_put old words (suc k) l fits =
    ap (λ ws. set ws (0 + k) (get_or words k 0)) (words_put old words k (omega arith) fits) ∙ patched_more (words_of old) 0 words k (omega arith) (omega arith)

all_put : (old : Seen WordStep) (words : List ℕ) → length (words_of old) ≡ length words
    → words_of (after_all word_done (puts 0 words (length words)) old) ≡ words
all_put old words size =
    let none : drop (0 + length words) (words_of old) ≡ [] = drop_all (0 + length words) (words_of old) (omega arith) in
    words_put old words (length words) (omega arith) (omega arith)
    ∙ ap (λ ws. patched (words_of old) 0 ws) (take_all (length words) words (omega arith))
    ∙ patched_whole (words_of old) words none
  where
    none_taken : (xs : List ℕ) → take 0 xs ≡ []
    none_taken [] = refl
    none_taken (x ∷ xs) = refl

    patched_whole : (old words : List ℕ) → drop (0 + length words) old ≡ [] → patched old 0 words ≡ words
    patched_whole old words none =
        ap (λ front. front ++ (words ++ drop (0 + length words) old)) (none_taken old) ∙ ap (λ rest. words ++ rest) none ∙ append-nil words

-- The first k words of a table stand.
pub record HasPut (obeys : Bool) (words : List ℕ) (k : ℕ) (asked_old : List Asked) (old : Seen WordStep)
    (asked_new : List Asked) (new : Seen WordStep) : Type 0 where
  pub size : length (words_of new) ≡ length (words_of old)
  pub state : new ≡ after_all word_done (puts 0 words k) old
  pub asked : IsTrue obeys → asked_new ≡ all_allowed (word_asks old.device) (puts 0 words k) ++ asked_old
  pub moments : Moments IsImage IsAny asked_old old asked_new new

done_of : {obeys : Bool} {words : List ℕ} {k : ℕ} {asked_old asked_new : List Asked} {old new : Seen WordStep} → HasPut obeys words k asked_old old asked_new new
    → IsTrue obeys → AllDone (word_asks old.device) word_done (puts 0 words k) asked_old old asked_new new
done_of h o = record { state = h.state; asked = h.asked o }

-- the first word
pub put_first : {obeys : Bool} {words : List ℕ} {asked_old asked_new : List Asked} {old new : Seen WordStep} (word : ℕ) → word ≡ get_or words 0 0
    → new ≡ wrote 0 word old → AsksSome (devices_of old) asked_old asked_new → (IsTrue obeys → asked_new ≡ Step old.device true true ∷ asked_old)
    → HasPut obeys words 1 asked_old old asked_new new
put_first {asked_old = asked_old} {old = old} word is w asks asked = record {
  size = ap (λ (s : Seen WordStep). length (words_of s)) w ∙ length-set (words_of old) 0 word;
  state = w ∙ ap (λ v. wrote 0 v old) is;
  asked = asked;
  moments = extended _ (begun asked_old old (λ image h. tt)) w asks (λ image h. tt);
}

-- the next words
pub put_row : {T E : Type 0} {obeys : Bool} {words : List ℕ} {k : ℕ} {asked_old asked_mid asked_new : List Asked} {old mid new : Seen WordStep} (row : List ℕ) (t : T)
    → ((j : ℕ) → j < length row → get_or words (k + j) 0 ≡ get_or row j 0)
    → HasPut obeys words k asked_old old asked_mid mid → WritesWords {T = T} {E = E} obeys k row (Ok t) asked_mid mid asked_new new
    → HasPut obeys words (k + length row) asked_old old asked_new new
put_row {T} {E} {obeys} {words} {k} {asked_old} {asked_mid} {asked_new} {old} {mid} {new} row t same h w =
    let more : puts 0 words (k + length row) ≡ puts k row (length row) ++ puts 0 words k = puts_more words row k (length row) same in
    record {
      size = w.size ∙ h.size;
      state = w.ok ∙ ap (λ x. after_all word_done (puts k row (length row)) x) h.state
          ∙ sym (after_all-append word_done (puts k row (length row)) (puts 0 words k) old) ∙ ap (λ ops. after_all word_done ops old) (sym more);
      asked = λ o. (words_after {T = T} {E = E} (Ok t) (done_of h o) (w.does o)).all.asked ∙ ap (λ ops. all_allowed (word_asks old.device) ops ++ asked_old) (sym more);
      moments = after h.moments (weaker (λ image i. tt) w.moments);
    }

-- ---- each way to end

-- the first word failed
pub table_at_first : {T E : Type 0} {obeys : Bool} {words : List ℕ} {result : Result T E} {asked_old asked_new : List Asked} {old new : Seen WordStep} (e : E) → result ≡ Err e
    → 0 < length words → new ≡ failed old → AsksSome (devices_of old) asked_old asked_new → (IsTrue obeys → asked_new ≡ Step old.device true false ∷ asked_old)
    → WritesTable obeys words result asked_old old asked_new new
table_at_first {T} {E} {obeys} {words} {result} {asked_old} {asked_new} {old} {new} e is l f asks asked =
    subst (λ r. WritesTable obeys words r asked_old old asked_new new) (sym is)
    record {
      ok = tt;
      sure = tt;
      size = ap (λ (s : Seen WordStep). length (words_of s)) f;
      does = λ o. record {
        all = tt;
        front = front_in words 1 (omega arith) (fails_next (put 0 (get_or words 0 0)) (done_none (word_asks old.device) word_done asked_old old) f (asked o));
      };
      moments = on_failure (begun asked_old old (λ image h. tt)) f asks;
    }

-- a word of a record failed
pub table_at_row : {T E U F : Type 0} {obeys : Bool} {words : List ℕ} {k : ℕ} {result : Result T E} {asked_old asked_mid asked_new : List Asked} {old mid new : Seen WordStep} (row : List ℕ) (e : E) → result ≡ Err e → (f : F)
    → ((j : ℕ) → j < length row → get_or words (k + j) 0 ≡ get_or row j 0) → k + length row ≤ length words
    → HasPut obeys words k asked_old old asked_mid mid → WritesWords {T = U} {E = F} obeys k row (Err f) asked_mid mid asked_new new
    → WritesTable obeys words result asked_old old asked_new new
table_at_row {T} {E} {U} {F} {obeys} {words} {k} {result} {asked_old} {asked_mid} {asked_new} {old} {mid} {new} row e is f same l h w =
    let more : puts 0 words (k + length row) ≡ puts k row (length row) ++ puts 0 words k = puts_more words row k (length row) same in
    subst (λ r. WritesTable obeys words r asked_old old asked_new new) (sym is)
    record {
      ok = tt;
      sure = tt;
      size = w.size ∙ h.size;
      does = λ o. record {
        all = tt;
        front = front_in words (k + length row) l
            (subst (λ ops. FrontDone (word_asks old.device) word_done WordFails ops asked_old old asked_new new) (sym more) (words_after {T = U} {E = F} (Err f) (done_of h o) (w.does o)).front);
      };
      moments = after h.moments (weaker (λ image i. tt) w.moments);
    }

-- the persist failed
pub table_at_persist : {T E : Type 0} {obeys : Bool} {words : List ℕ} {k : ℕ} {result : Result T E} {asked_old asked_mid asked_new : List Asked} {old mid new : Seen WordStep} (e : E) → result ≡ Err e
    → k ≡ length words → HasPut obeys words k asked_old old asked_mid mid
    → new ≡ failed mid → AsksSome (devices_of mid) asked_mid asked_new → (IsTrue obeys → asked_new ≡ Step mid.device true false ∷ asked_mid)
    → WritesTable obeys words result asked_old old asked_new new
table_at_persist {T} {E} {obeys} {words} {k} {result} {asked_old} {asked_mid} {asked_new} {old} {mid} {new} e is all h f asks asked =
    let done : IsTrue obeys → AllDone (word_asks old.device) word_done (puts 0 words (length words)) asked_old old asked_mid mid =
    λ o. subst (λ n. AllDone (word_asks old.device) word_done (puts 0 words n) asked_old old asked_mid mid) all (done_of h o) in
    subst (λ r. WritesTable obeys words r asked_old old asked_new new) (sym is)
    record {
      ok = tt;
      sure = tt;
      size = ap (λ (s : Seen WordStep). length (words_of s)) f ∙ h.size;
      does = λ o. record {
        all = tt;
        front = fails_next persist (done o) f (asked o ∙ ap (λ (d : ℕ). Step d true false ∷ asked_mid) h.moments.same);
      };
      moments = on_failure h.moments f asks;
    }

-- all went well
pub table_whole : {T E : Type 0} {obeys : Bool} {words : List ℕ} {k : ℕ} {asked_old asked_mid asked_new : List Asked} {old mid new : Seen WordStep} (t : T)
    → k ≡ length words → length (words_of old) ≡ length words → HasPut obeys words k asked_old old asked_mid mid
    → new ≡ kept mid → AsksSome (devices_of mid) asked_mid asked_new → (IsTrue obeys → asked_new ≡ Step mid.device true true ∷ asked_mid)
    → WritesTable {T = T} {E = E} obeys words (Ok t) asked_old old asked_new new
table_whole {T} {E} {obeys} {words} {k} {asked_old} {asked_mid} {asked_new} {old} {mid} {new} t all fits h s asks asked =
    let done : IsTrue obeys → AllDone (word_asks old.device) word_done (puts 0 words (length words)) asked_old old asked_mid mid =
    λ o. subst (λ n. AllDone (word_asks old.device) word_done (puts 0 words n) asked_old old asked_mid mid) all (done_of h o) in
    record {
      ok = ap (λ (x : Seen WordStep). words_of x) s ∙ ap (λ (x : Seen WordStep). words_of x) h.state
          ∙ ap (λ n. words_of (after_all word_done (puts 0 words n) old)) all ∙ all_put old words fits;
      sure = sure_kept mid s;
      size = ap (λ (x : Seen WordStep). length (words_of x)) s ∙ h.size;
      does = λ o. record {
        all = done_more persist (done o) s (asked o ∙ ap (λ (d : ℕ). Step d true true ∷ asked_mid) h.moments.same);
        front = tt;
      };
      moments = on_persist h.moments s asks;
    }
