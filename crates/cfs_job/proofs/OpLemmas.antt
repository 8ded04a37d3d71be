-- The operations of a step, one after another.
use Rattle.std.proofs.Common.{ℕ, suc, ◌+◌, ◌<◌, ◌≤◌, ◌≡◌, ◌∙◌, Bool, true, false, IsTrue, Result, Ok, Err, OnOk, OnErr, List, [], ◌∷◌, ◌++◌, length, map, drop, refl, sym, ap, subst, arith}
use Rattle.std.proofs.lemmas.List.{drop-map, length-map, length-drop}
use Rattle.cfs_pmem.specs.declared.trace.Asked.{Asked}
use Rattle.cfs_pmem.specs.declared.trace.Asked.TheVariants.{Step}
use Rattle.cfs_pmem.specs.Asks.{AsksOnce, AsksSome}
use Rattle.cfs_pmem.specs.Images.{Seen, devices_of}
use Rattle.cfs_pmem.specs.Operations.{LastFails, after_all, all_allowed, answered, last_refused, AllDone}
use Rattle.cfs_pmem.proofs.CallLemmas.{done_none, done_more, fails_next}
use Rattle.cfs_pmem.proofs.MomentLemmas.{begun, extended}
use Rattle.cfs_block.specs.BlockImages.{BlockStep, Content, AllBlockImages, IsBlockImage, IsRangedFrom, WriteFails, content_of, kept, unflushed, wrote}
use Rattle.cfs_block.specs.BlockOps.{BlockOp, flush, put_bytes}
use Rattle.cfs_block.proofs.BlockLemmas.{all_kept, all_torn, all_unflushed, all_wrote, now_is_image}
use Rattle.cfs_slot.specs.Payload.{AsksOnly, DoesReads, SlotRead, read_asks}
use Rattle.cfs_job.specs.Ops.{JobFails, JobOp, WorksOn, get_word, job_asks, job_done, on_block}

-- ---- reads of words leave the block as it is

pub reads_leave : (reads : List SlotRead) (seen : Seen BlockStep) → after_all job_done (map get_word reads) seen ≡ seen
reads_leave [] seen = refl
reads_leave (read ∷ reads) seen = reads_leave reads seen

reads_allowed : (device : ℕ) (reads : List SlotRead) → all_allowed (job_asks device) (map get_word reads) ≡ all_allowed read_asks reads
reads_allowed device [] = refl
reads_allowed device (read ∷ reads) = ap (λ s. answered (read_asks read) true ∷ s) (reads_allowed device reads)

reads_refused : (device : ℕ) (reads : List SlotRead) → last_refused (job_asks device) (map get_word reads) ≡ last_refused read_asks reads
reads_refused device [] = refl
reads_refused device (read ∷ reads) = ap (λ s. answered (read_asks read) false ∷ s) (reads_allowed device reads)

read_fails : (keeps : Bool) (reads : List SlotRead) (seen : Seen BlockStep) → 0 < length reads → LastFails job_done (JobFails keeps) (map get_word reads) seen seen
read_fails keeps [] seen some = absurd (omega arith)
read_fails keeps (read ∷ reads) seen some = sym (reads_leave reads seen)

none_dropped : {A : Type 0} (xs : List A) → drop 0 xs ≡ xs
none_dropped [] = refl
none_dropped (x ∷ xs) = refl

-- ---- a read failed, and the block was not come to

pub read_failed : {T E : Type 0} {obeys_slots obeys_block keeps : Bool} {P : Content → Type 0} {slots : List ℕ} {result : Result T E}
    {asked_old asked_new : List Asked} (reads : List SlotRead) (op : BlockOp) (seen : Seen BlockStep) (e : E) → result ≡ Err e → 0 < length reads → AllBlockImages seen P
    → AsksOnly slots asked_old asked_new → (IsTrue obeys_slots → DoesReads reads result asked_old asked_new)
    → WorksOn obeys_slots obeys_block keeps P slots (on_block op ∷ map get_word reads) result asked_old seen asked_new seen
read_failed {T} {E} {obeys_slots} {obeys_block} {keeps} {P} {slots} {result} {asked_old} {asked_new} reads op seen e is some all asks does =
    let ops : List JobOp = on_block op ∷ map get_word reads in
    subst (λ r. WorksOn obeys_slots obeys_block keeps P slots ops r asked_old seen asked_new seen) (sym is)
    record {
      ok = tt;
      stopped = record {
        left = 1;
        within = omega (arith, length-map reads get_word);
        state = subst (λ os. LastFails job_done (JobFails keeps) os seen seen) (sym (none_dropped (map get_word reads))) (read_fails keeps reads seen some);
      };
      does = λ slot. λ block.
          let front = (subst (λ r. DoesReads reads r asked_old asked_new) is (does slot)).front in
          let rest : drop (suc front.left) ops ≡ map get_word (drop front.left reads) = drop-map get_word front.left reads in
          record {
            all = tt;
            front = record {
              left = suc front.left;
              within = omega (arith, length-map reads get_word, front.within);
              state = subst (λ os. LastFails job_done (JobFails keeps) os seen seen) (sym rest)
                  (read_fails keeps (drop front.left reads) seen (omega (arith, length-drop front.left reads, front.within)));
              asked = front.asked ∙ ap (λ s. s ++ asked_old) (sym (reads_refused seen.device (drop front.left reads)))
                  ∙ ap (λ os. last_refused (job_asks seen.device) os ++ asked_old) (sym rest);
            };
          };
      between = asked_new;
      reads = asks;
      moments = begun asked_new seen all;
    }

-- ---- the words were read

reads_done : (device : ℕ) (reads : List SlotRead) {asked_old asked_mid : List Asked} (seen : Seen BlockStep) → asked_mid ≡ all_allowed read_asks reads ++ asked_old
    → AllDone (job_asks device) job_done (map get_word reads) asked_old seen asked_mid seen
reads_done device reads {asked_old} {asked_mid} seen e = record {
  state = sym (reads_leave reads seen);
  asked = e ∙ ap (λ s. s ++ asked_old) (sym (reads_allowed device reads));
}

-- ---- and then the block was written, or that failed

pub ranged_from_same : (seen : Seen BlockStep) (from len : ℕ) → AllBlockImages seen (IsRangedFrom seen from len)
ranged_from_same seen from len =
    λ image h. record { first = image; possible = h; within = record { tag = refl; size = refl; outside = λ k out. refl } }

pub write_made : {T E : Type 0} {obeys_slots obeys_block keeps : Bool} {slots : List ℕ}
    {asked_old asked_mid asked_new : List Asked} {old new : Seen BlockStep} (reads : List SlotRead) (result : Result T E) (from : ℕ) (bytes : List ℕ)
    → length (content_of old).bytes ≡ 4096 → from + length bytes ≤ 4096
    → (IsTrue obeys_slots → asked_mid ≡ all_allowed read_asks reads ++ asked_old) → AsksOnly slots asked_old asked_mid
    → OnOk result (new ≡ wrote from bytes old) → OnErr result (WriteFails keeps from (length bytes) old new)
    → AsksSome (devices_of old) asked_mid asked_new → (IsTrue obeys_block → AsksOnce old.device true result asked_mid asked_new)
    → WorksOn obeys_slots obeys_block keeps (IsRangedFrom old from (length bytes)) slots (on_block (put_bytes from bytes) ∷ map get_word reads) result
    asked_old old asked_new new
write_made {T} {E} {obeys_slots} {obeys_block} {keeps} {slots} {asked_old} {asked_mid} {asked_new} {old} {new} reads (Ok t) from bytes full fits read asks ok err some once =
    let first : AllBlockImages old (IsRangedFrom old from (length bytes)) = ranged_from_same old from (length bytes) in
    let all : AllBlockImages new (IsRangedFrom old from (length bytes)) = all_wrote old from bytes (omega arith) (omega arith) ok in
    record {
      ok = ok ∙ ap (λ s. wrote from bytes s) (sym (reads_leave reads old));
      stopped = tt;
      does = λ slot. λ block. record {
        all = done_more (on_block (put_bytes from bytes)) (reads_done old.device reads old (read slot)) ok (once block);
        front = tt;
      };
      between = asked_mid;
      reads = asks;
      moments = extended _ (begun asked_mid old first) ok some all;
    }
write_made {T} {E} {obeys_slots} {obeys_block} {keeps} {slots} {asked_old} {asked_mid} {asked_new} {old} {new} reads (Err e) from bytes full fits read asks ok err some once =
    let first : AllBlockImages old (IsRangedFrom old from (length bytes)) = ranged_from_same old from (length bytes) in
    let all : AllBlockImages new (IsRangedFrom old from (length bytes)) = all_torn old from (length bytes) (omega arith) (omega arith) err.torn in
    let op : JobOp = on_block (put_bytes from bytes) in
    record {
      ok = tt;
      stopped = record {
        left = 0;
        within = omega arith;
        state = subst (λ s. WriteFails keeps from (length bytes) s new) (sym (reads_leave reads old)) err;
      };
      does = λ slot. λ block. record { all = tt; front = fails_next op (reads_done old.device reads old (read slot)) err (once block) };
      between = asked_mid;
      reads = asks;
      moments = extended _ (begun asked_mid old first) err.torn.is some all;
    }

-- the same where place, bytes and count are told otherwise
pub write_told : {T E : Type 0} {obeys_slots obeys_block keeps : Bool} {slots : List ℕ}
    {asked_old asked_new : List Asked} {old new : Seen BlockStep} (reads : List SlotRead) (result : Result T E) (from : ℕ) (bytes : List ℕ) (place count : ℕ) (piece : List ℕ)
    → from ≡ place → bytes ≡ piece → length bytes ≡ count
    → WorksOn obeys_slots obeys_block keeps (IsRangedFrom old from (length bytes)) slots (on_block (put_bytes from bytes) ∷ map get_word reads) result asked_old old asked_new new
    → WorksOn obeys_slots obeys_block keeps (IsRangedFrom old place count) slots (on_block (put_bytes place piece) ∷ map get_word reads) result asked_old old asked_new new
write_told {T} {E} {obeys_slots} {obeys_block} {keeps} {slots} {asked_old} {asked_new} {old} {new} reads result from bytes place count piece at is size h =
    subst (λ p. WorksOn obeys_slots obeys_block keeps (IsRangedFrom old p count) slots (on_block (put_bytes p piece) ∷ map get_word reads) result asked_old old asked_new new) at
    (subst (λ bs. WorksOn obeys_slots obeys_block keeps (IsRangedFrom old from count) slots (on_block (put_bytes from bs) ∷ map get_word reads) result asked_old old asked_new new) is
    (subst (λ n. WorksOn obeys_slots obeys_block keeps (IsRangedFrom old from n) slots (on_block (put_bytes from bytes) ∷ map get_word reads) result asked_old old asked_new new) size h))

-- ---- a flush

pub nothing_asked : (slots : List ℕ) (asked : List Asked) → AsksOnly slots asked asked
nothing_asked slots asked = record { made = []; own = tt; is = refl }

pub flush_made : {T E : Type 0} {obeys_slots obeys_block keeps : Bool} {asked_old asked_new : List Asked} {old new : Seen BlockStep} (slots : List ℕ) (result : Result T E)
    → length (content_of old).bytes ≡ 4096
    → OnOk result (new ≡ kept old) → OnErr result (new ≡ unflushed old)
    → AsksSome (devices_of old) asked_old asked_new → (IsTrue obeys_block → AsksOnce old.device true result asked_old asked_new)
    → WorksOn obeys_slots obeys_block keeps (IsBlockImage old.history) slots (on_block flush ∷ []) result asked_old old asked_new new
flush_made {T} {E} {obeys_slots} {obeys_block} {keeps} {asked_old} {asked_new} {old} {new} slots (Ok t) full ok err some once =
    let first : AllBlockImages old (IsBlockImage old.history) = λ image h. h in
    let all : AllBlockImages new (IsBlockImage old.history) = all_kept (IsBlockImage old.history) old ok (now_is_image old.history (omega arith)) in
    record {
      ok = ok;
      stopped = tt;
      does = λ slot. λ block. record { all = done_more (on_block flush) (done_none (job_asks old.device) job_done asked_old old) ok (once block); front = tt };
      between = asked_old;
      reads = nothing_asked slots asked_old;
      moments = extended _ (begun asked_old old first) ok some all;
    }
flush_made {T} {E} {obeys_slots} {obeys_block} {keeps} {asked_old} {asked_new} {old} {new} slots (Err e) full ok err some once =
    let first : AllBlockImages old (IsBlockImage old.history) = λ image h. h in
    let all : AllBlockImages new (IsBlockImage old.history) = all_unflushed (IsBlockImage old.history) old (omega arith) err first in
    record {
      ok = tt;
      stopped = record { left = 0; within = omega arith; state = err };
      does = λ slot. λ block. record { all = tt; front = fails_next (on_block flush) (done_none (job_asks old.device) job_done asked_old old) err (once block) };
      between = asked_old;
      reads = nothing_asked slots asked_old;
      moments = extended _ (begun asked_old old first) err some all;
    }

pub flush_failed : {T E : Type 0} {obeys_slots obeys_block keeps : Bool} {result : Result T E} {asked_old asked_new : List Asked} {old new : Seen BlockStep} (slots : List ℕ) (e : E) → result ≡ Err e
    → length (content_of old).bytes ≡ 4096 → new ≡ unflushed old
    → AsksSome (devices_of old) asked_old asked_new → (IsTrue obeys_block → asked_new ≡ Step old.device true false ∷ asked_old)
    → WorksOn obeys_slots obeys_block keeps (IsBlockImage old.history) slots (on_block flush ∷ []) result asked_old old asked_new new
flush_failed {T} {E} {obeys_slots} {obeys_block} {keeps} {result} {asked_old} {asked_new} {old} {new} slots e is full err some once =
    subst (λ r. WorksOn obeys_slots obeys_block keeps (IsBlockImage old.history) slots (on_block flush ∷ []) r asked_old old asked_new new) (sym is)
    (flush_made {T = T} slots (Err e) full tt err some once)
