-- Operations on a region of words.
use Rattle.std.specs.Prelude.{ℕ, zero, suc, ◌+◌, ◌≤◌, ◌≡◌, ◌⊎◌, Bool, true, false, IsTrue, List, [], ◌∷◌, ◌++◌, length, take, Result, OnOk, OnErr}
use Rattle.std.proofs.Math.ListN.{get_or}
use Rattle.cfs_pmem.specs.declared.trace.Asked.{Asked}
use Rattle.cfs_pmem.specs.Images.{Seen, WordStep, words_of, wrote, failed, kept, patched, IsImage, IsSure, IsSetFrom, IsSetWithin}
use Rattle.cfs_pmem.specs.Moments.{Moments}
use Rattle.cfs_pmem.specs.Operations.{Ask, Does, StopsIn, after_all, all_allowed}

pub data WordOp : Type 0 where
  -- a read of the word at a place
  get : ℕ → WordOp
  -- a write of a word at a place
  put : ℕ → ℕ → WordOp
  persist : WordOp

abbrev pub word_writes : WordOp → Bool
word_writes (get at) = false
word_writes (put at word) = true
word_writes persist = true

abbrev pub word_asks : ℕ → WordOp → Ask
word_asks device op = record { device = device; writing = word_writes op }

-- the region after an operation
abbrev pub word_done : WordOp → Seen WordStep → Seen WordStep
word_done (get at) seen = seen
word_done (put at word) seen = wrote at word seen
word_done persist seen = kept seen

-- and after one that failed
abbrev pub WordFails : WordOp → Seen WordStep → Seen WordStep → Type 0
WordFails (get at) old new = new ≡ old
WordFails (put at word) old new = new ≡ failed old
WordFails persist old new = new ≡ failed old

-- a call does these operations on a region
abbrev pub DoesWords : {T E : Type 0} → List WordOp → Result T E → List Asked → Seen WordStep
    → List Asked → Seen WordStep → Type 0
DoesWords ops result asked_old old asked_new new =
    Does (word_asks old.device) word_done WordFails ops result asked_old old asked_new new

-- the same of its words and images alone
abbrev pub WordsStopIn : List WordOp → Seen WordStep → Seen WordStep → Type 0
WordsStopIn ops old new = StopsIn word_done WordFails ops old new

-- `n` writes, of the first of these words from a place on
abbrev pub puts : ℕ → List ℕ → ℕ → List WordOp
puts from words zero = []
puts from words (suc k) = put (from + k) (get_or words k 0) ∷ puts from words k

-- a word is written and persisted
abbrev pub set_ops : ℕ → ℕ → List WordOp
set_ops at word = persist ∷ put at word ∷ []

-- it stopped at the write, and changed no word, or at the persist
abbrev pub SettingStopped : ℕ → ℕ → Seen WordStep → Seen WordStep → Type 0
SettingStopped at word old new = (new ≡ failed old) ⊎ (new ≡ failed (wrote at word old))

-- A call sets a word and persists it.
pub record SetsWord {T E : Type 0} (obeys_power : Bool) (at word : ℕ) (result : Result T E)
    (asked_old : List Asked) (old : Seen WordStep) (asked_new : List Asked)
    (new : Seen WordStep) : Type 0 where
  pub ok : OnOk result (new ≡ kept (wrote at word old))
  pub sure : OnOk result (IsSure new)
  pub err : OnErr result (SettingStopped at word old new)
  pub size : length (words_of new) ≡ length (words_of old)
  pub does : IsTrue obeys_power → DoesWords (set_ops at word) result asked_old old asked_new new
  -- at each moment an image is one from before the call, or that with this word set
  pub moments : Moments IsImage (IsSetFrom old at word) asked_old old asked_new new

-- The first k of these words were written from a place on, one after another.
pub record HasWritten (obeys_power : Bool) (from : ℕ) (words : List ℕ) (k : ℕ)
    (asked_old : List Asked) (old : Seen WordStep) (asked_new : List Asked)
    (new : Seen WordStep) : Type 0 where
  pub within : k ≤ length words
  pub state : new ≡ after_all word_done (puts from words k) old
  pub asked : IsTrue obeys_power →
      asked_new ≡ all_allowed (word_asks old.device) (puts from words k) ++ asked_old
  pub words_are : words_of new ≡ patched (words_of old) from (take k words)
  -- at each moment an image is one from before the call, or that with some of these words set
  pub moments : Moments IsImage (IsSetWithin old from words) asked_old old asked_new new

-- A call writes these words from a place on, one after another.
pub record WritesWords {T E : Type 0} (obeys_power : Bool) (from : ℕ) (words : List ℕ)
    (result : Result T E)
    (asked_old : List Asked) (old : Seen WordStep) (asked_new : List Asked)
    (new : Seen WordStep) : Type 0 where
  pub ok : OnOk result (new ≡ after_all word_done (puts from words (length words)) old)
  pub words_are : OnOk result (words_of new ≡ patched (words_of old) from words)
  pub stopped : OnErr result (WordsStopIn (puts from words (length words)) old new)
  pub size : length (words_of new) ≡ length (words_of old)
  pub does : IsTrue obeys_power → DoesWords (puts from words (length words)) result
      asked_old old asked_new new
  pub moments : Moments IsImage (IsSetWithin old from words) asked_old old asked_new new
