-- Counts of faults of a job's devices.
use Rattle.std.proofs.Common.{ℕ, ◌≡◌, Result, Ok, Err, List, [], ◌∷◌, ◌++◌, inl, inr, refl, sym, ap, subst, arith}
use Rattle.cfs_pmem.specs.Faults.{HasCause}
use Rattle.cfs_slot.specs.Payload.{HaveCause, NoneFell, SomeRose}
use Rattle.cfs_job.specs.Counts.{HasCauseIn}

pub none_fell : (counts : List ℕ) → NoneFell counts counts
none_fell [] = tt
none_fell (n ∷ counts) = (omega arith, none_fell counts)

pub nothing_failed : {T E : Type 0} (counts : List ℕ) (t : T) → HaveCause {T = T} {E = E} counts counts (Ok t)
nothing_failed counts t = record { later = none_fell counts; failed = tt; passed = refl }

-- the slots alone were called, and one of them failed
pub slots_failed : {T E : Type 0} {slots_old slots_new : List ℕ} {result : Result T E} (blocks : List ℕ) (e : E) → result ≡ Err e
    → NoneFell slots_old slots_new → SomeRose slots_old slots_new → HasCauseIn slots_old slots_new blocks blocks result
slots_failed {T} {E} {slots_old} {slots_new} {result} blocks e is later failed =
    subst (λ r. HasCauseIn slots_old slots_new blocks blocks r) (sym is)
    record { slots = later; blocks = none_fell blocks; failed = inl failed; passed = tt }

-- the slots went well, and then a block was called
pub block_called : {T E : Type 0} {slots_old slots_new : List ℕ} {old new : ℕ} (result : Result T E) → slots_new ≡ slots_old
    → HasCause old new result → HasCauseIn slots_old slots_new (old ∷ []) (new ∷ []) result
block_called {T} {E} {slots_old} {slots_new} {old} {new} (Ok t) same h = record {
  slots = subst (λ ns. NoneFell slots_old ns) (sym same) (none_fell slots_old);
  blocks = (h.later, tt);
  failed = tt;
  passed = (same, ap (λ n. n ∷ []) h.passed);
}
block_called {T} {E} {slots_old} {slots_new} {old} {new} (Err e) same h = record {
  slots = subst (λ ns. NoneFell slots_old ns) (sym same) (none_fell slots_old);
  blocks = (h.later, tt);
  failed = inr (inl h.failed);
  passed = tt;
}

-- ---- other blocks stand beside, behind or in front

both_fell : (a a' b b' : List ℕ) → NoneFell a a' → NoneFell b b' → NoneFell (a ++ b) (a' ++ b')
both_fell [] [] b b' h k = k
both_fell [] (n ∷ a') b b' h k = absurd h
both_fell (m ∷ a) [] b b' h k = absurd h
both_fell (m ∷ a) (n ∷ a') b b' h k = (h.0, both_fell a a' b b' h.1 k)

rose_left : (a a' b b' : List ℕ) → SomeRose a a' → SomeRose (a ++ b) (a' ++ b')
rose_left [] a' b b' h = absurd h
rose_left (m ∷ a) [] b b' h = absurd h
rose_left (m ∷ a) (n ∷ a') b b' h = elim h [ inl up ↦ inl up | inr rest ↦ inr (rose_left a a' b b' rest) ]

rose_right : (a b b' : List ℕ) → SomeRose b b' → SomeRose (a ++ b) (a ++ b')
rose_right [] b b' h = h
rose_right (m ∷ a) b b' h = inr (rose_right a b b' h)

pub with_behind : {T E : Type 0} {slots_old slots_new : List ℕ} (old new other : List ℕ) (result : Result T E)
    → HasCauseIn slots_old slots_new old new result → HasCauseIn slots_old slots_new (old ++ other) (new ++ other) result
with_behind {T} {E} {slots_old} {slots_new} old new other (Ok t) h = record {
  slots = h.slots;
  blocks = both_fell old new other other h.blocks (none_fell other);
  failed = tt;
  passed = (h.passed.0, ap (λ ns. ns ++ other) h.passed.1);
}
with_behind {T} {E} {slots_old} {slots_new} old new other (Err e) h = record {
  slots = h.slots;
  blocks = both_fell old new other other h.blocks (none_fell other);
  failed = elim h.failed [ inl rose ↦ inl rose | inr rose ↦ inr (rose_left old new other other rose) ];
  passed = tt;
}

pub with_before : {T E : Type 0} {slots_old slots_new : List ℕ} (old new other : List ℕ) (result : Result T E)
    → HasCauseIn slots_old slots_new old new result → HasCauseIn slots_old slots_new (other ++ old) (other ++ new) result
with_before {T} {E} {slots_old} {slots_new} old new other (Ok t) h = record {
  slots = h.slots;
  blocks = both_fell other other old new (none_fell other) h.blocks;
  failed = tt;
  passed = (h.passed.0, ap (λ ns. other ++ ns) h.passed.1);
}
with_before {T} {E} {slots_old} {slots_new} old new other (Err e) h = record {
  slots = h.slots;
  blocks = both_fell other other old new (none_fell other) h.blocks;
  failed = elim h.failed [ inl rose ↦ inl rose | inr rose ↦ inr (rose_right other old new rose) ];
  passed = tt;
}

-- no slot was called
pub blocks_alone : {T E : Type 0} (slots old new : List ℕ) (result : Result T E) → HaveCause old new result → HasCauseIn slots slots old new result
blocks_alone slots old new (Ok t) h = record { slots = none_fell slots; blocks = h.later; failed = tt; passed = (refl, h.passed) }
blocks_alone slots old new (Err e) h = record { slots = none_fell slots; blocks = h.later; failed = inr h.failed; passed = tt }

pub nothing_called : {T E : Type 0} (slots blocks : List ℕ) (t : T) → HasCauseIn {T = T} {E = E} slots slots blocks blocks (Ok t)
nothing_called slots blocks t = record { slots = none_fell slots; blocks = none_fell blocks; failed = tt; passed = (refl, refl) }
