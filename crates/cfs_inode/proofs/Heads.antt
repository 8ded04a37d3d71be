-- A word of the head of slots is set.
use Rattle.std.proofs.Common.{◌≡◌, List, ◌∷◌, ap, map, refl, subst, sym, ℕ, Bool, Ok, Err}
use Rattle.cfs_pmem.specs.declared.trace.Asked.{Asked}
use Rattle.cfs_pmem.specs.Images.{Seen, WordStep}
use Rattle.cfs_pmem.specs.WordOps.{SetsWord}
use Rattle.cfs_medium.specs.SlotEvents.{Answer}
use Rattle.cfs_inode.specs.Heads.{SetsHead}
use Rattle.cfs_inode.specs.View.{Seens}

abbrev plain-ok : Answer
plain-ok = Ok tt

abbrev plain-err : Answer
plain-err = Err tt

-- what a call answers is no matter to what it did, but for whether it went well

pub sets-ok : {T E : Type 0} {obeys : Bool} {at word : ℕ} (t : T)
    {asked_old asked_new : List Asked} {old new : Seen WordStep} →
    SetsWord {T = T} {E = E} obeys at word (Ok t) asked_old old asked_new new →
    SetsWord obeys at word plain-ok asked_old old asked_new new
sets-ok t sets = record {
  ok = sets.ok;
  sure = sets.sure;
  err = tt;
  size = sets.size;
  does = λ obeys. record { all = (sets.does obeys).all; front = tt };
  moments = sets.moments;
}

pub sets-err : {T E : Type 0} {obeys : Bool} {at word : ℕ} (e : E)
    {asked_old asked_new : List Asked} {old new : Seen WordStep} →
    SetsWord {T = T} {E = E} obeys at word (Err e) asked_old old asked_new new →
    SetsWord obeys at word plain-err asked_old old asked_new new
sets-err e sets = record {
  ok = tt;
  sure = tt;
  err = sets.err;
  size = sets.size;
  does = λ obeys. record { all = tt; front = (sets.does obeys).front };
  moments = sets.moments;
}

-- the slots of a request behind a call that set a word of the first, or failed to

pub heads-ok : {T E : Type 0} {obeys : Bool} {at word : ℕ} (head now : Seen WordStep)
    (tails news : Seens) (t : T) {asked_old asked_new : List Asked} → news ≡ tails →
    SetsWord {T = T} {E = E} obeys at word (Ok t) asked_old head asked_new now →
    SetsHead obeys at word plain-ok asked_old (head ∷ tails) asked_new (now ∷ news)
heads-ok head now tails news t is sets = record {
  head = head;
  now = now;
  tails = tails;
  old_is = refl;
  new_is = ap (λ ts. now ∷ ts) is;
  sets = sets-ok t sets;
}

pub heads-err : {T E : Type 0} {obeys : Bool} {at word : ℕ} (head now : Seen WordStep)
    (tails news : Seens) (e : E) {asked_old asked_new : List Asked} → news ≡ tails →
    SetsWord {T = T} {E = E} obeys at word (Err e) asked_old head asked_new now →
    SetsHead obeys at word plain-err asked_old (head ∷ tails) asked_new (now ∷ news)
heads-err head now tails news e is sets = record {
  head = head;
  now = now;
  tails = tails;
  old_is = refl;
  new_is = ap (λ ts. now ∷ ts) is;
  sets = sets-err e sets;
}

pub slots-ok : {R T E : Type 0} {obeys : Bool} {at word : ℕ} (seen : R → Seen WordStep)
    (head now : R) (tails news : List R) (t : T) {asked_old asked_new : List Asked} →
    SetsWord {T = T} {E = E} obeys at word (Ok t) asked_old (seen head) asked_new (seen now) →
    news ≡ now ∷ tails →
    SetsHead obeys at word plain-ok asked_old (map seen (head ∷ tails)) asked_new (map seen news)
slots-ok {R} {T} {E} {obeys} {at} {word} seen head now tails news t {asked_old} {asked_new}
    sets is =
    subst (λ (xs : List R). SetsHead obeys at word plain-ok asked_old (map seen (head ∷ tails))
    asked_new (map seen xs)) (sym is)
    (heads-ok (seen head) (seen now) (map seen tails) (map seen tails) t refl sets)

pub slots-err : {R T E : Type 0} {obeys : Bool} {at word : ℕ} (seen : R → Seen WordStep)
    (head now : R) (tails news : List R) (e : E) {asked_old asked_new : List Asked} →
    SetsWord {T = T} {E = E} obeys at word (Err e) asked_old (seen head) asked_new (seen now) →
    news ≡ now ∷ tails →
    SetsHead obeys at word plain-err asked_old (map seen (head ∷ tails)) asked_new (map seen news)
slots-err {R} {T} {E} {obeys} {at} {word} seen head now tails news e {asked_old} {asked_new}
    sets is =
    subst (λ (xs : List R). SetsHead obeys at word plain-err asked_old (map seen (head ∷ tails))
    asked_new (map seen xs)) (sym is)
    (heads-err (seen head) (seen now) (map seen tails) (map seen tails) e refl sets)
