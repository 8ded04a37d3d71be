-- What a call on a chain is asked, and what it answers.
use Rattle.std.proofs.Common.{ℕ, ◌+◌, ◌<◌, ◌≤◌, ◌≡◌, ◌∙◌, Bool, true, false, List, [], ◌∷◌, ◌++◌, length, drop, map, reverse, inl, inr, Result, Ok, Err, IfOk, is_ok, sym, ap, subst, arith}
use Rattle.std.proofs.lemmas.List.{length-map, reverse-append, reverse-reverse}
use Rattle.cfs_file.specs.declared.request.Request.{Request}
use Rattle.cfs_file.specs.declared.request.Request.TheVariants.{Write, Append, Truncate, Read, Sync}
use Rattle.cfs_pmem.specs.declared.trace.Asked.{Asked}
use Rattle.cfs_pmem.specs.Images.{Seen, WordStep, words_of}
use Rattle.cfs_vec.specs.declared.fixed_vec.FixedVec.{FixedVec}
use Rattle.cfs_slot.specs.declared.slot.Slot.{Slot}
use Rattle.cfs_slot.specs.declared.staged.Staged.{Staged}
use Rattle.cfs_slot.specs.Operations.{stage_ops, head_ops}
use Rattle.cfs_slot.specs.Regions.{devices_in, of_staged, slot_numbers, tails_of_staged, words_in}
use Rattle.cfs_slot.specs.Staging.{IsStageable, IsLong, IsStaged, IsStagedLong, slots_for, staged_payload, staged_request}
use Rattle.cfs_slot.specs.Tails.{AreAbove, number_of}
use Rattle.cfs_slot.specs.Words.{request_of}
use Rattle.cfs_long.specs.After.{after_chain}
use Rattle.cfs_long.specs.Chain.{AreChain, HasCauseAmong, IsChained, StagesSlot, StagesTails, StagesChain, short_staged, short_refused, tail_refused, head_refused, long_staged, went_well, refused}
use Rattle.cfs_long.proofs.ChainLemmas.{chain_kept, chain_rose, tails_same}

pub is_short : (request : Request) → IsChained request → (IsLong request → ⊥) → IsStageable request
is_short request (inl short) not_long = short
is_short request (inr long) not_long = absurd (not_long long)

pub not_both : (request : Request) → IsStageable request → IsLong request → ⊥
not_both (Write offset bytes) short long = omega (arith, short.1, long.0)
not_both (Append bytes) short long = omega (arith, short.1, long.0)
not_both (Truncate n) short long = long
not_both (Read offset count) short long = long
not_both Sync short long = long

-- the first of some slots whose order was turned round
pub first_of_all : {A R : Type 0} (f : A → R) (all turned rest : List A) (first : A) → turned ≡ reverse all → turned ≡ rest ++ first ∷ [] → map f all ≡ f first ∷ map f (reverse rest)
first_of_all f all turned rest first t p =
    ap (λ xs. map f xs) (sym (reverse-reverse all) ∙ ap (λ xs. reverse xs) (sym t ∙ p) ∙ reverse-append rest (first ∷ []))

-- How many slots are left for the tails.

pub few_left : (all rest bytes : ℕ) → all ≡ rest + 1 → all ≡ slots_for bytes → bytes ≤ 65536 → rest ≤ 15
few_left all rest bytes one count most = omega (arith, one, count, most)

pub none_left : (all rest bytes : ℕ) → all ≡ rest + 1 → all ≡ slots_for bytes → bytes ≤ 4096 → rest ≡ 0
none_left all rest bytes one count most = omega (arith, one, count, most)

pub count_left : (all rest bytes left : ℕ) → all ≡ rest + 1 → all ≡ slots_for bytes → 4096 < bytes → left + 4096 ≡ bytes → rest ≡ slots_for left
count_left all rest bytes left one count long size = omega (arith, one, count, long, size)

-- A request in one slot.

pub short_ok : {R : Type 0} {seen : R → Seen WordStep} {faults : R → ℕ} {obeys : Bool} {ino grant : ℕ} {request : Request} {asked last : List Asked} {old new : R} (olds tails : List R)
    → olds ≡ old ∷ [] → tails ≡ [] → IsStageable request → StagesSlot seen faults obeys (stage_ops ino request grant) went_well asked old last new
    → StagesChain seen faults obeys ino grant request (slot_numbers seen (drop 1 olds)) true asked olds last (new ∷ tails)
short_ok {R} {seen} {faults} {obeys} {ino} {grant} {request} {asked} {last} {old} {new} olds tails o t short writes =
    subst (λ xs. StagesChain seen faults obeys ino grant request (slot_numbers seen (drop 1 xs)) true asked xs last (new ∷ tails)) (sym o)
    (subst (λ xs. StagesChain seen faults obeys ino grant request [] true asked (old ∷ []) last (new ∷ xs)) (sym t) (short_staged short writes))

pub short_err : {R : Type 0} {seen : R → Seen WordStep} {faults : R → ℕ} {obeys : Bool} {ino grant : ℕ} {request : Request} {asked last : List Asked} {old new : R} (olds news : List R)
    → olds ≡ old ∷ [] → news ≡ new ∷ [] → IsStageable request → StagesSlot seen faults obeys (stage_ops ino request grant) refused asked old last new
    → StagesChain seen faults obeys ino grant request (slot_numbers seen (drop 1 olds)) false asked olds last news
short_err {R} {seen} {faults} {obeys} {ino} {grant} {request} {asked} {last} {old} {new} olds news o n short writes =
    subst (λ xs. StagesChain seen faults obeys ino grant request (slot_numbers seen (drop 1 xs)) false asked xs last news) (sym o)
    (subst (λ xs. StagesChain seen faults obeys ino grant request [] false asked (old ∷ []) last xs) (sym n) (short_refused short writes))

-- A request in several.

pub tail_err : {R : Type 0} {seen : R → Seen WordStep} {faults : R → ℕ} {obeys : Bool} {ino grant : ℕ} {request : Request} {bytes : List ℕ} {asked last : List Asked} {head : R} {others rest : List R} (olds news : List R)
    → olds ≡ head ∷ others → news ≡ head ∷ rest → bytes ≡ drop 4096 (staged_payload request) → IsLong request → StagesTails seen faults obeys ino grant bytes false asked others last rest
    → StagesChain seen faults obeys ino grant request (slot_numbers seen (drop 1 olds)) false asked olds last news
tail_err {R} {seen} {faults} {obeys} {ino} {grant} {request} {bytes} {asked} {last} {head} {others} {rest} olds news o n b long tails =
    subst (λ xs. StagesChain seen faults obeys ino grant request (slot_numbers seen (drop 1 xs)) false asked xs last news) (sym o)
    (subst (λ xs. StagesChain seen faults obeys ino grant request (slot_numbers seen others) false asked (head ∷ others) last xs) (sym n)
    (tail_refused long (subst (λ x. StagesTails seen faults obeys ino grant x false asked others last rest) b tails)))

-- the numbers of the tails are those of their slots
numbers_same : {R : Type 0} {seen : R → Seen WordStep} {faults : R → ℕ} {obeys : Bool} {ino grant : ℕ} {bytes : List ℕ} {asked mid : List Asked} {others parts : List R}
    → StagesTails seen faults obeys ino grant bytes true asked others mid parts → slot_numbers seen parts ≡ slot_numbers seen others
numbers_same tails = tails_same (λ d also. number_of d) tails

pub head_err : {R : Type 0} {seen : R → Seen WordStep} {faults : R → ℕ} {obeys : Bool} {ino grant : ℕ} {request : Request} {bytes : List ℕ} {asked mid last : List Asked} {old new : R} {others parts : List R} (olds news : List R)
    → olds ≡ old ∷ others → news ≡ new ∷ parts → bytes ≡ drop 4096 (staged_payload request) → IsLong request → StagesTails seen faults obeys ino grant bytes true asked others mid parts
    → StagesSlot seen faults obeys (head_ops ino request grant (slot_numbers seen parts)) refused mid old last new
    → StagesChain seen faults obeys ino grant request (slot_numbers seen (drop 1 olds)) false asked olds last news
head_err {R} {seen} {faults} {obeys} {ino} {grant} {request} {bytes} {asked} {mid} {last} {old} {new} {others} {parts} olds news o n b long tails writes =
    subst (λ xs. StagesChain seen faults obeys ino grant request (slot_numbers seen (drop 1 xs)) false asked xs last news) (sym o)
    (subst (λ xs. StagesChain seen faults obeys ino grant request (slot_numbers seen others) false asked (old ∷ others) last xs) (sym n)
    (head_refused long (subst (λ x. StagesTails seen faults obeys ino grant x true asked others mid parts) b tails)
    (subst (λ ns. StagesSlot seen faults obeys (head_ops ino request grant ns) refused mid old last new) (numbers_same tails) writes)))

pub head_ok : {R : Type 0} {seen : R → Seen WordStep} {faults : R → ℕ} {obeys : Bool} {ino grant : ℕ} {request : Request} {bytes : List ℕ} {asked mid last : List Asked} {old new : R} {others parts : List R} (olds tails_now : List R)
    → olds ≡ old ∷ others → tails_now ≡ parts → bytes ≡ drop 4096 (staged_payload request) → IsLong request → StagesTails seen faults obeys ino grant bytes true asked others mid parts
    → StagesSlot seen faults obeys (head_ops ino request grant (slot_numbers seen parts)) went_well mid old last new
    → StagesChain seen faults obeys ino grant request (slot_numbers seen (drop 1 olds)) true asked olds last (new ∷ tails_now)
head_ok {R} {seen} {faults} {obeys} {ino} {grant} {request} {bytes} {asked} {mid} {last} {old} {new} {others} {parts} olds tails_now o n b long tails writes =
    subst (λ xs. StagesChain seen faults obeys ino grant request (slot_numbers seen (drop 1 xs)) true asked xs last (new ∷ tails_now)) (sym o)
    (subst (λ xs. StagesChain seen faults obeys ino grant request (slot_numbers seen others) true asked (old ∷ others) last (new ∷ xs)) (sym n)
    (long_staged long (subst (λ x. StagesTails seen faults obeys ino grant x true asked others mid parts) b tails)
    (subst (λ ns. StagesSlot seen faults obeys (head_ops ino request grant ns) went_well mid old last new) (numbers_same tails) writes)))

-- the tails stand above the head
pub tails_above : {R : Type 0} {seen : R → Seen WordStep} {faults : R → ℕ} {obeys : Bool} {ino grant : ℕ} {bytes : List ℕ} {asked mid : List Asked} {head : R} {others parts : List R} (olds : List R)
    → olds ≡ head ∷ others → AreChain (devices_in seen olds) → StagesTails seen faults obeys ino grant bytes true asked others mid parts → AreAbove (seen head).device (devices_in seen parts)
tails_above {R} {seen} {faults} {obeys} {ino} {grant} {bytes} {asked} {mid} {head} {others} {parts} olds o chain tails =
    subst (λ ds. AreAbove (seen head).device ds) (sym (tails_same (λ d also. d) tails)) (subst (λ xs. AreChain (devices_in seen xs)) o chain)

pub tails_length : {R : Type 0} {seen : R → Seen WordStep} {faults : R → ℕ} {obeys : Bool} {ino grant : ℕ} {bytes : List ℕ} {whole : Bool} {asked last : List Asked} {olds news : List R}
    → StagesTails seen faults obeys ino grant bytes whole asked olds last news → length news ≡ length olds
tails_length {seen = seen} {olds = olds} {news = news} tails =
    sym (length-map news (λ r. (seen r).device)) ∙ ap (λ ds. length ds) (tails_same (λ d also. d) tails) ∙ length-map olds (λ r. (seen r).device)

-- What the clauses say of either answer.

pub cause_of : {R : Type 0} {g : _} {N : ℕ} {seen : R → Seen WordStep} {faults : R → ℕ} {obeys : Bool} {ino grant : ℕ} {request : Request} {numbers : List ℕ} {asked last : List Asked} {olds : List R}
    (result : Result (Staged R g) (FixedVec (Slot R g) N)) → StagesChain seen faults obeys ino grant request numbers (is_ok result) asked olds last (after_chain result)
    → HasCauseAmong (map (λ r. faults r) olds) (map (λ r. faults r) (after_chain result)) result
cause_of (Ok staged) chain = record { failed = tt; passed = chain_kept chain }
cause_of (Err slots) chain = record { failed = chain_rose chain; passed = tt }

pub whole_short : {R : Type 0} {g : _} {N : ℕ} (seen : R → Seen WordStep) (ino grant : ℕ) (request : Request) (result : Result (Staged R g) (FixedVec (Slot R g) N))
    → IfOk result (λ staged. IsStaged ino request grant (words_of (seen (of_staged staged)))) → IfOk result (λ staged. tails_of_staged staged ≡ [])
    → IfOk result (λ staged. request_of (words_of (seen (of_staged staged))) (words_in seen (tails_of_staged staged)) ≡ staged_request request)
whole_short seen ino grant request (Ok staged) is none = ap (λ ts. request_of (words_of (seen staged.region)) (words_in seen ts)) none ∙ is.stands_for
whole_short seen ino grant request (Err slots) is none = tt

pub whole_long : {R : Type 0} {g : _} {N : ℕ} (seen : R → Seen WordStep) (ino grant : ℕ) (request : Request) (result : Result (Staged R g) (FixedVec (Slot R g) N))
    → IfOk result (λ staged. IsStagedLong ino request grant (slot_numbers seen (tails_of_staged staged)) (words_of (seen (of_staged staged))) (words_in seen (tails_of_staged staged)))
    → IfOk result (λ staged. request_of (words_of (seen (of_staged staged))) (words_in seen (tails_of_staged staged)) ≡ staged_request request)
whole_long seen ino grant request (Ok staged) is = is.stands_for
whole_long seen ino grant request (Err slots) is = tt
