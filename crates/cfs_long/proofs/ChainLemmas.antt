-- Slots that are staged in turn.
use Rattle.std.proofs.Common.{ℕ, ◌<◌, ◌≡◌, ◌∙◌, Bool, true, false, List, [], ◌∷◌, length, take, drop, map, Ok, Err, refl, sym, ap, subst}
use Rattle.cfs_file.specs.declared.request.Request.{Request}
use Rattle.cfs_pmem.specs.declared.trace.Asked.{Asked}
use Rattle.cfs_pmem.specs.Faults.{HasCause}
use Rattle.cfs_pmem.specs.Images.{Seen, WordStep, words_of}
use Rattle.cfs_pmem.specs.WordOps.{WordOp}
use Rattle.cfs_slot.specs.Operations.{part_ops}
use Rattle.cfs_slot.specs.Staging.{AreParts, IsPart}
use Rattle.cfs_slot.specs.Regions.{devices_in, words_in}
use Rattle.cfs_slot.specs.Writing.{WritesSlot}
use Rattle.cfs_slot.proofs.WritingLemmas.{writes_err, writes_ok}
use Rattle.cfs_long.specs.Chain.{StagesSlot, StagesTails, all_staged, one_staged, one_refused, StagesChain, short_staged, short_refused, tail_refused, head_refused, long_staged, OneRose, first_rose, later_rose, went_well, refused}

-- a call on one slot, without the values of its answer

pub slot_ok : {T E R : Type 0} {seen : R → Seen WordStep} {faults : R → ℕ} {obeys : Bool} {ops same : List WordOp} {t : T} {asked last : List Asked} {old new : R} → ops ≡ same
    → WritesSlot {T = T} {E = E} obeys ops (Ok t) asked (seen old) last (seen new) → HasCause {T = T} {E = E} (faults old) (faults new) (Ok t) → StagesSlot seen faults obeys same went_well asked old last new
slot_ok e writes cause = record {
  writes = writes_ok tt e writes;
  cause = record { later = cause.later; failed = tt; passed = cause.passed };
}

pub slot_err : {T E R : Type 0} {seen : R → Seen WordStep} {faults : R → ℕ} {obeys : Bool} {ops same : List WordOp} {e : E} {asked last : List Asked} {old new : R} → ops ≡ same
    → WritesSlot {T = T} {E = E} obeys ops (Err e) asked (seen old) last (seen new) → HasCause {T = T} {E = E} (faults old) (faults new) (Err e) → StagesSlot seen faults obeys same refused asked old last new
slot_err e writes cause = record {
  writes = writes_err tt e writes;
  cause = record { later = cause.later; failed = cause.failed; passed = tt };
}

one_same : {R X : Type 0} (f : ℕ → List ℕ → X) (seen : R → Seen WordStep) (old new : R) (olds news : List R) → (seen new).device ≡ (seen old).device → (seen new).also ≡ (seen old).also
    → map (λ r. f (seen r).device (seen r).also) news ≡ map (λ r. f (seen r).device (seen r).also) olds
    → map (λ r. f (seen r).device (seen r).also) (new ∷ news) ≡ map (λ r. f (seen r).device (seen r).also) (old ∷ olds)
one_same f seen old new olds news d a rest =
    ap (λ n. f n (seen new).also ∷ map (λ r. f (seen r).device (seen r).also) news) d
    ∙ ap (λ n. f (seen old).device n ∷ map (λ r. f (seen r).device (seen r).also) news) a
    ∙ ap (λ ns. f (seen old).device (seen old).also ∷ ns) rest

-- the next part, which is a front of the bytes
pub next_staged : {R : Type 0} {seen : R → Seen WordStep} {faults : R → ℕ} {obeys : Bool} {ino grant : ℕ} {bytes part behind : List ℕ} {whole : Bool} {asked mid last : List Asked} {old new : R} {olds news : List R}
    → 0 < length bytes → part ≡ take 4096 bytes → behind ≡ drop 4096 bytes
    → StagesSlot seen faults obeys (part_ops ino part grant) went_well asked old mid new → IsPart ino part grant (words_of (seen new))
    → StagesTails seen faults obeys ino grant behind whole mid olds last news → StagesTails seen faults obeys ino grant bytes whole asked (old ∷ olds) last (new ∷ news)
next_staged {R} {seen} {faults} {obeys} {ino} {grant} {bytes} {part} {behind} {whole} {asked} {mid} {last} {old} {new} {olds} {news} some p b writes is rest =
    one_staged some
    (subst (λ x. StagesSlot seen faults obeys (part_ops ino x grant) went_well asked old mid new) p writes)
    (subst (λ x. IsPart ino x grant (words_of (seen new))) p is)
    (subst (λ x. StagesTails seen faults obeys ino grant x whole mid olds last news) b rest)

pub next_refused : {R : Type 0} {seen : R → Seen WordStep} {faults : R → ℕ} {obeys : Bool} {ino grant : ℕ} {bytes part : List ℕ} {asked last : List Asked} {old new : R} {olds : List R}
    → 0 < length bytes → part ≡ take 4096 bytes → StagesSlot seen faults obeys (part_ops ino part grant) refused asked old last new
    → StagesTails seen faults obeys ino grant bytes false asked (old ∷ olds) last (new ∷ olds)
next_refused {R} {seen} {faults} {obeys} {ino} {grant} {bytes} {part} {asked} {last} {old} {new} some p writes =
    one_refused some (subst (λ x. StagesSlot seen faults obeys (part_ops ino x grant) refused asked old last new) p writes)

-- tails that are all staged hold the bytes
pub parts_are : {R : Type 0} {seen : R → Seen WordStep} {faults : R → ℕ} {obeys : Bool} {ino grant : ℕ} {bytes : List ℕ} {asked last : List Asked} {olds news : List R}
    → StagesTails seen faults obeys ino grant bytes true asked olds last news → AreParts ino grant bytes (words_in seen news)
parts_are all_staged = refl
parts_are (one_staged some writes part rest) = (some, part, parts_are rest)

-- what is told by the device numbers of each slot stays as it was
pub tails_same : {R X : Type 0} {seen : R → Seen WordStep} {faults : R → ℕ} {obeys : Bool} {ino grant : ℕ} {bytes : List ℕ} {whole : Bool} {asked last : List Asked} {olds news : List R} (f : ℕ → List ℕ → X)
    → StagesTails seen faults obeys ino grant bytes whole asked olds last news → map (λ r. f (seen r).device (seen r).also) news ≡ map (λ r. f (seen r).device (seen r).also) olds
tails_same f all_staged = refl
tails_same {seen = seen} {faults = faults} {olds = old ∷ olds} {news = new ∷ news} f (one_staged some writes part rest) =
    one_same f seen old new olds news writes.writes.moments.same writes.writes.moments.same_also (tails_same f rest)
tails_same {seen = seen} {faults = faults} {olds = old ∷ olds} {news = new ∷ same} f (one_refused some writes) =
    one_same f seen old new olds olds writes.writes.moments.same writes.writes.moments.same_also refl

pub chain_same : {R : Type 0} {seen : R → Seen WordStep} {faults : R → ℕ} {obeys : Bool} {ino grant : ℕ} {request : Request} {numbers : List ℕ} {whole : Bool} {asked last : List Asked} {olds news : List R}
    → StagesChain seen faults obeys ino grant request numbers whole asked olds last news → devices_in seen news ≡ devices_in seen olds
chain_same (short_staged short writes) = ap (λ d. d ∷ []) writes.writes.moments.same
chain_same (short_refused short writes) = ap (λ d. d ∷ []) writes.writes.moments.same
chain_same {seen = seen} {faults = faults} {olds = head ∷ olds} {news = same ∷ news} (tail_refused long tails) =
    ap (λ ds. (seen head).device ∷ ds) (tails_same (λ d also. d) tails)
chain_same {seen = seen} {faults = faults} {olds = old ∷ olds} {news = new ∷ news} (head_refused long tails writes) =
    one_same (λ d also. d) seen old new olds news writes.writes.moments.same writes.writes.moments.same_also (tails_same (λ d also. d) tails)
chain_same {seen = seen} {faults = faults} {olds = old ∷ olds} {news = new ∷ news} (long_staged long tails writes) =
    one_same (λ d also. d) seen old new olds news writes.writes.moments.same writes.writes.moments.same_also (tails_same (λ d also. d) tails)

-- The counts of faults.

tails_kept : {R : Type 0} {seen : R → Seen WordStep} {faults : R → ℕ} {obeys : Bool} {ino grant : ℕ} {bytes : List ℕ} {asked last : List Asked} {olds news : List R}
    → StagesTails seen faults obeys ino grant bytes true asked olds last news → map (λ r. faults r) news ≡ map (λ r. faults r) olds
tails_kept all_staged = refl
tails_kept {seen = seen} {faults = faults} {olds = old ∷ olds} {news = new ∷ news} (one_staged some writes part rest) =
    ap (λ n. n ∷ map (λ r. faults r) news) writes.cause.passed ∙ ap (λ ns. faults old ∷ ns) (tails_kept rest)

tails_rose : {R : Type 0} {seen : R → Seen WordStep} {faults : R → ℕ} {obeys : Bool} {ino grant : ℕ} {bytes : List ℕ} {asked last : List Asked} {olds news : List R}
    → StagesTails seen faults obeys ino grant bytes false asked olds last news → OneRose (map (λ r. faults r) olds) (map (λ r. faults r) news)
tails_rose {seen = seen} {faults = faults} {olds = old ∷ olds} {news = new ∷ news} (one_staged some writes part rest) =
    subst (λ n. OneRose (faults old ∷ map (λ r. faults r) olds) (n ∷ map (λ r. faults r) news)) (sym writes.cause.passed) (later_rose (tails_rose rest))
tails_rose (one_refused some writes) = first_rose writes.cause.later writes.cause.failed

pub chain_kept : {R : Type 0} {seen : R → Seen WordStep} {faults : R → ℕ} {obeys : Bool} {ino grant : ℕ} {request : Request} {numbers : List ℕ} {asked last : List Asked} {olds news : List R}
    → StagesChain seen faults obeys ino grant request numbers true asked olds last news → map (λ r. faults r) news ≡ map (λ r. faults r) olds
chain_kept (short_staged short writes) = ap (λ n. n ∷ []) writes.cause.passed
chain_kept {seen = seen} {faults = faults} {olds = old ∷ olds} {news = new ∷ news} (long_staged long tails writes) =
    ap (λ n. n ∷ map (λ r. faults r) news) writes.cause.passed ∙ ap (λ ns. faults old ∷ ns) (tails_kept tails)

pub chain_rose : {R : Type 0} {seen : R → Seen WordStep} {faults : R → ℕ} {obeys : Bool} {ino grant : ℕ} {request : Request} {numbers : List ℕ} {asked last : List Asked} {olds news : List R}
    → StagesChain seen faults obeys ino grant request numbers false asked olds last news → OneRose (map (λ r. faults r) olds) (map (λ r. faults r) news)
chain_rose (short_refused short writes) = first_rose writes.cause.later writes.cause.failed
chain_rose (tail_refused long tails) = later_rose (tails_rose tails)
chain_rose {seen = seen} {faults = faults} {olds = old ∷ olds} {news = new ∷ news} (head_refused long tails writes) =
    subst (λ ns. OneRose (faults old ∷ map (λ r. faults r) olds) (faults new ∷ ns)) (sym (tails_kept tails)) (first_rose writes.cause.later writes.cause.failed)
