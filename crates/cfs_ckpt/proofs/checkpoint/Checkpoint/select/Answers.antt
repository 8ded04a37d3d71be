use Rattle.std.proofs.Common.{◌≡◌, ◌∷◌, ◌∙◌, ◌+◌, ◌*◌, ◌<◌, ℕ, List, true, false, Ok, Err, refl, length, map, ap, arith, subst, sym}
use Rattle.std.proofs.Math.ListN.{set}
use Rattle.std.proofs.lemmas.Result.{err_from_is_err_and}
use Rattle.cfs_pmem.specs.declared.fault.DeviceFault.{DeviceFault}
use Rattle.cfs_pmem.specs.Images.{Seen, WordStep, devices_of, words_of, wrote, failed, kept, IsImage}
use Rattle.cfs_pmem.specs.WordOps.{SetsWord}
use Rattle.cfs_pmem.proofs.ImageLemmas.{all_failed}
use Rattle.cfs_pmem.proofs.WordLemmas.{set_at_persist, set_at_write, set_whole}
use Rattle.cfs_ckpt.specs.Selects.{Selects}
use Rattle.cfs_ckpt.specs.Stores.{free_copy, word_for}
use Rattle.cfs_ckpt.proofs.PlacedLemmas.{caused_after, caused_at}
use Rattle.cfs_ckpt.proofs.SelectLemmas.{select_does, select_loads, select_moments, select_stands, selector_stays}
use Rattle.cfs_ckpt.proofs.checkpoint.Checkpoint.select.Goals as goal

pub invariant_of-self : goal.invariant_of-self
invariant_of-self g c =
    let see = g.R.Region.seen in
    let self = c.args.self.now in
    record {
      standing = selector_stays true (see c.write.new.self) self.standing (ap (λ (s : Seen WordStep). words_of s) c.in_err-write.ensures.err)
          (ap (λ (s : Seen WordStep). devices_of s) c.in_err-write.ensures.err) (λ is. cc)
          (all_failed (IsImage (see self.selector).history) (see self.selector) c.in_err-write.ensures.err (λ image h. h));
    }

pub returns-in_err-write-clause-does : goal.returns-in_err-write-clause-does
returns-in_err-write-clause-does g c = λ obeys.
    let see = g.R.Region.seen in
    let self = c.args.self.now in
    let p = err_from_is_err_and c.from_residual.result c.from_residual.ensures.1 in
    let h : SetsWord g.R.Region.obeys_power 0 (word_for c.args.through (free_copy self.word)) c.from_residual.result (g.P.Power.asked c.args.power.now) (see self.selector) (g.P.Power.asked c.write.new.power) (see c.write.new.self) =
    set_at_write p.0 p.1 (omega (arith, ap (λ (ws : List ℕ). length ws) self.standing.selector)) c.in_err-write.ensures.err c.write.ensures.asks c.in_err-write.ensures.asked in
    select_does (see self.selector ∷ map see self.tables.items) (see c.write.new.self) c.from_residual.result self.standing.size h obeys

pub returns-in_err-write-clause-moments : goal.returns-in_err-write-clause-moments
returns-in_err-write-clause-moments g c =
    let see = g.R.Region.seen in
    let self = c.args.self.now in
    let olds : List (Seen WordStep) = see self.selector ∷ map see self.tables.items in
    let sure : Selects self.word false olds = subst (λ u. Selects self.word u olds) c.requires.settled self.standing in
    let p = err_from_is_err_and c.from_residual.result c.from_residual.ensures.1 in
    let h : SetsWord g.R.Region.obeys_power 0 (word_for c.args.through (free_copy self.word)) c.from_residual.result (g.P.Power.asked c.args.power.now) (see self.selector) (g.P.Power.asked c.write.new.power) (see c.write.new.self) =
    set_at_write p.0 p.1 (omega (arith, ap (λ (ws : List ℕ). length ws) self.standing.selector)) c.in_err-write.ensures.err c.write.ensures.asks c.in_err-write.ensures.asked in
    select_moments olds c.args.through (see c.write.new.self) sure c.requires.sure h

pub invariant_of-self-in-Break-branch-2 : goal.invariant_of-self-in-Break-branch-2
invariant_of-self-in-Break-branch-2 g c =
    let see = g.R.Region.seen in
    let self = c.args.self.now in
    let olds : List (Seen WordStep) = see self.selector ∷ map see self.tables.items in
    let sure : Selects self.word false olds = subst (λ u. Selects self.word u olds) c.requires.settled self.standing in
    let within : 0 < length (words_of (see self.selector)) = omega (arith, ap (λ (ws : List ℕ). length ws) self.standing.selector) in
    let next : c.args.through * 2 + c.free_copy.result ≡ word_for c.args.through (free_copy self.word) = ap (λ (n : ℕ). c.args.through * 2 + n) c.free_copy.ensures in
    let written : see c.write.new.self ≡ wrote 0 (word_for c.args.through (free_copy self.word)) (see self.selector) = c.in_ok-write.ensures.ok ∙ ap (λ (n : ℕ). wrote 0 n (see self.selector)) next in
    let words : words_of (see c.persist.new.self) ≡ set (words_of (see self.selector)) 0 (word_for c.args.through (free_copy self.word)) = ap (λ (s : Seen WordStep). words_of s) (c.in_err-persist.ensures.err ∙ ap (λ s. failed s) written) in
    let h : SetsWord {T = Unit {0}} {E = DeviceFault} g.R.Region.obeys_power 0 (word_for c.args.through (free_copy self.word)) (Err c.in_err-persist.field-0.0) (g.P.Power.asked c.args.power.now) (see self.selector) (g.P.Power.asked c.persist.new.power) (see c.persist.new.self) =
    set_at_persist c.in_err-persist.field-0.0 refl within written c.write.ensures.asks c.in_ok-write.ensures.asked c.in_err-persist.ensures.err c.persist.ensures.asks c.in_err-persist.ensures.asked in
    record {
      standing = subst (λ n. Selects n true (see c.persist.new.self ∷ map see self.tables.items)) (sym next)
          (select_stands olds c.args.through true (see c.persist.new.self) sure c.requires.sure words (λ is. cc) h);
    }

pub returns-in_err-persist-clause-does : goal.returns-in_err-persist-clause-does
returns-in_err-persist-clause-does g c = λ obeys.
    let see = g.R.Region.seen in
    let self = c.args.self.now in
    let olds : List (Seen WordStep) = see self.selector ∷ map see self.tables.items in
    let sure : Selects self.word false olds = subst (λ u. Selects self.word u olds) c.requires.settled self.standing in
    let within : 0 < length (words_of (see self.selector)) = omega (arith, ap (λ (ws : List ℕ). length ws) self.standing.selector) in
    let next : c.args.through * 2 + c.free_copy.result ≡ word_for c.args.through (free_copy self.word) = ap (λ (n : ℕ). c.args.through * 2 + n) c.free_copy.ensures in
    let written : see c.write.new.self ≡ wrote 0 (word_for c.args.through (free_copy self.word)) (see self.selector) = c.in_ok-write.ensures.ok ∙ ap (λ (n : ℕ). wrote 0 n (see self.selector)) next in
    let p = err_from_is_err_and c.from_residual-in_err-persist.result c.from_residual-in_err-persist.ensures.1 in
    let h : SetsWord {T = Unit {0}} {E = DeviceFault} g.R.Region.obeys_power 0 (word_for c.args.through (free_copy self.word)) c.from_residual-in_err-persist.result (g.P.Power.asked c.args.power.now) (see self.selector) (g.P.Power.asked c.persist.new.power) (see c.persist.new.self) =
    set_at_persist p.0 p.1 within written c.write.ensures.asks c.in_ok-write.ensures.asked c.in_err-persist.ensures.err c.persist.ensures.asks c.in_err-persist.ensures.asked in
    select_does olds (see c.persist.new.self) c.from_residual-in_err-persist.result self.standing.size h obeys

pub returns-in_err-persist-clause-moments : goal.returns-in_err-persist-clause-moments
returns-in_err-persist-clause-moments g c =
    let see = g.R.Region.seen in
    let self = c.args.self.now in
    let olds : List (Seen WordStep) = see self.selector ∷ map see self.tables.items in
    let sure : Selects self.word false olds = subst (λ u. Selects self.word u olds) c.requires.settled self.standing in
    let within : 0 < length (words_of (see self.selector)) = omega (arith, ap (λ (ws : List ℕ). length ws) self.standing.selector) in
    let next : c.args.through * 2 + c.free_copy.result ≡ word_for c.args.through (free_copy self.word) = ap (λ (n : ℕ). c.args.through * 2 + n) c.free_copy.ensures in
    let written : see c.write.new.self ≡ wrote 0 (word_for c.args.through (free_copy self.word)) (see self.selector) = c.in_ok-write.ensures.ok ∙ ap (λ (n : ℕ). wrote 0 n (see self.selector)) next in
    let p = err_from_is_err_and c.from_residual-in_err-persist.result c.from_residual-in_err-persist.ensures.1 in
    let h : SetsWord {T = Unit {0}} {E = DeviceFault} g.R.Region.obeys_power 0 (word_for c.args.through (free_copy self.word)) c.from_residual-in_err-persist.result (g.P.Power.asked c.args.power.now) (see self.selector) (g.P.Power.asked c.persist.new.power) (see c.persist.new.self) =
    set_at_persist p.0 p.1 within written c.write.ensures.asks c.in_ok-write.ensures.asked c.in_err-persist.ensures.err c.persist.ensures.asks c.in_err-persist.ensures.asked in
    select_moments olds c.args.through (see c.persist.new.self) sure c.requires.sure h

pub returns-in_err-persist-clause-cause : goal.returns-in_err-persist-clause-cause
returns-in_err-persist-clause-cause g c =
    let faults = g.R.Region.faults in
    let self = c.args.self.now in
    let p = err_from_is_err_and c.from_residual-in_err-persist.result c.from_residual-in_err-persist.ensures.1 in
    caused_at (faults self.selector ∷ map faults self.tables.items) 0 (faults c.persist.new.self) c.from_residual-in_err-persist.result (omega arith)
    (caused_after tt c.in_err-persist.field-0.0 p.0 p.1 c.in_ok-write.ensures.cause c.in_err-persist.ensures.cause)

pub invariant_of-self-2 : goal.invariant_of-self-2
invariant_of-self-2 g c =
    let see = g.R.Region.seen in
    let self = c.args.self.now in
    let olds : List (Seen WordStep) = see self.selector ∷ map see self.tables.items in
    let sure : Selects self.word false olds = subst (λ u. Selects self.word u olds) c.requires.settled self.standing in
    let within : 0 < length (words_of (see self.selector)) = omega (arith, ap (λ (ws : List ℕ). length ws) self.standing.selector) in
    let next : c.args.through * 2 + c.free_copy.result ≡ word_for c.args.through (free_copy self.word) = ap (λ (n : ℕ). c.args.through * 2 + n) c.free_copy.ensures in
    let written : see c.write.new.self ≡ wrote 0 (word_for c.args.through (free_copy self.word)) (see self.selector) = c.in_ok-write.ensures.ok ∙ ap (λ (n : ℕ). wrote 0 n (see self.selector)) next in
    let words : words_of (see c.persist.new.self) ≡ set (words_of (see self.selector)) 0 (word_for c.args.through (free_copy self.word)) = ap (λ (s : Seen WordStep). words_of s) (c.in_ok-persist.ensures.ok ∙ ap (λ s. kept s) written) in
    let h : SetsWord {T = Unit {0}} {E = DeviceFault} g.R.Region.obeys_power 0 (word_for c.args.through (free_copy self.word)) (Ok tt) (g.P.Power.asked c.args.power.now) (see self.selector) (g.P.Power.asked c.persist.new.power) (see c.persist.new.self) =
    set_whole tt within written c.write.ensures.asks c.in_ok-write.ensures.asked c.in_ok-persist.ensures.ok c.persist.ensures.asks c.in_ok-persist.ensures.asked in
    record {
      standing = subst (λ n. Selects n false (see c.persist.new.self ∷ map see self.tables.items)) (sym next)
          (select_stands olds c.args.through false (see c.persist.new.self) sure c.requires.sure words (λ is. h.sure) h);
    }

pub returns-clause-selected : goal.returns-clause-selected
returns-clause-selected g c =
    let see = g.R.Region.seen in
    let self = c.args.self.now in
    let olds : List (Seen WordStep) = see self.selector ∷ map see self.tables.items in
    let sure : Selects self.word false olds = subst (λ u. Selects self.word u olds) c.requires.settled self.standing in
    let within : 0 < length (words_of (see self.selector)) = omega (arith, ap (λ (ws : List ℕ). length ws) self.standing.selector) in
    let next : c.args.through * 2 + c.free_copy.result ≡ word_for c.args.through (free_copy self.word) = ap (λ (n : ℕ). c.args.through * 2 + n) c.free_copy.ensures in
    let written : see c.write.new.self ≡ wrote 0 (word_for c.args.through (free_copy self.word)) (see self.selector) = c.in_ok-write.ensures.ok ∙ ap (λ (n : ℕ). wrote 0 n (see self.selector)) next in
    let words : words_of (see c.persist.new.self) ≡ set (words_of (see self.selector)) 0 (word_for c.args.through (free_copy self.word)) = ap (λ (s : Seen WordStep). words_of s) (c.in_ok-persist.ensures.ok ∙ ap (λ s. kept s) written) in
    let h : SetsWord {T = Unit {0}} {E = DeviceFault} g.R.Region.obeys_power 0 (word_for c.args.through (free_copy self.word)) (Ok tt) (g.P.Power.asked c.args.power.now) (see self.selector) (g.P.Power.asked c.persist.new.power) (see c.persist.new.self) =
    set_whole tt within written c.write.ensures.asks c.in_ok-write.ensures.asked c.in_ok-persist.ensures.ok c.persist.ensures.asks c.in_ok-persist.ensures.asked in
    select_loads olds c.args.through (see c.persist.new.self) sure c.requires.sure h.sure words

pub returns-clause-does : goal.returns-clause-does
returns-clause-does g c = λ obeys.
    let see = g.R.Region.seen in
    let self = c.args.self.now in
    let olds : List (Seen WordStep) = see self.selector ∷ map see self.tables.items in
    let sure : Selects self.word false olds = subst (λ u. Selects self.word u olds) c.requires.settled self.standing in
    let within : 0 < length (words_of (see self.selector)) = omega (arith, ap (λ (ws : List ℕ). length ws) self.standing.selector) in
    let next : c.args.through * 2 + c.free_copy.result ≡ word_for c.args.through (free_copy self.word) = ap (λ (n : ℕ). c.args.through * 2 + n) c.free_copy.ensures in
    let written : see c.write.new.self ≡ wrote 0 (word_for c.args.through (free_copy self.word)) (see self.selector) = c.in_ok-write.ensures.ok ∙ ap (λ (n : ℕ). wrote 0 n (see self.selector)) next in
    let h : SetsWord {T = Unit {0}} {E = DeviceFault} g.R.Region.obeys_power 0 (word_for c.args.through (free_copy self.word)) (Ok tt) (g.P.Power.asked c.args.power.now) (see self.selector) (g.P.Power.asked c.persist.new.power) (see c.persist.new.self) =
    set_whole tt within written c.write.ensures.asks c.in_ok-write.ensures.asked c.in_ok-persist.ensures.ok c.persist.ensures.asks c.in_ok-persist.ensures.asked in
    select_does olds (see c.persist.new.self) (Ok tt) self.standing.size h obeys

pub returns-clause-moments : goal.returns-clause-moments
returns-clause-moments g c =
    let see = g.R.Region.seen in
    let self = c.args.self.now in
    let olds : List (Seen WordStep) = see self.selector ∷ map see self.tables.items in
    let sure : Selects self.word false olds = subst (λ u. Selects self.word u olds) c.requires.settled self.standing in
    let within : 0 < length (words_of (see self.selector)) = omega (arith, ap (λ (ws : List ℕ). length ws) self.standing.selector) in
    let next : c.args.through * 2 + c.free_copy.result ≡ word_for c.args.through (free_copy self.word) = ap (λ (n : ℕ). c.args.through * 2 + n) c.free_copy.ensures in
    let written : see c.write.new.self ≡ wrote 0 (word_for c.args.through (free_copy self.word)) (see self.selector) = c.in_ok-write.ensures.ok ∙ ap (λ (n : ℕ). wrote 0 n (see self.selector)) next in
    let h : SetsWord {T = Unit {0}} {E = DeviceFault} g.R.Region.obeys_power 0 (word_for c.args.through (free_copy self.word)) (Ok tt) (g.P.Power.asked c.args.power.now) (see self.selector) (g.P.Power.asked c.persist.new.power) (see c.persist.new.self) =
    set_whole tt within written c.write.ensures.asks c.in_ok-write.ensures.asked c.in_ok-persist.ensures.ok c.persist.ensures.asks c.in_ok-persist.ensures.asked in
    select_moments olds c.args.through (see c.persist.new.self) sure c.requires.sure h
