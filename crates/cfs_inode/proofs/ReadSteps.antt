-- The reading steps of a read, block by block.
use Rattle.std.proofs.Common.{◌≡◌, ◌∙◌, ◌+◌, ◌-◌, ◌<◌, ◌≤◌, ◌++◌, ap, append_assoc, append-nil}
use Rattle.std.proofs.Common.{arith, drop, length, length-append, List, [], ◌∷◌, Ok, Err, Result}
use Rattle.std.proofs.Common.{false, subst, sym, ℕ, zero, suc}
use Rattle.std.specs.Prelude.{is_ok}
use Rattle.std.specs.List.{range_with_len}
use Rattle.std.proofs.Math.Seq.{drop-append-add}
use Rattle.std.proofs.lemmas.List.{drop-append-le, length-drop}
use Rattle.cfs_pmem.specs.declared.trace.Asked.{Asked}
use Rattle.cfs_pmem.specs.declared.trace.Asked.TheVariants.{Step}
use Rattle.cfs_pmem.specs.Operations.{all_allowed, last_refused}
use Rattle.cfs_pmem.proofs.CallLemmas.{all_allowed-append}
use Rattle.cfs_tracker.specs.Cells.{cell_at}
use Rattle.cfs_inode.specs.Serves.{CellsSeen, Reads, ReadsStop, home_device, home_devices, read_ask}

-- ---- the blocks up to one, and that one

pub range-one : (a n m : ℕ) → m ≡ n + 1 → range_with_len a m ≡ a ∷ range_with_len (a + 1) n
range-one a n zero is = absurd (omega (arith, is))
range-one a n (suc m) is =
    ap (λ k. a ∷ range_with_len (a + 1) k) (let same : m ≡ n = omega (arith, is) in same)

pub range-more : (a n : ℕ) → range_with_len a (n + 1) ≡ range_with_len a n ++ (a + n) ∷ []
range-more a zero =
    range-one a 0 (0 + 1) (omega arith)
    ∙ ap (λ k. k ∷ []) (let same : a ≡ a + 0 = omega arith in same)
range-more a (suc n) =
    range-one a (n + 1) (suc n + 1) (omega arith)
    ∙ ap (λ ks. a ∷ ks) (range-more (a + 1) n
    ∙ ap (λ k. range_with_len (a + 1) n ++ k ∷ [])
    (let same : a + 1 + n ≡ a + suc n = omega arith in same))

pub range-both : (a n m : ℕ) →
    range_with_len a (n + m) ≡ range_with_len a n ++ range_with_len (a + n) m
range-both a zero m =
    ap (λ k. range_with_len a k) (let same : 0 + m ≡ m = omega arith in same)
    ∙ ap (λ k. range_with_len k m) (let same : a ≡ a + 0 = omega arith in same)
range-both a (suc n) m =
    range-one a (n + m) (suc n + m) (omega arith)
    ∙ ap (λ ks. a ∷ ks) (range-both (a + 1) n m
    ∙ ap (λ k. range_with_len (a + 1) n ++ range_with_len k m)
    (let same : a + 1 + n ≡ a + suc n = omega arith in same))

pub devices-both : (cells : CellsSeen) (xs ys : List ℕ) →
    home_devices cells (xs ++ ys) ≡ home_devices cells ys ++ home_devices cells xs
devices-both cells [] ys = sym (append-nil (home_devices cells ys))
devices-both cells (x ∷ xs) ys =
    ap (λ ds. ds ++ home_device (cell_at cells x)) (devices-both cells xs ys)
    ∙ append_assoc (home_devices cells ys) (home_devices cells xs) (home_device (cell_at cells x))

-- ---- steps that stop

refused-more : (xs ys : List ℕ) → 0 < length xs →
    last_refused read_ask (xs ++ ys) ≡ last_refused read_ask xs ++ all_allowed read_ask ys
refused-more [] ys some = absurd (omega arith)
refused-more (x ∷ xs) ys some =
    ap (λ (s : List Asked). Step x false false ∷ s) (all_allowed-append read_ask xs ys)

-- behind steps that were all allowed
stops-behind : (xs ys : List ℕ) (asked_old asked_mid asked_new : List Asked) →
    asked_mid ≡ all_allowed read_ask ys ++ asked_old → ReadsStop xs asked_mid asked_new →
    ReadsStop (xs ++ ys) asked_old asked_new
stops-behind xs ys asked_old asked_mid asked_new mid stop =
    let some : 0 < length (drop stop.left xs) =
    omega (arith, stop.within, length-drop stop.left xs) in
    record {
      left = stop.left;
      within = omega (arith, stop.within, length-append xs ys);
      asked = stop.asked ∙ ap (λ s. last_refused read_ask (drop stop.left xs) ++ s) mid
          ∙ sym (append_assoc (last_refused read_ask (drop stop.left xs)) (all_allowed read_ask ys)
          asked_old)
          ∙ ap (λ s. s ++ asked_old) (sym (refused-more (drop stop.left xs) ys some))
          ∙ ap (λ ds. last_refused read_ask ds ++ asked_old)
          (sym (drop-append-le stop.left xs ys (omega (arith, stop.within))));
    }

-- and before others that were not come to
stops-before : (zs xs : List ℕ) (asked_old asked_new : List Asked) →
    ReadsStop xs asked_old asked_new → ReadsStop (zs ++ xs) asked_old asked_new
stops-before zs xs asked_old asked_new stop = record {
  left = length zs + stop.left;
  within = omega (arith, stop.within, length-append zs xs);
  asked = stop.asked ∙ ap (λ ds. last_refused read_ask ds ++ asked_old)
      (sym (drop-append-add zs xs stop.left));
}

-- ---- one block more

-- the steps of the blocks up to one
abbrev pub AreRead : CellsSeen → ℕ → ℕ → List Asked → List Asked → Type 0
AreRead cells a n asked_old asked_new =
    asked_new ≡ all_allowed read_ask (home_devices cells (range_with_len a n)) ++ asked_old

devices-more : (cells : CellsSeen) (a n : ℕ) →
    home_devices cells (range_with_len a (n + 1))
    ≡ home_device (cell_at cells (a + n)) ++ home_devices cells (range_with_len a n)
devices-more cells a n =
    ap (home_devices cells) (range-more a n)
    ∙ devices-both cells (range_with_len a n) ((a + n) ∷ [])

pub read-more : (cells : CellsSeen) (a n : ℕ) (asked_old asked_mid asked_new : List Asked) →
    AreRead cells a n asked_old asked_mid →
    asked_new ≡ all_allowed read_ask (home_device (cell_at cells (a + n))) ++ asked_mid →
    AreRead cells a (n + 1) asked_old asked_new
read-more cells a n asked_old asked_mid asked_new before more =
    let one = home_device (cell_at cells (a + n)) in
    let rest = home_devices cells (range_with_len a n) in
    more ∙ ap (λ s. all_allowed read_ask one ++ s) before
    ∙ sym (append_assoc (all_allowed read_ask one) (all_allowed read_ask rest) asked_old)
    ∙ ap (λ s. s ++ asked_old) (sym (all_allowed-append read_ask one rest))
    ∙ ap (λ ds. all_allowed read_ask ds ++ asked_old) (sym (devices-more cells a n))

pub read-stops : (cells : CellsSeen) (a n m : ℕ) (asked_old asked_mid asked_new : List Asked) →
    AreRead cells a n asked_old asked_mid →
    ReadsStop (home_device (cell_at cells (a + n))) asked_mid asked_new →
    ReadsStop (home_devices cells (range_with_len a (n + 1 + m))) asked_old asked_new
read-stops cells a n m asked_old asked_mid asked_new before stop =
    let one = home_device (cell_at cells (a + n)) in
    let rest = home_devices cells (range_with_len a n) in
    let later = home_devices cells (range_with_len (a + (n + 1)) m) in
    let all : home_devices cells (range_with_len a (n + 1 + m)) ≡ later ++ (one ++ rest) =
    ap (home_devices cells) (range-both a (n + 1) m)
    ∙ devices-both cells (range_with_len a (n + 1)) (range_with_len (a + (n + 1)) m)
    ∙ ap (λ ds. later ++ ds) (devices-more cells a n) in
    subst (λ ds. ReadsStop ds asked_old asked_new) (sym all)
    (stops-before later (one ++ rest) asked_old asked_new
    (stops-behind one rest asked_old asked_mid asked_new before stop))

-- ---- one call on a block

pub read-once : {T E : Type 0} (device : ℕ) (result : Result T E)
    (asked_old asked_new : List Asked) → asked_new ≡ Step device false (is_ok result) ∷ asked_old →
    Reads (device ∷ []) result asked_old asked_new
read-once device (Ok done) asked_old asked_new is = is
read-once device (Err fault) asked_old asked_new is =
    record { left = 0; within = omega arith; asked = is }

-- before the first block
pub none-read : (cells : CellsSeen) (a n : ℕ) (asked : List Asked) → n ≡ 0 →
    AreRead cells a n asked asked
none-read cells a n asked none =
    ap (λ k. all_allowed read_ask (home_devices cells (range_with_len a k)) ++ asked) (sym none)

-- ---- the same, by the numbers of the blocks

pub read-next : (cells now : CellsSeen) (a block : ℕ) (asked_old asked_mid asked_new : List Asked) →
    now ≡ cells → a ≤ block → AreRead cells a (block - a) asked_old asked_mid →
    asked_new ≡ all_allowed read_ask (home_device (cell_at now block)) ++ asked_mid →
    AreRead cells a (block + 1 - a) asked_old asked_new
read-next cells now a block asked_old asked_mid asked_new same low before more =
    let here : block ≡ a + (block - a) = omega (arith, low) in
    let long : block - a + 1 ≡ block + 1 - a = omega (arith, low) in
    subst (λ n. AreRead cells a n asked_old asked_new) long
    (read-more cells a (block - a) asked_old asked_mid asked_new before
    (more ∙ ap (λ cs. all_allowed read_ask (home_device (cell_at cs block)) ++ asked_mid) same
    ∙ ap (λ k. all_allowed read_ask (home_device (cell_at cells k)) ++ asked_mid) here))

pub read-ends : (cells now : CellsSeen) (a block end : ℕ)
    (asked_old asked_mid asked_new : List Asked) → now ≡ cells → a ≤ block → block < end →
    AreRead cells a (block - a) asked_old asked_mid →
    ReadsStop (home_device (cell_at now block)) asked_mid asked_new →
    ReadsStop (home_devices cells (range_with_len a (end - a))) asked_old asked_new
read-ends cells now a block end asked_old asked_mid asked_new same low less before stop =
    let here : block ≡ a + (block - a) = omega (arith, low) in
    let long : block - a + 1 + (end - (block + 1)) ≡ end - a = omega (arith, low, less) in
    subst (λ n. ReadsStop (home_devices cells (range_with_len a n)) asked_old asked_new) long
    (read-stops cells a (block - a) (end - (block + 1)) asked_old asked_mid asked_new before
    (subst (λ k. ReadsStop (home_device (cell_at cells k)) asked_mid asked_new) here
    (subst (λ cs. ReadsStop (home_device (cell_at cs block)) asked_mid asked_new) same stop)))
