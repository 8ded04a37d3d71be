-- The operations of a record of the journal on its region.
use Rattle.std.proofs.Common.{◌≡◌, ℕ, zero, suc, ◌+◌, ◌-◌, ◌<◌, ◌≤◌, Bool, true, false, List, [], ◌∷◌}
use Rattle.std.proofs.Common.{◌++◌, length, get_or, drop, Option, Some, None, set, refl, ap, ◌∙◌}
use Rattle.std.proofs.Common.{subst, arith}
use Rattle.std.specs.Prelude.{unwrap_or}
use Rattle.cfs_dir.specs.declared.change.Change.{Change}
use Rattle.cfs_dir.specs.Change.{IsTellable}
use Rattle.cfs_dir.specs.Words.{change_words}
use Rattle.cfs_pmem.specs.declared.trace.Asked.{Asked}
use Rattle.cfs_pmem.specs.declared.trace.Asked.TheVariants.{Step}
use Rattle.cfs_pmem.specs.Images.{Seen, WordStep, failed, kept, words_of}
use Rattle.cfs_pmem.specs.Images.{wrote}
use Rattle.cfs_pmem.specs.Objects.{seen_at}
use Rattle.cfs_pmem.specs.Operations.{LastFails, after_all}
use Rattle.cfs_pmem.specs.WordOps.{HasWritten, WordFails, persist, puts, word_done}
use Rattle.cfs_pmem.proofs.AskLemmas.{asks_one}
use Rattle.cfs_pmem.proofs.ImageLemmas.{sure_kept}
use Rattle.cfs_pmem.proofs.MomentLemmas.{at_end}
use Rattle.cfs_pmem.proofs.WordLemmas.{drop-puts, length-puts, set_at_persist, set_at_write}
use Rattle.cfs_pmem.proofs.WordLemmas.{set_whole, writes_all, writes_front, written_more, written_none}
use Rattle.cfs_journal.specs.Records.{WritesRecord, record_ops}
use Rattle.cfs_journal.specs.Standing.{Standing, place}
use Rattle.cfs_journal.proofs.RecordLemmas.{IsBehind, behind_persist, behind_words}
use Rattle.cfs_journal.proofs.RecordLemmas.{length-change_words, record_at_gate, record_at_persist}
use Rattle.cfs_journal.proofs.RecordLemmas.{record_at_words, record_whole}
use Rattle.cfs_journal.proofs.Standings.{closed_next, grown, next_closing, next_writing, renewed}
use Rattle.cfs_meaning.proofs.RegionOps.{EndsWords, IsLike, ends-like}
use Rattle.cfs_meaning.proofs.ShownGates.{EndsSet, answer_of, sets}

-- ---- words that are written

abbrev pub IsWritten : ℕ → List ℕ → ℕ → Seen WordStep → Type 0
IsWritten from words k old =
    (asked : List Asked)
    × HasWritten true from words k [] old asked (after_all word_done (puts from words k) old)

pub has-written : (from : ℕ) (words : List ℕ) (k : ℕ) (old : Seen WordStep) → k ≤ length words →
    from + length words ≤ length (words_of old) → IsWritten from words k old
has-written from words zero old most fits = ([], written_none true from words [] old)
has-written from words (suc k) old most fits =
    let before = has-written from words k old (omega (arith, most)) fits in
    let mid : Seen WordStep = after_all word_done (puts from words k) old in
    let next : k + 1 ≡ suc k = omega arith in (
      Step mid.device true true ∷ before.0,
      subst (λ n. HasWritten true from words n [] old (Step mid.device true true ∷ before.0)
          (after_all word_done (puts from words (suc k)) old)) next
          (written_more (get_or words k 0) refl (omega (arith, most)) fits before.1 refl
          (asks_one refl) (λ o. refl)),
    )

-- ---- a record

-- the same as a call says it
abbrev pub WritesAs : Bool → ℕ → Change → Seen WordStep → Seen WordStep → Type 0
WritesAs ok number change old new =
    (asked : List Asked) × WritesRecord true number change (answer_of ok) [] old asked new

abbrev words_done : Change → Seen WordStep → Seen WordStep
words_done change old =
    after_all word_done (puts 1 (change_words change) (length (change_words change))) old

pub writes-record : (ok : Bool) (number : ℕ) (change : Change) (old new : Seen WordStep) →
    length (words_of old) ≡ 16 → EndsWords ok (record_ops number change) old new →
    WritesAs ok number change old new
writes-record ok number change old new size ends = by-end ok ends
  where
    words : List ℕ
    words = change_words change

    fits : 1 + length words ≤ length (words_of old)
    fits = (let fifteen = length-change_words change in omega (arith, fifteen, size))

    whole : IsWritten 1 words (length words) old
    whole = has-written 1 words (length words) old (omega arith) fits

    mid : Seen WordStep
    mid = words_done change old

    behind : IsBehind true number change (puts 1 words (length words)) [] old whole.0 mid
    behind =
        behind_words {T = Unit {0}} {E = Unit {0}} change words tt refl size
        (writes_all {T = Unit {0}} {E = Unit {0}} tt (omega arith) fits whole.1)

    persisted : IsBehind true number change (persist ∷ puts 1 words (length words)) [] old
        (Step mid.device true true ∷ whole.0) (kept mid)
    persisted = behind_persist behind refl (asks_one refl) (λ o. refl)

    low : 0 < length (words_of (kept mid))
    low = (let long = persisted.size in omega (arith, long))

    by-left : (left : ℕ) → left < length (record_ops number change) →
        LastFails word_done WordFails (drop left (record_ops number change)) old new →
        WritesAs false number change old new
    by-left zero within fails = (
      Step mid.device true false ∷ Step mid.device true true ∷ Step mid.device true true ∷ whole.0,
      record_at_gate {T = Unit {0}} {E = Unit {0}} {U = Unit {0}} {F = Unit {0}} tt refl tt size
          persisted (sure_kept mid refl)
          (set_at_persist {T = Unit {0}} {E = Unit {0}}
          {asked_mid = Step mid.device true true ∷ Step mid.device true true ∷ whole.0}
          {mid = wrote 0 number (kept mid)} tt refl low refl (asks_one refl) (λ o. refl) fails
          (asks_one refl) (λ o. refl)),
    )
    by-left (suc zero) within fails = (
      Step mid.device true false ∷ Step mid.device true true ∷ whole.0,
      record_at_gate {T = Unit {0}} {E = Unit {0}} {U = Unit {0}} {F = Unit {0}} tt refl tt size
          persisted (sure_kept mid refl)
          (set_at_write {T = Unit {0}} {E = Unit {0}} tt refl low fails (asks_one refl)
          (λ o. refl)),
    )
    by-left (suc (suc zero)) within fails = (
      Step mid.device true false ∷ whole.0,
      record_at_persist {T = Unit {0}} {E = Unit {0}} tt refl behind fails (asks_one refl)
          (λ o. refl),
    )
    by-left (suc (suc (suc j))) within fails =
        let puts_long = length-puts 1 words (length words) in
        let k : ℕ = length words - j - 1 in
        let all : length words ≡ j + suc k = omega (arith, within, puts_long) in
        let front : drop j (puts 1 words (length words)) ≡ puts 1 words (suc k) =
        ap (λ n. drop j (puts 1 words n)) all ∙ drop-puts 1 words j (suc k) in
        let is : new ≡ failed (after_all word_done (puts 1 words k) old) =
        subst (λ ops. LastFails word_done WordFails ops old new) front fails in
        let some = has-written 1 words k old (omega (arith, all)) fits in (
          Step (after_all word_done (puts 1 words k) old).device true false ∷ some.0,
          record_at_words {T = Unit {0}} {E = Unit {0}} {U = Unit {0}} {F = Unit {0}} change words
              tt refl tt refl size
              (writes_front {T = Unit {0}} {E = Unit {0}} tt refl (omega (arith, all)) fits some.1
              is (asks_one refl) (λ o. refl)),
        )

    by-end : (b : Bool) → EndsWords b (record_ops number change) old new →
        WritesAs b number change old new
    by-end true is = (
      Step mid.device true true ∷ Step mid.device true true ∷ Step mid.device true true ∷ whole.0,
      record_whole {T = Unit {0}} {E = Unit {0}} {U = Unit {0}} {F = Unit {0}} tt tt size persisted
          (sure_kept mid refl)
          (set_whole {T = Unit {0}} {E = Unit {0}}
          {asked_mid = Step mid.device true true ∷ Step mid.device true true ∷ whole.0}
          {mid = wrote 0 number (kept mid)} tt low refl (asks_one refl) (λ o. refl) is
          (asks_one refl) (λ o. refl)),
    )
    by-end false stops = by-left stops.left stops.within stops.state

-- ---- the journal behind them

-- the journal with one change more, or with it in doubt
abbrev pub Appended : Bool → ℕ → List Change → Change → List (Seen WordStep) → Type 0
Appended true through changes change seens = Standing through (changes ++ change ∷ []) None seens
Appended false through changes change seens = Standing through changes (Some change) seens

pub record-stands : (ok : Bool) (through : ℕ) (changes : List Change) (change : Change)
    (seens : List (Seen WordStep)) (new : Seen WordStep) →
    Standing through changes None seens → length changes < 64 → IsTellable change →
    EndsWords ok (record_ops (through + length changes + 1) change)
    (seen_at seens (place through (length changes))) new →
    Appended ok through changes change (set seens (place through (length changes)) new)
record-stands ok through changes change seens new standing less tellable ends =
    by-end ok (writes-record ok number change old new size ends)
  where
    number : ℕ
    number = through + length changes + 1

    old : Seen WordStep
    old = seen_at seens (place through (length changes))

    size : length (words_of old) ≡ 16
    size = standing.words (place through (length changes)) (omega arith)

    like : IsLike old new
    like = ends-like ok (record_ops number change) old new ends

    by-end : (b : Bool) → WritesAs b number change old new →
        Appended b through changes change (set seens (place through (length changes)) new)
    by-end true writes =
        grown change new standing less tellable writes.1.size like.devices
        (λ image possible. writes.1.sure image possible ∙ writes.1.ok)
    by-end false writes =
        renewed new standing less (λ other is.
        subst IsTellable (ap (λ o. unwrap_or o change) is) tellable)
        writes.1.size like.devices
        (λ image possible.
        next_writing through number (place through (length changes)) change old
        (standing.next less) image (at_end writes.1.moments image possible))

-- the journal without the change in doubt, or with it still
abbrev pub Settled : Bool → ℕ → List Change → Option Change → List (Seen WordStep) → Type 0
Settled true through changes doubt seens = Standing through changes None seens
Settled false through changes doubt seens = Standing through changes doubt seens

pub closed-stands : (ok : Bool) (through : ℕ) (changes : List Change) (doubt : Option Change)
    (seens : List (Seen WordStep)) (new : Seen WordStep) →
    Standing through changes doubt seens → length changes < 64 →
    EndsSet ok 0 0 (seen_at seens (place through (length changes))) new →
    IsLike (seen_at seens (place through (length changes))) new →
    Settled ok through changes doubt (set seens (place through (length changes)) new)
closed-stands ok through changes doubt seens new standing less ends like = by-end ok ends
  where
    number : ℕ
    number = through + length changes + 1

    at : ℕ
    at = place through (length changes)

    old : Seen WordStep
    old = seen_at seens at

    size : length (words_of old) ≡ 16
    size = standing.words at (omega arith)

    long : length (words_of new) ≡ 16
    long = like.long ∙ size

    some : 0 < length (words_of old)
    some = omega (arith, size)

    by-end : (b : Bool) → EndsSet b 0 0 old new →
        Settled b through changes doubt (set seens at new)
    by-end true is =
        renewed {doubt = None} new standing less (λ other none. absurd (cc)) long like.devices
        (closed_next through number at None old (omega arith) size is
        (sets true 0 0 old new some is).1.sure)
    by-end false stops =
        renewed new standing less standing.told_doubt long like.devices
        (λ image possible.
        next_closing through number at doubt old (omega arith) size (standing.next less) image
        (at_end (sets false 0 0 old new some stops).1.moments image possible))
