-- How reads and writes of a part go on to the whole.
use Rattle.std.proofs.Common.{◌≡◌, ℕ, ◌+◌, ◌-◌, ◌<◌, ◌≤◌, min, List, [], ◌++◌, length, take, drop, sym, ap, subst, ◌∙◌, arith, take-append-drop, drop-drop, length-drop, drop_of_length-le}
use Rattle.std.proofs.Math.Seq.{take-add}
use Rattle.std.proofs.lemmas.List.{take_rest}
use Rattle.std.proofs.KnownBytes.{Appends-trans, Consumes-trans}
use Rattle.std.specs.declared.option.Option.{Option}
use Rattle.std.specs.Io.KnownBytes.{Appends, Consumes}
use Rattle.cfs_io.specs.Streams.{AppendsFront, SomeCame}

-- a read from a place moves the place on by what it gave
pub read_on : (bytes seen front : List ℕ) (at n : ℕ) → seen ≡ bytes → front ≡ take n (take (length seen - at) (drop at seen)) → drop at bytes ≡ front ++ drop (at + n) bytes
read_on bytes seen front at n same given =
    let rest : take (length seen - at) (drop at seen) ≡ drop at bytes = take_rest seen at ∙ ap (drop at) same in
    sym (take-append-drop n (drop at bytes)) ∙ ap (λ more. take n (drop at bytes) ++ more) (drop-drop n at bytes)
    ∙ ap (λ taken. taken ++ drop (at + n) bytes) (ap (take n) (sym rest) ∙ sym given)

-- a read into some room that gives nothing is at the end
pub read_end : (bytes seen : List ℕ) (at n chunk room now : ℕ) → seen ≡ bytes → 0 < chunk → n ≡ min chunk (min (length (take (length seen - at) (drop at seen))) room) → now ≡ room → n ≡ 0 → 0 < now
    → drop (at + n) bytes ≡ []
read_end bytes seen at n chunk room now same some count kept none wanted =
    let rest : length (take (length seen - at) (drop at seen)) ≡ length seen - at = ap length (take_rest seen at) ∙ length-drop at seen in
    let all : length seen ≡ length bytes = ap length same in
    let past : length bytes ≤ at + n = omega arith in
    drop_of_length-le bytes past

-- what came first and what came then
pub came_more : (a b c : Option (List ℕ)) (first more : List ℕ) → Consumes a b first → Consumes b c more → SomeCame a c
came_more a b c first more begun went_on = (first ++ more, Consumes-trans a b c first more begun went_on)

-- after the first part of a piece, some bytes of the rest
pub append_on : (a b c : Option (List ℕ)) (piece : List ℕ) (at n : ℕ) → Appends a b (take at piece) → Appends b c (take n (take (length piece - at) (drop at piece)))
    → Appends a c (take (at + n) piece)
append_on a b c piece at n first more =
    let joined : take at piece ++ take n (take (length piece - at) (drop at piece)) ≡ take (at + n) piece =
    ap (λ rest. take at piece ++ take n rest) (take_rest piece at) ∙ sym (take-add at n piece) in
    subst (Appends a c) joined (Appends-trans a b c _ _ first more)

-- a part of the rest of a piece ends within the piece
pub within_on : (piece : List ℕ) (at n : ℕ) → at ≤ length piece → n ≤ length (take (length piece - at) (drop at piece)) → at + n ≤ length piece
within_on piece at n within few =
    let rest : length (take (length piece - at) (drop at piece)) ≡ length piece - at = ap length (take_rest piece at) ∙ length-drop at piece in
    omega arith

-- after the first part of a piece, a front of the rest
pub front_on : (a b c : Option (List ℕ)) (piece : List ℕ) (at : ℕ) → at ≤ length piece → Appends a b (take at piece)
    → AppendsFront b c (take (length piece - at) (drop at piece)) → AppendsFront a c piece
front_on a b c piece at within first (n, few, more) =
    (at + n, within_on piece at n within few, append_on a b c piece at n first more)
