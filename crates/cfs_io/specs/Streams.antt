-- What a write and a read do to the bytes of a sink and a source, where these are told.
use Rattle.std.specs.Prelude.{ℕ, ◌<◌, ◌≤◌, List, length, take, IfOk, MatchResult, Result}
use Rattle.std.specs.declared.option.Option.{Option}
use Rattle.std.specs.Io.KnownBytes.{Appends, Consumes}

-- a write of a piece that is not empty takes at least one byte
abbrev pub TakesSome : {E : Type 0} → Result ℕ E → List ℕ → Type 0
TakesSome result piece = IfOk result (λ n. 0 < length piece → 0 < n)

-- the bytes written grow by some front of the piece, or by nothing
abbrev pub AppendsFront : Option (List ℕ) → Option (List ℕ) → List ℕ → Type 0
AppendsFront old new piece = (n : ℕ) × (n ≤ length piece) × Appends old new (take n piece)

-- a write that answers n added the first n bytes of the piece, and one that fails some front of it
abbrev pub WritesPiece : {E : Type 0} → Option (List ℕ) → Option (List ℕ) → Result ℕ E → List ℕ
    → Type 0
WritesPiece old new result piece =
    MatchResult result (λ n. Appends old new (take n piece)) (λ _. AppendsFront old new piece)

-- more than n bytes came
abbrev pub MoreCame : Option (List ℕ) → Option (List ℕ) → ℕ → Type 0
MoreCame old new n = (bytes : List ℕ) × (n < length bytes) × Consumes old new bytes

-- at most n bytes came
abbrev pub AtMostCame : Option (List ℕ) → Option (List ℕ) → ℕ → Type 0
AtMostCame old new n = (bytes : List ℕ) × (length bytes ≤ n) × Consumes old new bytes

-- some bytes came
abbrev pub SomeCame : Option (List ℕ) → Option (List ℕ) → Type 0
SomeCame old new = (bytes : List ℕ) × Consumes old new bytes
