-- A cut at the first byte 10 takes the first line off.
use Rattle.std.proofs.Common.{◌≡◌, ℕ, ◌+◌, ◌<◌, List, [], ◌∷◌, length, arith, refl, sym, ap, ◌∙◌}
use Rattle.std.proofs.lemmas.List.Splits.{join_with_byte-slice_split}
use Rattle.std.specs.Prelude.{◌==◌}
use Rattle.std.specs.List.{slice_split, join_with_byte}
use Rattle.cfs_words.proofs.Cuts.{slice_split-first}
use Rattle.cfs_script.specs.Script.{lines_of, without_empty_end}

without_empty_end-more : (part first : List ℕ) (parts : List (List ℕ)) → without_empty_end (part ∷ first ∷ parts) ≡ part ∷ without_empty_end (first ∷ parts)
without_empty_end-more [] first parts = refl
without_empty_end-more (b ∷ bs) first parts = refl

without_empty_end-last : (part : List ℕ) → 0 < length part → without_empty_end (part ∷ []) ≡ part ∷ []
without_empty_end-last [] some = absurd (omega arith)
without_empty_end-last (b ∷ bs) some = refl

pub lines_of-cut : (bytes line rest : List ℕ) → slice_split (λ b. b == 10) bytes ≡ line ∷ slice_split (λ b. b == 10) rest → lines_of bytes ≡ line ∷ lines_of rest
lines_of-cut bytes line rest e =
    let first = slice_split-first (λ b. b == 10) rest in
    rw (e, first.2, without_empty_end-more line first.0 first.1) refl

pub lines_of-last : (bytes line : List ℕ) → 0 < length bytes → slice_split (λ b. b == 10) bytes ≡ line ∷ [] → lines_of bytes ≡ line ∷ []
lines_of-last bytes line some e =
    let joined : join_with_byte 10 (line ∷ []) ≡ bytes = ap (join_with_byte 10) (sym e) ∙ join_with_byte-slice_split 10 bytes in
    let same : line ≡ bytes = joined in
    rw (e, without_empty_end-last line (rw same some)) refl
