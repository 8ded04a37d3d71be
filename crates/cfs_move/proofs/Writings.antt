-- What has been written of the new image.
use Rattle.std.proofs.Common.{ℕ, ◌+◌, ◌-◌, ◌≡◌, ◌∙◌, List, ◌++◌, take, drop, sym, ap}
use Rattle.std.proofs.Common.{append_assoc}
use Rattle.std.proofs.lemmas.List.{append-nil}
use Rattle.byteorder.specs.Endian.{little_bytes}
use Rattle.cfs_image.specs.declared.layout.TheConstants.{VERSION}
use Rattle.cfs_image.specs.declared.version.Version.TheVariants.{First}
use Rattle.cfs_image.specs.Versions.{journal_at_in}
use Rattle.cfs_move.specs.Upgraded.{record_moved, records_moved, upgraded}
use Rattle.cfs_move.proofs.Pieces.{pieces_more}

-- no record yet
pub records_none : (old start : List ℕ) → start ≡ start ++ records_moved old 0
unfolding records_moved
records_none old start = sym (append-nil start)

-- one record more
pub record_more : (old start before between after : List ℕ) (position from size : ℕ) →
    before ≡ start ++ records_moved old position
    → between ≡ before ++ take size (drop from old) → size ≡ 120 →
    from ≡ journal_at_in First position → after ≡ between ++ little_bytes 8 0
    → after ≡ start ++ records_moved old (position + 1)
unfolding records_moved
record_more old start before between after position from size was piece long at zeros =
    zeros ∙ ap (λ bs. bs ++ little_bytes 8 0) piece
    ∙ ap (λ (n : ℕ). before ++ take n (drop from old) ++ little_bytes 8 0) long
    ∙ ap (λ (n : ℕ). before ++ take 120 (drop n old) ++ little_bytes 8 0) at
    ∙ append_assoc before (take 120 (drop (journal_at_in First position) old)) (little_bytes 8 0)
    ∙ ap (λ bs. bs ++ record_moved old position) was
    ∙ append_assoc start (records_moved old position) (record_moved old position)
    ∙ ap (λ bs. start ++ bs) (sym (pieces_more (record_moved old) position))

-- all pieces, one after another
pub all_written : (old named versioned fronted moved whole version : List ℕ) (size to : ℕ) →
    named ≡ take 8 old → versioned ≡ named ++ version → version ≡ little_bytes 8 VERSION
    → fronted ≡ versioned ++ take size (drop 16 old) → size ≡ journal_at_in First 0 - 16 →
    moved ≡ fronted ++ records_moved old 64
    → whole ≡ moved ++ drop to old → to ≡ journal_at_in First 64 → whole ≡ upgraded old
unfolding upgraded
all_written old named versioned fronted moved whole version size to name then is front long records
    rest at =
    let kept : List ℕ = take 49192 (drop 16 old) in
    let behind : List ℕ = drop 56888 old in
    let start : versioned ≡ take 8 old ++ little_bytes 8 VERSION =
    then ∙ ap (λ bs. bs ++ version) name ∙ ap (λ bs. take 8 old ++ bs) is in
    rest ∙ ap (λ (n : ℕ). moved ++ drop n old) at
    ∙ ap (λ bs. bs ++ behind) (records ∙
    ap (λ bs. bs ++ records_moved old 64)
    (front ∙ ap (λ (n : ℕ). versioned ++ take n (drop 16 old)) long ∙
    ap (λ bs. bs ++ kept) start))
    ∙ append_assoc (take 8 old ++ little_bytes 8 VERSION ++ kept) (records_moved old 64) behind
    ∙ append_assoc (take 8 old ++ little_bytes 8 VERSION) kept (records_moved old 64 ++ behind)
    ∙ append_assoc (take 8 old) (little_bytes 8 VERSION) (kept ++ (records_moved old 64 ++ behind))
