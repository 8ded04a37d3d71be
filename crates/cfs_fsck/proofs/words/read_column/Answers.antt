use Rattle.std.proofs.Common.{arith, ℕ, ◌≡◌, ◌∙◌, List, length, drop}
use Rattle.std.proofs.lemmas.List.{take_at}
use Rattle.cfs_fsck.proofs.Reading.{words_read}
use Rattle.cfs_fsck.proofs.words.read_column.Goals as goal

pub returns : goal.returns
returns c =
    let read : List ℕ = c.read_u64_into.new.dst in
    let size : length read ≡ c.in_ok-words.words.len = omega (arith, c.in_ok-words.ensures.len) in
    let all : length read ≡ c.args.count = omega (arith, c.in_ok-words.ensures.len) in
    take_at read (drop (length read) c.in_ok-words.words.items) c.in_ok-words.words.len size
    ∙ words_read c.args.bytes.now read c.args.at c.args.count _ (omega arith) all
    c.read_u64_into.ensures
