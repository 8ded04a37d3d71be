use Rattle.std.proofs.Common.{List, ℕ, Option, Bor, ap}
use Rattle.std.specs.Option.{option_copied}
use Rattle.cfs_words.proofs.Cuts.{end_of-left}
use Rattle.cfs_words.proofs.words.Words.end.Goals as goal

pub returns-in-Some : goal.returns-in-Some
returns-in-Some c =
    end_of-left (option_copied c.self.inside.rest) c.in-Some.field-0.now c.args.self.now
    (ap (λ (rest : Option (Bor (List ℕ))). option_copied rest) c.in-Some.is) c.self.view_is
