use Rattle.std.proofs.Common.{◌≡◌, ℕ, List, ap, sym, subst}
use Rattle.cfs_script.specs.Session.{Seen, introduced}
use Rattle.cfs_script.proofs.seen.Seen.introduce.Goals as goal

pub returns : goal.returns
returns c =
    let with_keys : List ℕ → Seen = λ keys. record { callers = keys; cut = c.self.inside.cut } in
    subst (λ (old : Seen). with_keys c.insert.new.self.keys ≡ introduced old c.args.caller) c.self.view_is (ap with_keys c.in_ok-insert.ensures.keys)
