use Rattle.std.proofs.Common.{◌≡◌, sym, ◌∙◌, subst}
use Rattle.std.specs.Prelude.{slice_get, nat_eq, Some, None}
use Rattle.std.specs.HashMap.{get, Updates}
use Rattle.std.specs.Option.{option_and_then}
use Rattle.cfs_dir.specs.declared.node.Node.{Node}
use Rattle.cfs_dir.proofs.Grown.{some_of}
use Rattle.cfs_dir.proofs.Numbers.{IsNumbered-replaced, ok_unless, on_ok, replaced-found, seen-replaced}
use Rattle.cfs_dir.proofs.nodes.Nodes.replace.Goals as goal

pub unwrap-requires : goal.unwrap-requires
unwrap-requires c =
    let was = some_of (option_and_then (λ slot. slot) (slice_get c.args.self.now c.args.node.now.rec)) (λ (old : Node). old.ino ≡ c.args.node.now.ino) c.requires in
    let found = replaced-found c.self.inside.by_number c.self.inside.by_number c.self.inside.numbers.items c.args.self.now c.args.node.now was.0
    c.self.invariant c.self.view_is was.1 was.2 in
    ok_unless (get nat_eq c.self.inside.by_number c.args.node.now.ino ≡ None) c.insert.result c.insert.ensures.absent (λ none. (let clash = sym found ∙ none in cc))

pub invariant_of-self : goal.invariant_of-self
invariant_of-self c =
    let was = some_of (option_and_then (λ slot. slot) (slice_get c.args.self.now c.args.node.now.rec)) (λ (old : Node). old.ino ≡ c.args.node.now.ino) c.requires in
    let updated = on_ok (Updates nat_eq c.self.inside.by_number c.insert.new.self c.args.node.now.ino (Some c.args.node.now))
    c.insert.result c.unwrap.result c.unwrap.ensures c.insert.ensures.updates in
    IsNumbered-replaced c.self.inside.by_number c.insert.new.self c.self.inside.numbers.items c.args.self.now c.args.node.now was.0
    c.self.invariant c.self.view_is was.1 was.2 updated.0

pub returns : goal.returns
returns c =
    let was = some_of (option_and_then (λ slot. slot) (slice_get c.args.self.now c.args.node.now.rec)) (λ (old : Node). old.ino ≡ c.args.node.now.ino) c.requires in
    let updated = on_ok (Updates nat_eq c.self.inside.by_number c.insert.new.self c.args.node.now.ino (Some c.args.node.now))
    c.insert.result c.unwrap.result c.unwrap.ensures c.insert.ensures.updates in
    seen-replaced c.self.inside.by_number c.insert.new.self c.self.inside.numbers.items c.args.self.now c.args.node.now was.0
    c.self.invariant c.self.view_is was.1 was.2 updated.0
