use Rattle.std.proofs.Common.{◌≡◌, ◌∙◌, ℕ, List, Option, None, Some, ap, find, sym}
use Rattle.std.specs.List.{position}
use Rattle.cfs_active.specs.View.{active_view}
use Rattle.cfs_tracker.specs.declared.in_doubt.InDoubt.{InDoubt}
use Rattle.cfs_tracker.specs.declared.pending.Pending.{Pending}
use Rattle.cfs_tracker.specs.Listing.{is_listed, listed, listed_doubt, listing}
use Rattle.cfs_inode.specs.View.{Held, Seens}
use Rattle.cfs_granted.specs.Rows.{Rows, is_numbered}
use Rattle.cfs_granted.proofs.Detachings.{closed-granted}
use Rattle.cfs_granted.proofs.life.Life.detach.Goals as goal

pub invariant_of-self : goal.invariant_of-self
invariant_of-self c =
    let old = (active_view c.args.self.now.active).state.tracker in
    let now = c.drop_under.new.self in
    let active = active_view now.active in
    let number : ℕ = c.args.number in
    let none : listing active.state.tracker number 0 ≡ None =
    ap (λ (es : List (Pending Held)). listed (find (λ e. is_listed number 0 e) es)
    (listed_doubt active.state.tracker.doubt number 0)) c.drop_under.ensures.entries
    ∙ ap (λ (d : Option (InDoubt Seens)). listed (find (λ e. is_listed number 0 e) old.entries)
    (listed_doubt d number 0)) c.drop_under.ensures.doubt ∙ c.requires in
    let found : position (λ row. is_numbered number row) now.grants ≡ Some c.in-Some.queue =
    ap (λ (rs : Rows). position (λ row. is_numbered number row) rs) (sym c.rows.ensures)
    ∙ sym c.queue_of.ensures ∙ c.in-Some.is in record {
      known = closed-granted number c.in-Some.queue now.grants c.close.new.self
          now.readers.items active.state active.jobs none c.drop_under.ensures.none found
          c.close.ensures now.active.known now.known;
      lent = now.lent;
    }
