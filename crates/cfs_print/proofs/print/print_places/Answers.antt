use Rattle.std.specs.Prelude.{codes}
use Rattle.cfs_print.proofs.Parts.{places_none, places_some, three_added}
use Rattle.cfs_print.proofs.print.print_places.Goals as goal

pub returns-in_default : goal.returns-in_default
returns-in_default c = let none = places_none c.args.places.now c.in_default.len_below in let text = c.in_ok-push_str.ensures.bytes in rw none text

pub returns-in_ok-print_more : goal.returns-in_ok-print_more
returns-in_ok-print_more c =
    three_added _ (codes "EAGAIN places=") _ _ _ _ _ _ c.in_ok-push_str.ensures.bytes c.in_ok-write.ensures.bytes c.in_ok-print_more.ensures
    (places_some c.args.places.now c.in-len1-up.len_at_least)
