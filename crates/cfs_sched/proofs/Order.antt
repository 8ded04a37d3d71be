-- Items of work stand in one order.
use Rattle.std.proofs.Common.{ℕ, ◌≡◌, ◌<◌, ◌≤◌, arith, ◌⊎◌, inl}
use Rattle.cfs_sched.specs.Choice.{ComesBefore, urgency}
use Rattle.cfs_sched.specs.declared.summary.Summary.{Summary}

-- the order on plain numbers: urgency, record, place
abbrev Before : (u r p v s q : ℕ) → Type 0
Before u r p v s q = (v < u) ⊎ ((u ≡ v) × ((r < s) ⊎ ((r ≡ s) × (p < q))))

trans : (u r p v s q w t o : ℕ) → Before u r p v s q → Before v s q w t o → Before u r p w t o
trans u r p v s q w t o h k = grind arith

past : (u r p v s q w t o : ℕ) → Before u r p v s q → (Before w t o v s q → ⊥) → Before u r p w t o
past u r p v s q w t o h k = grind arith

pub ComesBefore-irrefl : (a : Summary) → ComesBefore a a → ⊥
ComesBefore-irrefl a h = grind arith

pub ComesBefore-trans : (a b c : Summary) → ComesBefore a b → ComesBefore b c → ComesBefore a c
ComesBefore-trans a b c h k =
    trans (urgency a) a.rec a.place (urgency b) b.rec b.place (urgency c) c.rec c.place h k

-- what does not come before the later of two items comes after the earlier one
pub ComesBefore-past : (a b c : Summary) → ComesBefore a b → (ComesBefore c b → ⊥) → ComesBefore a c
ComesBefore-past a b c h k =
    past (urgency a) a.rec a.place (urgency b) b.rec b.place (urgency c) c.rec c.place h k

pub passed_over_first : (often seldom : Summary) → 64 ≤ often.passed → seldom.passed < often.passed → ComesBefore often seldom
passed_over_first often seldom h g = inl (grind arith)
