-- What a workload draws.
use Rattle.std.specs.Prelude.{ℕ, zero, suc, ◌+◌, ◌%◌, ◌==◌}
use Rattle.cfs_pmem.specs.Draws.{draw_of, next_state}
use Rattle.cfs_gen.specs.declared.drawn.Drawn.{Drawn}

-- the state of the generator behind so many draws of a state
unfoldable pub state_after : ℕ → ℕ → ℕ
state_after state zero = state
state_after state (suc n) = next_state (state_after state n)

-- the draws of a state, from number 0 on
abbrev pub draw_at : ℕ → ℕ → ℕ
draw_at state n = draw_of (state_after state n)

-- what a request draws
abbrev pub drawn_from : ℕ → Drawn
drawn_from state = record {
  fd = draw_at state 0 % 2;
  offset = draw_at state 1 % 61440;
  length = 1 + draw_at state 2 % 4096;
  has_turn = draw_at state 3 % 3 == 0;
}
