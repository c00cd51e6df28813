-- Numbers that are drawn: a linear congruential generator of 64 bits with the constants of Knuth's MMIX.
use Rattle.std.specs.Prelude.{ℕ, ◌+◌, ◌*◌, ◌/◌, ◌%◌, ◌^◌}

-- the state that follows a state
abbrev pub state_after : ℕ → ℕ
state_after state = (state * 6364136223846793005 + 1442695040888963407) % 2 ^ 64

-- the number below a limit that a state gives
abbrev pub drawn : ℕ → ℕ → ℕ
drawn below state = state / 2 ^ 33 % below
