-- What a clock in memory gives.
use Rattle.std.specs.Prelude.{ℕ, ◌-◌, List, Option, length, min, slice_index}
use Rattle.link_base.specs.declared.memory_clock.MemClock.{MemClock}

-- the moment at a call, counted from 0: the last one of the list repeats
abbrev pub moment_at : List ℕ → ℕ → ℕ
moment_at moments call = slice_index moments (min call (length moments - 1))

abbrev pub moments_of : MemClock → List ℕ
moments_of clock = clock.moments

-- how many moments it gave
abbrev pub calls_of : MemClock → ℕ
calls_of clock = clock.calls

abbrev pub last_of : MemClock → Option ℕ
last_of clock = clock.last
