-- Worked rows.
use Rattle.std.specs.Prelude.{◌≡◌, length, refl}
use Rattle.sample_world.specs.Draws.{state_after}
use Rattle.sample_world.specs.World.{sample_rows}

-- the first two states behind the seed 0
pub first_state : state_after 0 ≡ 1442695040888963407
first_state = refl

pub second_state : state_after 1442695040888963407 ≡ 1876011003808476466
second_state = refl

-- three files for each module
pub three_each : length (sample_rows 7 2) ≡ 6
three_each = refl
