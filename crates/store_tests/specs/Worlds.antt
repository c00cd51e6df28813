-- The file of a world.
use Rattle.std.specs.Prelude.{ℕ, ◌≡◌, List, Some}
use Rattle.cache_images.specs.Sound.{IsUrlOf}
use Rattle.digest_check.specs.KeyAnswers.{checked}
use Rattle.res_base.specs.World.{at}
use Rattle.res_base.specs.declared.reading.Answer.TheVariants as answers
use Rattle.res_base.specs.declared.reading.Check.{Check}
use Rattle.res_base.specs.declared.world.WorldRow.{WorldRow}

-- these bytes are the world's at each URL of the name, and these checks accept them there
abbrev pub AreWorlds : List WorldRow → List ℕ → List ℕ → List Check → Type 0
AreWorlds w name bytes checks = (url : List ℕ) → IsUrlOf name url → (at w url ≡ Some bytes)
    × (checked (at w) url bytes checks ≡ answers.Bytes bytes)
