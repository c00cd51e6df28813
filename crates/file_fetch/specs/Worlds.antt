-- Answers that are those of a world.
use Rattle.std.specs.Prelude.{ℕ, ◌≡◌, List, Option, Some}
use Rattle.answer_reading.specs.Readings.{reading_of}
use Rattle.cache_images.specs.Sound.{IsFaithful, IsUrlOf}
use Rattle.digest_check.specs.KeyAnswers.{answer_at, checked}
use Rattle.disk_base.specs.Images.{Image, IsImage}
use Rattle.disk_base.specs.Names.{Names}
use Rattle.pool_rules.specs.Plans.{url_in}
use Rattle.pool_rules.specs.Worlds.{reading_in}
use Rattle.pool_rules.specs.declared.plan.Plan.{Plan}
use Rattle.res_base.specs.World.{at}
use Rattle.res_base.specs.declared.key.FileKey.{FileKey}
use Rattle.res_base.specs.declared.key.Role.TheVariants.{Artifact}
use Rattle.res_base.specs.declared.reading.Answer.{Answer}
use Rattle.res_base.specs.declared.reading.Answer.TheVariants.{Bytes}
use Rattle.res_base.specs.declared.reading.Check.{Check}
use Rattle.res_base.specs.declared.world.WorldRow.{WorldRow}

-- the disk tells its names, and whatever a crash leaves of them is faithful to the world
pub record IsFaithfulTo (w : List WorldRow) (told : Option Names) : Type 0 where
  pub names : Names
  pub tells : told ≡ Some names
  pub faithful : (i : Image) → IsImage names i → IsFaithful w i

-- what is read of the answer is what is read of the world's
abbrev pub IsWorldsReading : List WorldRow → Plan → FileKey → Answer → Type 0
IsWorldsReading w plan key got = reading_of key.role got ≡ reading_in plan w key

-- likewise of an artifact
abbrev pub IsWorldsArtifact : List WorldRow → Plan → FileKey → Answer → Type 0
IsWorldsArtifact w plan key got =
    reading_of Artifact got ≡ reading_of Artifact (answer_at (at w) plan.checks plan.limit (url_in plan key))

-- the bytes are the world's at each URL of the name, and these checks accept them
abbrev pub IsWorldsFile : List WorldRow → List ℕ → List ℕ → List Check → Type 0
IsWorldsFile w name bytes checks = (url : List ℕ) → IsUrlOf name url
    → (at w url ≡ Some bytes) × (checked (at w) url bytes checks ≡ Bytes bytes)
