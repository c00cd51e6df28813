-- What the disk has of open parts, and of the record of a sealed one.
use Rattle.std.specs.Prelude.{ℕ, ◌≡◌, ◌<◌, List, Option, Some, is_some, true}
use Rattle.std.specs.Option.{ForSome}
use Rattle.cache_images.specs.Leaves.{IsFirmly}
use Rattle.cache_images.specs.Places.{part_name, record_name}
use Rattle.cache_images.specs.Sound.{IsUrlOf}
use Rattle.cache_layout.specs.Readings.{record_in}
use Rattle.cache_layout.specs.declared.record.Record.{Record}
use Rattle.digest_check.specs.KeyAnswers.{checked}
use Rattle.disk_base.specs.Names.{Names, read_name}
use Rattle.res_base.specs.World.{at}
use Rattle.res_base.specs.declared.reading.Answer.TheVariants as answers
use Rattle.res_base.specs.declared.reading.Check.{Check}
use Rattle.res_base.specs.declared.world.WorldRow.{WorldRow}
use Rattle.cache_store.specs.Stands.{IsSealedFor}
use Rattle.cache_store.specs.declared.store.Store.{Store}

-- the line is that of a record in format 2 with these checks and this moment
pub record TellsRecord (line : List ℕ) (checks : List Check) (moment : ℕ) : Type 0 where
  pub entry : Record
  pub reads : record_in line ≡ Some entry
  pub listed : entry.checks ≡ checks
  pub at_moment : entry.moment ≡ moment
  pub newer : is_some entry.sha256 ≡ true

module _ {D : Type 0} (told : D → Option Names) where
  -- as the disk reads, the part has these bytes
  abbrev pub HasContent : D → ℕ → List ℕ → Type 0
  HasContent disk number bytes = ForSome (told disk) (λ s. read_name s (part_name number) ≡ Some bytes)

  -- each part reads as before
  abbrev pub PartsRead : D → D → Type 0
  PartsRead old new = (j : ℕ) (bytes : List ℕ) → j < 4096 → HasContent old j bytes → HasContent new j bytes

  -- each part but this one reads as before
  abbrev pub OthersRead : ℕ → D → D → Type 0
  OthersRead number old new = (j : ℕ) (bytes : List ℕ) → j < 4096 → (j ≡ number → ⊥) → HasContent old j bytes
      → HasContent new j bytes

  -- whatever a crash leaves, the record under this name has these checks and this moment
  abbrev pub IsRecorded : D → List ℕ → List Check → ℕ → Type 0
  IsRecorded disk name checks moment = (s : Names) → told disk ≡ Some s
      → (line : List ℕ) × IsFirmly (s (record_name name)) line × TellsRecord line checks moment

  -- whatever a crash leaves, the file has these bytes
  abbrev pub IsKept : D → List ℕ → List ℕ → Type 0
  IsKept disk name bytes = (s : Names) → told disk ≡ Some s → IsFirmly (s name) bytes

  -- The part is sealed for a name, beside a record with these checks, and has these bytes; they are the world's at each
  -- URL of that name, and the checks accept them.
  pub record PublishesBytes (w : List WorldRow) (store : Store D) (number : ℕ) : Type 0 where
    pub name : List ℕ
    pub bytes : List ℕ
    pub checks : List Check
    pub moment : ℕ
    pub sealed : IsSealedFor store number name
    pub content : HasContent store.disk number bytes
    pub recorded : IsRecorded store.disk name checks moment
    pub worlds : (url : List ℕ) → IsUrlOf name url → (at w url ≡ Some bytes)
        × (checked (at w) url bytes checks ≡ answers.Bytes bytes)
