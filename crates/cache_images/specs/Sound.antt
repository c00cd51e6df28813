-- When an image of the cache is sound, and when it is faithful to a world.
use Rattle.std.specs.Prelude.{ℕ, ◌≡◌, List, Option, Some, None, IfSome, length}
use Rattle.sha1.specs.Sha1.{sha1}
use Rattle.sha2.specs.Sha256.{sha256}
use Rattle.cache_images.specs.Places.{IsDataName, gone_name, record_name}
use Rattle.cache_layout.specs.Addresses.{IsAddress}
use Rattle.cache_layout.specs.Names.{name_of}
use Rattle.cache_layout.specs.Readings.{gone_in, record_in}
use Rattle.cache_layout.specs.declared.record.Record.{Record}
use Rattle.digest_check.specs.KeyAnswers.{checked}
use Rattle.disk_base.specs.Images.{Image}
use Rattle.hex.specs.Hex.{IsBytes}
use Rattle.res_base.specs.Paths.{url_at}
use Rattle.res_base.specs.World.{at}
use Rattle.res_base.specs.declared.reading.Answer.TheVariants as answers
use Rattle.res_base.specs.declared.world.WorldRow.{WorldRow}

-- the record has the length and the digests of these bytes; one of format 1 has no SHA-256
pub record Measures (entry : Record) (bytes : List ℕ) : Type 0 where
  pub size : entry.length ≡ length bytes
  pub first : entry.sha1 ≡ sha1 bytes
  pub second : IfSome entry.sha256 (λ digest. digest ≡ sha256 bytes)

-- the line of a record that measures these bytes
pub record RecordFits (line bytes : List ℕ) : Type 0 where
  pub entry : Record
  pub reads : record_in line ≡ Some entry
  pub measures : Measures entry bytes

abbrev pub HasRecord : Option (List ℕ) → List ℕ → Type 0
HasRecord None bytes = ⊥
HasRecord (Some line) bytes = RecordFits line bytes

-- what holds of each data file with its record, and of each absence record
abbrev pub EachFile : (List ℕ → List ℕ → Option (List ℕ) → Type 0) → (List ℕ → List ℕ → Type 0) → Image → Type 0
EachFile Fits Gone i = (name : List ℕ) → IsDataName name
    → ((bytes : List ℕ) → i name ≡ Some bytes → Fits name bytes (i (record_name name)))
    × ((line : List ℕ) → i (gone_name name) ≡ Some line → Gone name line)

abbrev pub HasItsRecord : List ℕ → List ℕ → Option (List ℕ) → Type 0
HasItsRecord name bytes line = HasRecord line bytes

abbrev pub AnyLine : List ℕ → List ℕ → Type 0
AnyLine name line = Unit {0}

-- Each data file has a record that reads, with the length and the digests of its whole content.
abbrev pub IsSound : Image → Type 0
IsSound = EachFile HasItsRecord AnyLine

-- the URL of a file at a path below an address, whose name in the cache this is; a name has one such URL
pub record IsUrlOf (name url : List ℕ) : Type 0 where
  pub address : List ℕ
  pub path : List ℕ
  pub whole : url ≡ url_at address path
  pub reads : IsAddress address
  pub bytes : IsBytes url
  pub named : name_of url ≡ name

-- the bytes are the world's at the URL of this name, and the checks of the record in this line accept them
abbrev pub IsWorlds : List WorldRow → List ℕ → List ℕ → Option (List ℕ) → Type 0
IsWorlds w name bytes line = (url : List ℕ) → IsUrlOf name url → (at w url ≡ Some bytes)
    × ((text : List ℕ) (entry : Record) → line ≡ Some text → record_in text ≡ Some entry
    → checked (at w) url bytes entry.checks ≡ answers.Bytes bytes)

-- where the line reads, the world has no such file
abbrev pub IsGoneIn : List WorldRow → List ℕ → List ℕ → Type 0
IsGoneIn w name line = (url : List ℕ) (moment : ℕ) → IsUrlOf name url → gone_in line ≡ Some moment → at w url ≡ None

-- Each data file is the world's, accepted by the checks of its record; and what an absence record names is absent there.
abbrev pub IsFaithful : List WorldRow → Image → Type 0
IsFaithful w = EachFile (IsWorlds w) (IsGoneIn w)
