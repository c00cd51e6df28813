-- What an upgrade of a record comes to.
use Rattle.std.specs.Prelude.{ℕ, List, Option, Some, None}
use Rattle.sha2.specs.Sha256.{sha256}
use Rattle.disk_base.specs.Images.{Image}
use Rattle.cache_layout.specs.declared.record.Found.{Found}
use Rattle.cache_layout.specs.declared.record.Found.TheVariants.{Broken, Gone, Nothing, Whole}
use Rattle.cache_layout.specs.declared.record.Record.{Record}
use Rattle.cache_reads.specs.Finds.{found_in}
use Rattle.cache_reads.specs.Pieces.{bytes_or_none}
use Rattle.cache_reads.specs.declared.planning.Upgraded.{Upgraded}
use Rattle.cache_reads.specs.declared.planning.Upgraded.TheVariants.{Already, Done, Not}

-- the same record with a SHA-256
abbrev pub with_second : List ℕ → Record → Record
with_second digest entry = record {
  checks = entry.checks;
  sha1 = entry.sha1;
  sha256 = Some digest;
  length = entry.length;
  moment = entry.moment;
}

-- the record of whole data, by the SHA-256 that it has
abbrev pub whole_upgraded : Option (List ℕ) → Record → List ℕ → Upgraded
whole_upgraded None entry bytes = Done (with_second (sha256 bytes) entry)
whole_upgraded (Some digest) entry bytes = Already entry

-- what is found, beside these bytes
abbrev pub upgraded : Found → List ℕ → Upgraded
upgraded (Whole entry) bytes = whole_upgraded entry.sha256 entry bytes
upgraded (Gone moment) bytes = Not
upgraded Nothing bytes = Not
upgraded (Broken wanted got) bytes = Not

abbrev pub upgraded_in : Image → List ℕ → Upgraded
upgraded_in i name = upgraded (found_in i name) (bytes_or_none (i name))
