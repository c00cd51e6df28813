-- What is found under a name.
use Rattle.std.specs.Prelude.{ℕ, ◌&&◌, Bool, List, Option, Some, None, option_and_then, false, if◌then◌else◌, is_some, length, nat_eq, true}
use Rattle.std.specs.Option.{option_eq}
use Rattle.sha1.specs.Sha1.{sha1}
use Rattle.sha2.specs.Sha256.{sha256}
use Rattle.cache_images.specs.Places.{gone_name, record_name}
use Rattle.cache_layout.specs.Readings.{gone_in, record_in}
use Rattle.cache_layout.specs.declared.record.Found.{Found}
use Rattle.cache_layout.specs.declared.record.Found.TheVariants.{Broken, Gone, Nothing, Whole}
use Rattle.cache_layout.specs.declared.record.Measured.{Measured}
use Rattle.cache_layout.specs.declared.record.Record.{Record}
use Rattle.disk_base.specs.Images.{Image}
use Rattle.res_base.specs.Names.{text_eq}

abbrev pub second_of : Bool → List ℕ → Option (List ℕ)
second_of second bytes = if second then Some (sha256 bytes) else None

-- the length of these bytes and their digests, the SHA-256 only where it is wanted
abbrev pub measured_by : Bool → List ℕ → Measured
measured_by second bytes = record { sha1 = sha1 bytes; sha256 = second_of second bytes; length = length bytes }

-- the SHA-256 where the record has one
abbrev pub measured : Option (List ℕ) → List ℕ → Measured
measured digest bytes = measured_by (is_some digest) bytes

abbrev pub measure_of : Record → Measured
measure_of entry = record { sha1 = entry.sha1; sha256 = entry.sha256; length = entry.length }

abbrev pub same_measure : Measured → Measured → Bool
same_measure a b = text_eq a.sha1 b.sha1 && (option_eq text_eq a.sha256 b.sha256 && nat_eq a.length b.length)

-- data beside a record that reads, or beside none
abbrev pub data_found : Option Record → List ℕ → Found
data_found None bytes = Broken None (measured None bytes)
data_found (Some entry) bytes =
    if same_measure (measure_of entry) (measured entry.sha256 bytes) then Whole entry
    else Broken (Some (measure_of entry)) (measured entry.sha256 bytes)

abbrev pub absence_found : Option ℕ → Found
absence_found None = Nothing
absence_found (Some moment) = Gone moment

abbrev pub found_of : Option (List ℕ) → Option (List ℕ) → Option (List ℕ) → Found
found_of None line absent = absence_found (option_and_then gone_in absent)
found_of (Some bytes) line absent = data_found (option_and_then record_in line) bytes

abbrev pub found_in : Image → List ℕ → Found
found_in i name = found_of (i name) (i (record_name name)) (i (gone_name name))

abbrev pub is_broken : Found → Bool
is_broken (Broken wanted got) = true
is_broken (Whole entry) = false
is_broken (Gone moment) = false
is_broken Nothing = false
