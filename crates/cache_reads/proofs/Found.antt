-- What is found under a name.
use Rattle.std.proofs.Common.{ℕ, ◌≡◌, true, false, List, Option, Some, None, sym, ap, ◌∙◌, true≢false}
use Rattle.std.specs.Prelude.{is_some, option_and_then}
use Rattle.disk_base.specs.Names.{Names, read_name}
use Rattle.cache_images.specs.Places.{gone_name, record_name}
use Rattle.cache_layout.specs.Readings.{gone_in, record_in}
use Rattle.cache_layout.specs.declared.record.Found.{Found}
use Rattle.cache_reads.specs.Finds.{absence_found, data_found, found_in, found_of}
use Rattle.cache_reads.specs.Pieces.{bytes_or_none}

-- data is there
pub found_data : (o l g : Option (List ℕ)) (found : Found) → is_some o ≡ true
    → found ≡ data_found (option_and_then record_in l) (bytes_or_none o) → found ≡ found_of o l g
found_data None l g found there e = absurd (true≢false (sym there))
found_data (Some bytes) l g found there e = e

-- no data is there
pub found_absence : (o l g : Option (List ℕ)) (found : Found) → is_some o ≡ false
    → found ≡ absence_found (option_and_then gone_in g) → found ≡ found_of o l g
found_absence None l g found there e = e
found_absence (Some bytes) l g found there e = absurd (true≢false there)

-- an absence record that is there
pub read_absence : (o : Option (List ℕ)) (line : List ℕ) → is_some o ≡ true → line ≡ bytes_or_none o
    → absence_found (gone_in line) ≡ absence_found (option_and_then gone_in o)
read_absence None line there e = absurd (true≢false (sym there))
read_absence (Some text) line there e = ap (λ (l : List ℕ). absence_found (gone_in l)) e

-- under the names of the record and of the absence record
pub found_named : (s : Names) (name entry gone : List ℕ) (found : Found) → entry ≡ record_name name → gone ≡ gone_name name
    → found ≡ found_of (read_name s name) (read_name s entry) (read_name s gone) → found ≡ found_in (read_name s) name
found_named s name entry gone found e f h =
    h ∙ (ap (λ (n : List ℕ). found_of (read_name s name) (read_name s n) (read_name s gone)) e
    ∙ ap (λ (n : List ℕ). found_of (read_name s name) (read_name s (record_name name)) (read_name s n)) f)
