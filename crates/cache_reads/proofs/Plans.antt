-- What an upgrade comes to, by what was read.
use Rattle.std.proofs.Common.{ℕ, ◌≡◌, true, false, List, [], Option, Some, None, refl, sym, ap, ◌∙◌, true≢false}
use Rattle.std.specs.Prelude.{is_some, option_and_then}
use Rattle.disk_base.specs.Names.{Names, read_name}
use Rattle.cache_images.specs.Places.{gone_name, record_name}
use Rattle.cache_layout.specs.Readings.{gone_in, record_in}
use Rattle.cache_reads.specs.Finds.{absence_found, data_found, found_of}
use Rattle.cache_reads.specs.Pieces.{bytes_or_none}
use Rattle.cache_reads.specs.Upgrades.{upgraded, upgraded_in}
use Rattle.cache_reads.specs.declared.planning.Upgraded.{Upgraded}
use Rattle.cache_reads.specs.declared.planning.Upgraded.TheVariants.{Not}

absent_case : (m : Option ℕ) → Not ≡ upgraded (absence_found m) []
absent_case None = refl
absent_case (Some moment) = refl

-- no data is there
pub plan_absent : (o l g : Option (List ℕ)) → is_some o ≡ false → Not ≡ upgraded (found_of o l g) (bytes_or_none o)
plan_absent None l g e = absent_case (option_and_then gone_in g)
plan_absent (Some bytes) l g e = absurd (true≢false e)

-- data is there
pub plan_there : (o l g : Option (List ℕ)) (up : Upgraded) → is_some o ≡ true
    → up ≡ upgraded (data_found (option_and_then record_in l) (bytes_or_none o)) (bytes_or_none o)
    → up ≡ upgraded (found_of o l g) (bytes_or_none o)
plan_there None l g up e h = absurd (true≢false (sym e))
plan_there (Some bytes) l g up e h = h

-- under the name of the record
pub plan_named : (s : Names) (name entry : List ℕ) (up : Upgraded) → entry ≡ record_name name
    → up ≡ upgraded (found_of (read_name s name) (read_name s entry) (read_name s (gone_name name))) (bytes_or_none (read_name s name))
    → up ≡ upgraded_in (read_name s) name
plan_named s name entry up e h =
    h ∙ ap (λ (n : List ℕ). upgraded (found_of (read_name s name) (read_name s n) (read_name s (gone_name name)))
    (bytes_or_none (read_name s name))) e
