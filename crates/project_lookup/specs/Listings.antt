-- Which versions a repository lists of a module.
use Rattle.std.specs.Prelude.{ℕ, Bool, true, false, Option, None, Some, List, if◌then◌else◌}
use Rattle.res_base.specs.Builders.{key_of}
use Rattle.res_base.specs.Known.{Known}
use Rattle.res_base.specs.Paths.{listing_path_of}
use Rattle.res_base.specs.Plain.{is_plain_module}
use Rattle.res_base.specs.declared.coord.Module.{Module}
use Rattle.res_base.specs.declared.key.FileKey.{FileKey}
use Rattle.res_base.specs.declared.key.Role.TheVariants as roles
use Rattle.res_base.specs.declared.reading.Reading.{Reading}
use Rattle.res_base.specs.declared.reading.Reading.TheVariants as readings
use Rattle.project_lookup.specs.declared.looks.ListingAt.{ListingAt}
use Rattle.project_lookup.specs.declared.looks.ListingAt.TheVariants as listings

pub data Listed : Type 0 where
  versions : List (List ℕ) → Listed
  unknown : FileKey → Listed
  no_listing : Listed

-- an answer of the code, without its reference
abbrev pub seen_listing : ListingAt → Listed
seen_listing (listings.Versions listed) = versions listed.now
seen_listing (listings.Unknown key) = unknown key
seen_listing listings.NoListing = no_listing

abbrev pub is_unknown : Listed → Bool
is_unknown (versions listed) = false
is_unknown (unknown key) = true
is_unknown no_listing = false

abbrev pub listing_in : Reading → Listed
listing_in (readings.Pom pom) = no_listing
listing_in (readings.Listing listed) = versions listed
listing_in (readings.Stored len) = no_listing
listing_in (readings.NotReadable fault) = no_listing
listing_in readings.Absent = no_listing
listing_in (readings.Damaged damage) = no_listing
listing_in readings.TooLarge = no_listing

abbrev pub listing_at_key : FileKey → Option Reading → Listed
listing_at_key key None = unknown key
listing_at_key key (Some reading) = listing_in reading

abbrev pub listing_key : Module → ℕ → FileKey
listing_key m repo = key_of repo roles.Listing (listing_path_of m)

-- a module that is not plain has no listing, and no key is asked
abbrev pub listing_of : Known → Module → ℕ → Listed
listing_of known m repo =
    if is_plain_module m then listing_at_key (listing_key m repo) (known (listing_key m repo)) else no_listing
