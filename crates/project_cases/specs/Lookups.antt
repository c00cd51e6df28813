-- Look-ups as printed.
use Rattle.std.specs.Prelude.{ℕ, List, ◌∷◌, ◌++◌, map, codes, decimal}
use Rattle.project_lookup.specs.Listings.{Listed, versions, unknown, no_listing}
use Rattle.project_lookup.specs.Looks.{Looked, found, missing, not_found}
use Rattle.case_words.specs.HexWord.{hex_word}
use Rattle.project_cases.specs.Reasons.{reason_line}
use Rattle.case_words.specs.Words.{joined}

abbrev pub look_line : Looked → List ℕ
look_line (found repo pom) = codes "found " ++ decimal repo
look_line (missing key) = codes "missing " ++ decimal key.repo
look_line (not_found why) = joined (codes " ") (codes "not-found" ∷ map reason_line why)

abbrev pub listing_line : Listed → List ℕ
listing_line (versions listed) = joined (codes " ") (codes "versions" ∷ map hex_word listed)
listing_line (unknown key) = codes "unknown " ++ decimal key.repo
listing_line no_listing = codes "no-listing"
