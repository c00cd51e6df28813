-- What the table gives, row by row.
use Rattle.std.specs.Prelude.{◌≡◌, ℕ, true, false, List, [], ◌∷◌, None, refl}
use Rattle.res_base.specs.declared.reading.Check.{Check}
use Rattle.res_base.specs.declared.reading.Check.TheVariants.{Sha1, NoCheck}
use Rattle.cache_layout.specs.declared.record.Found.{Found}
use Rattle.cache_layout.specs.declared.record.Found.TheVariants as found
use Rattle.cache_policy.specs.Decisions.{decision}
use Rattle.cache_policy.specs.declared.Decision.TheVariants.{Use, Ask, Unavailable}
use Rattle.cache_policy.specs.declared.Mode.TheVariants.{Missing, Offline, Refresh}

abbrev usual : List Check
usual = Sha1 ∷ NoCheck ∷ []

-- data that came at 1000
abbrev data_found : Found
data_found = found.Whole (record { checks = usual; sha1 = []; sha256 = None; length = 3; moment = 1000 })

settled_data : decision Missing false data_found usual 99999 0 ≡ Use
settled_data = refl

changing_data : decision Missing true data_found usual 87400 86400 ≡ Use
changing_data = refl

old_data : decision Missing true data_found usual 87401 86400 ≡ Ask
old_data = refl

other_checks : decision Missing false data_found (Sha1 ∷ []) 1000 86400 ≡ Ask
other_checks = refl

absence : decision Missing false (found.Gone 1000) usual 87400 86400 ≡ Use
absence = refl

old_absence : decision Missing false (found.Gone 1000) usual 87401 86400 ≡ Ask
old_absence = refl

-- what came later than now has the age 0
later_absence : decision Missing true (found.Gone 1000) usual 5 0 ≡ Use
later_absence = refl

offline_absence : decision Offline true (found.Gone 0) usual 99999 0 ≡ Use
offline_absence = refl

offline_other_checks : decision Offline false data_found [] 1000 0 ≡ Unavailable
offline_other_checks = refl

refreshed : decision Refresh false data_found usual 1000 86400 ≡ Ask
refreshed = refl
