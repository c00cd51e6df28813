-- What is done for a file, by what the cache has of it.
use Rattle.std.specs.Prelude.{ℕ, ◌-◌, Bool, not, ◌||◌, List, nat_eq, nat_le, if◌then◌else◌}
use Rattle.std.specs.Cmp.Lexicographic.{pointwise}
use Rattle.std.specs.Ordering.{on}
use Rattle.res_base.specs.declared.reading.Check.{Check}
use Rattle.res_base.specs.declared.reading.Check.TheVariants.{Sha1, Md5, Sha256, NoCheck}
use Rattle.cache_layout.specs.declared.record.Found.{Found}
use Rattle.cache_layout.specs.declared.record.Found.TheVariants as found
use Rattle.cache_policy.specs.declared.Decision.{Decision}
use Rattle.cache_policy.specs.declared.Decision.TheVariants.{Use, Ask, Unavailable}
use Rattle.cache_policy.specs.declared.Mode.{Mode}
use Rattle.cache_policy.specs.declared.Mode.TheVariants.{Missing, Offline, Refresh}
use Rattle.cache_policy.specs.declared.decisions.Usable.{Usable}
use Rattle.cache_policy.specs.declared.decisions.Usable.TheVariants.{Data, Absence, Neither}

abbrev pub check_number : Check → ℕ
check_number Sha1 = 0
check_number Md5 = 1
check_number Sha256 = 2
check_number NoCheck = 3

-- the same checks in the same order
abbrev pub checks_eq : List Check → List Check → Bool
checks_eq = pointwise (on check_number nat_eq)

-- data is usable where its record has the wanted checks
abbrev pub usable : List Check → Found → Usable
usable checks (found.Whole entry) = if checks_eq entry.checks checks then Data entry.moment else Neither
usable checks (found.Gone moment) = Absence moment
usable checks found.Nothing = Neither
usable checks (found.Broken wanted got) = Neither

-- the age, which is at least 0, is at most the ttl
abbrev pub is_fresh : ℕ → ℕ → ℕ → Bool
is_fresh moment ttl since = nat_le (moment - since) ttl

-- the table: each mode, with usable data, with a usable absence, and with neither
abbrev pub in_table : Mode → Bool → (ℕ → Bool) → Usable → Decision
in_table Missing changing fresh (Data since) = if not changing || fresh since then Use else Ask
in_table Missing changing fresh (Absence since) = if fresh since then Use else Ask
in_table Missing changing fresh Neither = Ask
in_table Offline changing fresh (Data since) = Use
in_table Offline changing fresh (Absence since) = Use
in_table Offline changing fresh Neither = Unavailable
in_table Refresh changing fresh usable = Ask

abbrev pub decision : Mode → Bool → Found → List Check → ℕ → ℕ → Decision
decision mode changing found checks moment ttl = in_table mode changing (is_fresh moment ttl) (usable checks found)
