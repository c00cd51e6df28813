-- Names of a disk in memory that are selected, and what numbers pick for them.
use Rattle.std.specs.Prelude.{ℕ, ◌+◌, ◌&&◌, Bool, List, [], ◌∷◌, filter, is_some, nat_eq}
use Rattle.std.specs.List.{starts_with}
use Rattle.disk_base.specs.Crashes.{number_at, picked, was_bound}
use Rattle.disk_base.specs.Names.{Names}
use Rattle.disk_base.specs.declared.rows.FirstName.{FirstName}

abbrev pub is_listed : Names → List ℕ → List ℕ → Bool
is_listed s prefix name = is_some (s name).present && starts_with nat_eq name prefix

-- those that are bound and begin so
abbrev pub listed_in : Names → List ℕ → List (List ℕ) → List (List ℕ)
listed_in s prefix names = filter (is_listed s prefix) names

abbrev pub is_held : Names → List ℕ → Bool
is_held s name = was_bound (s name)

-- those that are bound, or were since the names were synced
abbrev pub held_in : Names → List (List ℕ) → List (List ℕ)
held_in s names = filter (is_held s) names

-- for each name what the number at its place picks
abbrev pub rows_picked : List ℕ → ℕ → Names → List (List ℕ) → List FirstName
rows_picked picks place s [] = []
rows_picked picks place s (name ∷ names) =
    record { name = name; bytes = picked (number_at picks place) (s name) } ∷ rows_picked picks (place + 1) s names
