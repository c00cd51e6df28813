-- Rows of dependencies by their keys, after the Maven POM reference: a row's key is its org, name, type and classifier, with `jar` for an absent type.
use Rattle.std.specs.Prelude.{ℕ, Bool, not, Option, None, Some, List, [], ◌∷◌, ◌++◌, codes, map, filter, fold, if◌then◌else◌}
use Rattle.std.specs.List.{find, list_any}
use Rattle.std.specs.Ordering.{eq_of_both, on}
use Rattle.res_base.specs.Names.{text_eq}
use Rattle.res_base.specs.declared.pom.DepRecord.{DepRecord}
use Rattle.res_base.specs.declared.pom.Exclusion.{Exclusion}

-- an absent text is empty
abbrev pub or_text : List ℕ → List ℕ → List ℕ
or_text [] other = other
or_text (byte ∷ text) other = byte ∷ text

abbrev pub or_exclusions : List Exclusion → List Exclusion → List Exclusion
or_exclusions [] other = other
or_exclusions (rule ∷ rules) other = rule ∷ rules

abbrev pub kind_or_jar : DepRecord → List ℕ
kind_or_jar row = or_text row.kind (codes "jar")

abbrev pub row_key_eq : DepRecord → DepRecord → Bool
row_key_eq =
    eq_of_both (eq_of_both (on (λ row. row.«module».org) text_eq) (on (λ row. row.«module».name) text_eq))
    (eq_of_both (on kind_or_jar text_eq) (on (λ row. row.classifier) text_eq))

abbrev pub has_key_of : DepRecord → List DepRecord → Bool
has_key_of row rows = list_any (row_key_eq row) rows

-- of rows with one key the last counts, and stays at its own place
abbrev pub last_of_key : List DepRecord → List DepRecord
last_of_key [] = []
last_of_key (row ∷ rows) = if has_key_of row rows then last_of_key rows else row ∷ last_of_key rows

-- the earlier rows whose key is not among the later ones, then the later ones
abbrev pub overridden : List DepRecord → List DepRecord → List DepRecord
overridden earlier later = filter (λ row. not (has_key_of row later)) earlier ++ later

-- the rows of a project and its parents, where each list overrides those behind it
abbrev pub joined : List (List DepRecord) → List DepRecord
joined [] = []
joined (own ∷ parents) = overridden (joined parents) (last_of_key own)

-- a row counts only if no earlier row has its key
abbrev pub with_row : List DepRecord → DepRecord → List DepRecord
with_row rows row = if has_key_of row rows then rows else rows ++ row ∷ []

abbrev pub with_imported : List DepRecord → List DepRecord → List DepRecord
with_imported rows more = fold with_row rows more

-- what a row takes from a managed row, each where it has none of its own
abbrev pub taking : DepRecord → DepRecord → DepRecord
taking managed row =
    record row { version = or_text row.version managed.version; scope = or_text row.scope managed.scope; exclusions = or_exclusions row.exclusions managed.exclusions }

abbrev pub with_defaults : DepRecord → DepRecord
with_defaults row = record row { kind = kind_or_jar row; scope = or_text row.scope (codes "compile") }

abbrev pub completed : Option DepRecord → DepRecord → DepRecord
completed None row = with_defaults row
completed (Some managed) row = with_defaults (taking managed row)

-- a dependency, by the managed row with its key
abbrev pub managed_by : List DepRecord → DepRecord → DepRecord
managed_by managed row = completed (find (row_key_eq row) managed) row

abbrev pub all_managed : List DepRecord → List DepRecord → List DepRecord
all_managed managed rows = map (managed_by managed) rows
