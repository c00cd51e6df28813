-- The managed rows of a project, and of those that it imports.
use Rattle.std.specs.Prelude.{ℕ, zero, suc, Bool, not, ◌&&◌, List, [], ◌∷◌, ◌++◌, codes, filter, fold, map, if◌then◌else◌}
use Rattle.std.specs.List.{list_any}
use Rattle.res_base.specs.Known.{Known}
use Rattle.res_base.specs.Names.{key_eq, text_eq}
use Rattle.res_base.specs.declared.coord.Coord.{Coord}
use Rattle.res_base.specs.declared.key.FileKey.{FileKey}
use Rattle.res_base.specs.declared.pom.DepRecord.{DepRecord}
use Rattle.row_lists.specs.RowLists.{joined, with_imported}
use Rattle.pom_build.specs.Filling.{filled_rows}
use Rattle.pom_build.specs.Lines.{is_among, line_of, projects_of}
use Rattle.pom_build.specs.Names.{fill_in}
use Rattle.pom_build.specs.Outcomes.{and_then, unless_met}
use Rattle.pom_build.specs.declared.build.BuildFault.TheVariants.{ImportCycle, TooDeep, LineAbsent}
use Rattle.pom_build.specs.declared.line.Line.{Line}
use Rattle.pom_build.specs.declared.outcome.Outcome.{Outcome}
use Rattle.pom_build.specs.declared.outcome.Outcome.TheVariants.{Built, Needs, NotFound, Refused}

-- joined as written, then filled
unfoldable pub managed_rows : Line → List DepRecord
managed_rows line = filled_rows (fill_in line) (joined (map (λ project. project.pom.managed) (projects_of line)))

abbrev pub is_import : DepRecord → Bool
is_import row = text_eq row.kind (codes "pom") && text_eq row.scope (codes "import")

abbrev pub import_coord : DepRecord → Coord
import_coord row = record { «module» = row.«module»; version = row.version }

-- keys that are needed, each once
abbrev pub with_key : List FileKey → FileKey → List FileKey
with_key keys key = if list_any (key_eq key) keys then keys else keys ++ key ∷ []

abbrev pub also_needed : List FileKey → Outcome (List DepRecord) → Outcome (List DepRecord)
also_needed keys (Needs more) = Needs (fold with_key keys more)
also_needed keys (Built rows) = Needs keys
also_needed keys (NotFound why) = Needs keys
also_needed keys (Refused fault) = Needs keys

abbrev pub unless_needed : Outcome (List DepRecord) → Outcome (List DepRecord) → Outcome (List DepRecord)
unless_needed first (Needs keys) = Needs (fold with_key [] keys)
unless_needed first (Built rows) = first
unless_needed first (NotFound why) = first
unless_needed first (Refused fault) = first

abbrev pub also_built : List DepRecord → Outcome (List DepRecord) → Outcome (List DepRecord)
also_built rows (Built more) = Built (with_imported rows more)
also_built rows (Needs keys) = Needs (fold with_key [] keys)
also_built rows (NotFound why) = NotFound why
also_built rows (Refused fault) = Refused fault

-- two answers as one: all that is needed, else the first fault, else the rows of both
abbrev pub merged : Outcome (List DepRecord) → Outcome (List DepRecord) → Outcome (List DepRecord)
merged (Built rows) next = also_built rows next
merged (Needs keys) next = also_needed keys next
merged (NotFound why) next = unless_needed (NotFound why) next
merged (Refused fault) next = unless_needed (Refused fault) next

-- each import in its order, also behind a fault
abbrev pub import_all : (Coord → Outcome (List DepRecord)) → Outcome (List DepRecord) → List DepRecord → Outcome (List DepRecord)
import_all managed so_far imports = fold (λ gathered row. merged gathered (managed (import_coord row))) so_far imports

-- a project's own managed rows, and then what its imports manage
abbrev pub managed_with : (Coord → Outcome (List DepRecord)) → Line → Outcome (List DepRecord)
managed_with managed line = import_all managed (Built (filter (λ row. not (is_import row)) (managed_rows line))) (filter is_import (managed_rows line))

-- an imported project that is not found is a fault
abbrev pub imported : Coord → Outcome Line → Outcome Line
imported c (Built line) = Built line
imported c (Needs keys) = Needs keys
imported c (NotFound why) = Refused (LineAbsent c why)
imported c (Refused fault) = Refused fault

abbrev pub past_chain : List Coord → Coord → Outcome (List DepRecord)
past_chain chain c = Refused (if is_among c chain then ImportCycle (chain ++ c ∷ []) else TooDeep (chain ++ c ∷ []))

-- the managed list of a project that is imported behind a chain of others, with at most so many projects more
abbrev pub managed_from : Known → ℕ → ℕ → List Coord → Coord → Outcome (List DepRecord)
managed_from known repos zero chain c = past_chain chain c
managed_from known repos (suc left) chain c =
    unless_met (is_among c chain) (ImportCycle (chain ++ c ∷ [])) (λ one. and_then (imported one (line_of known repos one)) (managed_with (managed_from known repos left (chain ++ one ∷ [])))) c
