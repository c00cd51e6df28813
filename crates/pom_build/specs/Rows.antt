-- Worked rows.
use Rattle.std.specs.Prelude.{◌≡◌, ℕ, zero, suc, ◌+◌, ◌/◌, ◌%◌, None, Some, false, true, List, [], ◌∷◌, ◌++◌, codes, refl}
use Rattle.res_base.specs.Builders.{coord_of, key_of, module_of}
use Rattle.res_base.specs.Known.{known_of}
use Rattle.res_base.specs.Paths.{pom_path_of}
use Rattle.res_base.specs.declared.coord.Coord.{Coord}
use Rattle.res_base.specs.declared.key.FileKey.{FileKey}
use Rattle.res_base.specs.declared.key.Role.TheVariants as roles
use Rattle.res_base.specs.declared.pom.DepRecord.{DepRecord}
use Rattle.res_base.specs.declared.pom.PomRecord.{PomRecord}
use Rattle.res_base.specs.declared.pom.Property.{Property}
use Rattle.res_base.specs.declared.reading.Reading.{Reading}
use Rattle.res_base.specs.declared.reading.Reading.TheVariants as readings
use Rattle.res_base.specs.declared.reading.Reason.TheVariants as reasons
use Rattle.property_text.specs.Filled.{filled}
use Rattle.pom_build.specs.Effectives.{effective_of, filled_deps}
use Rattle.pom_build.specs.Imports.{managed_rows}
use Rattle.pom_build.specs.Lines.{line_of}
use Rattle.pom_build.specs.Names.{fill_in}
use Rattle.pom_build.specs.Reads.{effective_keys}
use Rattle.pom_build.specs.declared.build.Build.{Build}
use Rattle.pom_build.specs.declared.build.Build.TheVariants.{Built, Needs, NotFound, Refused}
use Rattle.pom_build.specs.declared.build.BuildFault.TheVariants.{ImportCycle, LineAbsent, ParentCycle, TooDeep}
use Rattle.pom_build.specs.declared.build.Effective.{Effective}

abbrev one : List ℕ
one = codes "1"

abbrev two : List ℕ
two = codes "2"

-- `x:NAME:1`
abbrev x : List ℕ → Coord
x name = coord_of (codes "x") name one

abbrev row : List ℕ → List ℕ → DepRecord
row name version = record { «module» = module_of (codes "x") name; version = version; kind = []; classifier = []; scope = []; optional = []; exclusions = [] }

abbrev dep : List ℕ → List ℕ → DepRecord
dep name version = record (row name version) { kind = codes "jar"; scope = codes "compile" }

abbrev bom : List ℕ → List ℕ → DepRecord
bom name version = record (row name version) { kind = codes "pom"; scope = codes "import" }

abbrev property : List ℕ → List ℕ → Property
property name value = record { name = name; value = value }

-- the project `x:NAME:1` without anything
abbrev plain : List ℕ → PomRecord
plain name = record { parent = None; org = codes "x"; name = name; version = one; packaging = codes "jar"; properties = []; deps = []; managed = []; moved = None }

-- one with a parent, which has its org and version
abbrev child : List ℕ → List ℕ → PomRecord
child name parent = record (plain name) { parent = Some (x parent); org = []; version = [] }

abbrev key : List ℕ → FileKey
key name = key_of 0 roles.Pom (pom_path_of (x name))

abbrev at : List ℕ → PomRecord → FileKey × Reading
at name pom = (key name, readings.Pom pom)

abbrev absent : List ℕ → FileKey × Reading
absent name = (key name, readings.Absent)

abbrev over : List (FileKey × Reading) → List ℕ → Build
over known name = effective_of (known_of known) 1 (x name)

-- the project of that name without dependencies and managed rows
abbrev bare : List ℕ → Effective
bare name = record { coord = x name; repo = 0; packaging = codes "jar"; deps = []; managed = []; moved = false }

-- the child's property counts in the parent's managed row, and `project.version` is that of the parent where the child has none
pub inherited : over (
    at (codes "g") (record (plain (codes "g")) { properties = property (codes "v") one ∷ []; managed = row (codes "m") (codes "${v}") ∷ [] })
    ∷ at (codes "p") (child (codes "p") (codes "g"))
    ∷ at (codes "a") (record (child (codes "a") (codes "p")) { properties = property (codes "v") two ∷ []; deps = row (codes "m") [] ∷ row (codes "n") (codes "${project.version}") ∷ [] })
    ∷ []) (codes "a")
    ≡ Built (record (bare (codes "a")) { deps = dep (codes "m") two ∷ dep (codes "n") one ∷ []; managed = row (codes "m") two ∷ [] })
unfolding filled fill_in line_of managed_rows filled_deps effective_of
inherited = refl

abbrev two_boms : List DepRecord → List (FileKey × Reading)
two_boms own =
    at (codes "i") (record (plain (codes "i")) { managed = row (codes "m") one ∷ [] })
    ∷ at (codes "j") (record (plain (codes "j")) { managed = row (codes "m") two ∷ row (codes "n") two ∷ [] })
    ∷ at (codes "k") (record (plain (codes "k")) { deps = row (codes "m") [] ∷ []; managed = bom (codes "i") one ∷ bom (codes "j") one ∷ own })
    ∷ []

-- the first import counts
pub first_import : over (two_boms []) (codes "k") ≡ Built (record (bare (codes "k")) { deps = dep (codes "m") one ∷ []; managed = row (codes "m") one ∷ row (codes "n") two ∷ [] })
unfolding filled fill_in line_of managed_rows filled_deps effective_of
first_import = refl

-- an own managed row counts before any import
pub own_before_imports : over (two_boms (row (codes "m") (codes "3") ∷ [])) (codes "k")
    ≡ Built (record (bare (codes "k")) { deps = dep (codes "m") (codes "3") ∷ []; managed = row (codes "m") (codes "3") ∷ row (codes "n") two ∷ [] })
unfolding filled fill_in line_of managed_rows filled_deps effective_of
own_before_imports = refl

-- of two imports under one key the last counts
pub one_import : over (
    at (codes "i") (record (plain (codes "i")) { managed = row (codes "m") one ∷ [] })
    ∷ at (codes "k") (record (plain (codes "k")) { managed = bom (codes "i") two ∷ bom (codes "i") one ∷ [] })
    ∷ []) (codes "k")
    ≡ Built (record (bare (codes "k")) { managed = row (codes "m") one ∷ [] })
unfolding filled fill_in line_of managed_rows filled_deps effective_of
one_import = refl

abbrev imports : List ℕ → List DepRecord → FileKey × Reading
imports name rows = at name (record (plain name) { managed = rows })

pub all_imports_are_needed : over (imports (codes "k") (bom (codes "i") one ∷ bom (codes "j") one ∷ []) ∷ []) (codes "k") ≡ Needs (key (codes "i") ∷ key (codes "j") ∷ [])
unfolding filled fill_in line_of managed_rows filled_deps effective_of
all_imports_are_needed = refl

-- an import is looked up behind a fault too, and a key is needed once
pub needs_before_faults : over (
    imports (codes "k") (bom (codes "e") one ∷ bom (codes "i") one ∷ bom (codes "j") one ∷ bom (codes "h") one ∷ [])
    ∷ imports (codes "i") (bom (codes "h") one ∷ [])
    ∷ imports (codes "j") (bom (codes "h") one ∷ bom (codes "k") one ∷ bom (codes "l") one ∷ [])
    ∷ absent (codes "e")
    ∷ []) (codes "k")
    ≡ Needs (key (codes "h") ∷ key (codes "l") ∷ [])
unfolding filled fill_in line_of managed_rows filled_deps effective_of
needs_before_faults = refl

-- the first fault counts, with its own path
pub first_fault : over (
    imports (codes "k") (bom (codes "i") one ∷ bom (codes "e") one ∷ [])
    ∷ imports (codes "i") (bom (codes "j") one ∷ [])
    ∷ at (codes "j") (child (codes "j") (codes "p"))
    ∷ at (codes "p") (child (codes "p") (codes "j"))
    ∷ absent (codes "e")
    ∷ []) (codes "k")
    ≡ Refused (ParentCycle (x (codes "j") ∷ x (codes "p") ∷ x (codes "j") ∷ []))
unfolding filled fill_in line_of managed_rows filled_deps effective_of
first_fault = refl

pub import_of_itself : over (imports (codes "q") (bom (codes "q") one ∷ []) ∷ []) (codes "q") ≡ Refused (ImportCycle (x (codes "q") ∷ x (codes "q") ∷ []))
unfolding filled fill_in line_of managed_rows filled_deps effective_of
import_of_itself = refl

pub absent_import : over (imports (codes "k") (bom (codes "e") one ∷ bom (codes "k") one ∷ []) ∷ absent (codes "e") ∷ []) (codes "k") ≡ Refused (LineAbsent (x (codes "e")) (reasons.Absent ∷ []))
unfolding filled fill_in line_of managed_rows filled_deps effective_of
absent_import = refl

pub parents_in_a_circle : over (at (codes "a") (child (codes "a") (codes "p")) ∷ at (codes "p") (child (codes "p") (codes "a")) ∷ []) (codes "a")
    ≡ Refused (ParentCycle (x (codes "a") ∷ x (codes "p") ∷ x (codes "a") ∷ []))
unfolding filled fill_in line_of managed_rows filled_deps effective_of
parents_in_a_circle = refl

pub absent_parent : over (at (codes "a") (child (codes "a") (codes "p")) ∷ absent (codes "p") ∷ []) (codes "a") ≡ Refused (LineAbsent (x (codes "p")) (reasons.Absent ∷ []))
unfolding filled fill_in line_of managed_rows filled_deps effective_of
absent_parent = refl

pub needed_parent : over (at (codes "a") (record (child (codes "a") (codes "p")) { managed = bom (codes "i") one ∷ [] }) ∷ []) (codes "a") ≡ Needs (key (codes "p") ∷ [])
unfolding filled fill_in line_of managed_rows filled_deps effective_of
needed_parent = refl

pub absent_project : over (absent (codes "a") ∷ []) (codes "a") ≡ NotFound (reasons.Absent ∷ [])
unfolding filled fill_in line_of managed_rows filled_deps effective_of
absent_project = refl

-- the parts that a relocation leaves out are those of the coordinate that was looked up, and no row is managed
pub moved_version : over (
    at (codes "a") (record (child (codes "a") (codes "p")) { properties = property (codes "to") two ∷ []; deps = row (codes "n") one ∷ []; moved = Some (record { org = []; name = []; version = codes "${to}" }) })
    ∷ at (codes "p") (record (plain (codes "p")) { managed = record (row (codes "a") (codes "3")) { scope = codes "test" } ∷ [] })
    ∷ []) (codes "a")
    ≡ Built (record (bare (codes "a")) { deps = dep (codes "a") two ∷ []; managed = record (row (codes "a") (codes "3")) { scope = codes "test" } ∷ []; moved = true })
unfolding filled fill_in line_of managed_rows filled_deps effective_of
moved_version = refl

pub moved_org : over (at (codes "a") (record (plain (codes "a")) { moved = Some (record { org = codes "y"; name = []; version = [] }) }) ∷ []) (codes "a")
    ≡ Built (record (bare (codes "a")) { deps = record (dep (codes "a") one) { «module» = module_of (codes "y") (codes "a") } ∷ []; moved = true })
unfolding filled fill_in line_of managed_rows filled_deps effective_of
moved_org = refl

-- the project `x:a:1` with properties and one dependency, which its record manages at 3
abbrev filled_version : List Property → List ℕ → Build
filled_version properties version = over (at (codes "a") (record (plain (codes "a")) { properties = properties; deps = row (codes "m") version ∷ []; managed = row (codes "m") (codes "3") ∷ [] }) ∷ []) (codes "a")

abbrev with_version : List ℕ → Build
with_version version = Built (record (bare (codes "a")) { deps = dep (codes "m") version ∷ []; managed = row (codes "m") (codes "3") ∷ [] })

pub endless_property : filled_version (property (codes "v") (codes "${v}") ∷ []) (codes "${v}") ≡ with_version (codes "${v}")
unfolding filled fill_in line_of managed_rows filled_deps effective_of
endless_property = refl

-- a text that is filled to nothing is absent
pub empty_property : filled_version (property (codes "v") [] ∷ []) (codes "${v}") ≡ with_version (codes "3")
unfolding filled fill_in line_of managed_rows filled_deps effective_of
empty_property = refl

-- a name that begins so is a field or nothing; the same name without it is a property first
pub field_names : filled_version (property (codes "project.v") one ∷ property (codes "pom.version") two ∷ property (codes "version") (codes "4") ∷ []) (codes "${project.v}-${pom.version}-${version}-${artifactId}-${project.parent.version}")
    ≡ with_version (codes "${project.v}-1-4-a-${project.parent.version}")
unfolding filled fill_in line_of managed_rows filled_deps effective_of
field_names = refl

-- of rows whose keys become one the last counts
pub filled_keys : over (at (codes "a") (record (plain (codes "a")) { properties = property (codes "n") (codes "m") ∷ []; deps = row (codes "${n}") one ∷ row (codes "m") two ∷ row (codes "n") one ∷ [] }) ∷ []) (codes "a")
    ≡ Built (record (bare (codes "a")) { deps = dep (codes "m") two ∷ dep (codes "n") one ∷ [] })
unfolding filled fill_in line_of managed_rows filled_deps effective_of
filled_keys = refl

-- Projects `x:p01:1` to `x:p33:1`, each but the last with the next as its parent or its import.

abbrev numbered : ℕ → List ℕ
numbered n = codes "p" ++ (48 + n / 10) ∷ (48 + n % 10) ∷ []

abbrev parents_from : ℕ → ℕ → List (FileKey × Reading)
parents_from zero first = at (numbered first) (plain (numbered first)) ∷ []
parents_from (suc left) first = at (numbered first) (child (numbered first) (numbered (first + 1))) ∷ parents_from left (first + 1)

abbrev imports_from : ℕ → ℕ → List (FileKey × Reading)
imports_from zero first = imports (numbered first) (row (codes "m") one ∷ []) ∷ []
imports_from (suc left) first = imports (numbered first) (bom (numbered (first + 1)) one ∷ []) ∷ imports_from left (first + 1)

abbrev path_from : ℕ → ℕ → List Coord
path_from zero first = []
path_from (suc left) first = x (numbered first) ∷ path_from left (first + 1)

pub line_of_32 : over (parents_from 31 2) (numbered 2) ≡ Built (bare (numbered 2))
unfolding filled fill_in line_of managed_rows filled_deps effective_of
line_of_32 = refl

-- the parent of the 32nd is not looked up
abbrev open_line : List (FileKey × Reading)
open_line = at (numbered 32) (child (numbered 32) (numbered 33)) ∷ parents_from 31 1

pub line_of_33 : over open_line (numbered 1) ≡ Refused (TooDeep (path_from 33 1))
unfolding filled fill_in line_of managed_rows filled_deps effective_of
line_of_33 = refl

-- a parent that the line has is a cycle, also behind the 32nd
abbrev closed_line : List (FileKey × Reading)
closed_line = at (numbered 32) (child (numbered 32) (numbered 32)) ∷ parents_from 31 1

pub line_in_a_circle : over closed_line (numbered 1) ≡ Refused (ParentCycle (path_from 32 1 ++ x (numbered 32) ∷ []))
unfolding filled fill_in line_of managed_rows filled_deps effective_of
line_in_a_circle = refl

pub chain_of_32 : over (imports_from 31 2) (numbered 2) ≡ Built (record (bare (numbered 2)) { managed = row (codes "m") one ∷ [] })
unfolding filled fill_in line_of managed_rows filled_deps effective_of
chain_of_32 = refl

abbrev open_chain : List (FileKey × Reading)
open_chain = imports (numbered 32) (bom (numbered 33) one ∷ []) ∷ imports_from 31 1

pub chain_of_33 : over open_chain (numbered 1) ≡ Refused (TooDeep (path_from 33 1))
unfolding filled fill_in line_of managed_rows filled_deps effective_of
chain_of_33 = refl

abbrev closed_chain : List (FileKey × Reading)
closed_chain = imports (numbered 32) (bom (numbered 7) one ∷ []) ∷ imports_from 31 1

pub chain_in_a_circle : over closed_chain (numbered 1) ≡ Refused (ImportCycle (path_from 32 1 ++ x (numbered 7) ∷ []))
unfolding filled fill_in line_of managed_rows filled_deps effective_of
chain_in_a_circle = refl

-- a project that the chain has is not looked up again
abbrev circle : List (FileKey × Reading)
circle =
    imports (codes "k") (bom (codes "i") one ∷ bom (codes "j") one ∷ [])
    ∷ imports (codes "i") (bom (codes "j") one ∷ bom (codes "k") one ∷ [])
    ∷ imports (codes "j") (bom (codes "i") one ∷ bom (codes "k") one ∷ [])
    ∷ []

pub keys_of_a_circle : effective_keys (known_of circle) 1 (x (codes "k")) ≡ key (codes "k") ∷ key (codes "i") ∷ key (codes "j") ∷ key (codes "j") ∷ key (codes "i") ∷ []
unfolding filled fill_in line_of managed_rows filled_deps effective_of
keys_of_a_circle = refl
