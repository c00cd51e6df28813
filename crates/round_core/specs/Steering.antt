-- Managed versions that reach the whole graph, and what an edge asks for by them.
use Rattle.std.specs.Prelude.{ℕ, Bool, true, false, not, ◌&&◌, Option, None, Some, is_some, List, [], ◌∷◌, fold, if◌then◌else◌}
use Rattle.std.specs.declared.cmp.Ordering.{Ordering}
use Rattle.std.specs.BTreeMap.{insert_entry, is_at}
use Rattle.std.specs.List.{list_any}
use Rattle.std.specs.Map.{lookup}
use Rattle.std.specs.Ordering.{eq_of_both, on, then_cmp}
use Rattle.res_base.specs.Names.{module_cmp, module_eq, text_cmp, text_eq}
use Rattle.res_base.specs.declared.coord.Coord.{Coord}
use Rattle.res_base.specs.declared.coord.Module.{Module}
use Rattle.res_base.specs.declared.pom.DepRecord.{DepRecord}
use Rattle.row_lists.specs.RowLists.{kind_or_jar, or_text}
use Rattle.pom_build.specs.declared.build.Build.{Build}
use Rattle.pom_build.specs.declared.build.Build.TheVariants.{Built, Needs, NotFound, Refused}
use Rattle.reconcile_rules.specs.declared.request.Asker.{Asker}
use Rattle.reconcile_rules.specs.declared.request.Asker.TheVariants.{Root, Project}
use Rattle.round_core.specs.Reaching.{project_for}
use Rattle.round_core.specs.declared.edges.RowEdge.{RowEdge}
use Rattle.round_core.specs.declared.projects.ChosenProject.{ChosenProject}
use Rattle.round_core.specs.declared.reach.Reached.{Reached}
use Rattle.round_core.specs.declared.row_key.RowKey.{RowKey}

-- ---- keys of rows: org, name, type and classifier, with `jar` for an absent type

abbrev pub key_of_row : DepRecord → RowKey
key_of_row row = record { «module» = row.«module»; kind = kind_or_jar row; classifier = row.classifier }

abbrev pub row_key_eq : RowKey → RowKey → Bool
row_key_eq =
    eq_of_both (eq_of_both (on (λ key. key.«module») module_eq) (on (λ key. key.kind) text_eq))
    (on (λ key. key.classifier) text_eq)

abbrev pub row_key_cmp : RowKey → RowKey → Ordering
row_key_cmp =
    then_cmp (then_cmp (on (λ key. key.«module») module_cmp) (on (λ key. key.kind) text_cmp))
    (on (λ key. key.classifier) text_cmp)

-- ---- managed versions by their keys

abbrev pub Versions : Type 0
Versions = List (RowKey × List ℕ)

abbrev pub version_at : Versions → RowKey → Option (List ℕ)
version_at versions key = lookup (is_at (row_key_cmp key)) versions

-- a row counts only if no earlier row has its key
abbrev pub with_row : Versions → DepRecord → Versions
with_row versions row =
    if is_some (version_at versions (key_of_row row)) then versions else insert_entry row_key_cmp versions
    (key_of_row row) row.version

abbrev pub with_rows : Versions → List DepRecord → Versions
with_rows versions rows = fold with_row versions rows

-- a project that is not built manages nothing
abbrev pub managed_in : Build → List DepRecord
managed_in (Built project) = project.managed
managed_in (Needs keys) = []
managed_in (NotFound why) = []
managed_in (Refused fault) = []

abbrev pub managed_by : Option ChosenProject → List DepRecord
managed_by None = []
managed_by (Some project) = managed_in project.build

abbrev pub with_project : Versions → Option ChosenProject → Versions
with_project versions project = with_rows versions (managed_by project)

abbrev pub with_bom : Versions → ChosenProject → Versions
with_bom versions project = with_project versions (Some project)

abbrev pub with_root : Reached → Versions → Coord → Versions
with_root reached versions c = with_project versions (project_for reached c.«module»)

-- the managed versions that reach the whole graph: those of the BOMs in the order of the words, then those of the
-- chosen projects of the roots
abbrev pub steer : List Coord → Reached → Versions
steer roots reached = fold (with_root reached) (fold with_bom [] reached.boms) roots

-- ---- the text that an edge asks for

-- the managed version, unless there is none or it is empty
abbrev pub steered : Option (List ℕ) → List ℕ → List ℕ
steered None own = own
steered (Some version) own = or_text version own

abbrev pub is_empty_text : List ℕ → Bool
is_empty_text [] = true
is_empty_text (byte ∷ text) = false

abbrev pub is_root : List Coord → Module → Bool
is_root roots m = list_any (λ (c : Coord). module_eq c.«module» m) roots

-- roots keep their texts, and so does what a root's module asks for by a text of its own
abbrev pub keeps_text : List Coord → Asker → List ℕ → Bool
keeps_text roots (Root place) own = true
keeps_text roots (Project c) own = is_root roots c.«module» && not (is_empty_text own)

abbrev pub text_of : List Coord → Versions → RowEdge → List ℕ
text_of roots versions e =
    if keeps_text roots e.source e.row.version then e.row.version else steered
    (version_at versions (key_of_row e.row)) e.row.version
