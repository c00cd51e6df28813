-- The keys that a round needs to build its projects.
use Rattle.std.specs.Prelude.{Bool, true, false, ◌||◌, Option, None, Some, List, [], ◌∷◌, fold}
use Rattle.std.specs.BTreeSet.{insert_key}
use Rattle.std.specs.List.{list_any}
use Rattle.res_base.specs.Names.{key_cmp}
use Rattle.res_base.specs.declared.key.FileKey.{FileKey}
use Rattle.pom_build.specs.NeededKeys.{needed_by}
use Rattle.pom_build.specs.Outcomes.{is_waiting}
use Rattle.round_core.specs.Edges.{target_of}
use Rattle.round_core.specs.Reaching.{project_for}
use Rattle.round_core.specs.declared.edges.RowEdge.{RowEdge}
use Rattle.round_core.specs.declared.projects.ChosenProject.{ChosenProject}
use Rattle.round_core.specs.declared.reach.Reached.{Reached}

-- in key order, each once
abbrev pub with_keys : List FileKey → List FileKey → List FileKey
with_keys keys more = fold (insert_key key_cmp) keys more

abbrev pub waits_in : Option ChosenProject → Bool
waits_in None = false
waits_in (Some project) = is_waiting project.build

abbrev pub keys_in : Option ChosenProject → List FileKey
keys_in None = []
keys_in (Some project) = needed_by project.build

-- the project at the end of an edge
abbrev pub at_end : Reached → RowEdge → Option ChosenProject
at_end reached e = project_for reached (target_of e)

-- a BOM's project, or one at an end of a live path, waits for keys
abbrev pub is_open : Reached → Bool
is_open reached =
    list_any (λ (project : ChosenProject). waits_in (Some project)) reached.boms
    || list_any (λ (e : RowEdge). waits_in (at_end reached e)) reached.last

abbrev pub with_bom : List FileKey → ChosenProject → List FileKey
with_bom keys project = with_keys keys (keys_in (Some project))

abbrev pub with_end : Reached → List FileKey → RowEdge → List FileKey
with_end reached keys e = with_keys keys (keys_in (at_end reached e))

-- all keys that these wait for
abbrev pub open_keys : Reached → List FileKey
open_keys reached = fold (with_end reached) (fold with_bom [] reached.boms) reached.last
