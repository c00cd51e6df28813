-- What is asked of each module.
use Rattle.std.specs.Prelude.{ℕ, Bool, true, false, ◌&&◌, ◌==◌, Option, List, [], ◌∷◌, filter, fold, map, unwrap_or, if◌then◌else◌}
use Rattle.std.specs.BTreeMap.{insert_entry, is_at}
use Rattle.std.specs.Map.{lookup, remove_entry}
use Rattle.res_base.specs.Known.{Known}
use Rattle.res_base.specs.Names.{coord_eq, module_cmp, module_eq, text_eq}
use Rattle.res_base.specs.declared.coord.Coord.{Coord}
use Rattle.res_base.specs.declared.coord.Module.{Module}
use Rattle.reconcile_rules.specs.declared.request.Asker.{Asker}
use Rattle.reconcile_rules.specs.declared.request.Asker.TheVariants.{Root, Project}
use Rattle.reconcile_rules.specs.declared.request.Request.{Request}
use Rattle.resolution.specs.declared.ask.Ask.{Ask}
use Rattle.resolution.specs.declared.choices.ChoiceRow.{ChoiceRow}
use Rattle.resolution.specs.declared.progress.RequestRow.{RequestRow}
use Rattle.round_core.specs.Edges.{last_ones, target_of}
use Rattle.round_core.specs.Reaching.{reached_of}
use Rattle.round_core.specs.Steering.{Versions, steer, text_of}
use Rattle.round_core.specs.Tables.{once}
use Rattle.round_core.specs.declared.edges.RowEdge.{RowEdge}

abbrev pub asker_eq : Asker → Asker → Bool
asker_eq (Root i) (Root j) = i == j
asker_eq (Root i) (Project d) = false
asker_eq (Project c) (Root j) = false
asker_eq (Project c) (Project d) = coord_eq c d

abbrev pub request_eq : Request → Request → Bool
request_eq a b = text_eq a.text b.text && asker_eq a.«from» b.«from»

-- a text, and who asks by it
abbrev pub request_of : List Coord → Versions → RowEdge → Request
request_of roots versions e = record { text = text_of roots versions e; «from» = e.source }

-- the requests for each module, in module order
abbrev pub Asked : Type 0
Asked = List (Module × List Request)

-- what is asked of a module so far
abbrev pub requests_in : Asked → Module → List Request
requests_in asked m = unwrap_or (lookup (is_at (module_cmp m)) asked) []

-- one request more for a module, unless it is there
abbrev pub with_request : Asked → Module → Request → Asked
with_request asked m r =
    insert_entry module_cmp (remove_entry (is_at (module_cmp m)) asked) m (once request_eq (requests_in asked m) r)

abbrev pub with_edge : List Coord → Versions → Asked → RowEdge → Asked
with_edge roots versions asked e = with_request asked (target_of e) (request_of roots versions e)

-- each request goes to the module at the end of its edge
abbrev pub asked_by : List Coord → Versions → List RowEdge → Asked
asked_by roots versions last = fold (with_edge roots versions) [] last

abbrev pub request_row : Module × List Request → RequestRow
request_row asked = record { «module» = asked.0; requests = asked.1 }

abbrev pub request_rows : List Coord → Versions → List RowEdge → List RequestRow
request_rows roots versions last = map request_row (asked_by roots versions last)

-- The same, module by module: the requests for a module are the distinct pairs of text and requester of the edges that
-- end there, in the order of the edges.

abbrev pub asks_for : Module → RowEdge → Bool
asks_for m e = module_eq m (target_of e)

abbrev pub requests_for : List Coord → Versions → List RowEdge → Module → List Request
requests_for roots versions last m =
    fold (once request_eq) [] (map (request_of roots versions) (filter (asks_for m) last))

-- what is asked of a module at these choices
abbrev pub requests_at : Known → Ask → List ChoiceRow → Module → List Request
requests_at known ask chosen m =
    requests_for ask.roots (steer ask.roots (reached_of known ask chosen)) (last_ones known ask chosen) m

-- the requests of a module's row
abbrev pub row_for : List RequestRow → Module → List Request
row_for [] m = []
row_for (row ∷ rows) m = if module_eq m row.«module» then row.requests else row_for rows m

abbrev pub rows_modules : List RequestRow → List Module
rows_modules rows = map (λ (row : RequestRow). row.«module») rows
