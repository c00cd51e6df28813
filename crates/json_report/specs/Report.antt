-- The report of a settled resolution: a JSON value, whose objects have their keys in the order of bytes.
use Rattle.std.specs.Prelude.{ℕ, suc, Option, None, Some, List, [], ◌∷◌, ◌++◌, codes, map, nat_eq}
use Rattle.std.specs.Prelude.{slice_get, unwrap_or}
use Rattle.ascii_bytes.specs.Signs.{colon}
use Rattle.class_path.specs.Files.{entry_of}
use Rattle.class_path.specs.declared.rows.FileRow.{FileRow}
use Rattle.indexmap.specs.IndexSet.{insert_all}
use Rattle.json_report.specs.declared.printed.ReportJob.{ReportJob}
use Rattle.node_edges.specs.Edges.{edges_of}
use Rattle.res_base.specs.declared.coord.Coord.{Coord}
use Rattle.resolution.specs.declared.settled.Edge.{Edge}
use Rattle.resolution.specs.declared.settled.Node.{Node}
use Rattle.resolution.specs.declared.settled.Settled.{Settled}
use Rattle.scope_rules.specs.declared.scopes.Configuration.{Configuration}
use Rattle.scope_rules.specs.declared.scopes.Configuration.TheVariants.{Default, Compile, Runtime}
use Rattle.serde_json.specs.Data.{Data, string, array, object, member, no_members}
use Rattle.serde_json.specs.View.{items_of}

abbrev pub configuration_text : Configuration → List ℕ
configuration_text Default = codes "default"
configuration_text Compile = codes "compile"
configuration_text Runtime = codes "runtime"

-- org:name:version
abbrev pub coord_text : Coord → List ℕ
coord_text c = c.«module».org ++ colon ∷ (c.«module».name ++ colon ∷ c.version)

abbrev pub target_text : Option Node → List ℕ
target_text None = []
target_text (Some node) = coord_text node.coord

-- the modules that edges lead to, each at its first place
abbrev pub targets_of : List Edge → List ℕ
targets_of edges = insert_all nat_eq [] (map (λ (e : Edge). e.target) edges)

abbrev pub dependency : List Node → ℕ → Data
dependency nodes target = string (target_text (slice_get nodes target))

abbrev pub dependencies : Settled → ℕ → List Data
dependencies settled place = map (dependency settled.nodes) (targets_of (edges_of settled.edges place))

-- the address of a repository
abbrev pub address_of : List (List ℕ) → ℕ → List ℕ
address_of addresses repo = unwrap_or (slice_get addresses repo) []

abbrev pub module_value : Settled → List (List ℕ) → ℕ → Node → Data
module_value settled addresses place node =
    object (member (codes "coord") (string (coord_text node.coord))
    (member (codes "dependencies") (array (items_of (dependencies settled place)))
    (member (codes "repository") (string (address_of addresses node.repo)) no_members)))

-- the modules from a place on
abbrev pub module_values : Settled → List (List ℕ) → ℕ → List Node → List Data
module_values settled addresses place [] = []
module_values settled addresses place (node ∷ nodes) =
    module_value settled addresses place node ∷ module_values settled addresses (suc place) nodes

abbrev pub file_value : List ℕ → FileRow → Data
file_value prefix row = string (entry_of prefix row)

-- the report without files
abbrev pub bare_report : List ℕ → List Data → Data
bare_report configuration modules =
    object (member (codes "configuration") (string configuration)
    (member (codes "modules") (array (items_of modules)) no_members))

-- the report with files
abbrev pub full_report : List ℕ → List Data → List Data → Data
full_report configuration files modules =
    object (member (codes "configuration") (string configuration)
    (member (codes "files") (array (items_of files))
    (member (codes "modules") (array (items_of modules)) no_members)))

abbrev pub report_of : ReportJob → Option (List FileRow) → List Data → Data
report_of job None modules = bare_report (configuration_text job.configuration) modules
report_of job (Some rows) modules =
    full_report (configuration_text job.configuration) (map (file_value job.prefix) rows) modules

abbrev pub report_value : Settled → ReportJob → Option (List FileRow) → Data
report_value settled job files = report_of job files (module_values settled job.addresses 0 settled.nodes)
