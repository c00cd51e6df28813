-- A report has no floats, and nests four deep.
use Rattle.std.proofs.Common.{◌≡◌, ◌≤◌, ◌||◌, ℕ, suc, false, Option, None, Some, List, [], ◌∷◌, map, refl, ◌∙◌, ap, arith}
use Rattle.std.specs.Prelude.{max}
use Rattle.std.proofs.Math.Nat.{max-le}
use Rattle.class_path.specs.declared.rows.FileRow.{FileRow}
use Rattle.json_report.specs.Report.{dependencies, dependency, file_value, module_value, module_values, report_value, targets_of}
use Rattle.json_report.specs.declared.printed.ReportJob.{ReportJob}
use Rattle.node_edges.specs.Edges.{edges_of}
use Rattle.resolution.specs.declared.settled.Node.{Node}
use Rattle.resolution.specs.declared.settled.Settled.{Settled}
use Rattle.serde_json.specs.Data.{depth, items_depth}
use Rattle.serde_json.specs.Read.{max_depth}
use Rattle.serde_json.specs.View.{items_of}
use Rattle.serde_json.specs.Written.{has_float, items_have_float}

targets_float : (nodes : List Node) (targets : List ℕ) → items_have_float (items_of (map (dependency nodes) targets)) ≡ false
targets_float nodes [] = refl
targets_float nodes (target ∷ targets) = targets_float nodes targets

modules_float : (settled : Settled) (addresses : List (List ℕ)) (place : ℕ) (nodes : List Node) → items_have_float (items_of (module_values settled addresses place nodes)) ≡ false
modules_float settled addresses place [] = refl
modules_float settled addresses place (node ∷ nodes) =
    let here : has_float (module_value settled addresses place node) ≡ false = ap (λ b. b || false) (targets_float settled.nodes (targets_of (edges_of settled.edges place))) in
    ap (λ b. b || items_have_float (items_of (module_values settled addresses (suc place) nodes))) here ∙ modules_float settled addresses (suc place) nodes

files_float : (prefix : List ℕ) (rows : List FileRow) → items_have_float (items_of (map (file_value prefix) rows)) ≡ false
files_float prefix [] = refl
files_float prefix (row ∷ rows) = files_float prefix rows

pub no_float : (settled : Settled) (job : ReportJob) (files : Option (List FileRow)) → has_float (report_value settled job files) ≡ false
no_float settled job None = ap (λ b. b || false) (modules_float settled job.addresses 0 settled.nodes)
no_float settled job (Some rows) =
    ap (λ b. b || (items_have_float (items_of (module_values settled job.addresses 0 settled.nodes)) || false)) (files_float job.prefix rows) ∙ ap (λ b. b || false) (modules_float settled job.addresses 0 settled.nodes)

targets_depth : (nodes : List Node) (targets : List ℕ) → items_depth (items_of (map (dependency nodes) targets)) ≤ 0
targets_depth nodes [] = omega arith
targets_depth nodes (target ∷ targets) = max-le (omega arith) (targets_depth nodes targets)

module_depth : (settled : Settled) (addresses : List (List ℕ)) (place : ℕ) (node : Node) → depth (module_value settled addresses place node) ≤ 2
module_depth settled addresses place node =
    let below : items_depth (items_of (dependencies settled place)) ≤ 0 = targets_depth settled.nodes (targets_of (edges_of settled.edges place)) in
    let array : suc (items_depth (items_of (dependencies settled place))) ≤ 1 = omega (arith, below) in
    let members : max 0 (max (suc (items_depth (items_of (dependencies settled place)))) (max 0 0)) ≤ 1 = max-le (omega arith) (max-le array (omega arith)) in
    omega (arith, members)

modules_depth : (settled : Settled) (addresses : List (List ℕ)) (place : ℕ) (nodes : List Node) → items_depth (items_of (module_values settled addresses place nodes)) ≤ 2
modules_depth settled addresses place [] = omega arith
modules_depth settled addresses place (node ∷ nodes) = max-le (module_depth settled addresses place node) (modules_depth settled addresses (suc place) nodes)

files_depth : (prefix : List ℕ) (rows : List FileRow) → items_depth (items_of (map (file_value prefix) rows)) ≤ 0
files_depth prefix [] = omega arith
files_depth prefix (row ∷ rows) = max-le (omega arith) (files_depth prefix rows)

pub few_deep : (settled : Settled) (job : ReportJob) (files : Option (List FileRow)) → depth (report_value settled job files) ≤ max_depth
few_deep settled job None =
    let many : ℕ = items_depth (items_of (module_values settled job.addresses 0 settled.nodes)) in
    let modules : many ≤ 2 = modules_depth settled job.addresses 0 settled.nodes in
    let array : suc many ≤ 3 = omega (arith, modules) in
    let members : max 0 (max (suc many) 0) ≤ 3 = max-le (omega arith) (max-le array (omega arith)) in
    omega (arith, members)
few_deep settled job (Some rows) =
    let many : ℕ = items_depth (items_of (module_values settled job.addresses 0 settled.nodes)) in
    let some : ℕ = items_depth (items_of (map (file_value job.prefix) rows)) in
    let modules : many ≤ 2 = modules_depth settled job.addresses 0 settled.nodes in
    let files : some ≤ 0 = files_depth job.prefix rows in
    let array : suc many ≤ 3 = omega (arith, modules) in
    let listed : suc some ≤ 3 = omega (arith, files) in
    let members : max 0 (max (suc some) (max (suc many) 0)) ≤ 3 = max-le (omega arith) (max-le listed (max-le array (omega arith))) in
    omega (arith, members)
