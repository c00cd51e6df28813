-- Targets of edges that are found at their places, and values of modules.
use Rattle.std.proofs.Common.{◌≡◌, ◌<◌, ◌+◌, ℕ, Some, List, [], ◌∷◌, ◌++◌, fold, length, map, drop, get_or, refl, sym, ◌∙◌, ap, arith}
use Rattle.std.specs.Prelude.{nat_eq, slice_get}
use Rattle.std.proofs.lemmas.List.{append_assoc, drop_more}
use Rattle.indexmap.specs.IndexSet.{insert_all, insert_key}
use Rattle.json_report.specs.Found.{with_target}
use Rattle.json_report.specs.Report.{module_value, module_values, targets_of}
use Rattle.node_edges.specs.Table.{ArePlaces}
use Rattle.resolution.specs.declared.settled.Edge.{Edge}
use Rattle.resolution.specs.declared.settled.Node.{Node}
use Rattle.resolution.specs.declared.settled.Settled.{Settled}
use Rattle.serde_json.specs.Data.{Data}

found_all : (targets : List ℕ) (edges : List Edge) → fold with_target targets (map (λ (e : Edge). Some e) edges) ≡ insert_all nat_eq targets (map (λ (e : Edge). e.target) edges)
found_all targets [] = refl
found_all targets (e ∷ edges) = found_all (insert_key nat_eq targets e.target) edges

-- the targets of edges that stand at some places
pub targets_at : (edges : List Edge) (places : List ℕ) (wants : List Edge) → ArePlaces edges places wants → fold with_target [] (map (slice_get edges) places) ≡ targets_of wants
targets_at edges places wants are = ap (fold with_target []) are ∙ found_all [] wants

-- one more module has a value
pub one_more : (settled : Settled) (addresses : List (List ℕ)) (place : ℕ) (node : Node) (made : List Data) (value : Data) (all : List Data) → place < length settled.nodes → node ≡ get_or settled.nodes place node → value ≡ module_value settled addresses place node
    → made ++ module_values settled addresses place (drop place settled.nodes) ≡ all → (made ++ value ∷ []) ++ module_values settled addresses (place + 1) (drop (place + 1) settled.nodes) ≡ all
one_more settled addresses place node made value all h is here old =
    let next : drop place settled.nodes ≡ node ∷ drop (place + 1) settled.nodes = drop_more settled.nodes place node h ∙ ap (λ (n : Node). n ∷ drop (place + 1) settled.nodes) (sym is) in
    let rest : List Data = module_values settled addresses (place + 1) (drop (place + 1) settled.nodes) in
    append_assoc made (value ∷ []) rest
    ∙ ap (λ (v : Data). made ++ v ∷ rest) here
    ∙ ap (λ n. made ++ module_value settled addresses place node ∷ module_values settled addresses n (drop (place + 1) settled.nodes)) (omega arith)
    ∙ ap (λ z. made ++ module_values settled addresses place z) (sym next)
    ∙ old
