use Rattle.std.proofs.Common.{◌≡◌, ◌<◌, [], length, map, get_or, sym, ◌∙◌, ap, subst}
use Rattle.std.specs.declared.alloc.Global.{Global}
use Rattle.std.specs.Prelude.{Vec}
use Rattle.std.proofs.lemmas.List.{get_or_default}
use Rattle.std.proofs.lemmas.Result.{IfOk-weaker}
use Rattle.json_report.specs.Found.{found_targets}
use Rattle.json_report.specs.Report.{dependencies, dependency}
use Rattle.json_report.proofs.Found.{targets_at}
use Rattle.node_edges.specs.Edges.{edges_of}
use Rattle.node_edges.specs.Table.{ArePlaces, row_at}
use Rattle.serde_json.specs.View.{view}
use Rattle.serde_json.specs.declared.value.Value.{Value}
use Rattle.json_report.proofs.targets.dependencies.Goals as goal

pub returns : goal.returns
returns c =
    let there : c.args.place < length c.args.table.now.rows = subst (λ n. c.args.place < n) (sym c.requires.table.size) c.requires.place in
    let read : c.index-as_slice-place.result ≡ get_or c.args.table.now.rows c.args.place c.index-as_slice-place.result = cc (c.index-as_slice-place.is, c.as_slice.ensures) in
    let row : c.as_slice-places.result.now ≡ row_at c.args.table.now.rows c.args.place = c.as_slice-places.ensures ∙ read ∙ get_or_default c.args.table.now.rows c.args.place c.index-as_slice-place.result [] there in
    let places : ArePlaces c.args.settled.now.edges c.as_slice-places.result.now (edges_of c.args.settled.now.edges c.args.place) =
    subst (λ found. ArePlaces c.args.settled.now.edges found (edges_of c.args.settled.now.edges c.args.place)) (sym row) (c.requires.table.rows c.args.place c.requires.place)
    in
    IfOk-weaker c.dependencies_at.result
    (λ (made : Vec Value Global). map view made.items ≡ map (dependency c.args.settled.now.nodes) (found_targets c.args.settled.now.edges c.as_slice-places.result.now))
    (λ (made : Vec Value Global). map view made.items ≡ dependencies c.args.settled.now c.args.place)
    (λ made is. is ∙ ap (map (dependency c.args.settled.now.nodes)) (targets_at c.args.settled.now.edges c.as_slice-places.result.now (edges_of c.args.settled.now.edges c.args.place) places))
    c.dependencies_at.ensures
