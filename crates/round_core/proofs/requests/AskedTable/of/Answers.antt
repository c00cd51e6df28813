use Rattle.std.proofs.Common.{◌≡◌, ◌+◌, List, ◌∷◌, drop, fold, sym, ◌∙◌, ap}
use Rattle.std.proofs.lemmas.List.{drop_more}
use Rattle.round_core.specs.Requests.{Asked, with_edge}
use Rattle.round_core.specs.declared.edges.RowEdge.{RowEdge}
use Rattle.round_core.proofs.requests.AskedTable.of.Goals as goal

pub loop-edge-preserved : goal.loop-edge-preserved
loop-edge-preserved c =
    let place = c.loop-edge.edge-index in
    let last : List RowEdge = c.args.last.now in
    let edge : RowEdge = c.edge-item.result in
    let step : drop place last ≡ edge ∷ drop (place + 1) last = drop_more last place edge c.loop-edge-test.true
    ∙ ap (λ (e : RowEdge). e ∷ drop (place + 1) last) (sym c.edge-item.is) in
    ap (λ (made : Asked). fold (with_edge c.args.roots.now c.args.steer.now) made (drop (place + 1) last))
    c.in_ok-made.ensures
    ∙ sym (ap (fold (with_edge c.args.roots.now c.args.steer.now) c.loop-edge.made) step)
    ∙ c.loop-edge.invariant
