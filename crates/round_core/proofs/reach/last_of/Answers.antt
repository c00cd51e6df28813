use Rattle.std.proofs.Common.{◌≡◌, List, ◌++◌, sym, ◌∙◌, ap}
use Rattle.live_walk.specs.Numbers.{followed_by}
use Rattle.live_walk.proofs.States.{if_ok}
use Rattle.res_base.specs.declared.coord.Coord.{Coord}
use Rattle.round_core.specs.Edges.{root_edges}
use Rattle.round_core.specs.Reaching.{all_kept, seen_graph}
use Rattle.round_core.specs.declared.edges.RowEdge.{RowEdge}
use Rattle.round_core.proofs.reach.last_of.Goals as goal

pub returns : goal.returns
returns c =
    if_ok c.all_kept.result
    (λ (made : List RowEdge) (is : made
    ≡ c.in_ok-roots.roots ++ all_kept c.as_slice-3.result.now c.as_slice-4.result.now).
    is
    ∙ ap (λ (e : List (List RowEdge)). c.in_ok-roots.roots ++ all_kept e c.as_slice-4.result.now) c.as_slice-3.ensures
    ∙ ap (λ f. c.in_ok-roots.roots ++ all_kept c.args.edges f) (c.as_slice-4.ensures ∙ c.in_ok-flags.ensures)
    ∙ ap (λ (e : List (List RowEdge)). c.in_ok-roots.roots
    ++ all_kept c.args.edges
    (followed_by (seen_graph c.args.table.now c.args.ask.now.excludes c.args.ask.now.roots e) c.args.table.now))
    c.as_slice.ensures
    ∙ ap (λ (r : List RowEdge). r
    ++ all_kept c.args.edges
    (followed_by
    (seen_graph c.args.table.now c.args.ask.now.excludes c.args.ask.now.roots c.args.edges) c.args.table.now))
    (c.in_ok-roots.ensures ∙ ap (λ (rs : List Coord). root_edges c.args.ask.now.excludes 0 rs) c.as_slice-2.ensures))
    c.all_kept.ensures
