use Rattle.std.proofs.Common.{◌≡◌, ◌-◌, Bool, List, [], ◌++◌, length, sym, ◌∙◌, ap}
use Rattle.std.specs.Prelude.{replicate}
use Rattle.exclusion_sets.specs.declared.excl_set.ExclSet.{ExclSet}
use Rattle.live_walk.specs.Numbers.{followed_by, hop_graph}
use Rattle.live_walk.specs.declared.hop.Hop.{Hop}
use Rattle.live_walk.proofs.States.{if_ok}
use Rattle.res_base.specs.declared.coord.Module.{Module}
use Rattle.res_base.specs.declared.pom.Exclusion.{Exclusion}
use Rattle.round_core.proofs.Numbered.{graph_is}
use Rattle.round_core.proofs.reach.flags_of.Goals as goal

pub returns : goal.returns
returns c =
    let table : List Module = c.args.table.now in
    let excluded : ExclSet = record { rules = c.in_ok-copy.field-0 } in
    let most = length c.names.result.now - length c.in_ok-out.out in
    if_ok c.followed.result
    (λ (made : List (List Bool)) (is : made
    ≡ followed_by
    (hop_graph c.names-2.result.now excluded c.as_slice-2.result.now c.as_slice-3.result.now) c.names-2.result.now).
    is
    ∙ ap (λ (z : List Module). followed_by (hop_graph z excluded c.as_slice-2.result.now c.as_slice-3.result.now) z)
    c.names-2.ensures
    ∙ ap (λ r. followed_by (hop_graph table excluded r c.as_slice-3.result.now) table) c.as_slice-2.ensures
    ∙ ap (λ (o : List (List Hop)). followed_by (hop_graph table excluded c.in_ok-roots.roots o) table)
    (c.as_slice-3.ensures ∙ c.in_ok-out-2.ensures)
    ∙ ap (λ g. followed_by g table)
    (graph_is table excluded c.args.ask.now.excludes c.in_ok-roots.roots c.in_ok-out.out most c.args.ask.now.roots
    c.args.edges.now (ap (λ (rs : List Exclusion). record { rules = rs }) c.in_ok-copy.ensures)
    (c.in_ok-roots.ensures.names
    ∙ ap Rattle.round_core.specs.Reaching.roots_of c.as_slice.ensures) c.in_ok-out.ensures.steps))
    c.followed.ensures
