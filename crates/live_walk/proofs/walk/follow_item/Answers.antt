use Rattle.std.proofs.Common.{◌≡◌, ◌<◌, length, map, ap, sym, ◌∙◌, arith}
use Rattle.exclusion_sets.specs.Exclusions.{is_within}
use Rattle.live_walk.specs.Numbers.{bare_graph, hop_step, module_at, row_at, state_of}
use Rattle.live_walk.specs.Walks.{after_edges}
use Rattle.live_walk.proofs.States.{on_ok, row_read}
use Rattle.live_walk.proofs.walk.follow_item.Goals as goal

pub returns-clause-after : goal.returns-clause-after
returns-clause-after c =
    let here : c.args.item.now.place < length c.args.out.now = omega arith in
    let row : row_at c.args.modules.now c.args.out.now (module_at c.args.modules.now c.args.item.now.place)
    ≡ c.as_slice-hops.result.now =
    row_read c.args.modules.now c.args.out.now c.args.item.now.place c.index-out-item.result
    (sym c.requires.rows) c.requires.distinct here c.index-out-item.is ∙ sym c.as_slice-hops.ensures
    in
    on_ok c.follow.result
    (λ (e : state_of c.args.modules.now c.follow.new.table c.follow.new.next
    ≡ after_edges bare_graph is_within c.args.item.now.set
    (state_of c.args.modules.now c.args.table.now c.args.next.now)
    (map (hop_step c.args.modules.now) c.as_slice-hops.result.now)).
    e ∙ ap (λ hops. after_edges bare_graph is_within c.args.item.now.set
    (state_of c.args.modules.now c.args.table.now c.args.next.now) (map (hop_step c.args.modules.now) hops))
    (sym row))
    c.follow.ensures.after
