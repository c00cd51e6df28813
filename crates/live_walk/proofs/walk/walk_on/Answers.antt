use Rattle.std.proofs.Common.{◌≡◌, Bool, List, [], length, map, ◌∙◌, ap, subst, sym}
use Rattle.std.specs.Prelude.{All}
use Rattle.exclusion_sets.specs.Exclusions.{is_within}
use Rattle.live_walk.specs.Numbers.{AreHops, bare_graph, inner_out, lets_of, out_graph, root_step, sets_of, state_of, table_of}
use Rattle.live_walk.specs.Walks.{after_levels, after_roots}
use Rattle.live_walk.proofs.Inside.{hops_inside, rows_inside}
use Rattle.live_walk.proofs.Modules.{SetLaws}
use Rattle.live_walk.proofs.States.{if_ok}
use Rattle.live_walk.proofs.Whole.{whole}
use Rattle.live_walk.proofs.walk.walk_on.Goals as goal

pub run-requires-clause-rows : goal.run-requires-clause-rows
run-requires-clause-rows c =
    let is_inner : c.as_slice.result.now ≡ inner_out c.args.out.now = c.as_slice.ensures ∙ c.in_ok-inner.ensures in
    ap length is_inner ∙ rows_inside c.args.modules.now c.args.out.now c.requires.rows

pub run-requires-clause-out : goal.run-requires-clause-out
run-requires-clause-out c =
    let is_inner : c.as_slice.result.now ≡ inner_out c.args.out.now = c.as_slice.ensures ∙ c.in_ok-inner.ensures in
    subst (λ z. All (λ hops. AreHops (length c.args.modules.now) hops) z) (sym is_inner)
    (hops_inside c.args.modules.now c.args.out.now (length c.args.modules.now) c.requires.out)

pub returns : goal.returns
returns c =
    let laws : SetLaws = record { excludes = c.within_laws.ensures.excludes; either = c.join_laws.ensures.either } in
    let is_inner : c.as_slice.result.now ≡ inner_out c.args.out.now = c.as_slice.ensures ∙ c.in_ok-inner.ensures in
    let after : table_of c.args.modules.now c.run.new.table
    ≡ (after_levels (out_graph c.args.modules.now (inner_out c.args.out.now)) is_within (length c.args.modules.now)
    (after_roots bare_graph is_within (state_of c.args.modules.now c.args.table.now [])
    (map (root_step c.args.modules.now c.args.excluded.now) c.args.roots.now))).table =
    c.in_ok-run.ensures.after
    ∙ ap (λ z.
    (after_levels (out_graph c.args.modules.now z) is_within (length c.args.modules.now)
    (after_roots bare_graph is_within (state_of c.args.modules.now c.args.table.now [])
    (map (root_step c.args.modules.now c.args.excluded.now) c.args.roots.now))).table) is_inner
    in
    if_ok c.all_flags.result
    (λ (made : List (List Bool)) (is : made ≡ lets_of c.args.modules.now c.args.out.now (sets_of c.run.new.table)).
    whole laws c.args.modules.now c.args.excluded.now c.args.roots.now c.args.out.now made c.args.table.now
    c.run.new.table is c.requires.size c.in_ok-run.ensures.size c.requires.rows c.requires.distinct c.requires.out
    c.requires.empty after)
    c.all_flags.ensures
