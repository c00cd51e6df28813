use Rattle.std.proofs.Common.{◌≡◌, ◌≤◌, true, List, length, sym, ◌∙◌, ap, subst}
use Rattle.std.specs.Prelude.{slice_index_or}
use Rattle.live_walk.specs.Numbers.{AreDistinct}
use Rattle.live_walk.proofs.States.{if_ok}
use Rattle.res_base.specs.declared.coord.Coord.{Coord}
use Rattle.res_base.specs.declared.coord.Module.{Module}
use Rattle.round_core.specs.Edges.{target_of}
use Rattle.round_core.specs.Reaching.{names_of, seen_last}
use Rattle.round_core.specs.Tables.{has}
use Rattle.round_core.specs.declared.edges.RowEdge.{RowEdge}
use Rattle.round_core.proofs.Numbered.{names_count, names_distinct, names_roots, names_targets}
use Rattle.round_core.proofs.reach.last_at.Goals as goal

pub last_of-requires-clause-rows : goal.last_of-requires-clause-rows
last_of-requires-clause-rows c =
    let t : c.in_ok-table.table ≡ names_of c.args.rows.now c.args.ask.now.roots c.args.edges =
    c.in_ok-table.ensures
    ∙ ap (λ (r : List Coord). names_of c.args.rows.now r c.as_slice-2.result.now) c.as_slice.ensures
    ∙ ap (λ (e : List (List RowEdge)). names_of c.args.rows.now c.args.ask.now.roots e) c.as_slice-2.ensures in
    subst (λ z. length c.args.edges ≤ length z) (sym t)
    (subst (λ n. n ≤ length (names_of c.args.rows.now c.args.ask.now.roots c.args.edges)) (sym c.requires.size)
    (names_count c.args.rows.now c.args.ask.now.roots c.args.edges c.requires.distinct))

pub last_of-requires-clause-distinct : goal.last_of-requires-clause-distinct
last_of-requires-clause-distinct c =
    let t : c.in_ok-table.table ≡ names_of c.args.rows.now c.args.ask.now.roots c.args.edges =
    c.in_ok-table.ensures
    ∙ ap (λ (r : List Coord). names_of c.args.rows.now r c.as_slice-2.result.now) c.as_slice.ensures
    ∙ ap (λ (e : List (List RowEdge)). names_of c.args.rows.now c.args.ask.now.roots e) c.as_slice-2.ensures in
    subst (λ z. AreDistinct z) (sym t) (names_distinct c.args.rows.now c.args.ask.now.roots c.args.edges)

pub last_of-requires-clause-roots : goal.last_of-requires-clause-roots
last_of-requires-clause-roots c =
    let t : c.in_ok-table.table ≡ names_of c.args.rows.now c.args.ask.now.roots c.args.edges =
    c.in_ok-table.ensures
    ∙ ap (λ (r : List Coord). names_of c.args.rows.now r c.as_slice-2.result.now) c.as_slice.ensures
    ∙ ap (λ (e : List (List RowEdge)). names_of c.args.rows.now c.args.ask.now.roots e) c.as_slice-2.ensures in
    λ k d h. subst (λ z. has z (slice_index_or c.args.ask.now.roots k d).«module»
    ≡ true) (sym t) (names_roots c.args.rows.now c.args.ask.now.roots c.args.edges k d h)

pub last_of-requires-clause-edges : goal.last_of-requires-clause-edges
last_of-requires-clause-edges c =
    let t : c.in_ok-table.table ≡ names_of c.args.rows.now c.args.ask.now.roots c.args.edges =
    c.in_ok-table.ensures
    ∙ ap (λ (r : List Coord). names_of c.args.rows.now r c.as_slice-2.result.now) c.as_slice.ensures
    ∙ ap (λ (e : List (List RowEdge)). names_of c.args.rows.now c.args.ask.now.roots e) c.as_slice-2.ensures in
    λ i none l k d h. subst (λ z. has z (target_of (slice_index_or (slice_index_or c.args.edges i none) k d))
    ≡ true) (sym t) (names_targets c.args.rows.now c.args.ask.now.roots c.args.edges i none l k d h)

pub returns : goal.returns
returns c =
    let t : c.in_ok-table.table ≡ names_of c.args.rows.now c.args.ask.now.roots c.args.edges =
    c.in_ok-table.ensures
    ∙ ap (λ (r : List Coord). names_of c.args.rows.now r c.as_slice-2.result.now) c.as_slice.ensures
    ∙ ap (λ (e : List (List RowEdge)). names_of c.args.rows.now c.args.ask.now.roots e) c.as_slice-2.ensures in
    if_ok c.last_of.result
    (λ (made : List RowEdge) (is : made
    ≡ seen_last c.in_ok-table.table c.args.ask.now.excludes c.args.ask.now.roots c.args.edges). is
    ∙ ap (λ (z : List Module). seen_last z c.args.ask.now.excludes c.args.ask.now.roots c.args.edges) t)
    c.last_of.ensures
