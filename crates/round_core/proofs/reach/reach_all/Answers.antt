use Rattle.std.proofs.Common.{◌≡◌, ℕ, List, sym, ◌∙◌, ap}
use Rattle.live_walk.proofs.Modules.{SetLaws}
use Rattle.res_base.specs.Known.{known_of}
use Rattle.res_base.specs.declared.coord.Coord.{Coord}
use Rattle.res_base.specs.declared.coord.Module.{Module}
use Rattle.round_core.specs.Choices.{modules_of}
use Rattle.round_core.specs.Edges.{all_edges}
use Rattle.round_core.specs.Projects.{projects_in, projects_of}
use Rattle.round_core.specs.Tables.{named}
use Rattle.round_core.proofs.Reached.{reached_is}
use Rattle.round_core.proofs.reach.reach_all.Goals as goal

pub returns-clause-value : goal.returns-clause-value
returns-clause-value g c =
    let laws : SetLaws = record { excludes = c.within_laws.ensures.excludes; either = c.join_laws.ensures.either } in
    let known = known_of c.args.known.now.pairs in
    reached_is laws known c.args.ask.now c.args.rows.now c.requires.distinct c.in_ok-table.table
    c.in_ok-projects.projects c.in_ok-boms.boms c.in_ok-edges.edges c.in_ok-last.last
    (c.in_ok-table.ensures ∙ ap (λ (z : List Module). named z (modules_of c.args.rows.now)) c.new.ensures)
    (c.in_ok-projects.ensures.value ∙ ap (λ (n : ℕ). projects_in known n c.args.rows.now) (sym c.requires.repos))
    (c.in_ok-boms.ensures.value ∙ ap (λ (n : ℕ). projects_of known n c.as_slice.result.now) (sym c.requires.repos)
    ∙ ap (λ (bs : List Coord). projects_of known c.args.ask.now.repos bs) c.as_slice.ensures)
    (c.in_ok-edges.ensures ∙ ap (all_edges c.args.ask.now.configuration) c.as_slice-2.ensures)
    c.in_ok-last.ensures
