use Rattle.std.proofs.Common.{◌≡◌, Some, sym, ◌∙◌, ap}
use Rattle.std.specs.Option.{option_map}
use Rattle.res_base.specs.Known.{known_of}
use Rattle.resolution.specs.declared.choices.Choice.{Choice}
use Rattle.round_core.specs.Choices.{coord_at}
use Rattle.round_core.specs.Projects.{project_at}
use Rattle.round_core.proofs.projects.project_in.Goals as goal

pub returns-in_ok-project-in-Version-clause-value : goal.returns-in_ok-project-in-Version-clause-value
returns-in_ok-project-in-Version-clause-value g c =
    ap Some c.in_ok-project-in-Version.ensures.value
    ∙ ap (λ (choice : Choice). option_map (project_at (known_of c.args.known.now.pairs) c.args.known.now.repos)
    (coord_at c.args.row.now.«module» choice)) (sym c.in-Version.is)
