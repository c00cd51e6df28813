-- All that a round reaches, from its parts.
use Rattle.std.proofs.Common.{◌≡◌, ◌≤◌, ◌+◌, ℕ, Option, Result, Ok, Err, List, [], sym, ◌∙◌, ap, subst}
use Rattle.std.specs.Prelude.{IfOk}
use Rattle.live_walk.specs.Numbers.{AreDistinct}
use Rattle.live_walk.proofs.Modules.{SetLaws}
use Rattle.res_base.specs.Known.{Known}
use Rattle.res_base.specs.declared.coord.Module.{Module}
use Rattle.resolution.specs.declared.ask.Ask.{Ask}
use Rattle.resolution.specs.declared.choices.ChoiceRow.{ChoiceRow}
use Rattle.round_core.specs.Choices.{modules_of}
use Rattle.round_core.specs.Edges.{all_edges, last_ones}
use Rattle.round_core.specs.Projects.{projects_in, projects_of}
use Rattle.round_core.specs.Reaching.{names_of, reached_of, seen_last}
use Rattle.round_core.specs.Tables.{named}
use Rattle.round_core.specs.declared.edges.RowEdge.{RowEdge}
use Rattle.round_core.specs.declared.projects.ChosenProject.{ChosenProject}
use Rattle.round_core.specs.declared.reach.Reached.{Reached}
use Rattle.round_core.proofs.Named.{named_distinct}
use Rattle.round_core.proofs.Seen.{seen_is_last}

module _ (laws : SetLaws) (known : Known) (ask : Ask) (chosen : List ChoiceRow)
    (distinct : AreDistinct (modules_of chosen)) where
  last_is : (edges : List (List RowEdge)) (last : List RowEdge)
      → edges ≡ all_edges ask.configuration (projects_in known ask.repos chosen)
      → last ≡ seen_last (names_of chosen ask.roots edges) ask.excludes ask.roots edges
      → last ≡ last_ones known ask chosen
  last_is edges last made is =
      is ∙ ap (λ (es : List (List RowEdge)). seen_last (names_of chosen ask.roots es) ask.excludes ask.roots es) made
      ∙ seen_is_last known ask chosen laws distinct

  pub reached_is : (table : List Module) (projects : List (Option ChosenProject)) (boms : List ChosenProject)
      (edges : List (List RowEdge)) (last : List RowEdge)
      → table ≡ named [] (modules_of chosen) → projects ≡ projects_in known ask.repos chosen
      → boms ≡ projects_of known ask.repos ask.boms
      → edges ≡ all_edges ask.configuration projects
      → last ≡ seen_last (names_of chosen ask.roots edges) ask.excludes ask.roots edges
      → record { table = table; projects = projects; boms = boms; last = last } ≡ reached_of known ask chosen
  reached_is table projects boms edges last of_table of_projects of_boms of_edges of_last =
      let same : last ≡ last_ones known ask chosen =
      last_is edges last (of_edges ∙ ap (all_edges ask.configuration) of_projects) of_last in
      ap (λ (z : List Module). record { table = z; projects = projects; boms = boms; last = last }) (of_table
      ∙ named_distinct [] (modules_of chosen) distinct)
      ∙ ap (λ (z : List (Option ChosenProject)). record {
        table = modules_of chosen;
        projects = z;
        boms = boms;
        last =
            last;
      }) of_projects
      ∙ ap (λ (z : List ChosenProject). record {
        table = modules_of chosen;
        projects =
            projects_in known ask.repos chosen;
        boms = z;
        last = last;
      }) of_boms
      ∙ ap (λ (z : List RowEdge). record {
        table = modules_of chosen;
        projects =
            projects_in known ask.repos chosen;
        boms = projects_of known ask.repos ask.boms;
        last = z;
      }) same

pub if_any : {T F : Type 0} (r : Result T F) {Q : T → Type 0} → ((x : T) → Q x) → IfOk r Q
if_any (Ok x) f = f x
if_any (Err e) f = tt
