use Rattle.std.proofs.Common.{rules, ◌≡◌, ◌∙◌, ap, [], ◌∷◌, codes}
use Rattle.std.proofs.lemmas.Result.{IfOk-weaker}
use Rattle.cli_words.specs.Forms.{app_with, place, rules_of_forms}
use Rattle.cli_words.specs.Tables.{sample_app}
use Rattle.cli_words.proofs.tables.sample_command.Goals as goal

pub returns : goal.returns
unfolding sample_app
returns c =
    let same : rules_of_forms c.as_slice.result.now ≡ place (codes "seed") ∷ place (codes "count") ∷ [] = search rules in
    IfOk-weaker c.command_with.result _ _ (λ made h. h ∙ ap app_with same) c.command_with.ensures
