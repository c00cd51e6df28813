use Rattle.std.proofs.Common.{rules, ◌≡◌, ◌∙◌, ap, map, [], ◌∷◌, ◌++◌, codes}
use Rattle.std.proofs.lemmas.Result.{IfOk-weaker}
use Rattle.cli_words.specs.Forms.{app_with, optional, places, required, rules_of_forms}
use Rattle.cli_words.specs.Tables.{options, resolve_app}
use Rattle.cli_words.proofs.tables.resolve_command.Goals as goal

pub returns : goal.returns
unfolding resolve_app
returns c =
    let same : rules_of_forms c.as_slice.result.now ≡ required (codes "repositories") ∷ (map optional options ++ places (codes "roots") ∷ []) = search rules in
    IfOk-weaker c.command_with.result _ _ (λ made h. h ∙ ap app_with same) c.command_with.ensures
