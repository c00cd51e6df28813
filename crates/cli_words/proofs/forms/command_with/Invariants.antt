use Rattle.std.proofs.Common.{◌≡◌, drop}
use Rattle.clap.specs.Words.{app_of}
use Rattle.cli_words.specs.Forms.{app_with, rules_of_forms, with_rules}
use Rattle.cli_words.proofs.forms.command_with.Given as goal

-- the forms that are left complete the command
abbrev pub invariant-loop-form : goal.invariant-loop-form
invariant-loop-form l = with_rules (rules_of_forms (drop l.form-index l.forms)) (app_of l.command) ≡ app_with (rules_of_forms l.forms)
