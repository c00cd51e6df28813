-- What may stand in the words of a command, as rules of `clap`.
use Rattle.std.specs.Prelude.{ℕ, List, Some, true, codes, fold, map}
use Rattle.clap.specs.Words.{App, Rule, new_app, new_rule, with_rule}
use Rattle.clap.specs.declared.builder.action.ArgAction.TheVariants.{Append}
use Rattle.cli_words.specs.declared.forms.Form.{Form}
use Rattle.cli_words.specs.declared.forms.Form.TheVariants.{Optional, Required, Place, Places}

-- `--NAME VALUE` or `--NAME=VALUE`, at most once
abbrev pub optional : List ℕ → Rule
optional name = record (new_rule name) { long = Some name }

-- the same, once
abbrev pub required : List ℕ → Rule
required name = record (optional name) { required = true }

-- one word at a place of its own
abbrev pub place : List ℕ → Rule
place name = record (new_rule name) { required = true }

-- one or more words, the last of the places
abbrev pub places : List ℕ → Rule
places name = record (place name) { action = Some Append }

abbrev pub rule_of_form : Form → Rule
rule_of_form (Optional name) = optional name.now
rule_of_form (Required name) = required name.now
rule_of_form (Place name) = place name.now
rule_of_form (Places name) = places name.now

abbrev pub rules_of_forms : List Form → List Rule
rules_of_forms = map rule_of_form

abbrev pub with_rules : List Rule → App → App
with_rules rules app = fold with_rule app rules

-- a simple command: its words are a first word, its name, and what its rules take
abbrev pub app_with : List Rule → App
app_with rules = with_rules rules (new_app (codes "coursier"))
