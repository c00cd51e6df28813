-- Rules and choices as printed.
use Rattle.std.specs.Prelude.{ℕ, List, ◌∷◌, ◌++◌, codes, decimal}
use Rattle.reconcile_rules.specs.declared.request.Chosen.{Chosen}
use Rattle.reconcile_rules.specs.declared.request.Chosen.TheVariants as chosen
use Rattle.reconcile_rules.specs.declared.request.Clash.{Clash}
use Rattle.reconcile_rules.specs.declared.request.Clash.TheVariants as clashes
use Rattle.reconcile_rules.specs.declared.request.Rule.{Rule}
use Rattle.reconcile_rules.specs.declared.request.Rule.TheVariants as rules
use Rattle.case_words.specs.HexWord.{hex_word}

abbrev pub rule_word : Rule → List ℕ
rule_word rules.Default = codes "default"
rule_word rules.Relaxed = codes "relaxed"
rule_word rules.Strict = codes "strict"
rule_word rules.Semver = codes "semver"

abbrev pub clash_line : Clash → List ℕ
clash_line (clashes.Apart one other) = codes "apart " ++ (decimal one ++ 32 ∷ decimal other)
clash_line (clashes.Above number) = codes "above " ++ decimal number
clash_line (clashes.NotAccepted number) = codes "not-accepted " ++ decimal number
clash_line clashes.NoVersion = codes "no-version"
clash_line clashes.NoneListed = codes "none-listed"
clash_line (clashes.BadConstraint number) = codes "bad-constraint " ++ decimal number

abbrev pub chosen_line : Chosen → List ℕ
chosen_line (chosen.Version version) = codes "version " ++ hex_word version
chosen_line (chosen.NeedsListing interval) = codes "needs"
chosen_line (chosen.Clash clash) = clash_line clash
