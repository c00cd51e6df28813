use Rattle.std.proofs.Common.{◌≡◌, drop}
use Rattle.std.specs.Prelude.{fold}
use Rattle.reconcile_rules.specs.Greatest.{greater_of, greatest}
use Rattle.reconcile_rules.proofs.greatest.greatest_listed.Given as goal

abbrev pub invariant-loop-text : goal.invariant-loop-text
invariant-loop-text l = fold greater_of l.best (drop l.text-index l.listed) ≡ greatest l.listed
