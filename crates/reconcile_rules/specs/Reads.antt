-- What the reading of all requests answers.
use Rattle.std.specs.Prelude.{◌≡◌, Option, Some, None, List, [], ◌∷◌, Bool, true, false}
use Rattle.version_order.specs.declared.constraint.Constraint.{Constraint}
use Rattle.reconcile_rules.specs.declared.asked.Read.{Read}
use Rattle.reconcile_rules.specs.declared.asked.Read.TheVariants.{Asked, Bad}
use Rattle.reconcile_rules.specs.Asked.{first_bad, plains, intervals}

abbrev pub has_none : {T : Type 0} → List T → Bool
has_none [] = true
has_none (x ∷ xs) = false

abbrev pub IsRead : List (Option Constraint) → Read → Type 0
IsRead read (Bad number) = first_bad read ≡ Some number
IsRead read (Asked asked) =
    (first_bad read ≡ None) × ((asked.plains.items ≡ plains read) × (asked.intervals.items ≡ intervals read))
