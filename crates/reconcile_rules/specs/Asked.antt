-- What requests ask for, with the numbers of the requests.
use Rattle.std.specs.Prelude.{ℕ, ◌+◌, Bool, true, false, Option, Some, None, List, [], ◌∷◌, map}
use Rattle.std.specs.List.{position_from}
use Rattle.version_order.specs.declared.constraint.Constraint.{Constraint}
use Rattle.version_order.specs.declared.constraint.Constraint.TheVariants.{Any, Plain, Within}
use Rattle.version_order.specs.Refusals.{constraint_in}
use Rattle.reconcile_rules.specs.declared.request.Request.{Request}
use Rattle.reconcile_rules.specs.declared.request.PlainRequest.{PlainRequest}
use Rattle.reconcile_rules.specs.declared.request.IntervalRequest.{IntervalRequest}

-- what each text reads as, where it is a constraint
abbrev pub constraints : List Request → List (Option Constraint)
constraints requests = map (λ r. constraint_in r.text) requests

abbrev pub is_bad : Option Constraint → Bool
is_bad None = true
is_bad (Some constraint) = false

-- the number of the first text that is no constraint
abbrev pub first_bad : List (Option Constraint) → Option ℕ
first_bad read = position_from is_bad 0 read

abbrev pub is_any : Option Constraint → Bool
is_any (Some Any) = true
is_any (Some (Plain version)) = false
is_any (Some (Within interval)) = false
is_any None = false

abbrev pub onto_plains : ℕ → Option Constraint → List PlainRequest → List PlainRequest
onto_plains number (Some (Plain version)) later = record { number = number; version = version } ∷ later
onto_plains number (Some Any) later = later
onto_plains number (Some (Within interval)) later = later
onto_plains number None later = later

abbrev pub plains_from : ℕ → List (Option Constraint) → List PlainRequest
plains_from number [] = []
plains_from number (constraint ∷ rest) = onto_plains number constraint (plains_from (number + 1) rest)

-- the plain versions that are asked for, in the order of the requests
abbrev pub plains : List (Option Constraint) → List PlainRequest
plains read = plains_from 0 read

abbrev pub onto_intervals : ℕ → Option Constraint → List IntervalRequest → List IntervalRequest
onto_intervals number (Some (Within interval)) later = record { number = number; interval = interval } ∷ later
onto_intervals number (Some Any) later = later
onto_intervals number (Some (Plain version)) later = later
onto_intervals number None later = later

abbrev pub intervals_from : ℕ → List (Option Constraint) → List IntervalRequest
intervals_from number [] = []
intervals_from number (constraint ∷ rest) = onto_intervals number constraint (intervals_from (number + 1) rest)

-- the intervals that are asked for, in the order of the requests
abbrev pub intervals : List (Option Constraint) → List IntervalRequest
intervals read = intervals_from 0 read
