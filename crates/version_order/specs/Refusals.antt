-- What the reading of a constraint answers.
use Rattle.std.specs.Prelude.{◌≡◌, ℕ, List, Option, Some, None, Result, Ok, Err, IsSome}
use Rattle.fault_place.specs.Place.{IsPlace}
use Rattle.fault_place.specs.Reader.{reads, Accepts}
use Rattle.version_order.specs.declared.constraint.Constraint.{Constraint}
use Rattle.version_order.specs.declared.constraint.ConstraintErr.{ConstraintErr}
use Rattle.version_order.specs.declared.constraint.ConstraintErr.TheVariants.{BadConstraint, NoMemory}
use Rattle.version_order.specs.Constraints.{trimmed, IsConstraint}
use Rattle.version_order.specs.ConstraintReader.{constraint_reader, begin}

-- the text is no constraint, with its place; there is no memory only for a constraint
abbrev pub IsRefusal : List ℕ → ConstraintErr → Type 0
IsRefusal text (BadConstraint place) = IsPlace (Accepts IsConstraint) text place
IsRefusal text NoMemory = Accepts IsConstraint text

-- What a text reads as, if it does, as a function: for definitions that are to compute. `readings` says that it is the relation.
abbrev pub constraint_in : List ℕ → Option Constraint
constraint_in text = reads constraint_reader (trimmed text) begin

abbrev pub IsAnswer : Option Constraint → Result Constraint ConstraintErr → Type 0
IsAnswer read (Ok value) = read ≡ Some value
IsAnswer read (Err (BadConstraint place)) = read ≡ None
IsAnswer read (Err NoMemory) = IsSome read
