-- Where the parts of a constraint stand in its text.
use Rattle.std.specs.Prelude.{◌≡◌, ℕ, ◌<◌, ◌≤◌, true, if◌then◌else◌, List, length, Option, Some, None, ◌==◌, slice_range}
use Rattle.std.specs.List.{list_all}
use Rattle.version_order.specs.declared.constraint.Constraint.{Constraint}
use Rattle.version_order.specs.declared.constraint.Constraint.TheVariants.{Any as AnyVersion, Plain as PlainVersion, Within}
use Rattle.version_order.specs.declared.shape.Bound.{Bound}
use Rattle.version_order.specs.declared.shape.Shape.{Shape}
use Rattle.version_order.specs.declared.shape.Shape.TheVariants.{Any, Plain, Single, Pair}
use Rattle.ascii_bytes.specs.Classes.{is_plain_byte}
use Rattle.version_order.specs.Constraints.{interval_of, only}

-- an empty part of the text is no bound
abbrev pub bound_in : List ℕ → Bound → Option (List ℕ)
bound_in text bound = if bound.start == bound.end then None else Some (slice_range text bound.start bound.end)

pub record IsSound (text : List ℕ) (bound : Bound) : Type 0 where
  pub rises : bound.start ≤ bound.end
  pub ends : bound.end ≤ bound.stop
  pub stops : bound.stop < length text
  pub plain : list_all is_plain_byte (slice_range text bound.start bound.end) ≡ true

abbrev pub constraint_of : List ℕ → Shape → Constraint
constraint_of text Any = AnyVersion
constraint_of text Plain = PlainVersion text
constraint_of text (Single bound) = Within (only (slice_range text bound.start bound.end))
constraint_of text (Pair square low high square_end) =
    Within (interval_of square (bound_in text low) (bound_in text high) square_end)

abbrev pub IsSoundShape : List ℕ → Shape → Type 0
IsSoundShape text Any = Unit {0}
IsSoundShape text Plain = list_all is_plain_byte text ≡ true
IsSoundShape text (Single bound) = IsSound text bound
IsSoundShape text (Pair square low high square_end) = IsSound text low × IsSound text high
