-- Coordinates in words.
use Rattle.std.specs.Prelude.{ℕ, Bool, true, false, List, Option, Some, None, ◌&&◌, not, is_some, if◌then◌else◌}
use Rattle.std.specs.List.{list_any}
use Rattle.res_base.specs.CoordReader.{coord_in}
use Rattle.res_base.specs.Names.{coord_eq, module_eq}
use Rattle.res_base.specs.Plain.{is_plain_coord}
use Rattle.res_base.specs.declared.coord.Coord.{Coord}
use Rattle.res_base.specs.declared.coord.Module.{Module}
use Rattle.version_order.specs.Refusals.{constraint_in}
use Rattle.version_order.specs.declared.constraint.Constraint.{Constraint}
use Rattle.version_order.specs.declared.constraint.Constraint.TheVariants.{Plain}

abbrev pub is_constraint : List ℕ → Bool
is_constraint text = is_some (constraint_in text)

abbrev pub is_plain_constraint : Option Constraint → Bool
is_plain_constraint (Some (Plain version)) = true
is_plain_constraint _ = false

-- the text asks for one version by preference
abbrev pub is_preferred : List ℕ → Bool
is_preferred text = is_plain_constraint (constraint_in text)

abbrev pub has_module : List Coord → Module → Bool
has_module coords m = list_any (λ other. module_eq other.«module» m) coords

abbrev pub has_coord : List Coord → Coord → Bool
has_coord coords coord = list_any (λ other. coord_eq other coord) coords

-- the coordinate of a text, where it passes a test
abbrev pub coord_where : (Coord → Bool) → Option Coord → Option Coord
coord_where passes None = None
coord_where passes (Some coord) = if passes coord then Some coord else None

-- a coordinate of one version whose module does not stand before it
abbrev pub forced_in : List Coord → List ℕ → Bool → Option Coord
forced_in before text is_last =
    coord_where (λ coord. is_preferred coord.version && not (has_module before coord.«module»)) (coord_in text)

-- a plain coordinate of one version that does not stand before it
abbrev pub bom_in : List Coord → List ℕ → Bool → Option Coord
bom_in before text is_last =
    coord_where (λ coord. is_plain_coord coord && is_preferred coord.version && not (has_coord before coord)) (coord_in text)

-- a coordinate whose version is a constraint
abbrev pub root_in : List Coord → List ℕ → Bool → Option Coord
root_in before text is_last = coord_where (λ coord. is_constraint coord.version) (coord_in text)
