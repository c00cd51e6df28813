-- When two texts, modules, coordinates or keys are one, and how they are ordered.
use Rattle.std.specs.Prelude.{ℕ, Bool, List, ◌&&◌, nat_eq}
use Rattle.std.specs.declared.cmp.Ordering.{Ordering}
use Rattle.std.specs.Ordering.{nat_cmp, on, eq_of_both, then_cmp, ordering_then}
use Rattle.std.specs.Cmp.Lexicographic.{pointwise, slice_cmp}
use Rattle.res_base.specs.declared.coord.Module.{Module}
use Rattle.res_base.specs.declared.coord.Coord.{Coord}
use Rattle.res_base.specs.declared.key.FileKey.{FileKey}
use Rattle.res_base.specs.declared.key.Role.{Role}
use Rattle.res_base.specs.declared.key.Role.TheVariants.{Pom, Listing, Artifact}

-- the same bytes
abbrev pub text_eq : List ℕ → List ℕ → Bool
text_eq = pointwise nat_eq

-- by bytes, a text before what goes on from it
abbrev pub text_cmp : List ℕ → List ℕ → Ordering
text_cmp = slice_cmp nat_cmp

abbrev pub module_eq : Module → Module → Bool
module_eq a b = text_eq a.org b.org && text_eq a.name b.name

-- by org, then by name
abbrev pub module_cmp : Module → Module → Ordering
module_cmp a b = ordering_then (text_cmp a.org b.org) (text_cmp a.name b.name)

abbrev pub coord_eq : Coord → Coord → Bool
coord_eq a b = module_eq a.«module» b.«module» && text_eq a.version b.version

-- POMs before listings, listings before artifacts
abbrev pub role_number : Role → ℕ
role_number Pom = 0
role_number Listing = 1
role_number Artifact = 2

abbrev pub role_eq : Role → Role → Bool
role_eq = on role_number nat_eq

abbrev pub role_cmp : Role → Role → Ordering
role_cmp = on role_number nat_cmp

abbrev pub key_eq : FileKey → FileKey → Bool
key_eq = eq_of_both (eq_of_both (on (λ key. key.repo) nat_eq) (on (λ key. key.path) text_eq))
    (on (λ key. key.role) role_eq)

-- by repository, then by path, then by role
abbrev pub key_cmp : FileKey → FileKey → Ordering
key_cmp = then_cmp (then_cmp (on (λ key. key.repo) nat_cmp) (on (λ key. key.path) text_cmp))
    (on (λ key. key.role) role_cmp)
