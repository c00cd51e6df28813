-- Where a version comes from that is chosen and not forced.
use Rattle.std.specs.Prelude.{ℕ, Option, Some, None, List, Contains}
use Rattle.version_order.specs.declared.constraint.Constraint.TheVariants.{Plain}
use Rattle.reconcile_rules.specs.declared.request.Request.{Request}
use Rattle.reconcile_rules.specs.Asked.{constraints}

-- some request's text reads as this plain version
abbrev pub IsAskedFor : List Request → List ℕ → Type 0
IsAskedFor requests version = Contains (constraints requests) (Some (Plain version))

-- the listed versions are known, and this is one of them
abbrev pub IsListed : Option (List (List ℕ)) → List ℕ → Type 0
IsListed None version = ⊥
IsListed (Some versions) version = Contains versions version
