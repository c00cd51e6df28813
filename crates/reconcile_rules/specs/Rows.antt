-- Worked rows.
use Rattle.std.specs.Prelude.{◌≡◌, ℕ, List, [], ◌∷◌, codes, refl, Some, None, map}
use Rattle.interval_sets.specs.declared.interval.End.TheVariants.{With, Without}
use Rattle.reconcile_rules.specs.declared.request.Request.{Request}
use Rattle.reconcile_rules.specs.declared.request.Asker.TheVariants.{Root}
use Rattle.reconcile_rules.specs.declared.request.Rule.TheVariants.{Default, Relaxed, Strict, Semver}
use Rattle.reconcile_rules.specs.declared.request.Clash.TheVariants.{Apart, Above, NotAccepted, NoVersion, NoneListed, BadConstraint}
use Rattle.reconcile_rules.specs.declared.request.Chosen.TheVariants.{Version, NeedsListing, Clash}
use Rattle.reconcile_rules.specs.Choose.{choose_of}

abbrev asks : List (List ℕ) → List Request
asks texts = map (λ text. record { text = text; «from» = Root 0 }) texts

abbrev one : List ℕ → List Request
one text = asks (text ∷ [])

abbrev two : List ℕ → List ℕ → List Request
two a b = asks (a ∷ b ∷ [])

pub newest : choose_of Default None (asks (codes "1.9" ∷ [] ∷ codes " 1.10 " ∷ codes "1.2" ∷ [])) None
    ≡ Version (codes "1.10")
newest = refl

pub broken_by_bytes : choose_of Default None (two (codes "1.0.0") (codes "1.0")) None ≡ Version (codes "1.0.0")
broken_by_bytes = refl

pub needs_listing : choose_of Default None (one (codes "[1.0,2.0)")) None
    ≡ NeedsListing (record { lower = With (codes "1.0"); upper = Without (codes "2.0") })
needs_listing = refl

pub greatest_listed : choose_of Default None (two [] (codes "[1.0,2.0)")) (Some (codes "1.0" ∷ codes "1.5" ∷ []))
    ≡ Version (codes "1.5")
greatest_listed = refl

pub below_the_interval : choose_of Default None (two (codes "[1.0,2.0)") (codes "0.9")) (Some (codes "1.0" ∷ codes "1.5" ∷ []))
    ≡ Version (codes "1.5")
below_the_interval = refl

pub above_the_interval : choose_of Default None (two (codes "[1.0,2.0)") (codes "2.0")) (Some (codes "1.0" ∷ codes "1.5" ∷ []))
    ≡ Clash (Above 1)
above_the_interval = refl

pub two_apart : choose_of Default None (two (codes "[1,2)") (codes "[3,4)")) None ≡ Clash (Apart 0 1)
two_apart = refl

pub relaxed_listed : choose_of Relaxed None (two (codes "[1,2)") (codes "[3,4)")) (Some (codes "3.0" ∷ codes "3.5" ∷ []))
    ≡ Version (codes "3.5")
relaxed_listed = refl

pub relaxed_interval : choose_of Relaxed None (two (codes "[3,4)") (codes "[1,2)")) None
    ≡ NeedsListing (record { lower = With (codes "3"); upper = Without (codes "4") })
relaxed_interval = refl

pub relaxed_passed : choose_of Relaxed None (asks (codes "[1,2)" ∷ codes "1.5" ∷ codes "2.5" ∷ [])) None
    ≡ Version (codes "2.5")
relaxed_passed = refl

pub relaxed_empty : choose_of Relaxed None (two (codes "[1,2)") (codes "[2,1]")) None ≡ Clash (Apart 1 1)
relaxed_empty = refl

pub strictly : choose_of Strict None (two (codes "1.0") (codes "1.1")) None ≡ Clash (NotAccepted 0)
strictly = refl

pub series_of_one : choose_of Semver None (two (codes "1.0") (codes "1.1")) None ≡ Version (codes "1.1")
series_of_one = refl

pub series_of_zero : choose_of Semver None (two (codes "0.1") (codes "0.2")) None ≡ Clash (NotAccepted 0)
series_of_zero = refl

pub without_a_version : choose_of Default None (one []) None ≡ Clash NoVersion
without_a_version = refl

pub no_constraint : choose_of Default None (one (codes "[1,2),[3,4)")) None ≡ Clash (BadConstraint 0)
no_constraint = refl

pub none_is_listed : choose_of Default None (one (codes "[1,2)")) (Some []) ≡ Clash NoneListed
none_is_listed = refl

pub holds_nothing : choose_of Default None (one (codes "[2,1]")) None ≡ Clash (Apart 0 0)
holds_nothing = refl

pub forced : choose_of Strict (Some (codes "0.9")) (two (codes "[1.0,2.0)") (codes "x y")) None
    ≡ Version (codes "0.9")
forced = refl
