-- The two ways of accepting, by name.
use Rattle.std.specs.Prelude.{ℕ, Bool, List}
use Rattle.reconcile_rules.specs.declared.accept.Accepts.{Accepts}
use Rattle.reconcile_rules.specs.declared.accept.Accepts.TheVariants.{Equal, Series}
use Rattle.reconcile_rules.specs.Choose.{accepts_strictly, accepts_series}

abbrev pub accepts_by : Accepts → List ℕ → List ℕ → Bool
accepts_by Equal = accepts_strictly
accepts_by Series = accepts_series
