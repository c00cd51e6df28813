-- What contracts see of sets that are kept: the sets, and how many more take no memory.
use Rattle.std.specs.Prelude.{ℕ, List}
use Rattle.exclusion_sets.specs.declared.excl_set.ExclSet.{ExclSet}

pub record Kept : Type 0 where
  pub sets : List ExclSet
  pub room : ℕ
