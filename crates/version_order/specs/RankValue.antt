-- Where an item of a version stands: by its class, then by the count of its digits, then by its bytes.
use Rattle.std.specs.Prelude.{ℕ, List}

pub record RankValue : Type 0 where
  pub class : ℕ
  pub size : ℕ
  pub bytes : List ℕ
