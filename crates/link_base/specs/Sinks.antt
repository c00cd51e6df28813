-- What a sink gains.
use Rattle.std.specs.Prelude.{ℕ, ◌≡◌, ◌++◌, List, Option}
use Rattle.std.specs.Option.{option_map}

-- what was written once these bytes went out, where it is told
abbrev pub gained : Option (List ℕ) → List ℕ → Option (List ℕ)
gained written bytes = option_map (λ before. before ++ bytes) written

-- some prefix of the bytes went out
pub record GainsPrefix (before now : Option (List ℕ)) (bytes : List ℕ) : Type 0 where
  pub sent : List ℕ
  pub rest : List ℕ
  pub parts : bytes ≡ sent ++ rest
  pub went : now ≡ gained before sent
