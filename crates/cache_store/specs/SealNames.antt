-- The names that sealing a part for a file takes.
use Rattle.std.specs.Prelude.{ℕ, ◌≡◌, List}
use Rattle.cache_images.specs.Places.{gone_name, part_name, record_name, record_part_name}
use Rattle.cache_store.specs.declared.names.SealNames.{SealNames}

pub record AreSealNames (number : ℕ) (name : List ℕ) (names : SealNames) : Type 0 where
  pub own : names.own ≡ name
  pub part : names.part ≡ part_name number
  pub gone : names.gone ≡ gone_name name
  pub record_part : names.record_part ≡ record_part_name number
  pub entry : names.entry ≡ record_name name
