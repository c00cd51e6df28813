-- The names by which a call makes its sequence of disk calls.
use Rattle.std.proofs.Common.{ℕ, ◌≡◌, ◌++◌, Bool, List, refl}
use Rattle.std.specs.Fmt.{decimal}
use Rattle.std.specs.Prelude.{codes}
use Rattle.cache_images.specs.Places.{IsPartName, gone_name, part_name, record_name, record_part_name}
use Rattle.cache_images.specs.Sequences.{clear_steps, gone_list, gone_steps, seal_list, seal_steps, upgrade_list, upgrade_steps}

pub named_part : (k : ℕ) (from : List ℕ) → from ≡ part_name k → IsPartName from
named_part k from e = record { rest = decimal k ++ codes ".part"; begins = e }

pub record SealNames (k : ℕ) (name from gone record_from entry : List ℕ) : Type 0 where
  pub from_is : from ≡ part_name k
  pub gone_is : gone ≡ gone_name name
  pub record_from_is : record_from ≡ record_part_name k
  pub entry_is : entry ≡ record_name name

pub seal_is : (there : Bool) (k : ℕ) (name from gone record_from entry line : List ℕ)
    → SealNames k name from gone record_from entry
    → seal_list there from name gone record_from entry line ≡ seal_steps there k name line
seal_is there k name from gone record_from entry line e =
    rw (e.from_is, e.gone_is, e.record_from_is, e.entry_is) refl

pub gone_is : (there : Bool) (k : ℕ) (name gone from line : List ℕ) → gone ≡ gone_name name → from ≡ record_part_name k
    → gone_list there name gone from line ≡ gone_steps there k name line
gone_is there k name gone from line e f = rw (e, f) refl

pub take_is : (there : Bool) (name gone : List ℕ) → gone ≡ gone_name name
    → clear_steps there name gone ≡ clear_steps there name (gone_name name)
take_is there name gone e = rw e refl

pub upgrade_is : (k : ℕ) (name from entry line : List ℕ) → from ≡ record_part_name k → entry ≡ record_name name
    → upgrade_list from entry line ≡ upgrade_steps k name line
upgrade_is k name from entry line e f = rw (e, f) refl
