-- The open parts of a store: the part with a number stands at that place.
use Rattle.std.specs.Prelude.{ℕ, ◌≡◌, List, Option, Some, None, if◌then◌else◌, length, slice_index_or}
use Rattle.std.specs.Option.{option_map}
use Rattle.digest_check.specs.Fed.{IsFed}
use Rattle.res_base.specs.Names.{text_eq}
use Rattle.cache_store.specs.declared.part.Part.{Part}

abbrev pub Parts : Type 0
Parts = List (Option Part)

-- the part with this number, if it is open
abbrev pub part_at : Parts → ℕ → Option Part
part_at parts number = slice_index_or parts number None

-- these bytes were appended to the part
pub record HasBytes (part : Part) (bytes : List ℕ) : Type 0 where
  pub fed : IsFed part.sums bytes
  pub size : part.length ≡ length bytes

abbrev pub HoldsBytes : Parts → ℕ → List ℕ → Type 0
HoldsBytes parts number bytes = (part : Part) × (part_at parts number ≡ Some part) × HasBytes part bytes

-- no two parts are sealed for one name
abbrev pub AreApart : Parts → Type 0
AreApart parts = (j k : ℕ) (p q : Part) (name : List ℕ) → part_at parts j ≡ Some p → part_at parts k ≡ Some q
    → p.sealed ≡ Some name → q.sealed ≡ Some name → j ≡ k

-- a part that is no longer sealed for this name
abbrev pub unseal : List ℕ → Option (List ℕ) → Option (List ℕ)
unseal name None = None
unseal name (Some other) = if text_eq other name then None else Some other

abbrev pub unsealed : List ℕ → Part → Part
unsealed name part = record { sums = part.sums; length = part.length; sealed = unseal name part.sealed }

abbrev pub sealed_as : List ℕ → Part → Part
sealed_as name part = record { sums = part.sums; length = part.length; sealed = Some name }

-- no part is sealed for the name any more, and nothing else changed
abbrev pub AreUnsealed : List ℕ → Parts → Parts → Type 0
AreUnsealed name old new = (j : ℕ) → part_at new j ≡ option_map (unsealed name) (part_at old j)

-- the other parts are as they were
abbrev pub OthersStay : ℕ → Parts → Parts → Type 0
OthersStay number old new = (j : ℕ) → (j ≡ number → ⊥) → part_at new j ≡ part_at old j

-- the other parts are as they were, but for a seal for the name
abbrev pub OthersUnsealed : ℕ → List ℕ → Parts → Parts → Type 0
OthersUnsealed number name old new = (j : ℕ) → (j ≡ number → ⊥)
    → part_at new j ≡ option_map (unsealed name) (part_at old j)
