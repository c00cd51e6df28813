-- Values under names.
use Rattle.std.specs.BTreeMap.{BTreeMap, get_by}
use Rattle.std.specs.Prelude.{◌≡◌, ℕ, Option, None, Some, List, [], ◌∷◌, ◌++◌, if◌then◌else◌, is_some, map, position}
use Rattle.res_base.specs.Names.{text_cmp, text_eq}
use denote.Ref.{Bor}

-- a name and its value
abbrev pub Pair : Type 0
Pair = List ℕ × List ℕ

-- the value of the first pair with the name
abbrev pub value_in : List Pair → List ℕ → Option (List ℕ)
value_in [] name = None
value_in (pair ∷ pairs) name = if text_eq name pair.0 then Some pair.1 else value_in pairs name

-- a pair put last, unless the name has a value
abbrev pub with_value : List Pair → List ℕ → List ℕ → List Pair
with_value pairs name value = if is_some (value_in pairs name) then pairs else pairs ++ (name, value) ∷ []

-- pairs of texts that stand elsewhere
abbrev pub seen : List (Bor (List ℕ) × Bor (List ℕ)) → List Pair
seen pairs = map (λ pair. (pair.0.now, pair.1.now)) pairs

-- the place of the first pair with the name
abbrev pub place_of : List Pair → List ℕ → Option ℕ
place_of pairs name = position (λ pair. text_eq name pair.0) pairs

-- the table has the place of each name, and no other name
abbrev pub HasPlaces : List Pair → BTreeMap (Bor (List ℕ)) ℕ → Type 0
HasPlaces pairs places = (name : List ℕ) → get_by (λ key. text_cmp name key.now) places ≡ place_of pairs name
