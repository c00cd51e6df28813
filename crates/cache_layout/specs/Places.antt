-- Parts of a text up to a sign, and how far a text is a word.
use Rattle.std.specs.Prelude.{◌≡◌, ◌⊎◌, ℕ, suc, List, [], ◌∷◌, Option, Some, None, ◌==◌, if◌then◌else◌}

-- what stands before the first such sign, or the whole text
abbrev pub before : ℕ → List ℕ → List ℕ
before sign [] = []
before sign (byte ∷ text) = if byte == sign then [] else byte ∷ before sign text

-- what stands behind it, if it is there
abbrev pub behind : ℕ → List ℕ → Option (List ℕ)
behind sign [] = None
behind sign (byte ∷ text) = if byte == sign then Some text else behind sign text

-- none of these bytes is the sign
abbrev pub Lacks : ℕ → List ℕ → Type 0
Lacks sign [] = Unit {0}
Lacks sign (byte ∷ text) = (byte ≡ sign → ⊥) × Lacks sign text

-- nothing, or a text that begins with the sign
abbrev pub Begins : ℕ → List ℕ → Type 0
Begins sign text = (text ≡ []) ⊎ ((rest : List ℕ) × (text ≡ sign ∷ rest))

-- a first part up to the first such sign, and the rest from there on
pub record IsBefore (sign : ℕ) (first rest : List ℕ) : Type 0 where
  pub lacks : Lacks sign first
  pub begins : Begins sign rest

-- how many bytes at the start of a word and of a text are the same
abbrev pub common : List ℕ → List ℕ → ℕ
common [] text = 0
common (b ∷ word) [] = 0
common (b ∷ word) (c ∷ text) = if b == c then suc (common word text) else 0
