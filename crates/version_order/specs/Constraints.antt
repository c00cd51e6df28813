-- What a constraint's text is, and what it says.
use Rattle.std.specs.Prelude.{◌≡◌, ℕ, Bool, true, false, not, ◌&&◌, ◌||◌, ◌⊎◌, if◌then◌else◌, List, [], ◌∷◌, ◌++◌, Option, Some, None, codes, ◌==◌, slice_index, length, ◌-◌}
use Rattle.std.specs.List.{list_all}
use Rattle.std.specs.Str.{bytes_eq}
use Rattle.ascii_bytes.specs.Classes.{is_blank, is_plain_byte, is_white}
use Rattle.ascii_bytes.specs.Parts.{trim}
use Rattle.ascii_bytes.specs.Signs.{closing_bracket, closing_parenthesis, comma, opening_bracket, opening_parenthesis, plus}
use Rattle.interval_sets.specs.declared.interval.End.{End}
use Rattle.interval_sets.specs.declared.interval.End.TheVariants.{Free, With, Without}
use Rattle.interval_sets.specs.declared.interval.Interval.{Interval}
use Rattle.version_order.specs.declared.constraint.Constraint.{Constraint}
use Rattle.version_order.specs.declared.constraint.Constraint.TheVariants.{Any, Plain, Within}

-- white space is cut at both ends
abbrev pub trimmed : List ℕ → List ℕ
trimmed text = trim is_white text

abbrev pub has_some : List ℕ → Bool
has_some [] = false
has_some (c ∷ text) = true

-- one or more plain bytes
abbrev pub is_bound : List ℕ → Bool
is_bound text = list_all is_plain_byte text && has_some text

abbrev pub last_byte : List ℕ → ℕ
last_byte text = slice_index text (length text - 1)

abbrev pub is_reserved : List ℕ → Bool
is_reserved text =
    bytes_eq text (codes "latest.release")
    || (bytes_eq text (codes "latest.integration") || (bytes_eq text (codes "LATEST") || bytes_eq text (codes "RELEASE")))

-- a plain version does not end in +, and is none of the reserved words
abbrev pub is_plain : List ℕ → Bool
is_plain text = is_bound text && (not (last_byte text == plus) && not (is_reserved text))

-- a bound with blanks before and after it
pub record IsPadded (text bound : List ℕ) : Type 0 where
  pub before : List ℕ
  pub after : List ℕ
  pub whole : text ≡ before ++ (bound ++ after)
  pub blank_before : list_all is_blank before ≡ true
  pub blank_after : list_all is_blank after ≡ true
  pub bounds : is_bound bound ≡ true

abbrev pub IsOptional : List ℕ → Option (List ℕ) → Type 0
IsOptional text None = text ≡ []
IsOptional text (Some bound) = IsPadded text bound

-- [ or (, and ] or )
abbrev pub opening : Bool → ℕ
opening square = if square then opening_bracket else opening_parenthesis

abbrev pub closing : Bool → ℕ
closing square = if square then closing_bracket else closing_parenthesis

-- a square bracket includes its bound, a round one does not, and an absent bound is free
abbrev pub end_of : Bool → Option (List ℕ) → End (List ℕ)
end_of square None = Free
end_of true (Some bound) = With bound
end_of false (Some bound) = Without bound

abbrev pub interval_of : Bool → Option (List ℕ) → Option (List ℕ) → Bool → Interval (List ℕ)
interval_of square lower upper square_end = record { lower = end_of square lower; upper = end_of square_end upper }

abbrev pub only : List ℕ → Interval (List ℕ)
only bound = record { lower = With bound; upper = With bound }

-- a bracket, an optional bound, a comma, an optional bound, a bracket
pub record IsPair (text : List ℕ) (interval : Interval (List ℕ)) : Type 0 where
  pub square : Bool
  pub square_end : Bool
  pub lower : Option (List ℕ)
  pub upper : Option (List ℕ)
  pub low : List ℕ
  pub high : List ℕ
  pub whole : text ≡ opening square ∷ (low ++ comma ∷ (high ++ closing square_end ∷ []))
  pub is_low : IsOptional low lower
  pub is_high : IsOptional high upper
  pub says : interval_of square lower upper square_end ≡ interval

-- one bound between square brackets
pub record IsSingle (text : List ℕ) (interval : Interval (List ℕ)) : Type 0 where
  pub bound : List ℕ
  pub inner : List ℕ
  pub whole : text ≡ opening_bracket ∷ (inner ++ closing_bracket ∷ [])
  pub is_inner : IsPadded inner bound
  pub says : only bound ≡ interval

-- this text, without white space at its ends, reads as this constraint
abbrev pub IsConstraint : List ℕ → Constraint → Type 0
IsConstraint text Any = text ≡ []
IsConstraint text (Plain version) = (text ≡ version) × (is_plain version ≡ true)
IsConstraint text (Within interval) = IsPair text interval ⊎ IsSingle text interval
