-- A text with values in the places of names.
use Rattle.std.specs.Prelude.{ℕ, zero, suc, Option, None, Some, List, [], ◌∷◌, ◌++◌, codes, if◌then◌else◌, length, nat_le}
use Rattle.property_text.specs.Segments.{Segment, literal, hole, segments}

-- a filled text, and how many more replacements may be made
pub record Filling : Type 0 where
  pub text : List ℕ
  pub left : ℕ

-- `None` stands for a limit that was passed.

-- a text that stays, and then a filled one
abbrev pub prefixed : List ℕ → Option Filling → Option Filling
prefixed text None = None
prefixed text (Some filling) = Some (record { text = text ++ filling.text; left = filling.left })

-- a filled text, and then what is filled with the replacements that are left
abbrev pub followed : Option Filling → (ℕ → Option Filling) → Option Filling
followed None next = None
followed (Some filling) next = prefixed filling.text (next filling.left)

-- one replacement of those that are left
abbrev pub replaced : (ℕ → Option Filling) → ℕ → Option Filling
replaced value zero = None
replaced value (suc left) = value left

abbrev pub as_written : List ℕ → List ℕ
as_written name = codes "${" ++ name ++ codes "}"

-- a value stands in the place of its name, filled in turn; a name without a value stays as written
abbrev pub filled_hole : (List ℕ → ℕ → Option Filling) → List ℕ → Option (List ℕ) → ℕ → Option Filling
filled_hole fill name None left = Some (record { text = as_written name; left = left })
filled_hole fill name (Some value) left = replaced (fill value) left

-- a filled text of at most so many bytes, and otherwise the text as it was written
abbrev pub within_size : ℕ → List ℕ → Option Filling → List ℕ
within_size size text None = text
within_size size text (Some filling) = if nat_le (length filling.text) size then filling.text else text

module _ (value_of : List ℕ → Option (List ℕ)) where
  -- segments in turn, where `fill` fills a value
  abbrev pub filled_segments : (List ℕ → ℕ → Option Filling) → List Segment → ℕ → Option Filling
  filled_segments fill [] left = Some (record { text = []; left = left })
  filled_segments fill (literal text ∷ rest) left = prefixed text (filled_segments fill rest left)
  filled_segments fill (hole name ∷ rest) left = followed (filled_hole fill name (value_of name) left) (filled_segments fill rest)

  -- a value, where at most so many stand in one another: this one, one in it, and so on
  abbrev pub filled_value : ℕ → List ℕ → ℕ → Option Filling
  filled_value zero value left = None
  filled_value (suc depth) value left = filled_segments (filled_value depth) (segments value) left

  -- a text with at most so many values in one another, so many in all, and so many bytes
  abbrev pub filled_within : ℕ → ℕ → ℕ → List ℕ → List ℕ
  filled_within depth count size text = within_size size text (filled_segments (filled_value depth) (segments text) count)

  unfoldable pub filled : List ℕ → List ℕ
  filled text = filled_within 32 1024 65536 text
