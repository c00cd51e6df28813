-- A text, cut into what stays and the names between `${` and the next `}`.
use Rattle.std.specs.Prelude.{ℕ, List, [], ◌∷◌, ◌++◌, ◌==◌, codes, if◌then◌else◌}

pub data Segment : Type 0 where
  literal : List ℕ → Segment
  hole : List ℕ → Segment

-- where a reader stands: outside of holes, there behind a `$`, or behind `${` and these bytes of a name
pub data Place : Type 0 where
  outside : Place
  dollar : Place
  inside : List ℕ → Place

-- a byte in front of what stays
abbrev pub with_byte : ℕ → List Segment → List Segment
with_byte c [] = literal (c ∷ []) ∷ []
with_byte c (literal text ∷ rest) = literal (c ∷ text) ∷ rest
with_byte c (hole name ∷ rest) = literal (c ∷ []) ∷ hole name ∷ rest

abbrev pub with_bytes : List ℕ → List Segment → List Segment
with_bytes [] rest = rest
with_bytes (c ∷ text) rest = with_byte c (with_bytes text rest)

-- the bytes are `$`, 36, `{`, 123, and `}`, 125
abbrev pub place_after : Place → ℕ → Place
place_after outside c = if c == 36 then dollar else outside
place_after dollar c = if c == 123 then inside [] else (if c == 36 then dollar else outside)
place_after (inside name) c = if c == 125 then outside else inside (name ++ c ∷ [])

-- what is known once a byte is read, in front of the segments behind it
abbrev pub with_next : Place → ℕ → List Segment → List Segment
with_next outside c rest = if c == 36 then rest else with_byte c rest
with_next dollar c rest = if c == 123 then rest else (if c == 36 then with_byte 36 rest else with_byte 36 (with_byte c rest))
with_next (inside name) c rest = if c == 125 then hole name ∷ rest else rest

-- a `$` at the end stays, and so does a `${` without a `}`
abbrev pub at_end : Place → List Segment
at_end outside = []
at_end dollar = literal (codes "$") ∷ []
at_end (inside name) = literal (codes "${" ++ name) ∷ []

abbrev pub segments_from : Place → List ℕ → List Segment
segments_from place [] = at_end place
segments_from place (c ∷ text) = with_next place c (segments_from (place_after place c) text)

abbrev pub segments : List ℕ → List Segment
segments text = segments_from outside text
