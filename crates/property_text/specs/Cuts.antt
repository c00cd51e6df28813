-- Texts that are cut once, with the places of their names.
use Rattle.std.specs.Prelude.{◌≡◌, ⊤, ℕ, List, [], ◌∷◌, All}
use Rattle.property_text.specs.Segments.{Segment, hole, segments, with_bytes}
use Rattle.property_text.specs.Values.{Pair, place_of}
use Rattle.property_text.specs.declared.cuts.Cut.{Cut}
use Rattle.property_text.specs.declared.cuts.CutHole.{CutHole}

-- holes with what stands before each, and then other segments
abbrev pub with_holes : List CutHole → List Segment → List Segment
with_holes [] behind = behind
with_holes (one ∷ holes) behind = with_bytes one.before.now (hole one.name.now ∷ with_holes holes behind)

abbrev pub segments_of : Cut → List Segment
segments_of cut = with_holes cut.holes.items (with_bytes cut.rest.now [])

abbrev pub IsPlaced : List Pair → CutHole → Type 0
IsPlaced pairs one = one.place ≡ place_of pairs one.name.now

-- the cut has the text's segments, and each name its place among the pairs
pub record IsCut (pairs : List Pair) (text : List ℕ) (cut : Cut) : Type 0 where
  pub whole : segments text ≡ segments_of cut
  pub placed : All (IsPlaced pairs) cut.holes.items

-- each value is cut, in the order of the pairs
abbrev pub AreCut : List Pair → List Pair → List Cut → Type 0
AreCut names [] [] = ⊤
AreCut names [] (cut ∷ cuts) = ⊥
AreCut names (pair ∷ pairs) [] = ⊥
AreCut names (pair ∷ pairs) (cut ∷ cuts) = IsCut names pair.1 cut × AreCut names pairs cuts
