-- Texts that are cut: hole by hole, and one by one.
use Rattle.std.proofs.Common.{◌≡◌, ℕ, zero, suc, ◌+◌, ◌<◌, arith, List, [], ◌∷◌, ◌++◌, length, drop, get_or, None, refl, sym, ◌∙◌, ap}
use Rattle.std.proofs.lemmas.List.{drop_more}
use Rattle.property_text.specs.Cuts.{AreCut, IsCut, with_holes}
use Rattle.property_text.specs.Segments.{Segment, hole, with_bytes}
use Rattle.property_text.specs.Values.{Pair}
use Rattle.property_text.specs.declared.cuts.Cut.{Cut}
use Rattle.property_text.specs.declared.cuts.CutHole.{CutHole}

pub holes_push : (holes : List CutHole) (last : CutHole) (behind : List Segment)
    → with_holes (holes ++ last ∷ []) behind ≡ with_holes holes (with_bytes last.before.now (hole last.name.now ∷ behind))
holes_push [] last behind = refl
holes_push (one ∷ holes) last behind = ap (λ rest. with_bytes one.before.now (hole one.name.now ∷ rest)) (holes_push holes last behind)

pub cuts_push : (names pairs : List Pair) (pair : Pair) (cuts : List Cut) (cut : Cut) → AreCut names pairs cuts
    → IsCut names pair.1 cut → AreCut names (pairs ++ pair ∷ []) (cuts ++ cut ∷ [])
cuts_push names [] pair [] cut all one = (one, tt)
cuts_push names [] pair (other ∷ cuts) cut all one = absurd all
cuts_push names (other ∷ pairs) pair [] cut all one = absurd all
cuts_push names (other ∷ pairs) pair (before ∷ cuts) cut all one = (all.0, cuts_push names pairs pair cuts cut all.1 one)

pub cut_within : (names pairs : List Pair) (cuts : List Cut) (place : ℕ) → AreCut names pairs cuts → place < length pairs → place < length cuts
cut_within names [] [] place all within = within
cut_within names [] (cut ∷ cuts) place all within = absurd all
cut_within names (pair ∷ pairs) [] place all within = absurd all
cut_within names (pair ∷ pairs) (cut ∷ cuts) zero all within = omega arith
cut_within names (pair ∷ pairs) (cut ∷ cuts) (suc place) all within =
    let later : place < length cuts = cut_within names pairs cuts place all.1 (omega (arith, within)) in
    omega (arith, later)

pub cut_at : (names pairs : List Pair) (cuts : List Cut) (place : ℕ) (d : Pair) (e : Cut) → AreCut names pairs cuts → place < length pairs
    → IsCut names (get_or pairs place d).1 (get_or cuts place e)
cut_at names [] [] place d e all within = absurd (omega (arith, within))
cut_at names [] (cut ∷ cuts) place d e all within = absurd all
cut_at names (pair ∷ pairs) [] place d e all within = absurd all
cut_at names (pair ∷ pairs) (cut ∷ cuts) zero d e all within = all.0
cut_at names (pair ∷ pairs) (cut ∷ cuts) (suc place) d e all within = cut_at names pairs cuts place d e all.1 (omega (arith, within))

-- what stands for a hole where there is none
abbrev pub no_hole : CutHole
no_hole = record { before = record { ref_ptr = (0, 0); now = [] }; name = record { ref_ptr = (0, 0); now = [] }; place = None }

-- the holes from one on
pub next_hole : (holes shown : List CutHole) (i : ℕ) (behind : List Segment) → shown ≡ holes → i < length shown
    → with_holes (drop i holes) behind
    ≡ with_bytes (get_or shown i no_hole).before.now (hole (get_or shown i no_hole).name.now ∷ with_holes (drop (i + 1) holes) behind)
next_hole holes shown i behind e within =
    ap (λ all. with_holes (drop i all) behind) (sym e)
    ∙ ap (λ all. with_holes all behind) (drop_more shown i no_hole within)
    ∙ ap (λ all. with_bytes (get_or shown i no_hole).before.now (hole (get_or shown i no_hole).name.now ∷ with_holes (drop (i + 1) all) behind)) e
