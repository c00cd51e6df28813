-- One more edge in the table.
use Rattle.std.proofs.Common.{◌≡◌, ◌<◌, ◌+◌, ℕ, Bool, true, false, Option, Some, List, [], ◌∷◌, ◌++◌, cond, filter, length, map, get_or, set, take, refl, sym, ◌∙◌, ap, subst, arith, ◌⊎◌, ⊎_elim, eqb}
use Rattle.std.specs.Prelude.{slice_get}
use Rattle.std.proofs.lemmas.Bool.Decides.{eqb_tells}
use Rattle.std.proofs.lemmas.List.{append-nil, get_or-set_other, get_or-set_same, map-append, take_more}
use Rattle.std.proofs.lemmas.List.Elements.{filter-append}
use Rattle.std.proofs.lemmas.Option.{slice_get_read}
use Rattle.node_edges.specs.Edges.{if_so}
use Rattle.node_edges.specs.Table.{ArePlaces, row_at}
use Rattle.resolution.specs.declared.settled.Edge.{Edge}

-- the place of an edge, where it is wanted
place_so : (edges : List Edge) (at : ℕ) (e : Edge) (so : Bool) → slice_get edges at ≡ Some e → ArePlaces edges (if_so so at) (if_so so e)
place_so edges at e true is = ap (λ (o : Option Edge). o ∷ []) is
place_so edges at e false is = refl

pub more : (p : Edge → Bool) (edges : List Edge) (at : ℕ) (e : Edge) (old new : List ℕ) → at < length edges → e ≡ get_or edges at e → ArePlaces edges old (filter p (take at edges)) → new ≡ old ++ if_so (p (get_or edges at e)) at → ArePlaces edges new (filter p (take (at + 1) edges))
more p edges at e old new h is before grown =
    let some : Edge → Option Edge = λ x. Some x in
    let taken : take (at + 1) edges ≡ take at edges ++ e ∷ [] = take_more edges at e h ∙ ap (λ (x : Edge). take at edges ++ x ∷ []) (sym is) in
    let kept : filter p (take (at + 1) edges) ≡ filter p (take at edges) ++ if_so (p e) e = ap (filter p) taken ∙ filter-append p (take at edges) (e ∷ []) in
    let there : map (slice_get edges) (if_so (p e) at) ≡ map some (if_so (p e) e) = place_so edges at e (p e) (slice_get_read edges (length edges) at e refl h is) in
    ap (map (slice_get edges)) (grown ∙ ap (λ (x : Edge). old ++ if_so (p x) at) (sym is))
    ∙ map-append (slice_get edges) old (if_so (p e) at)
    ∙ ap (λ z. z ++ map (slice_get edges) (if_so (p e) at)) before
    ∙ ap (λ z. map some (filter p (take at edges)) ++ z) there
    ∙ sym (ap (map some) kept ∙ map-append some (filter p (take at edges)) (if_so (p e) e))

-- a row that has grown, and the others
pub row_set : (rows : List (List ℕ)) (source place at : ℕ) → source < length rows → row_at (set rows source (row_at rows source ++ at ∷ [])) place ≡ row_at rows place ++ if_so (eqb place source) at
row_set rows source place at h = ⊎_elim same other (eqb_tells place source)
  where
    new : List ℕ
    new = row_at rows source ++ at ∷ []

    same : (eqb place source ≡ true) × (place ≡ source) → row_at (set rows source new) place ≡ row_at rows place ++ if_so (eqb place source) at
    same (is, e) = subst (λ (so : Bool). row_at (set rows source new) place ≡ row_at rows place ++ if_so so at) (sym is) (subst (λ (p : ℕ). row_at (set rows source new) p ≡ row_at rows p ++ at ∷ []) (sym e) (get_or-set_same rows source new [] h))

    other : (eqb place source ≡ false) × (place ≡ source → ⊥) → row_at (set rows source new) place ≡ row_at rows place ++ if_so (eqb place source) at
    other (is, ne) = subst (λ (so : Bool). row_at (set rows source new) place ≡ row_at rows place ++ if_so so at) (sym is) (get_or-set_other rows source place new [] ne ∙ sym (append-nil (row_at rows place)))
