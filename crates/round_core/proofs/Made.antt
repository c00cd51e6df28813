-- Steps of loops, and the first case of a verdict.
use Rattle.std.proofs.Common.{◌≡◌, ℕ, Option, None, Some, List, [], ◌∷◌, ◌++◌, filter, map, refl, sym, ◌∙◌, ap}
use Rattle.std.specs.List.{filter_map}
use Rattle.std.proofs.lemmas.List.Elements.{filter-append, filter_map-append}
use Rattle.interval_sets.specs.Intervals.{holds}
use Rattle.interval_sets.specs.declared.interval.Interval.{Interval}
use Rattle.resolution.specs.declared.verdict.ClashRow.{ClashRow}
use Rattle.resolution.specs.declared.verdict.Verdict.{Verdict}
use Rattle.resolution.specs.declared.verdict.Verdict.TheVariants.{Clashes}
use Rattle.version_order.specs.Ranks.{items_cmp}
use Rattle.round_core.specs.Listings.{candidates, plain_in}
use Rattle.round_core.specs.Verdicts.{unless_clashes}
use Rattle.round_core.specs.declared.listings.Offer.{Offer}

pub map_more : {A B : Type 0} (f : A → B) (xs : List A) (x : A) → map f (xs ++ x ∷ []) ≡ map f xs ++ f x ∷ []
map_more f [] x = refl
map_more f (y ∷ xs) x = ap (λ z. f y ∷ z) (map_more f xs x)

pub candidates_more : (interval : Interval (List ℕ)) (xs ys : List (List ℕ)) → candidates interval (xs ++ ys)
    ≡ candidates interval xs ++ candidates interval ys
candidates_more interval xs ys =
    ap (filter (λ version. holds items_cmp interval version)) (filter_map-append plain_in xs ys)
    ∙ filter-append (λ version. holds items_cmp interval version) (filter_map plain_in xs) (filter_map plain_in ys)

pub none_left : (o : Option Offer) → ((offer : Offer) → o ≡ Some offer → ⊥) → o ≡ None
none_left None h = refl
none_left (Some offer) h = absurd (h offer refl)

pub clashes_kept : (rows : List ClashRow) (otherwise : Verdict) → (rows ≡ [] → ⊥)
    → Clashes rows ≡ unless_clashes rows otherwise
clashes_kept [] otherwise h = absurd (h refl)
clashes_kept (row ∷ rows) otherwise h = refl
