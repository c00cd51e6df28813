-- Edges that are seen by their targets and exclusions alone: live paths go the same way.
use Rattle.std.proofs.Common.{◌≡◌, ℕ, zero, suc, Bool, true, false, cond, not, ◌&&◌, ◌||◌, List, [], ◌∷◌, ◌++◌, filter, map, refl, sym, ◌∙◌, ap}
use Rattle.std.specs.List.{flat_map, list_any}
use Rattle.std.proofs.lemmas.List.{map-append}
use Rattle.res_base.specs.declared.coord.Module.{Module}
use Rattle.exclusion_sets.specs.Exclusions.{is_excluded}
use Rattle.exclusion_sets.specs.declared.excl_set.ExclSet.{ExclSet}
use Rattle.live_walk.specs.Graphs.{Graph}
use Rattle.live_walk.specs.Numbers.{Step, edge_graph, step_graph}
use Rattle.live_walk.specs.Paths.{Way, begin, end_of, is_followed, levels, live_paths, longer, returns, step}

map-map : {A B C : Type 0} (f : B → C) (g : A → B) (xs : List A) → map f (map g xs) ≡ map (λ x. f (g x)) xs
map-map f g [] = refl
map-map f g (x ∷ xs) = ap (λ z. f (g x) ∷ z) (map-map f g xs)

filter-map : {A B : Type 0} (p : B → Bool) (f : A → B) (xs : List A)
    → filter p (map f xs) ≡ map f (filter (λ x. p (f x)) xs)
filter-map p f [] = refl
filter-map p f (x ∷ xs) = by (filter-map p f xs) (p (f x))
  where
    by : filter p (map f xs) ≡ map f (filter (λ y. p (f y)) xs) → (t : Bool)
        → cond t (f x ∷ filter p (map f xs)) (filter p (map f xs))
        ≡ map f (cond t (x ∷ filter (λ y. p (f y)) xs) (filter (λ y. p (f y)) xs))
    by later true = ap (λ z. f x ∷ z) later
    by later false = later

list_any-map : {A B : Type 0} (p : B → Bool) (f : A → B) (xs : List A)
    → list_any p (map f xs) ≡ list_any (λ x. p (f x)) xs
list_any-map p f [] = refl
list_any-map p f (x ∷ xs) = ap (λ z. p (f x) || z) (list_any-map p f xs)

module _ {E : Type 0} (target : E → Module) (excludes : E → ExclSet) (roots : List E) (out : Module → List E) where
  abbrev pub seen : E → Step
  seen e = record { target = target e; excludes = excludes e }

  abbrev pub whole : Graph Module E ExclSet
  whole = edge_graph target excludes roots out

  abbrev pub plain : Graph Module Step ExclSet
  plain = step_graph (map seen roots) (λ m. map seen (out m))

  abbrev way_of : Way Module E ExclSet → Way Module Step ExclSet
  way_of p = record { left = p.left; met = p.met; last = seen p.last }

  longer_seen : (p : Way Module E ExclSet) → longer plain (way_of p) ≡ map way_of (longer whole p)
  longer_seen p = by (returns whole p)
    where
      free : E → Bool
      free e = not (is_excluded p.met (target e))

      by : (t : Bool)
          → cond t []
          (map (step plain (way_of p))
          (filter (λ (e : Step). not (is_excluded p.met e.target)) (map seen (out (target p.last)))))
          ≡ map way_of
          (cond t [] (map (step whole p) (filter (λ e. not (is_excluded p.met (target e))) (out (target p.last)))))
      by true = refl
      by false =
          ap (map (step plain (way_of p)))
          (filter-map (λ (e : Step). not (is_excluded p.met e.target)) seen (out (target p.last)))
          ∙ map-map (step plain (way_of p)) seen
          (filter (λ e. not (is_excluded p.met (target e))) (out (target p.last)))
          ∙ sym (map-map way_of (step whole p) (filter (λ e. not (is_excluded p.met (target e))) (out (target p.last))))

  all_longer : (paths : List (Way Module E ExclSet)) → flat_map (longer plain) (map way_of paths)
      ≡ map way_of (flat_map (longer whole) paths)
  all_longer [] = refl
  all_longer (p ∷ paths) =
      ap (λ z. z ++ flat_map (longer plain) (map way_of paths)) (longer_seen p)
      ∙ ap (λ z. map way_of (longer whole p) ++ z) (all_longer paths)
      ∙ sym (map-append way_of (longer whole p) (flat_map (longer whole) paths))

  levels_seen : (n : ℕ) (paths : List (Way Module E ExclSet)) → levels plain n (map way_of paths)
      ≡ map way_of (levels whole n paths)
  levels_seen zero paths = refl
  levels_seen (suc n) paths =
      ap (λ z. map way_of paths ++ levels plain n z) (all_longer paths)
      ∙ ap (λ z. map way_of paths ++ z) (levels_seen n (flat_map (longer whole) paths))
      ∙ sym (map-append way_of paths (levels whole n (flat_map (longer whole) paths)))

  paths_seen : (n : ℕ) → live_paths plain n ≡ map way_of (live_paths whole n)
  paths_seen n =
      ap (levels plain n) (map-map (begin plain) seen roots ∙ sym (map-map way_of (begin whole) roots))
      ∙ levels_seen n (map (begin whole) roots)

  -- an edge is followed exactly where it is in the graph of what is seen
  pub followed_seen : (n : ℕ) (m : Module) (e : E) → is_followed plain (live_paths plain n) m (seen e)
      ≡ is_followed whole (live_paths whole n) m e
  followed_seen n m e = ap (λ z. is_followed plain z m (seen e)) (paths_seen n)
      ∙ list_any-map _ way_of (live_paths whole n)
