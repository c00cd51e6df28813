-- When two coordinates are one.
use Rattle.std.proofs.Common.{◌≡◌, ℕ, ◌⊎◌, inl, inr, Bool, true, false, cond, ◌&&◌, ◌||◌, Some, List, [], ◌∷◌, ◌++◌, refl, sym, ap, ◌∙◌, rules, true≢false}
use Rattle.std.specs.BTreeMap.{BTreeMap, Updates}
use Rattle.std.specs.Cmp.{IsEquivalence}
use Rattle.std.specs.Cmp.Rules.{comparing}
use Rattle.std.specs.Cmp.Lexicographic.{same_text}
use Rattle.std.specs.Option.{unwrap_or}
use Rattle.std.specs.Ordering.{eq_by_cmp}
use Rattle.res_base.specs.Builders.{coord_of}
use Rattle.res_base.specs.Names.{coord_eq, text_eq}
use Rattle.res_base.specs.declared.coord.Coord.{Coord}
use Rattle.pom_build.specs.CoordTables.{coord_cmp, value_at}
use Rattle.pom_build.specs.Lines.{is_among}
use Rattle.pom_build.proofs.Chains.{longer}

pub equal_coords : IsEquivalence coord_eq
equal_coords = search (comparing, rules)

pub alike_among : (a b : Coord) → coord_eq a b ≡ true → (chain : List Coord) → is_among a chain ≡ is_among b chain
alike_among a b e [] = refl
alike_among a b e (c ∷ chain) = rw (equal_coords.congr a b c e, alike_among a b e chain) refl

both : (a b : Bool) → (a && b) ≡ true → (a ≡ true) × (b ≡ true)
both true b e = (refl, e)
both false b e = absurd (true≢false (sym e))

pub same_coord : (a b : Coord) → coord_eq a b ≡ true → a ≡ b
same_coord a b e =
    let parts = both (text_eq a.«module».org b.«module».org && text_eq a.«module».name b.«module».name) (text_eq a.version b.version) e in
    let names = both (text_eq a.«module».org b.«module».org) (text_eq a.«module».name b.«module».name) parts.0 in
    let org : a.«module».org ≡ b.«module».org = same_text a.«module».org b.«module».org (sym names.0) in
    let name : a.«module».name ≡ b.«module».name = same_text a.«module».name b.«module».name (sym names.1) in
    let version : a.version ≡ b.version = same_text a.version b.version (sym parts.1) in
    ap (λ text. coord_of text a.«module».name a.version) org ∙ ap (λ text. coord_of b.«module».org text a.version) name
    ∙ ap (coord_of b.«module».org b.«module».name) version

-- Coordinates of a chain.

among_last : (x c : Coord) (chain : List Coord) → is_among x (chain ++ c ∷ []) ≡ (is_among x chain || coord_eq x c)
among_last x c chain = longer x c chain

pub among_or : (x c : Coord) (chain : List Coord) → is_among x (chain ++ c ∷ []) ≡ true → (is_among x chain ≡ true) ⊎ (coord_eq x c ≡ true)
among_or x c chain e = either (is_among x chain) (coord_eq x c) (sym (among_last x c chain) ∙ e)
  where
    either : (a b : Bool) → (a || b) ≡ true → (a ≡ true) ⊎ (b ≡ true)
    either true b e = inl refl
    either false b e = inr e

pub among_front : (x c : Coord) (chain : List Coord) → is_among x chain ≡ true → is_among x (chain ++ c ∷ []) ≡ true
among_front x c chain e = among_last x c chain ∙ ap (λ b. b || coord_eq x c) e

pub among_end : (c : Coord) (chain : List Coord) → is_among c (chain ++ c ∷ []) ≡ true
among_end c chain = among_last c c chain ∙ ap (λ b. is_among c chain || b) (equal_coords.refl c) ∙ or_true (is_among c chain)
  where
    or_true : (b : Bool) → (b || true) ≡ true
    or_true true = refl
    or_true false = refl

-- Tables under coordinates.

coord_ties : (a b : Coord) → coord_eq a b ≡ eq_by_cmp coord_cmp a b
coord_ties = search (comparing, rules)

pub put_at : {X : Type 0} (before after : BTreeMap Coord X) (c : Coord) (value : X) → Updates coord_cmp before after c (Some value) → (one : Coord)
    → value_at after one ≡ cond (coord_eq c one) (Some value) (value_at before one)
put_at before after c value updated one = updated.0 one ∙ ap (λ tied. cond tied (Some value) (value_at before one)) (sym (coord_ties c one))

pub level_put : (before after : BTreeMap Coord ℕ) (c : Coord) (level : ℕ) → Updates coord_cmp before after c (Some level) → (one : Coord)
    → unwrap_or (value_at after one) 0 ≡ cond (coord_eq c one) level (unwrap_or (value_at before one) 0)
level_put before after c level updated one =
    ap (λ o. unwrap_or o 0) (put_at before after c level updated one) ∙ at (coord_eq c one)
  where
    at : (b : Bool) → unwrap_or (cond b (Some level) (value_at before one)) 0 ≡ cond b level (unwrap_or (value_at before one) 0)
    at true = refl
    at false = refl
