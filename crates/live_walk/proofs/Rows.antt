-- Rows that stand beside distinct modules.
use Rattle.std.proofs.Common.{◌≡◌, ◌<◌, ℕ, zero, suc, Bool, true, false, cond, ◌||◌, List, [], ◌∷◌, map, length, get_or, set, refl, sym, ◌∙◌, ap, subst, arith}
use Rattle.std.specs.List.{list_any}
use Rattle.res_base.specs.Names.{module_eq}
use Rattle.res_base.specs.declared.coord.Module.{Module}
use Rattle.live_walk.specs.Graphs.{In, here, there}
use Rattle.live_walk.specs.Numbers.{AreDistinct, AreOther, module_at, row_at}
use Rattle.live_walk.specs.Walks.{update}
use Rattle.live_walk.proofs.Members.{map_same}
use Rattle.live_walk.proofs.Modules.{module_itself, module_same}

not_other : (m k : Module) → module_eq k m ≡ false → module_eq m k ≡ false
not_other m k h = by (module_eq m k) refl
  where
    by : (t : Bool) → module_eq m k ≡ t → module_eq m k ≡ false
    by false e = e
    by true e =
        absurd (let q : m ≡ k = module_same m k e in let d : module_eq k m ≡ true = rw q (module_itself k) in cc)

apart_at : (k : Module) (modules : List Module) (place : ℕ) → place < length modules → AreOther k modules
    → module_eq k (module_at modules place) ≡ false
apart_at k [] place h d = absurd (omega (arith, h))
apart_at k (m ∷ modules) zero h d = d.0
apart_at k (m ∷ modules) (suc place) h d = apart_at k modules place (omega (arith, h)) d.1

apart_in : (k m : Module) (modules : List Module) → In m modules → AreOther k modules → module_eq k m ≡ false
apart_in k m [] h d = elim h [ ]
apart_in k m (n ∷ modules) here d = d.0
apart_in k m (n ∷ modules) (there h) d = apart_in k m modules h d.1

module _ {A : Type 0} where
  -- a row that is written is that of its module
  pub row-set : (modules : List Module) (rows : List (List A)) (place : ℕ) (row : List A) → length modules ≡ length rows
      → AreDistinct modules → place < length rows → (m : Module)
      → row_at modules (set rows place row) m ≡ update module_eq (row_at modules rows) (module_at modules place) row m
  row-set [] [] place row n d h m = absurd (omega (arith, h))
  row-set [] (r ∷ rows) place row n d h m = absurd (cc)
  row-set (k ∷ modules) [] place row n d h m = absurd (cc)
  row-set (k ∷ modules) (r ∷ rows) zero row n d h m = by (module_eq m k)
    where
      by : (t : Bool) → cond t row (row_at modules rows m) ≡ cond t row (cond t r (row_at modules rows m))
      by true = refl
      by false = refl
  row-set (k ∷ modules) (r ∷ rows) (suc place) row n d h m =
      by (row-set modules rows place row (omega (arith, n)) d.1 (omega (arith, h)) m) (module_eq m k) refl
    where
      by : row_at modules (set rows place row) m
          ≡ cond (module_eq m (module_at modules place)) row (row_at modules rows m) → (t : Bool) → module_eq m k ≡ t
          → cond (module_eq m k) r (row_at modules (set rows place row) m)
          ≡ cond (module_eq m (module_at modules place)) row (cond (module_eq m k) r (row_at modules rows m))
      by later true e =
          let q : m ≡ k = module_same m k e in
          let apart : module_eq m (module_at modules place) ≡ false =
          subst (λ z. module_eq z (module_at modules place)
          ≡ false) (sym q) (apart_at k modules place (omega (arith, h, n)) d.0) in
          rw (e, apart) refl
      by later false e = rw e later

  -- the row of the module at a place is the row there
  pub row_here : (modules : List Module) (rows : List (List A)) (place : ℕ) → length modules ≡ length rows
      → AreDistinct modules → place < length rows → row_at modules rows (module_at modules place) ≡ get_or rows place []
  row_here [] [] place n d h = absurd (omega (arith, h))
  row_here [] (r ∷ rows) place n d h = absurd (cc)
  row_here (k ∷ modules) [] place n d h = absurd (cc)
  row_here (k ∷ modules) (r ∷ rows) zero n d h = rw (module_itself k) refl
  row_here (k ∷ modules) (r ∷ rows) (suc place) n d h =
      let apart : module_eq (module_at modules place) k ≡ false =
      not_other (module_at modules place) k (apart_at k modules place (omega (arith, h, n)) d.0) in
      rw apart (row_here modules rows place (omega (arith, n)) d.1 (omega (arith, h)))

  -- a module with a row is among the modules
  pub row_listed : (modules : List Module) (rows : List (List A)) (m : Module) (x : A) → In x (row_at modules rows m)
      → list_any (module_eq m) modules ≡ true
  row_listed [] rows m x h = elim h [ ]
  row_listed (k ∷ modules) [] m x h = elim h [ ]
  row_listed (k ∷ modules) (r ∷ rows) m x h = by (row_listed modules rows m x) (module_eq m k) refl h
    where
      by : (In x (row_at modules rows m) → list_any (module_eq m) modules ≡ true) → (t : Bool) → module_eq m k ≡ t
          → In x (cond t r (row_at modules rows m)) → (module_eq m k || list_any (module_eq m) modules) ≡ true
      by later true e i = rw e refl
      by later false e i = rw e (later i)

  pub no_rows : (modules : List Module) (rows : List (List A)) → ((place : ℕ) → get_or rows place [] ≡ [])
      → (m : Module) → row_at modules rows m ≡ []
  no_rows [] rows h m = refl
  no_rows (k ∷ modules) [] h m = refl
  no_rows (k ∷ modules) (r ∷ rows) h m = by (no_rows modules rows (λ place. h (suc place)) m) (module_eq m k)
    where
      by : row_at modules rows m ≡ [] → (t : Bool) → cond t r (row_at modules rows m) ≡ []
      by later true = h zero
      by later false = later

-- two lists of rows, row by row
abbrev pub both_rows : {A B C : Type 0} → (List A → List B → C) → List (List A) → List (List B) → List C
both_rows f [] ys = []
both_rows f (x ∷ xs) [] = []
both_rows f (x ∷ xs) (y ∷ ys) = f x y ∷ both_rows f xs ys

pub by_rows : {A B C : Type 0} (f : List A → List B
    → C) (modules : List Module) (xs : List (List A)) (ys : List (List B)) → length xs ≡ length modules
    → length ys ≡ length modules → AreDistinct modules
    → map (λ m. f (row_at modules xs m) (row_at modules ys m)) modules ≡ both_rows f xs ys
by_rows f [] [] ys n l d = refl
by_rows f [] (x ∷ xs) ys n l d = absurd (cc)
by_rows f (k ∷ modules) [] ys n l d = absurd (cc)
by_rows f (k ∷ modules) (x ∷ xs) [] n l d = absurd (cc)
by_rows f (k ∷ modules) (x ∷ xs) (y ∷ ys) n l d =
    let tail : map (λ m. f (row_at (k ∷ modules) (x ∷ xs) m) (row_at (k ∷ modules) (y ∷ ys) m)) modules
    ≡ map (λ m. f (row_at modules xs m) (row_at modules ys m)) modules =
    map_same _ _ modules (λ m i. let apart : module_eq m k ≡ false =
    not_other m k (apart_in k m modules i d.0) in rw apart refl)
    in
    rw (module_itself k, tail, by_rows f modules xs ys (omega (arith, n)) (omega (arith, l)) d.1) refl
