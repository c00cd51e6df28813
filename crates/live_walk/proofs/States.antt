-- The state of the code, after a set was put in.
use Rattle.std.proofs.Common.{◌≡◌, ◌<◌, ℕ, zero, suc, Bool, true, false, not, Option, Some, None, List, [], ◌∷◌, ◌++◌, map, length, get_or, set, take, ◌+◌, Result, Ok, Err, refl, sym, ◌∙◌, ap, subst, arith}
use Rattle.std.specs.Prelude.{is_none, position, fold, replicate}
use mathlib.Core.Path.{fun_ext}
use Rattle.std.specs.Result.{OnOk, IfOk}
use Rattle.std.proofs.lemmas.List.{get_or_default, take_more}
use Rattle.std.proofs.lemmas.List.{map-append}
use Rattle.res_base.specs.Names.{module_eq}
use Rattle.res_base.specs.declared.coord.Module.{Module}
use Rattle.std.specs.List.{list_any}
use Rattle.exclusion_sets.specs.Exclusions.{is_excluded, is_within}
use Rattle.live_walk.specs.declared.least.LeastSets.{LeastSets}
use Rattle.exclusion_sets.specs.Minimal.{covering_place, sets_after, unless_covered, without_covered}
use Rattle.exclusion_sets.specs.declared.excl_set.ExclSet.{ExclSet}
use Rattle.live_walk.specs.Graphs.{Graph}
use Rattle.live_walk.specs.Numbers.{AreDistinct, Step, item_of, lets_of, lets_row, module_at, row_at, sets_of, state_of, table_of}
use Rattle.live_walk.specs.Walks.{State, Item, after_items, after_levels, level, put, put_unless, update}
use Rattle.live_walk.specs.declared.hop.Hop.{Hop}
use Rattle.live_walk.specs.declared.walk.Work.{Work}
use Rattle.live_walk.proofs.Rows.{row-set, row_here}

pub map-set : {A B : Type 0} (f : A → B) (xs : List A) (i : ℕ) (x : A) → map f (set xs i x) ≡ set (map f xs) i (f x)
map-set f [] i x = refl
map-set f (y ∷ xs) zero x = refl
map-set f (y ∷ xs) (suc i) x = ap (λ z. f y ∷ z) (map-set f xs i x)

pub length-map : {A B : Type 0} (f : A → B) (xs : List A) → length (map f xs) ≡ length xs
length-map f [] = refl
length-map f (x ∷ xs) = let h : length (map f xs) ≡ length xs = length-map f xs in omega (arith, h)

sets_at : (table : List LeastSets) (place : ℕ) (d : LeastSets) → place < length table → get_or (sets_of table) place []
    ≡ (get_or table place d).sets
sets_at [] place d h = absurd (omega (arith, h))
sets_at (kept ∷ table) zero d h = refl
sets_at (kept ∷ table) (suc place) d h = sets_at table place d (omega (arith, h))

module _ (modules : List Module) (table : List LeastSets) (place : ℕ) (x : ExclSet) (new d : LeastSets) (n : length modules
    ≡ length table) (apart : AreDistinct modules) (h : place < length table) where
  abbrev old : List ExclSet
  old = (get_or table place d).sets

  at_module : table_of modules table (module_at modules place) ≡ (get_or table place d).sets
  at_module =
      let many : length modules ≡ length (sets_of table) = n ∙ sym (length-map (λ (kept : LeastSets). kept.sets) table) in
      row_here modules (sets_of table) place many apart
      (subst (λ z. place < z) (sym (length-map (λ (kept : LeastSets). kept.sets) table)) h) ∙ sets_at table place d h

  after_set : table_of modules (set table place new)
      ≡ update module_eq (table_of modules table) (module_at modules place) new.sets
  after_set =
      let many : length modules ≡ length (sets_of table) = n ∙ sym (length-map (λ (kept : LeastSets). kept.sets) table) in
      ap (row_at modules) (map-set (λ (kept : LeastSets). kept.sets) table place new)
      ∙ fun_ext (row-set modules (sets_of table) place new.sets many apart
      (subst (λ z. place < z) (sym (length-map (λ (kept : LeastSets). kept.sets) table)) h))

  same_sets : (xs : List LeastSets) (i : ℕ) → i < length xs → new.sets ≡ (get_or xs i d).sets
      → sets_of (set xs i new) ≡ sets_of xs
  same_sets [] i l e = absurd (omega (arith, l))
  same_sets (kept ∷ xs) zero l e = ap (λ z. z ∷ sets_of xs) e
  same_sets (kept ∷ xs) (suc i) l e = ap (λ z. kept.sets ∷ z) (same_sets xs i (omega (arith, l)) e)

  module _ (next : List Work) (sets : new.sets ≡ sets_after (get_or table place d).sets x) where
    pub added : is_none (covering_place (get_or table place d).sets x) ≡ true
        → state_of modules (set table place new) (next ++ record { place = place; set = x } ∷ [])
        ≡ put module_eq is_within (state_of modules table next) (module_at modules place) x
    added free = by (covering_place (get_or table place d).sets x) refl
      where
        by : (o : Option ℕ) → covering_place (get_or table place d).sets x ≡ o
            → state_of modules (set table place new) (next ++ record { place = place; set = x } ∷ [])
            ≡ put module_eq is_within (state_of modules table next) (module_at modules place) x
        by (Some at) e =
            absurd (let k : is_none (covering_place (get_or table place d).sets x) ≡ false = ap is_none e in cc)
        by None e =
            let after : new.sets ≡ without_covered (get_or table place d).sets x =
            sets ∙ ap (λ o. unless_covered o (get_or table place d).sets x) e in
            let items : map (item_of modules) (next ++ record { place = place; set = x } ∷ [])
            ≡ map (item_of modules) next ++ record { place = module_at modules place; set = x } ∷ [] =
            map-append (item_of modules) next _ in
            let uncovered : position (λ kept. is_within kept x) (table_of modules table (module_at modules place))
            ≡ None = ap (λ z. position (λ kept. is_within kept x) z) at_module ∙ e in
            let table_is : table_of modules (set table place new)
            ≡ update module_eq (table_of modules table) (module_at modules place)
            (without_covered (table_of modules table (module_at modules place)) x) =
            after_set ∙ ap (update module_eq (table_of modules table) (module_at modules place)) (after
            ∙ ap (λ z. without_covered z x) (sym at_module))
            in
            ap (λ z. record {
              table = z;
              next =
                  map (item_of modules) (next ++ record { place = place; set = x } ∷ []);
            }) table_is
            ∙ ap (λ z. record {
              table =
                  update module_eq (table_of modules table) (module_at modules place)
                  (without_covered (table_of modules table (module_at modules place)) x);
              next = z;
            }) items
            ∙ sym (ap (λ o. put_unless module_eq is_within o (state_of modules table next) (module_at modules place) x)
            uncovered)

    pub stayed : is_none (covering_place (get_or table place d).sets x) ≡ false
        → state_of modules (set table place new) next
        ≡ put module_eq is_within (state_of modules table next) (module_at modules place) x
    stayed taken = by (covering_place (get_or table place d).sets x) refl
      where
        by : (o : Option ℕ) → covering_place (get_or table place d).sets x ≡ o
            → state_of modules (set table place new) next
            ≡ put module_eq is_within (state_of modules table next) (module_at modules place) x
        by None e = absurd (let k : is_none (covering_place (get_or table place d).sets x) ≡ true = ap is_none e in cc)
        by (Some at) e =
            let after : new.sets ≡ (get_or table place d).sets =
            sets ∙ ap (λ o. unless_covered o (get_or table place d).sets x) e in
            let covered : position (λ kept. is_within kept x) (table_of modules table (module_at modules place))
            ≡ Some at = ap (λ z. position (λ kept. is_within kept x) z) at_module ∙ e in
            ap (λ z. record { table = row_at modules z; next = map (item_of modules) next })
            (same_sets table place h after)
            ∙ sym (ap (λ o. put_unless module_eq is_within o (state_of modules table next) (module_at modules place) x)
            covered)

-- without work nothing changes
idle : (g : Graph Module Step ExclSet) (n : ℕ) (s : State Module ExclSet) → s.next ≡ []
    → (after_levels g is_within n s).table ≡ s.table
idle g zero s e = refl
idle g (suc n) s e =
    let none : level g is_within s ≡ record { table = s.table; next = [] } =
    ap (after_items g is_within (record { table = s.table; next = [] })) e in
    idle g n (level g is_within s) (ap (λ (z : State Module ExclSet). z.next) none)
    ∙ ap (λ (z : State Module ExclSet). z.table) none

pub idle_at : (g : Graph Module Step ExclSet) (n : ℕ) (modules : List Module) (table : List LeastSets) (work : List Work)
    (u : State Module ExclSet) → work ≡ [] → after_levels g is_within n (state_of modules table work) ≡ u
    → table_of modules table ≡ u.table
idle_at g n modules table work u e h = sym (idle g n (state_of modules table work) (ap (map (item_of modules)) e))
    ∙ ap (λ (s : State Module ExclSet). s.table) h

pub on_ok : {T F : Type 0} (r : Result T F) {P Q : Type 0} → (P → Q) → OnOk r P → OnOk r Q
on_ok (Ok x) f h = f h
on_ok (Err e) f h = tt

pub if_ok : {T F : Type 0} (r : Result T F) {P Q : T → Type 0} → ((x : T) → P x → Q x) → IfOk r P → IfOk r Q
if_ok (Ok x) f h = f x h
if_ok (Err e) f h = tt

-- the row at a place is the one that is read there
pub row_read : {A : Type 0} (modules : List Module) (rows : List (List A)) (place : ℕ) (row : List A)
    → length modules ≡ length rows → AreDistinct modules → place < length rows → row ≡ get_or rows place row
    → row_at modules rows (module_at modules place) ≡ row
row_read modules rows place row n apart h at = row_here modules rows place n apart h
    ∙ (get_or_default rows place [] row h ∙ sym at)

lets_of-take : (modules : List Module) (out : List (List Hop)) (sets : List (List ExclSet)) (i : ℕ) (hops : List Hop)
    (row : List ExclSet) → i < length out → i < length sets
    → lets_of modules (take (i + 1) out) (take (i + 1) sets)
    ≡ lets_of modules (take i out) (take i sets) ++ lets_row modules (get_or out i hops) (get_or sets i row) ∷ []
lets_of-take modules [] sets i hops row h l = absurd (omega (arith, h))
lets_of-take modules (hs ∷ out) [] i hops row h l = absurd (omega (arith, l))
lets_of-take modules (hs ∷ out) (r ∷ sets) zero hops row h l = refl
lets_of-take modules (hs ∷ out) (r ∷ sets) (suc i) hops row h l =
    let more : (suc i) + 1 ≡ suc (i + 1) = omega arith in
    rw more (ap (λ z. lets_row modules hs r ∷ z)
    (lets_of-take modules out sets i hops row (omega (arith, h)) (omega (arith, l))))

-- one module more
pub flags_more : (modules : List Module) (out : List (List Hop)) (table : List LeastSets) (i : ℕ) (hops : List Hop)
    (kept : LeastSets) (made more : List (List Bool)) (row : List Bool) → i < length out → i < length table
    → hops ≡ get_or out i hops → kept ≡ get_or table i kept
    → made ≡ lets_of modules (take i out) (take i (sets_of table)) → row ≡ lets_row modules hops kept.sets
    → more ≡ made ++ row ∷ []
    → more ≡ lets_of modules (take (i + 1) out) (take (i + 1) (sets_of table))
flags_more modules out table i hops kept made more row h l hops_at kept_at so_far is push =
    let many : length (sets_of table) ≡ length table = length-map (λ (kept : LeastSets). kept.sets) table in
    let sets_here : get_or (sets_of table) i [] ≡ kept.sets =
    sets_at table i kept l ∙ ap (λ (z : LeastSets). z.sets) (sym kept_at) in
    let step : lets_of modules (take (i + 1) out) (take (i + 1) (sets_of table))
    ≡ lets_of modules (take i out) (take i (sets_of table))
    ++ lets_row modules (get_or out i hops) (get_or (sets_of table) i []) ∷ [] =
    lets_of-take modules out (sets_of table) i hops [] h (subst (λ z. i < z) (sym many) l)
    in
    let row_is : row ≡ lets_row modules (get_or out i hops) (get_or (sets_of table) i []) =
    is ∙ ap (λ z. lets_row modules z kept.sets) hops_at
    ∙ ap (λ z. lets_row modules (get_or out i hops) z) (sym sets_here) in
    push ∙ ap (λ z. z ++ row ∷ []) so_far
    ∙ ap (λ z. lets_of modules (take i out) (take i (sets_of table)) ++ z ∷ []) row_is ∙ sym step

-- one edge more
pub flag_more : (modules : List Module) (hops : List Hop) (sets : List ExclSet) (i : ℕ) (hop : Hop) (m : Module)
    (made more : List Bool) (flag : Bool) → i < length hops → hop ≡ get_or hops i hop → m ≡ module_at modules hop.to
    → made ≡ lets_row modules (take i hops) sets → flag ≡ list_any (λ set. not (is_excluded set m)) sets
    → more ≡ made ++ flag ∷ [] → more ≡ lets_row modules (take (i + 1) hops) sets
flag_more modules hops sets i hop m made more flag h at is so_far let_in push =
    let one : Hop → Bool = λ (z : Hop). list_any (λ set. not (is_excluded set (module_at modules z.to))) sets in
    let flag_is : flag ≡ one (get_or hops i hop) = let_in ∙ ap (λ z. list_any (λ set. not (is_excluded set z)) sets) is
    ∙ ap one at in
    let step : lets_row modules (take (i + 1) hops) sets
    ≡ lets_row modules (take i hops) sets ++ one (get_or hops i hop) ∷ [] =
    ap (λ z. lets_row modules z sets) (take_more hops i hop h) ∙ map-append one (take i hops) (get_or hops i hop ∷ [])
    in
    push ∙ ap (λ z. z ++ flag ∷ []) so_far ∙ ap (λ z. lets_row modules (take i hops) sets ++ z ∷ []) flag_is ∙ sym step
