-- What is selected of a table's names, and the image that numbers pick.
use Rattle.std.proofs.Common.{ℕ, ◌≡◌, ◌+◌, ◌-◌, ◌<◌, ◌≤◌, ◌%◌, ◌⊎◌, List, [], ◌∷◌, ◌++◌, length, drop, take, replicate, Bool, true, false, cond, Option, Some, None, IsSome, refl, sym, ap, subst, ◌∙◌, inl, inr, ⊎_elim, arith, true≢false, zero, suc, length-append}
use Rattle.std.specs.Prelude.{◌↔◌, ◌==◌, ◌||◌, if◌then◌else◌, is_some, nat_eq, slice_index_or}
use Rattle.std.specs.List.{list_any, starts_with}
use Rattle.std.specs.List.Sorted.{IsStrictlySortedBy}
use Rattle.std.specs.Option.{option_map}
use Rattle.std.specs.Cmp.Lexicographic.{bytes_decides}
use Rattle.std.proofs.Math.Nat.{mod-lt}
use Rattle.std.proofs.lemmas.Bool.{and_parts, and_from}
use Rattle.std.proofs.lemmas.List.{drop_all, take-append-drop}
use Rattle.std.proofs.lemmas.List.Kept.{IsStrictlySortedBy-filter}
use Rattle.res_base.specs.Members.{Among}
use Rattle.res_base.specs.Names.{text_cmp, text_eq}
use Rattle.res_base.proofs.Members.{among_filter, into_filter}
use Rattle.indexmap.specs.IndexMap.{get}
use Rattle.disk_base.specs.Crashes.{IsPicked, crashed, number_at, picked, shown_by, was_bound}
use Rattle.disk_base.specs.Images.{Image, IsImage, MayShow, Shows, ShowsOne}
use Rattle.disk_base.specs.Names.{Names}
use Rattle.disk_base.specs.Reads.{AreListed}
use Rattle.disk_base.specs.Selected.{held_in, is_held, is_listed, listed_in, rows_picked}
use Rattle.disk_base.specs.Tables.{HasNamesInOrder, bindings_in, firmly, names_in, names_of}
use Rattle.disk_base.specs.declared.contents.Bindings.{Bindings}
use Rattle.disk_base.specs.declared.contents.Content.{Content}
use Rattle.disk_base.specs.declared.rows.FirstName.{FirstName}
use Rattle.disk_base.specs.declared.rows.Row.{Row}
use Rattle.disk_base.specs.declared.rows.Table.{Table}

some_true : {A : Type 0} (o : Option A) → IsSome o → is_some o ≡ true
some_true None h = absurd (true≢false (sym h))
some_true (Some x) h = refl

true_some : {A : Type 0} (o : Option A) → is_some o ≡ true → IsSome o
true_some None e = absurd (true≢false (sym e))
true_some (Some x) e = refl

bound_row : (turn : ℕ) (o : Option Row) → is_some (bindings_in turn o).present ≡ true → IsSome o
bound_row turn None e = absurd (true≢false (sym e))
bound_row turn (Some row) e = refl

held_row : (turn : ℕ) (o : Option Row) → was_bound (bindings_in turn o) ≡ true → IsSome o
held_row turn None e = absurd (true≢false (sym e))
held_row turn (Some row) e = refl

pub listed_right : (table : Table) (names : List (List ℕ)) (prefix : List ℕ) → HasNamesInOrder table names
    → AreListed (names_in table) prefix (listed_in (names_in table) prefix names)
listed_right table names prefix order = record {
  rising = IsStrictlySortedBy-filter text_cmp (is_listed (names_in table) prefix) names order.rising;
  exactly = λ name. (
    λ h.
        let passed = among_filter (is_listed (names_in table) prefix) name names h in
        let parts = and_parts (is_some (names_in table name).present) (starts_with nat_eq name prefix) passed.passes in
        (true_some (names_in table name).present parts.0, parts.1),
    λ h.
        let bound = some_true (names_in table name).present h.0 in
        let there = order.all name (bound_row table.turn (get text_eq table.rows name) bound) in
        into_filter (is_listed (names_in table) prefix) name names
        (and_from (is_some (names_in table name).present) (starts_with nat_eq name prefix) bound h.1) there,
  );
}

-- ---- one of the bindings
at_one : (before : List (Option Content)) (last : Option Content) (k : ℕ) (out : Option (List ℕ))
    → k < length (before ++ last ∷ []) → Shows (slice_index_or (before ++ last ∷ []) k None) out
    → Shows last out ⊎ ShowsOne before out
at_one [] last zero out l h = inl h
at_one [] last (suc k) out l h = absurd (omega (arith, l))
at_one (x ∷ xs) last zero out l h = inr (inl h)
at_one (x ∷ xs) last (suc k) out l h =
    ⊎_elim (λ (p : Shows last out). inl p) (λ (p : ShowsOne xs out). inr (inr p))
    (at_one xs last k out (omega (arith, l)) h)

no_zeros : (n : ℕ) → n ≡ 0 → replicate {A = ℕ} n 0 ≡ []
no_zeros n e = rw e refl

shown_case : (even : Bool) (c : Content)
    → Shows (Some c) (Some (if even then c.bytes else take c.firm c.bytes ++ replicate (length c.bytes - c.firm) 0))
shown_case true c =
    (drop c.firm c.bytes, ap Some (sym (take-append-drop c.firm c.bytes)), λ le. drop_all c.firm c.bytes le)
shown_case false c =
    (replicate (length c.bytes - c.firm) 0, refl, λ le. no_zeros (length c.bytes - c.firm) (omega (arith, le)))

shows_by : (number : ℕ) (o : Option Content) → Shows o (option_map (shown_by number) o)
shows_by number None = refl
shows_by number (Some c) = shown_case (number % 2 == 0) c

pub picked_shows : (number : ℕ) (b : Bindings) → MayShow b (picked number b)
picked_shows number b =
    let all = b.before ++ b.present ∷ [] in
    let some : 0 < length all = omega (arith, length-append b.before (b.present ∷ [])) in
    at_one b.before b.present (number % length all) (picked number b) (mod-lt number some)
    (shows_by _ (slice_index_or all (number % length all) None))

-- ---- each of the names
abbrev Leaves : Names → List (List ℕ) → List ℕ → Option (List ℕ) → Type 0
Leaves s names n o = MayShow (s n) o ⊎ ((o ≡ None) × (Among n names → ⊥))

leaves_first : (b : Bool) (s : Names) (first : List ℕ) (names : List (List ℕ)) (n : List ℕ) (x y : Option (List ℕ))
    → text_eq first n ≡ b → MayShow (s first) x → Leaves s names n y → Leaves s (first ∷ names) n (if b then x else y)
leaves_first true s first names n x y e h later =
    inl (subst (λ (m : List ℕ). MayShow (s m) x) ((bytes_decides first n).0 e) h)
leaves_first false s first names n x y e h (inl later) = inl later
leaves_first false s first names n x y e h (inr later) =
    inr (
      later.0,
      λ k.
          ⊎_elim (λ (q : n ≡ first). true≢false (sym ((bytes_decides first n).1 (sym q)) ∙ e))
          (λ (q : Among n names). later.1 q) k,
    )

crashed_leaves : (picks : List ℕ) (place : ℕ) (s : Names) (names : List (List ℕ)) (n : List ℕ)
    → Leaves s names n (crashed picks place s names n)
crashed_leaves picks place s [] n = inr (refl, λ h. h)
crashed_leaves picks place s (first ∷ names) n =
    leaves_first (text_eq first n) s first names n (picked (number_at picks place) (s first))
    (crashed picks (place + 1) s names n) refl (picked_shows (number_at picks place) (s first))
    (crashed_leaves picks (place + 1) s names n)

not_held : (b : Bindings) → was_bound b ≡ false → b.present ≡ None
not_held b e = by b.present e
  where
    by : (o : Option Content) → (is_some o || list_any is_some b.before) ≡ false → o ≡ None
    by None e = refl
    by (Some c) e = absurd (true≢false e)

absent_shows : (b : Bindings) (o : Option (List ℕ)) → b.present ≡ None → o ≡ None → MayShow b o
absent_shows b o p e = inl (subst (λ (c : Option Content). Shows c o) (sym p) e)

pub crashed_image : (picks : List ℕ) (s : Names) (names : List (List ℕ))
    → ((n : List ℕ) → was_bound (s n) ≡ true → Among n names) → IsImage s (crashed picks 0 s names)
crashed_image picks s names all n =
    ⊎_elim (λ (p : MayShow (s n) (crashed picks 0 s names n)). p)
    (λ (p : (crashed picks 0 s names n ≡ None) × (Among n names → ⊥)). by (was_bound (s n)) refl p)
    (crashed_leaves picks 0 s names n)
  where
    by : (b : Bool) → was_bound (s n) ≡ b → (crashed picks 0 s names n ≡ None) × (Among n names → ⊥)
        → MayShow (s n) (crashed picks 0 s names n)
    by true e p = absurd (p.1 (all n e))
    by false e p = absent_shows (s n) (crashed picks 0 s names n) (not_held (s n) e) p.0

all_held : (table : Table) (names : List (List ℕ)) → HasNamesInOrder table names → (n : List ℕ)
    → was_bound (names_in table n) ≡ true → Among n (held_in (names_in table) names)
all_held table names order n e =
    into_filter (is_held (names_in table)) n names e
    (order.all n (held_row table.turn (get text_eq table.rows n) e))

pub picked_right : (picks : List ℕ) (table : Table) (names : List (List ℕ)) → HasNamesInOrder table names
    → IsPicked picks (names_in table) (crashed picks 0 (names_in table) (held_in (names_in table) names))
picked_right picks table names order = record {
  names = held_in (names_in table) names;
  rising = IsStrictlySortedBy-filter text_cmp (is_held (names_in table)) names order.rising;
  held = λ n. (λ h. (among_filter (is_held (names_in table)) n names h).passes, λ e. all_held table names order n e);
  shown = λ n. refl;
}

pub picked_image : (picks : List ℕ) (table : Table) (names : List (List ℕ)) → HasNamesInOrder table names
    → IsImage (names_in table) (crashed picks 0 (names_in table) (held_in (names_in table) names))
picked_image picks table names order =
    crashed_image picks (names_in table) (held_in (names_in table) names) (all_held table names order)

-- ---- the rows that are made of it
firmly_case : (b : Bool) (x y : Option (List ℕ)) (rest : Bindings) → rest ≡ firmly y
    → (if b then firmly x else rest) ≡ firmly (if b then x else y)
firmly_case true x y rest e = refl
firmly_case false x y rest e = e

pub rows_show : (picks : List ℕ) (place : ℕ) (s : Names) (names : List (List ℕ)) (n : List ℕ)
    → names_of (rows_picked picks place s names) n ≡ firmly (crashed picks place s names n)
rows_show picks place s [] n = refl
rows_show picks place s (first ∷ names) n =
    firmly_case (text_eq first n) (picked (number_at picks place) (s first)) (crashed picks (place + 1) s names n)
    (names_of (rows_picked picks (place + 1) s names) n) (rows_show picks (place + 1) s names n)
