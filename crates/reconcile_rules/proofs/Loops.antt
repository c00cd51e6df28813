-- What intervals have in common, found one after the other.
use Rattle.std.proofs.Common.{◌≡◌, ◌↔◌, ℕ, ◌<◌, ◌+◌, Bool, true, false, not, ◌&&◌, List, [], ◌∷◌, length, get_or, drop, Option, Some, None, refl, sym, ◌∙◌, ap, subst, ◌⊎◌, inl, inr}
use Rattle.std.specs.Prelude.{fold, filter, if◌then◌else◌, IsSome, is_some}
use Rattle.std.specs.List.{list_all, position_from}
use Rattle.std.proofs.lemmas.Bool.{cases_Bool}
use Rattle.std.proofs.lemmas.List.{at_drop_more}
use Rattle.interval_sets.specs.declared.interval.Interval.{Interval}
use Rattle.interval_sets.specs.Intervals.{is_empty, between, meet_of}
use Rattle.interval_sets.specs.Many.{SomeTwoApart, common}
use Rattle.version_order.specs.declared.constraint.Constraint.{Constraint}
use Rattle.version_order.specs.declared.constraint.Constraint.TheVariants.{Any, Plain, Within}
use Rattle.version_order.specs.Ranks.{items_cmp}
use Rattle.version_order.specs.Order.{items_total}
use Rattle.reconcile_rules.specs.declared.request.IntervalRequest.{IntervalRequest}
use Rattle.reconcile_rules.specs.declared.request.Clash.{Clash}
use Rattle.reconcile_rules.specs.Asked.{is_bad, is_any, plains_from, intervals_from}
use Rattle.reconcile_rules.specs.Reads.{has_none}
use Rattle.reconcile_rules.specs.Apart.{common_of, unless_empty, least_apart, IsCommon}
use Rattle.reconcile_rules.specs.Relaxed.{is_after}
use Rattle.reconcile_rules.proofs.Ends.{empty_fold}
use Rattle.reconcile_rules.proofs.Pairs.{spans, nothing_in_common, something_in_common}

none_some : {A : Type 0} {x : A} → None ≡ Some x → ⊥
none_some e = cc

some_injective : {A : Type 0} {x y : A} → Some x ≡ Some y → x ≡ y
some_injective e = cc

-- the meet is there where the ends leave something
met_empty : (i j : Interval (List ℕ)) → meet_of items_cmp i j ≡ None → is_empty items_cmp (between items_cmp i j) ≡ true
met_empty i j e = by (cases_Bool (is_empty items_cmp (between items_cmp i j)))
  where
    by : (is_empty items_cmp (between items_cmp i j) ≡ true) ⊎ (is_empty items_cmp (between items_cmp i j) ≡ false)
        → is_empty items_cmp (between items_cmp i j) ≡ true
    by (inl so) = so
    by (inr isnt) =
        let there : meet_of items_cmp i j ≡ Some (between items_cmp i j) = rw isnt refl in
        absurd (none_some (sym e ∙ there))

met_some : (i j met : Interval (List ℕ)) → meet_of items_cmp i j ≡ Some met
    → (between items_cmp i j ≡ met) × (is_empty items_cmp met ≡ false)
met_some i j met e = by (cases_Bool (is_empty items_cmp (between items_cmp i j)))
  where
    by : (is_empty items_cmp (between items_cmp i j) ≡ true) ⊎ (is_empty items_cmp (between items_cmp i j) ≡ false)
        → (between items_cmp i j ≡ met) × (is_empty items_cmp met ≡ false)
    by (inl so) = absurd (none_some (sym (rw so refl) ∙ e))
    by (inr isnt) =
        let same : between items_cmp i j ≡ met = some_injective (sym (rw isnt refl) ∙ e) in
        (same, subst (λ k. is_empty items_cmp k ≡ false) same isnt)

module _ (f : IntervalRequest → Bool) (asked : List IntervalRequest) (k : ℕ) (x : IntervalRequest) (made : Interval (List ℕ)) (lt : k < length asked) (is : x ≡ get_or asked k x) (all : fold (between items_cmp) made (spans (filter f (drop k asked))) ≡ common_of (filter f asked)) where
  whole : fold (between items_cmp) made (spans (filter f (x ∷ drop (k + 1) asked))) ≡ common_of (filter f asked)
  whole =
      ap (λ y. fold (between items_cmp) made (spans (filter f (y ∷ drop (k + 1) asked)))) is
      ∙ sym (at_drop_more (λ l. fold (between items_cmp) made (spans (filter f l))) asked k x lt)
      ∙ all

  taken : f x ≡ true
      → fold (between items_cmp) (between items_cmp made x.interval)
      (spans (filter f (drop (k + 1) asked))) ≡ common_of (filter f asked)
  taken so = sym (rw so refl) ∙ whole

  passed : f x ≡ false
      → fold (between items_cmp) made (spans (filter f (drop (k + 1) asked))) ≡ common_of (filter f asked)
  passed isnt = sym (rw isnt refl) ∙ whole

  pub stops : None ≡ (if f x then meet_of items_cmp made x.interval else Some made)
      → None ≡ unless_empty (common_of (filter f asked))
  stops e = by (cases_Bool (f x))
    where
      by : (f x ≡ true) ⊎ (f x ≡ false) → None ≡ unless_empty (common_of (filter f asked))
      by (inl so) =
          let nothing : is_empty items_cmp (common_of (filter f asked)) ≡ true = subst (λ i. is_empty items_cmp i ≡ true) (taken so) (empty_fold items_total (between items_cmp made x.interval) (spans (filter f (drop (k + 1) asked))) (met_empty made x.interval (sym (e ∙ rw so refl)))) in
          rw nothing refl
      by (inr isnt) =
          let there : (if f x then meet_of items_cmp made x.interval else Some made) ≡ Some made = rw isnt refl in
          absurd (none_some (e ∙ there))

  pub goes_on : is_empty items_cmp made ≡ false → (met : Interval (List ℕ))
      → Some met ≡ (if f x then meet_of items_cmp made x.interval else Some made)
      → (fold (between items_cmp) met (spans (filter f (drop (k + 1) asked))) ≡ common_of (filter f asked)) ×
      (is_empty items_cmp met ≡ false)
  goes_on some met e = by (cases_Bool (f x))
    where
      by : (f x ≡ true) ⊎ (f x ≡ false)
          → (fold (between items_cmp) met (spans (filter f (drop (k + 1) asked))) ≡ common_of (filter f asked)) ×
          (is_empty items_cmp met ≡ false)
      by (inl so) =
          let both = met_some made x.interval met (sym (e ∙ rw so refl)) in
          (subst (λ i. fold (between items_cmp) i (spans (filter f (drop (k + 1) asked))) ≡ common_of (filter f asked)) both.0 (taken so), both.1)
      by (inr isnt) =
          let same : made ≡ met = some_injective (sym (e ∙ rw isnt refl)) in
          (subst (λ i. fold (between items_cmp) i (spans (filter f (drop (k + 1) asked))) ≡ common_of (filter f asked)) same (passed isnt), subst (λ i. is_empty items_cmp i ≡ false) same some)

pub whole_list : (asked : List IntervalRequest) → filter (is_after None) asked ≡ asked
whole_list [] = refl
whole_list (x ∷ xs) = ap (λ l. x ∷ l) (whole_list xs)

pub is_common : ((is : List (Interval (List ℕ))) → (is_empty items_cmp (common items_cmp is) ≡ true) ↔ SomeTwoApart items_cmp is)
    → (asked : List IntervalRequest) (met : Option (Interval (List ℕ)))
    → met ≡ unless_empty (common_of (filter (is_after None) asked)) → IsCommon asked met
is_common law asked met e = by (cases_Bool (is_empty items_cmp (common_of asked)))
  where
    plain : met ≡ unless_empty (common_of asked)
    plain = e ∙ ap (λ l. unless_empty (common_of l)) (whole_list asked)

    there : (o : Option Clash) → least_apart asked ≡ o → (least_apart asked ≡ None → ⊥) → IsSome (least_apart asked)
    there None e f = absurd (f e)
    there (Some c) e f = rw e refl

    by : (is_empty items_cmp (common_of asked) ≡ true) ⊎ (is_empty items_cmp (common_of asked) ≡ false)
        → IsCommon asked met
    by (inl so) =
        let is : met ≡ None = plain ∙ rw so refl in
        subst (IsCommon asked) (sym is) (there (least_apart asked) refl (nothing_in_common law asked so))
    by (inr isnt) =
        let is : met ≡ Some (common_of asked) = plain ∙ rw isnt refl in
        subst (IsCommon asked) (sym is) (something_in_common law asked isnt, refl)

-- all texts are read as any version where no plain version and no interval is asked for
pub asks_nothing : (number : ℕ) (read : List (Option Constraint)) → position_from is_bad number read ≡ None
    → list_all is_any read ≡ (has_none (plains_from number read) && has_none (intervals_from number read))
asks_nothing number [] e = refl
asks_nothing number (None ∷ read) e = absurd (none_some (sym e))
asks_nothing number (Some Any ∷ read) e = asks_nothing (number + 1) read e
asks_nothing number (Some (Plain version) ∷ read) e = refl
asks_nothing number (Some (Within interval) ∷ read) e = by (has_none (plains_from (number + 1) read))
  where
    by : (p : Bool) → false ≡ (p && false)
    by true = refl
    by false = refl
