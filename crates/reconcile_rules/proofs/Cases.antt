-- The cases of the rules, from what the parts of the program found.
use Rattle.std.proofs.Common.{◌≡◌, ℕ, Bool, true, false, ◌&&◌, List, Option, Some, None, refl, sym, ◌∙◌, ap, subst}
use Rattle.std.specs.List.{list_all}
use Rattle.interval_sets.specs.declared.interval.Interval.{Interval}
use Rattle.version_order.specs.declared.constraint.Constraint.{Constraint}
use Rattle.reconcile_rules.specs.declared.request.PlainRequest.{PlainRequest}
use Rattle.reconcile_rules.specs.declared.request.IntervalRequest.{IntervalRequest}
use Rattle.reconcile_rules.specs.declared.request.Rule.{Rule}
use Rattle.reconcile_rules.specs.declared.request.Clash.TheVariants.{NoVersion}
use Rattle.reconcile_rules.specs.declared.request.Chosen.TheVariants.{Clash as Clashed}
use Rattle.reconcile_rules.specs.declared.asked.Asked.{Asked}
use Rattle.reconcile_rules.specs.declared.asked.Read.{Read}
use Rattle.reconcile_rules.specs.declared.asked.Read.TheVariants.{Asked as Read_all}
use Rattle.reconcile_rules.specs.Asked.{first_bad, is_any, plains, intervals}
use Rattle.reconcile_rules.specs.Reads.{IsRead, has_none}
use Rattle.reconcile_rules.specs.Apart.{common_of, least_apart, IsCommon}
use Rattle.reconcile_rules.specs.Relaxed.{last_of, kept}
use Rattle.reconcile_rules.specs.Choose.{default_within, by_default, last_apart, relaxed_within, by_relaxed, by_rule, choose_read, unless_any, unless_bad}
use Rattle.reconcile_rules.proofs.Loops.{asks_nothing}

module _ (asked : List PlainRequest) (ranges : List IntervalRequest) (listed : Option (List (List ℕ))) where
  pub default_is : (met : Option (Interval (List ℕ))) (common : Interval (List ℕ)) → IsCommon ranges met
      → met ≡ Some common → default_within common asked listed ≡ by_default asked ranges listed
  default_is met common found is = by (subst (IsCommon ranges) is found)
    where
      by : (least_apart ranges ≡ None) × (common ≡ common_of ranges)
          → default_within common asked listed ≡ by_default asked ranges listed
      by (none, same) = ap (λ i. default_within i asked listed) same ∙ sym (rw none refl)

  pub relaxed_is : (l : Option IntervalRequest) (common : Interval (List ℕ)) → l ≡ last_of ranges
      → last_apart l ≡ None → common ≡ common_of (kept ranges)
      → relaxed_within common asked listed ≡ by_relaxed asked ranges listed
  relaxed_is l common is_last none same =
      let holds : last_apart (last_of ranges) ≡ None = ap last_apart (sym is_last) ∙ none in
      ap (λ i. relaxed_within i asked listed) same ∙ sym (rw holds refl)

module _ (rule : Rule) (read : List (Option Constraint)) (listed : Option (List (List ℕ))) (answer : Read) (asked : Asked) (found : IsRead read answer) (is : answer ≡ Read_all asked) where
  parts : (first_bad read ≡ None) × ((asked.plains.items ≡ plains read) × (asked.intervals.items ≡ intervals read))
  parts = subst (IsRead read) is found

  whole : (any : Bool) → any ≡ (has_none asked.plains.items && has_none asked.intervals.items)
      → choose_read rule read listed ≡ unless_any any (by_rule rule asked.plains.items asked.intervals.items listed)
  whole any e =
      let all_any : list_all is_any read ≡ any = asks_nothing 0 read parts.0
      ∙ sym
      (e ∙ ap (λ xs. has_none xs && has_none asked.intervals.items) parts.1.0 ∙ ap (λ ys. has_none (plains read) && has_none ys) parts.1.1) in
      ap
      (λ o. unless_bad o (unless_any (list_all is_any read) (by_rule rule (plains read) (intervals read) listed))) parts.0
      ∙ ap (λ b. unless_any b (by_rule rule (plains read) (intervals read) listed)) all_any
      ∙ ap (λ xs. unless_any any (by_rule rule xs (intervals read) listed)) (sym parts.1.0)
      ∙ ap (λ ys. unless_any any (by_rule rule asked.plains.items ys listed)) (sym parts.1.1)

  pub none_named : true ≡ (has_none asked.plains.items && has_none asked.intervals.items)
      → Clashed NoVersion ≡ choose_read rule read listed
  none_named e = sym (whole true e)

  pub some_named : false ≡ (has_none asked.plains.items && has_none asked.intervals.items)
      → by_rule rule asked.plains.items asked.intervals.items listed ≡ choose_read rule read listed
  some_named e = sym (whole false e)
