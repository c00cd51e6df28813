-- What does not need the listed versions is the same whatever these are.
use Rattle.std.proofs.Common.{◌≡◌, ℕ, Bool, true, false, List, Option, Some, None, refl, sym, ap}
use Rattle.std.specs.List.{list_all}
use Rattle.std.proofs.lemmas.Bool.{false≢true}
use Rattle.interval_sets.specs.declared.interval.Interval.{Interval}
use Rattle.reconcile_rules.specs.declared.request.Request.{Request}
use Rattle.reconcile_rules.specs.declared.request.PlainRequest.{PlainRequest}
use Rattle.reconcile_rules.specs.declared.request.IntervalRequest.{IntervalRequest}
use Rattle.reconcile_rules.specs.declared.request.Rule.{Rule}
use Rattle.reconcile_rules.specs.declared.request.Rule.TheVariants.{Default, Relaxed, Strict, Semver}
use Rattle.reconcile_rules.specs.declared.request.Clash.{Clash}
use Rattle.reconcile_rules.specs.declared.request.Chosen.{Chosen}
use Rattle.reconcile_rules.specs.declared.request.Chosen.TheVariants.{Version, NeedsListing, Clash as Clashed}
use Rattle.reconcile_rules.specs.Asked.{constraints, first_bad, is_any, plains, intervals}
use Rattle.reconcile_rules.specs.Apart.{common_of, least_apart}
use Rattle.reconcile_rules.specs.Greatest.{greatest, versions_of, versions_within}
use Rattle.reconcile_rules.specs.Relaxed.{last_of, kept}
use Rattle.reconcile_rules.specs.Choose.{or_listed, pick_within, first_above, unless_above, unless_apart, default_within, by_default, last_apart, unless_passed, relaxed_within, by_relaxed, accepts_strictly, accepts_series, where_accepted, by_rule, unless_any, unless_bad, choose_of, needs_listing}

-- b is a, unless a needs the listed versions
abbrev Stays : Chosen → Chosen → Type 0
Stays a b = needs_listing a ≡ false → a ≡ b

or_listed_stays : (best : Option (List ℕ)) (common : Interval (List ℕ)) (listed : Option (List (List ℕ)))
    → Stays (or_listed best common None) (or_listed best common listed)
or_listed_stays (Some v) common listed h = refl
or_listed_stays None common listed h = absurd (false≢true (sym h))

unless_above_stays : (o : Option ℕ) (a b : Chosen) → Stays a b → Stays (unless_above o a) (unless_above o b)
unless_above_stays (Some n) a b s h = refl
unless_above_stays None a b s h = s h

unless_apart_stays : (o : Option Clash) (a b : Chosen) → Stays a b → Stays (unless_apart o a) (unless_apart o b)
unless_apart_stays (Some c) a b s h = refl
unless_apart_stays None a b s h = s h

unless_passed_stays : (o : Option ℕ) (v : Option (List ℕ)) (a b : Chosen) → Stays a b
    → Stays (unless_passed o v a) (unless_passed o v b)
unless_passed_stays (Some n) (Some v) a b s h = refl
unless_passed_stays (Some n) None a b s h = s h
unless_passed_stays None v a b s h = s h

where_accepted_stays : (accepts : List ℕ → List ℕ → Bool) (asked : List PlainRequest) (a b : Chosen) → Stays a b
    → Stays (where_accepted accepts asked a) (where_accepted accepts asked b)
where_accepted_stays accepts asked (Version v) b s h = ap (where_accepted accepts asked) (s refl)
where_accepted_stays accepts asked (NeedsListing i) b s h = absurd (false≢true (sym h))
where_accepted_stays accepts asked (Clashed c) b s h = ap (where_accepted accepts asked) (s refl)

unless_any_stays : (any : Bool) (a b : Chosen) → Stays a b → Stays (unless_any any a) (unless_any any b)
unless_any_stays true a b s h = refl
unless_any_stays false a b s h = s h

unless_bad_stays : (o : Option ℕ) (a b : Chosen) → Stays a b → Stays (unless_bad o a) (unless_bad o b)
unless_bad_stays (Some n) a b s h = refl
unless_bad_stays None a b s h = s h

module _ (asked : List PlainRequest) (ranges : List IntervalRequest) (listed : Option (List (List ℕ))) where
  default_stays : Stays (by_default asked ranges None) (by_default asked ranges listed)
  default_stays =
      unless_apart_stays (least_apart ranges) (default_within (common_of ranges) asked None)
      (default_within (common_of ranges) asked listed)
      (unless_above_stays (first_above (common_of ranges) asked) (pick_within (common_of ranges) asked None) (pick_within (common_of ranges) asked listed)
      (or_listed_stays (greatest (versions_within (common_of ranges) asked)) (common_of ranges) listed))

  relaxed_stays : Stays (by_relaxed asked ranges None) (by_relaxed asked ranges listed)
  relaxed_stays =
      let common = common_of (kept ranges) in
      unless_apart_stays (last_apart (last_of ranges)) (relaxed_within common asked None)
      (relaxed_within common asked listed)
      (unless_passed_stays (first_above common asked) (greatest (versions_of asked)) (pick_within common asked None) (pick_within common asked listed)
      (or_listed_stays (greatest (versions_within common asked)) common listed))

  rule_stays : (rule : Rule) → Stays (by_rule rule asked ranges None) (by_rule rule asked ranges listed)
  rule_stays Default = default_stays
  rule_stays Relaxed = relaxed_stays
  rule_stays Strict =
      where_accepted_stays accepts_strictly asked (by_default asked ranges None)
      (by_default asked ranges listed) default_stays
  rule_stays Semver =
      where_accepted_stays accepts_series asked (by_default asked ranges None)
      (by_default asked ranges listed) default_stays

pub choice_stays : (rule : Rule) (forced : Option (List ℕ)) (requests : List Request) (listed : Option (List (List ℕ)))
    → Stays (choose_of rule forced requests None) (choose_of rule forced requests listed)
choice_stays rule (Some v) requests listed h = refl
choice_stays rule None requests listed h =
    let read = constraints requests in
    unless_bad_stays (first_bad read)
    (unless_any (list_all is_any read) (by_rule rule (plains read) (intervals read) None))
    (unless_any (list_all is_any read) (by_rule rule (plains read) (intervals read) listed))
    (unless_any_stays (list_all is_any read) (by_rule rule (plains read) (intervals read) None) (by_rule rule (plains read) (intervals read) listed)
    (rule_stays (plains read) (intervals read) listed rule)) h
