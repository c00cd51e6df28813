-- An unforced version is one that was asked for, or a listed one.
use Rattle.std.proofs.Common.{◌≡◌, ℕ, zero, suc, ◌+◌, Bool, true, false, List, [], ◌∷◌, map, Option, Some, None, refl, sym, ◌∙◌, ap, subst, arith, ◌⊎◌, inl, inr}
use Rattle.std.specs.Prelude.{Contains}
use Rattle.std.specs.List.{list_all}
use Rattle.interval_sets.specs.declared.interval.Interval.{Interval}
use Rattle.version_order.specs.declared.constraint.Constraint.{Constraint}
use Rattle.version_order.specs.declared.constraint.Constraint.TheVariants.{Any, Plain, Within}
use Rattle.version_order.specs.Ranks.{items_cmp}
use Rattle.interval_sets.specs.Intervals.{holds}
use Rattle.reconcile_rules.specs.declared.request.Request.{Request}
use Rattle.reconcile_rules.specs.declared.request.PlainRequest.{PlainRequest}
use Rattle.reconcile_rules.specs.declared.request.IntervalRequest.{IntervalRequest}
use Rattle.reconcile_rules.specs.declared.request.Rule.{Rule}
use Rattle.reconcile_rules.specs.declared.request.Rule.TheVariants.{Default, Relaxed, Strict, Semver}
use Rattle.reconcile_rules.specs.declared.request.Clash.{Clash}
use Rattle.reconcile_rules.specs.declared.request.Chosen.{Chosen}
use Rattle.reconcile_rules.specs.declared.request.Chosen.TheVariants.{Version, NeedsListing, Clash as Clashed}
use Rattle.reconcile_rules.specs.Asked.{constraints, first_bad, is_any, plains, plains_from, intervals}
use Rattle.reconcile_rules.specs.Apart.{common_of, least_apart}
use Rattle.reconcile_rules.specs.Greatest.{greatest, versions_of, versions_within, IsGreatest}
use Rattle.reconcile_rules.specs.Relaxed.{last_of, kept}
use Rattle.reconcile_rules.specs.Choose.{or_none_listed, from_listed, or_listed, pick_within, first_above, unless_above, unless_apart, default_within, by_default, last_apart, unless_passed, relaxed_within, by_relaxed, accepts_strictly, accepts_series, unless_not_accepted, first_refusing, where_accepted, by_rule, unless_any, unless_bad, choose_of}
use Rattle.reconcile_rules.specs.Origins.{IsAskedFor, IsListed}
use Rattle.reconcile_rules.proofs.Members.{first_member, later_member, member_of_filter}
use Rattle.reconcile_rules.proofs.GreatestLemmas.{greatest_is}

-- the plain versions are those that the texts read as
asked_for : (n : ℕ) (read : List (Option Constraint)) (v : List ℕ) → Contains (versions_of (plains_from n read)) v
    → Contains read (Some (Plain v))
asked_for n [] v (k, lt, e) = absurd (omega (arith, lt))
asked_for n (None ∷ read) v c = later_member None read (Some (Plain v)) (asked_for (n + 1) read v c)
asked_for n (Some Any ∷ read) v c = later_member (Some Any) read (Some (Plain v)) (asked_for (n + 1) read v c)
asked_for n (Some (Within i) ∷ read) v c =
    later_member (Some (Within i)) read (Some (Plain v)) (asked_for (n + 1) read v c)
asked_for n (Some (Plain w) ∷ read) v (zero, lt, e) =
    subst (λ x. Contains (Some (Plain w) ∷ read) (Some (Plain x))) e (first_member (Some (Plain w)) read)
asked_for n (Some (Plain w) ∷ read) v (suc k, lt, e) =
    later_member (Some (Plain w)) read (Some (Plain v)) (asked_for (n + 1) read v (k, omega (arith, lt), e))

-- what a version that is chosen is
abbrev Is : (List ℕ → Type 0) → Chosen → Type 0
Is P (Version v) = P v
Is P (NeedsListing i) = Unit {0}
Is P (Clashed c) = Unit {0}

module _ (P : List ℕ → Type 0) where
  above_is : (o : Option ℕ) (a : Chosen) → Is P a → Is P (unless_above o a)
  above_is (Some n) a h = tt
  above_is None a h = h

  apart_is : (o : Option Clash) (a : Chosen) → Is P a → Is P (unless_apart o a)
  apart_is (Some c) a h = tt
  apart_is None a h = h

  passed_is : (o : Option ℕ) (w : Option (List ℕ)) (a : Chosen) → ((v : List ℕ) → w ≡ Some v → P v) → Is P a
      → Is P (unless_passed o w a)
  passed_is (Some n) (Some v) a g h = g v refl
  passed_is (Some n) None a g h = h
  passed_is None w a g h = h

  accepted_is : (accepts : List ℕ → List ℕ → Bool) (asked : List PlainRequest) (a : Chosen) → Is P a
      → Is P (where_accepted accepts asked a)
  accepted_is accepts asked (Version v) h = by (first_refusing accepts v asked)
    where
      by : (o : Option ℕ) → Is P (unless_not_accepted o v)
      by (Some n) = tt
      by None = h
  accepted_is accepts asked (NeedsListing i) h = tt
  accepted_is accepts asked (Clashed c) h = tt

  any_is : (b : Bool) (a : Chosen) → Is P a → Is P (unless_any b a)
  any_is true a h = tt
  any_is false a h = h

  bad_is : (o : Option ℕ) (a : Chosen) → Is P a → Is P (unless_bad o a)
  bad_is (Some n) a h = tt
  bad_is None a h = h

module _ (read : List (Option Constraint)) (listed : Option (List (List ℕ))) where
  abbrev From : List ℕ → Type 0
  From v = Contains read (Some (Plain v)) ⊎ IsListed listed v

  plain_is : (v : List ℕ) → greatest (versions_of (plains read)) ≡ Some v → From v
  plain_is v e = let most = greatest_is (versions_of (plains read)) v e in inl (asked_for 0 read v most.member)

  within_is : (i : Interval (List ℕ)) (v : List ℕ) → greatest (versions_within i (plains read)) ≡ Some v → From v
  within_is i v e =
      let most = greatest_is (versions_within i (plains read)) v e in
      inl
      (asked_for 0 read v (member_of_filter (λ version. holds items_cmp i version) (versions_of (plains read)) v most.member))

  listed_is : (i : Interval (List ℕ)) (l : Option (List (List ℕ))) → ((v : List ℕ) → IsListed l v → From v)
      → Is From (from_listed i l)
  listed_is i None h = tt
  listed_is i (Some versions) h = by (greatest versions) refl
    where
      by : (o : Option (List ℕ)) → greatest versions ≡ o → Is From (or_none_listed o)
      by None e = tt
      by (Some v) e = let most = greatest_is versions v e in h v most.member

  pick_is : (i : Interval (List ℕ)) → Is From (pick_within i (plains read) listed)
  pick_is i = by (greatest (versions_within i (plains read))) refl
    where
      by : (o : Option (List ℕ)) → greatest (versions_within i (plains read)) ≡ o → Is From (or_listed o i listed)
      by None e = listed_is i listed (λ v h. inr h)
      by (Some v) e = within_is i v e

  default_is : Is From (by_default (plains read) (intervals read) listed)
  default_is =
      let common = common_of (intervals read) in
      apart_is From (least_apart (intervals read)) (default_within common (plains read) listed)
      (above_is From (first_above common (plains read)) (pick_within common (plains read) listed) (pick_is common))

  relaxed_is : Is From (by_relaxed (plains read) (intervals read) listed)
  relaxed_is =
      let common = common_of (kept (intervals read)) in
      apart_is From (last_apart (last_of (intervals read))) (relaxed_within common (plains read) listed)
      (passed_is From (first_above common (plains read)) (greatest (versions_of (plains read))) (pick_within common (plains read) listed) plain_is (pick_is common))

  rule_is : (rule : Rule) → Is From (by_rule rule (plains read) (intervals read) listed)
  rule_is Default = default_is
  rule_is Relaxed = relaxed_is
  rule_is Strict =
      accepted_is From accepts_strictly (plains read) (by_default (plains read) (intervals read) listed) default_is
  rule_is Semver =
      accepted_is From accepts_series (plains read) (by_default (plains read) (intervals read) listed) default_is

pub origin : (rule : Rule) (requests : List Request) (listed : Option (List (List ℕ))) (version : List ℕ)
    → choose_of rule None requests listed ≡ Version version → IsAskedFor requests version ⊎ IsListed listed version
origin rule requests listed version e =
    let read = constraints requests in
    subst (Is (From read listed)) e
    (bad_is (From read listed) (first_bad read) (unless_any (list_all is_any read) (by_rule rule (plains read) (intervals read) listed))
    (any_is (From read listed) (list_all is_any read) (by_rule rule (plains read) (intervals read) listed) (rule_is read listed rule)))
