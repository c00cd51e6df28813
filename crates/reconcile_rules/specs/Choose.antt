-- The choice of a module's version, case by case.
use Rattle.std.specs.Prelude.{ℕ, Bool, true, false, not, ◌&&◌, Option, Some, None, List, if◌then◌else◌}
use Rattle.std.specs.List.{find, list_all}
use Rattle.std.specs.Option.{option_map}
use Rattle.std.specs.Ordering.{is_eq, is_ge}
use Rattle.interval_sets.specs.declared.interval.Interval.{Interval}
use Rattle.interval_sets.specs.Intervals.{is_empty, is_above}
use Rattle.version_order.specs.declared.constraint.Constraint.{Constraint}
use Rattle.version_order.specs.Ranks.{items_cmp, same_series}
use Rattle.reconcile_rules.specs.declared.request.Request.{Request}
use Rattle.reconcile_rules.specs.declared.request.PlainRequest.{PlainRequest}
use Rattle.reconcile_rules.specs.declared.request.IntervalRequest.{IntervalRequest}
use Rattle.reconcile_rules.specs.declared.request.Rule.{Rule}
use Rattle.reconcile_rules.specs.declared.request.Rule.TheVariants.{Default, Relaxed, Strict, Semver}
use Rattle.reconcile_rules.specs.declared.request.Clash.{Clash}
use Rattle.reconcile_rules.specs.declared.request.Clash.TheVariants.{Apart, Above, NotAccepted, NoVersion, NoneListed, BadConstraint}
use Rattle.reconcile_rules.specs.declared.request.Chosen.{Chosen}
use Rattle.reconcile_rules.specs.declared.request.Chosen.TheVariants.{Version, NeedsListing, Clash as Clashed}
use Rattle.reconcile_rules.specs.Asked.{constraints, first_bad, is_any, plains, intervals}
use Rattle.reconcile_rules.specs.Apart.{common_of, least_apart}
use Rattle.reconcile_rules.specs.Greatest.{greatest, versions_of, versions_within}
use Rattle.reconcile_rules.specs.Relaxed.{last_of, kept}

-- ---- the last case: the greatest listed version, or none is listed

abbrev pub or_none_listed : Option (List ℕ) → Chosen
or_none_listed (Some version) = Version version
or_none_listed None = Clashed NoneListed

abbrev pub from_listed : Interval (List ℕ) → Option (List (List ℕ)) → Chosen
from_listed common None = NeedsListing common
from_listed common (Some versions) = or_none_listed (greatest versions)

-- ---- the case before it: the greatest plain version in what the intervals have in common

abbrev pub or_listed : Option (List ℕ) → Interval (List ℕ) → Option (List (List ℕ)) → Chosen
or_listed (Some version) common listed = Version version
or_listed None common listed = from_listed common listed

abbrev pub pick_within : Interval (List ℕ) → List PlainRequest → Option (List (List ℕ)) → Chosen
pick_within common asked listed = or_listed (greatest (versions_within common asked)) common listed

-- ---- the rule Default

-- the number of the first plain version above an interval
abbrev pub first_above : Interval (List ℕ) → List PlainRequest → Option ℕ
first_above interval asked = option_map (λ r. r.number) (find (λ r. is_above items_cmp interval r.version) asked)

abbrev pub unless_above : Option ℕ → Chosen → Chosen
unless_above (Some number) otherwise = Clashed (Above number)
unless_above None otherwise = otherwise

abbrev pub unless_apart : Option Clash → Chosen → Chosen
unless_apart (Some clash) otherwise = Clashed clash
unless_apart None otherwise = otherwise

abbrev pub default_within : Interval (List ℕ) → List PlainRequest → Option (List (List ℕ)) → Chosen
default_within common asked listed = unless_above (first_above common asked) (pick_within common asked listed)

abbrev pub by_default : List PlainRequest → List IntervalRequest → Option (List (List ℕ)) → Chosen
by_default asked ranges listed = unless_apart (least_apart ranges) (default_within (common_of ranges) asked listed)

-- ---- the rule Relaxed

-- the last interval, where it holds nothing
abbrev pub last_apart : Option IntervalRequest → Option Clash
last_apart None = None
last_apart (Some r) = if is_empty items_cmp r.interval then Some (Apart r.number r.number) else None

-- where a plain version is above the intervals, the greatest plain version of all
abbrev pub unless_passed : Option ℕ → Option (List ℕ) → Chosen → Chosen
unless_passed (Some number) (Some version) otherwise = Version version
unless_passed (Some number) None otherwise = otherwise
unless_passed None version otherwise = otherwise

abbrev pub relaxed_within : Interval (List ℕ) → List PlainRequest → Option (List (List ℕ)) → Chosen
relaxed_within common asked listed =
    unless_passed (first_above common asked) (greatest (versions_of asked)) (pick_within common asked listed)

abbrev pub by_relaxed : List PlainRequest → List IntervalRequest → Option (List (List ℕ)) → Chosen
by_relaxed asked ranges listed =
    unless_apart (last_apart (last_of ranges)) (relaxed_within (common_of (kept ranges)) asked listed)

-- ---- the rules Strict and Semver

-- whether a plain version accepts the chosen one
abbrev pub accepts_strictly : List ℕ → List ℕ → Bool
accepts_strictly chosen plain = is_eq (items_cmp plain chosen)

abbrev pub accepts_series : List ℕ → List ℕ → Bool
accepts_series chosen plain = is_ge (items_cmp chosen plain) && same_series plain chosen

abbrev pub unless_not_accepted : Option ℕ → List ℕ → Chosen
unless_not_accepted (Some number) version = Clashed (NotAccepted number)
unless_not_accepted None version = Version version

-- the number of the first plain version that does not accept the chosen one
abbrev pub first_refusing : (List ℕ → List ℕ → Bool) → List ℕ → List PlainRequest → Option ℕ
first_refusing accepts chosen asked = option_map (λ r. r.number) (find (λ r. not (accepts chosen r.version)) asked)

abbrev pub where_accepted : (List ℕ → List ℕ → Bool) → List PlainRequest → Chosen → Chosen
where_accepted accepts asked (Version version) = unless_not_accepted (first_refusing accepts version asked) version
where_accepted accepts asked (NeedsListing common) = NeedsListing common
where_accepted accepts asked (Clashed clash) = Clashed clash

-- ---- all rules

abbrev pub by_rule : Rule → List PlainRequest → List IntervalRequest → Option (List (List ℕ)) → Chosen
by_rule Default asked ranges listed = by_default asked ranges listed
by_rule Relaxed asked ranges listed = by_relaxed asked ranges listed
by_rule Strict asked ranges listed = where_accepted accepts_strictly asked (by_default asked ranges listed)
by_rule Semver asked ranges listed = where_accepted accepts_series asked (by_default asked ranges listed)

abbrev pub unless_any : Bool → Chosen → Chosen
unless_any true otherwise = Clashed NoVersion
unless_any false otherwise = otherwise

abbrev pub unless_bad : Option ℕ → Chosen → Chosen
unless_bad (Some number) otherwise = Clashed (BadConstraint number)
unless_bad None otherwise = otherwise

abbrev pub choose_read : Rule → List (Option Constraint) → Option (List (List ℕ)) → Chosen
choose_read rule read listed =
    unless_bad (first_bad read) (unless_any (list_all is_any read) (by_rule rule (plains read) (intervals read) listed))

-- what is chosen, given the forced version and the listed versions that would do, where these are known
abbrev pub choose_of : Rule → Option (List ℕ) → List Request → Option (List (List ℕ)) → Chosen
choose_of rule (Some version) requests listed = Version version
choose_of rule None requests listed = choose_read rule (constraints requests) listed

abbrev pub needs_listing : Chosen → Bool
needs_listing (Version version) = false
needs_listing (NeedsListing common) = true
needs_listing (Clashed clash) = false
