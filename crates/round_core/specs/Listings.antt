-- Which listed versions would do for an interval: those of the first repository that has some.
use Rattle.std.specs.Prelude.{ℕ, zero, suc, ◌+◌, Bool, Option, None, Some, List, [], ◌∷◌, filter}
use Rattle.std.specs.List.{filter_map}
use Rattle.interval_sets.specs.Intervals.{holds}
use Rattle.interval_sets.specs.declared.interval.Interval.{Interval}
use Rattle.project_lookup.specs.Listings.{Listed, versions, unknown, no_listing, listing_of}
use Rattle.res_base.specs.Known.{Known}
use Rattle.res_base.specs.declared.coord.Module.{Module}
use Rattle.round_core.specs.declared.listings.Offer.{Offer}
use Rattle.round_core.specs.declared.listings.Offer.TheVariants.{Versions, Lacking}
use Rattle.version_order.specs.Ranks.{items_cmp}
use Rattle.version_order.specs.Refusals.{constraint_in}
use Rattle.version_order.specs.declared.constraint.Constraint.{Constraint}
use Rattle.version_order.specs.declared.constraint.Constraint.TheVariants.{Any, Plain, Within}

abbrev pub plain_of : Option Constraint → Option (List ℕ)
plain_of (Some (Plain version)) = Some version
plain_of (Some Any) = None
plain_of (Some (Within interval)) = None
plain_of None = None

-- a listed version counts only where it reads as a plain one
abbrev pub plain_in : List ℕ → Option (List ℕ)
plain_in text = plain_of (constraint_in text)

abbrev pub candidates : Interval (List ℕ) → List (List ℕ) → List (List ℕ)
candidates interval listed = filter (λ version. holds items_cmp interval version) (filter_map plain_in listed)

-- nothing, where the next repository is to be looked at
abbrev pub unless_none : List (List ℕ) → Option Offer
unless_none [] = None
unless_none (version ∷ more) = Some (Versions (version ∷ more))

abbrev pub offer_in : Interval (List ℕ) → Listed → Option Offer
offer_in interval (versions listed) = unless_none (candidates interval listed)
offer_in interval (unknown key) = Some (Lacking key)
offer_in interval no_listing = None

abbrev pub or_later : Option Offer → Offer → Offer
or_later (Some offer) later = offer
or_later None later = later

-- of the repositories from one on, of which so many are left
abbrev pub offer_from : Known → Module → Interval (List ℕ) → ℕ → ℕ → Offer
offer_from known m interval repo zero = Versions []
offer_from known m interval repo (suc left) =
    or_later (offer_in interval (listing_of known m repo)) (offer_from known m interval (repo + 1) left)

abbrev pub offer_of : Known → ℕ → Module → Interval (List ℕ) → Offer
offer_of known repos m interval = offer_from known m interval 0 repos
