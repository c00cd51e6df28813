-- Offers, one repository further.
use Rattle.std.proofs.Common.{◌≡◌, ℕ, ◌+◌, zero, suc, Option, None, Some, List, refl, sym, ◌∙◌, ap, rules}
use Rattle.res_base.specs.Known.{Known}
use Rattle.res_base.specs.declared.coord.Module.{Module}
use Rattle.interval_sets.specs.declared.interval.Interval.{Interval}
use Rattle.project_lookup.specs.Listings.{listing_of}
use Rattle.round_core.specs.Listings.{offer_from, offer_in, or_later}
use Rattle.round_core.specs.declared.listings.Offer.{Offer}

module _ (known : Known) (m : Module) (interval : Interval (List ℕ)) (repo left n : ℕ) (more : n ≡ suc left) where
  pub offer_next : offer_in interval (listing_of known m repo) ≡ None → offer_from known m interval repo n
      ≡ offer_from known m interval (repo + 1) left
  offer_next e = ap (offer_from known m interval repo) more
      ∙ ap (λ o. or_later o (offer_from known m interval (repo + 1) left)) e

  pub offer_here : (offer : Offer) → offer_in interval (listing_of known m repo) ≡ Some offer
      → offer_from known m interval repo n ≡ offer
  offer_here offer e = ap (offer_from known m interval repo) more
      ∙ ap (λ o. or_later o (offer_from known m interval (repo + 1) left)) e
