use Rattle.std.proofs.Common.{◌≡◌, ◌-◌}
use Rattle.res_base.specs.Known.{known_of}
use Rattle.round_core.specs.Listings.{offer_from, offer_of}
use Rattle.round_core.proofs.listings.offer_of.Given as goal

abbrev pub invariant-loop-repo : goal.invariant-loop-repo
invariant-loop-repo l = offer_from (known_of l.known.pairs) l.«module» l.interval l.repo (l.repos - l.repo)
    ≡ offer_of (known_of l.known.pairs) l.known.repos l.«module» l.interval
