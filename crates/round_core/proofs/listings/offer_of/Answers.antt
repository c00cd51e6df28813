use Rattle.std.proofs.Common.{◌≡◌, ◌<◌, ◌+◌, ◌-◌, suc, None, sym, ◌∙◌, ap, arith}
use Rattle.project_lookup.specs.Listings.{listing_of}
use Rattle.res_base.specs.Known.{known_of}
use Rattle.round_core.specs.Listings.{offer_in}
use Rattle.round_core.proofs.Made.{none_left}
use Rattle.round_core.proofs.Offers.{offer_next}
use Rattle.round_core.proofs.listings.offer_of.Goals as goal

pub loop-repo-preserved : goal.loop-repo-preserved
loop-repo-preserved c =
    let known = known_of c.args.known.now.pairs in
    let repo = c.loop-repo.repo in
    let repos = c.repos-repos.result in
    let below : repo < repos = c.loop-repo-test.true in
    let more : repos - repo ≡ suc (repos - (repo + 1)) = omega (arith, below) in
    let passed : offer_in c.args.interval.now (listing_of known c.args.«module».now repo) ≡ None =
    sym (ap (offer_in c.args.interval.now) c.in_ok-listing.ensures) ∙ sym c.in_ok-offer.ensures
    ∙ none_left c.in_ok-offer.field-0 c.in_default.not-Some
    in
    sym (offer_next known c.args.«module».now c.args.interval.now repo (repos - (repo + 1)) (repos - repo) more passed)
    ∙ c.loop-repo.invariant
