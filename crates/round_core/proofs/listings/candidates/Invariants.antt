use Rattle.std.proofs.Common.{◌≡◌, take}
use Rattle.round_core.specs.Listings.{candidates}
use Rattle.round_core.proofs.listings.candidates.Given as goal

abbrev pub invariant-loop-text : goal.invariant-loop-text
invariant-loop-text l = l.made ≡ candidates l.interval (take l.text-index l.listed)
