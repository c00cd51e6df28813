use Rattle.std.proofs.Common.{◌≡◌}
use Rattle.project_cases.proofs.lookups.listing_at.Given as goal

abbrev pub invariant-loop-reading : goal.invariant-loop-reading
invariant-loop-reading l = l.known.repos ≡ 16
