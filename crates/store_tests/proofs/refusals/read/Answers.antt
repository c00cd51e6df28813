use Rattle.std.proofs.Common.{ap}
use Rattle.cache_store.specs.Bound.{has_data}
use Rattle.store_tests.proofs.refusals.read.Goals as goal

pub read_whole-requires-clause-bound : goal.read_whole-requires-clause-bound
read_whole-requires-clause-bound g c = c.in_ok-found.ensures.bound (ap has_data c.in-Whole.is)
