use Rattle.std.proofs.Common.{◌≡◌, true}
use Rattle.cache_store.specs.Stands.{Stands, is_live}
use Rattle.store_tests.proofs.refusals.begun.Given as goal

abbrev pub invariant-loop-i : goal.invariant-loop-i
invariant-loop-i g l = (is_live l.store ≡ true) × Stands g.D.Disk.told l.store
