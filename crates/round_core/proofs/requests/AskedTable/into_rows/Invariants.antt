use Rattle.std.proofs.Common.{◌≡◌, ◌++◌, map}
use Rattle.round_core.specs.Requests.{request_row}
use Rattle.round_core.proofs.requests.AskedTable.into_rows.Given as goal

abbrev pub invariant-loop-module : goal.invariant-loop-module
invariant-loop-module l = l.made ++ map request_row l.module-iterator ≡ map request_row l.fn.self
