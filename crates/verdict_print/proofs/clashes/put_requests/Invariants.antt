use Rattle.std.proofs.Common.{◌≡◌, ◌++◌, take}
use Rattle.std.specs.List.{flat_map}
use Rattle.verdict_print.specs.Lines.{request_line}
use Rattle.verdict_print.proofs.clashes.put_requests.Given as goal

abbrev pub invariant-loop-request : goal.invariant-loop-request
invariant-loop-request l = l.text ≡ l.initial.text ++ flat_map request_line (take l.request-index l.requests)
