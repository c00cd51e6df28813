use Rattle.std.proofs.Common.{take}
use Rattle.round_core.specs.RequestKeys.{HasKeys}
use Rattle.round_core.proofs.request_list.keys_of.Given as goal

abbrev pub invariant-loop-request : goal.invariant-loop-request
invariant-loop-request l = HasKeys l.keys (take l.request-index l.requests)
