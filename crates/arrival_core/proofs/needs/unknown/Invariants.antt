use Rattle.std.proofs.Common.{◌≡◌, filter, not}
use Rattle.claim_rules.specs.Sessions.{is_known}
use Rattle.res_base.specs.Known.{known_of}
use Rattle.res_base.specs.declared.key.FileKey.{FileKey}
use Rattle.arrival_core.proofs.needs.unknown.Given as goal

abbrev pub invariant-loop-key : goal.invariant-loop-key
invariant-loop-key l = l.made.items ≡ filter (λ (key : FileKey). not (is_known (known_of l.known.pairs) key)) l.yielded
