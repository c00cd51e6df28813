use Rattle.std.proofs.Common.{◌≡◌, take}
use Rattle.std.specs.List.{flat_map}
use Rattle.claim_rules.specs.Sessions.{later_keys}
use Rattle.claim_agenda.proofs.agenda.hints_of.Given as goal

abbrev pub invariant-loop-key : goal.invariant-loop-key
invariant-loop-key l = l.hints.items ≡ flat_map (later_keys l.settings.repos) (take l.key-index l.needs)
