use Rattle.std.proofs.Common.{◌≡◌, ◌+◌, ◌-◌, ◌++◌}
use Rattle.claim_rules.specs.Sessions.{keys_from}
use Rattle.claim_agenda.proofs.agenda.push_later.Given as goal

abbrev pub invariant-loop-repo : goal.invariant-loop-repo
invariant-loop-repo l =
    l.hints.items ++ keys_from (l.repos - l.repo) l.repo l.key.role l.key.path
    ≡ l.initial.hints.items ++ keys_from (l.repos - (l.key.repo + 1)) (l.key.repo + 1) l.key.role l.key.path
