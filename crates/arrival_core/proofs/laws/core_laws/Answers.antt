use Rattle.std.proofs.Common.{ap, ◌∙◌, ◌++◌}
use Rattle.arrival_core.specs.Resolving.{resolver_of}
use Rattle.claim_rules.specs.Histories.{known_in, pairs_in}
use Rattle.res_base.specs.Known.{Known}
use Rattle.round_core.specs.Reads.{is_over}
use Rattle.round_core.specs.Rounds.{rounds_of}
use Rattle.arrival_core.proofs.laws.core_laws.Goals as goal

pub returns-clause-orders : goal.returns-clause-orders
returns-clause-orders c ask one other distinct same =
    ap (λ (known : Known). rounds_of known ask) (c.known_pairs.ensures.same (pairs_in one) (pairs_in other) distinct same)

pub returns-clause-verdict : goal.returns-clause-verdict
returns-clause-verdict c ask before after verdict grows is =
    c.growth_laws.ensures.over before after ask grows (ap is_over is) ∙ is

pub returns-clause-over : goal.returns-clause-over
returns-clause-over c ask before after grows over =
    c.over_stays.ensures.session (resolver_of ask) (c.rounds_lawful.ensures ask) before after grows over

pub returns-clause-needed : goal.returns-clause-needed
returns-clause-needed c ask whole h further key grows m =
    c.session_needs.ensures.needed (resolver_of ask) (c.rounds_lawful.ensures ask) (known_in h) whole
    (c.known_grows.ensures.steps (known_in h) (known_in (h ++ further)) whole (c.legal_histories.ensures.grows h further) grows)
    key m
