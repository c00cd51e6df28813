use Rattle.round_core.proofs.Settlement as settlement
use Rattle.round_core.proofs.laws.settled_laws.Goals as goal

pub returns-clause-settlement : goal.returns-clause-settlement
returns-clause-settlement c = settlement.rounds_well c.answer_laws.ensures.built

pub returns-clause-repositories : goal.returns-clause-repositories
returns-clause-repositories c = settlement.rounds_listed c.answer_laws.ensures.built
