use Rattle.pom_grammar.proofs.OneAnswer.{verdict_says, no_memory, says_verdict}
use Rattle.pom_grammar.proofs.laws.verdict_says.Goals as goal

pub returns-clause-says : goal.returns-clause-says
returns-clause-says c = verdict_says

pub returns-clause-never_out_of_memory : goal.returns-clause-never_out_of_memory
returns-clause-never_out_of_memory c = no_memory

pub returns-clause-only : goal.returns-clause-only
returns-clause-only c = says_verdict
