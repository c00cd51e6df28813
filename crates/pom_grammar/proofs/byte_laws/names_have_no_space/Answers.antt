use Rattle.pom_grammar.proofs.Takes.{space_no_name}
use Rattle.pom_grammar.proofs.byte_laws.names_have_no_space.Goals as goal

pub returns-clause-begins : goal.returns-clause-begins
returns-clause-begins c = λ byte f. (space_no_name byte f).0

pub returns-clause-stands : goal.returns-clause-stands
returns-clause-stands c = λ byte f. (space_no_name byte f).1
