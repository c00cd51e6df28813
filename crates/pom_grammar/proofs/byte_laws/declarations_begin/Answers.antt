use Rattle.pom_grammar.proofs.Unknown.{declares_parts}
use Rattle.pom_grammar.proofs.byte_laws.declarations_begin.Goals as goal

pub returns : goal.returns
returns c = λ text f. let d = declares_parts text f in (d.space, d.rest, d.is_space, d.whole)
