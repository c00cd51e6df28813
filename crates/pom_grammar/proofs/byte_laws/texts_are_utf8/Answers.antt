use Rattle.pom_grammar.proofs.Utf8.{utf8_text, ascii_text}
use Rattle.pom_grammar.proofs.byte_laws.texts_are_utf8.Goals as goal

pub returns-clause-utf8 : goal.returns-clause-utf8
returns-clause-utf8 c = utf8_text

pub returns-clause-ascii : goal.returns-clause-ascii
returns-clause-ascii c = ascii_text
