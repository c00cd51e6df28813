use Rattle.std.proofs.Common.{subst}
use Rattle.pom_grammar.specs.Encodings.{IsText}
use Rattle.pom_text.proofs.texts.push_plain.Goals as goal

pub from_utf8_unchecked-requires : goal.from_utf8_unchecked-requires
from_utf8_unchecked-requires c =
    c.texts_are_utf8.ensures.utf8 c.args.bytes.now (subst (λ e. IsText e c.args.bytes.now) c.in-Utf8.is c.requires)

pub from_utf8_unchecked-requires-in-Ascii : goal.from_utf8_unchecked-requires-in-Ascii
from_utf8_unchecked-requires-in-Ascii c =
    c.texts_are_utf8.ensures.ascii c.args.bytes.now (subst (λ e. IsText e c.args.bytes.now) c.in-Ascii.is c.requires)
