use Rattle.std.proofs.Common.{inr, refl}
use Rattle.cli_words.proofs.reading.refusal_of.Goals as goal

pub returns-in_default : goal.returns-in_default
returns-in_default c = inr (c.in_default.not-OutOfMemory, refl)
