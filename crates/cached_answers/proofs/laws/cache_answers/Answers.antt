use Rattle.std.proofs.Common.{◌∙◌, ap, cond}
use Rattle.std.specs.Prelude.{None}
use Rattle.std.specs.Option.{option_map}
use Rattle.answer_reading.specs.Readings.{reading_of}
use Rattle.cached_answers.proofs.Faith.{unsaid}
use Rattle.cached_answers.specs.Caches.{used_at}
use Rattle.cached_answers.proofs.laws.cache_answers.Goals as goal

pub returns-clause-used : goal.returns-clause-used
returns-clause-used c plan i key got named is =
    ap (λ b. cond b (option_map (reading_of key.role) (used_at plan key i)) None) named
    ∙ ap (option_map (reading_of key.role)) is

pub returns-clause-unused : goal.returns-clause-unused
returns-clause-unused c plan i key never = unsaid plan i key never
