-- What an addition answers, by the place of a set that is within the new one.
use Rattle.std.specs.Prelude.{ℕ, Option, None, Some}
use Rattle.exclusion_sets.specs.declared.antichain.Added.{Added}
use Rattle.exclusion_sets.specs.declared.antichain.Added.TheVariants as answers

abbrev pub answer_at : Option ℕ → Added
answer_at None = answers.Added
answer_at (Some place) = answers.Covered place
