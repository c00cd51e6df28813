-- Answers of an antichain as printed.
use Rattle.std.specs.Prelude.{ℕ, List, ◌++◌, codes, decimal}
use Rattle.exclusion_sets.specs.declared.antichain.Added.{Added}
use Rattle.exclusion_sets.specs.declared.antichain.Added.TheVariants as answers

abbrev pub added_word : Added → List ℕ
added_word answers.Added = codes "added"
added_word (answers.Covered place) = codes "covered:" ++ decimal place
