use Rattle.std.proofs.Common.{◌≡◌, ◌<◌, ℕ, List, length, Option, Some, None, MatchOption, Bor, arith, lit<, option_map}
use Rattle.std.proofs.lemmas.Bool.Decides.{nat_tests}
use Rattle.std.specs.List.{before_first, after_first, position_or_len}
use Rattle.std.proofs.lemmas.Str.Pattern.{split_once_first}
use Rattle.word_values.specs.Exclusions.{at_colon, is_colon}
use Rattle.word_values.proofs.exclusions.at_colon.Goals as goal

parts : (text : List ℕ) (split : Option (Bor (List ℕ) × Bor (List ℕ)))
    → MatchOption split (position_or_len is_colon text ≡ length text)
    (λ x. (position_or_len is_colon text < length text) × (x.0.now ≡ before_first is_colon text) × (x.1.now ≡ after_first is_colon text))
    → option_map (λ x. (x.0.now, x.1.now)) split ≡ at_colon text
parts text None e = grind (arith, nat_tests, e)
parts text (Some x) h = rw (h.1, h.2) (grind (arith, nat_tests, h.0))

pub returns : goal.returns
returns c = parts c.args.text.now c.split_once.result (split_once_first 58 c.args.text.now c.split_once.result c.split_once.ensures.cases (lit< tt))
