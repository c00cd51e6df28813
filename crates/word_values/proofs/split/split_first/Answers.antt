use Rattle.std.proofs.Common.{◌≡◌, ◌<◌, ◌∷◌, [], ℕ, List, length, Option, Some, None, MatchOption, Bor, arith, lit<}
use Rattle.std.specs.Prelude.{IfSome}
use Rattle.std.specs.List.{before_first, after_first, position_or_len}
use Rattle.std.proofs.lemmas.List.{length-drop}
use Rattle.std.proofs.lemmas.Str.Pattern.{split_once_first}
use Rattle.word_values.specs.Split.{is_bar, members_of}
use Rattle.word_values.proofs.Bars.{no_bar, first_bar}
use Rattle.word_values.proofs.split.split_first.Goals as goal

-- what the library says of a text that is split at its first bar
abbrev Split : List ℕ → Option (Bor (List ℕ) × Bor (List ℕ)) → Type 0
Split text split = MatchOption split (position_or_len is_bar text ≡ length text)
    (λ x. (position_or_len is_bar text < length text) × (x.0.now ≡ before_first is_bar text) × (x.1.now ≡ after_first is_bar text))

parts : (text : List ℕ) (split : Option (Bor (List ℕ) × Bor (List ℕ))) → Split text split
    → MatchOption split (members_of text ≡ text ∷ []) (λ x. members_of text ≡ x.0.now ∷ members_of x.1.now)
parts text None e = no_bar text e
parts text (Some x) h = rw (h.1, h.2) (first_bar text h.0)

shorter : (text : List ℕ) (split : Option (Bor (List ℕ) × Bor (List ℕ))) → Split text split → IfSome split (λ x. length x.1.now < length text)
shorter text None e = tt
shorter text (Some x) h = rw h.2 (simp length-drop (omega (arith, h.0)))

pub returns-clause-parts : goal.returns-clause-parts
returns-clause-parts c = parts c.args.text.now c.split_once.result (split_once_first 124 c.args.text.now c.split_once.result c.split_once.ensures.cases (lit< tt))

pub returns-clause-shorter : goal.returns-clause-shorter
returns-clause-shorter c = shorter c.args.text.now c.split_once.result (split_once_first 124 c.args.text.now c.split_once.result c.split_once.ensures.cases (lit< tt))
