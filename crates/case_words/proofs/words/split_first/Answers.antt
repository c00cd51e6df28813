use Rattle.std.proofs.Common.{◌≡◌, ◌==◌, ◌<◌, ◌∷◌, [], ℕ, List, length, Option, Some, None, MatchOption, Bor, arith}
use Rattle.std.specs.Prelude.{IfSome}
use Rattle.std.specs.List.{before_first, after_first, position_or_len}
use Rattle.std.proofs.lemmas.List.{length-drop}
use Rattle.std.proofs.lemmas.Str.Pattern.{split_once_first}
use Rattle.case_words.specs.Words.{pieces_of}
use Rattle.case_words.proofs.Pieces.{no_separator, first_separator}
use Rattle.case_words.proofs.words.split_first.Goals as goal

-- what the library says of a text that is split at its first separator
abbrev Split : ℕ → List ℕ → Option (Bor (List ℕ) × Bor (List ℕ)) → Type 0
Split separator text split = MatchOption split (position_or_len (λ byte. byte == separator) text ≡ length text)
    (λ x. (position_or_len (λ byte. byte == separator) text < length text) × (x.0.now ≡ before_first (λ byte. byte == separator) text) × (x.1.now ≡ after_first (λ byte. byte == separator) text))

parts : (separator : ℕ) (text : List ℕ) (split : Option (Bor (List ℕ) × Bor (List ℕ))) → Split separator text split
    → MatchOption split (pieces_of separator text ≡ text ∷ []) (λ x. pieces_of separator text ≡ x.0.now ∷ pieces_of separator x.1.now)
parts separator text None e = no_separator separator text e
parts separator text (Some x) h = rw (h.1, h.2) (first_separator separator text h.0)

shorter : (separator : ℕ) (text : List ℕ) (split : Option (Bor (List ℕ) × Bor (List ℕ))) → Split separator text split → IfSome split (λ x. length x.1.now < length text)
shorter separator text None e = tt
shorter separator text (Some x) h = rw h.2 (simp length-drop (omega (arith, h.0)))

pub returns-clause-parts : goal.returns-clause-parts
returns-clause-parts c = parts c.args.separator c.args.text.now c.split_once.result (split_once_first c.args.separator c.args.text.now c.split_once.result c.split_once.ensures.cases c.requires)

pub returns-clause-shorter : goal.returns-clause-shorter
returns-clause-shorter c = shorter c.args.separator c.args.text.now c.split_once.result (split_once_first c.args.separator c.args.text.now c.split_once.result c.split_once.ensures.cases c.requires)
