use Rattle.std.proofs.Common.{◌≡◌, ◌<◌, ◌∷◌, ◌++◌, lit<, ℕ, List, length, Option, Some, None, MatchOption, Bor, arith}
use Rattle.std.specs.Prelude.{IfSome}
use Rattle.std.specs.List.{before_first, after_first, position_or_len}
use Rattle.std.proofs.lemmas.List.{length-drop}
use Rattle.std.proofs.lemmas.Str.Pattern.{split_once_first}
use Rattle.res_base.specs.Plain.{is_dot}
use Rattle.res_base.specs.Paths.{slashed}
use Rattle.res_base.proofs.Slashes.{no_dot, first_dot}
use Rattle.res_base.proofs.paths.split_at_dot.Goals as goal

-- what the library says of a text that is split at its first dot
abbrev Split : List ℕ → Option (Bor (List ℕ) × Bor (List ℕ)) → Type 0
Split text split = MatchOption split (position_or_len is_dot text ≡ length text)
    (λ x. (position_or_len is_dot text < length text) × (x.0.now ≡ before_first is_dot text)
    × (x.1.now ≡ after_first is_dot text))

parts : (text : List ℕ) (split : Option (Bor (List ℕ) × Bor (List ℕ))) → Split text split
    → MatchOption split (slashed text ≡ text) (λ x. slashed text ≡ x.0.now ++ 47 ∷ slashed x.1.now)
parts text None e = no_dot text e
parts text (Some x) h = rw (h.1, h.2) (first_dot text h.0)

shorter : (text : List ℕ) (split : Option (Bor (List ℕ) × Bor (List ℕ))) → Split text split
    → IfSome split (λ x. length x.1.now < length text)
shorter text None e = tt
shorter text (Some x) h = rw h.2 (simp length-drop (omega (arith, h.0)))

pub returns-clause-parts : goal.returns-clause-parts
returns-clause-parts c = parts c.args.text.now c.split_once.result
    (split_once_first 46 c.args.text.now c.split_once.result c.split_once.ensures.cases (lit< tt))

pub returns-clause-shorter : goal.returns-clause-shorter
returns-clause-shorter c = shorter c.args.text.now c.split_once.result
    (split_once_first 46 c.args.text.now c.split_once.result c.split_once.ensures.cases (lit< tt))
