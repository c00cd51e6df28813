-- Versions, constraints and intervals in words.
use Rattle.std.specs.Prelude.{ℕ, List, Bool, ◌∷◌, ◌++◌, codes, if◌then◌else◌}
use Rattle.std.specs.declared.cmp.Ordering.{Ordering}
use Rattle.std.specs.declared.cmp.Ordering.TheVariants.{Less, Equal, Greater}
use Rattle.interval_sets.specs.declared.interval.End.{End}
use Rattle.interval_sets.specs.declared.interval.End.TheVariants.{Free, With, Without}
use Rattle.version_order.specs.Ranks.{full_cmp, items_cmp, same_series}
use Rattle.version_order.specs.declared.constraint.Constraint.{Constraint}
use Rattle.version_order.specs.declared.constraint.Constraint.TheVariants.{Any, Plain, Within}
use Rattle.case_words.specs.HexWord.{hex_word}

abbrev pub order_word : Ordering → List ℕ
order_word Less = codes "lt"
order_word Equal = codes "eq"
order_word Greater = codes "gt"

abbrev pub yes_word : Bool → List ℕ
yes_word is_so = if is_so then codes "yes" else codes "no"

-- what is answered for two versions
abbrev pub version_line : List ℕ → List ℕ → List ℕ
version_line one other = order_word (items_cmp one other) ++ 32 ∷ (order_word (full_cmp one other) ++ 32 ∷ yes_word (same_series one other))

abbrev pub end_word : End (List ℕ) → List ℕ
end_word Free = codes "free"
end_word (With version) = codes "with:" ++ hex_word version
end_word (Without version) = codes "without:" ++ hex_word version

-- what is answered for a text that is this constraint
abbrev pub constraint_line : Constraint → List ℕ
constraint_line Any = codes "any"
constraint_line (Plain version) = codes "plain " ++ hex_word version
constraint_line (Within interval) = codes "within " ++ (end_word interval.lower ++ 32 ∷ end_word interval.upper)

-- on which side of an interval a version is, by whether it is below it and whether above
abbrev pub side_word : Bool → Bool → List ℕ
side_word below above = if below then (if above then codes "both" else codes "below") else (if above then codes "above" else codes "inside")
