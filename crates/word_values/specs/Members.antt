-- Lists whose members are read one after another.
use Rattle.std.specs.Prelude.{ℕ, Bool, List, [], ◌∷◌, ◌++◌, Option, Some, None, Ok, Err, length, ◌==◌}
use Rattle.word_values.specs.Refusals.{Read}
use Rattle.word_values.specs.Split.{members_of}
use Rattle.word_values.specs.declared.refusals.WordKind.{WordKind}
use Rattle.word_values.specs.declared.refusals.WordsErr.TheVariants.{BadWords}

abbrev pub is_none_left : List (List ℕ) → Bool
is_none_left texts = length texts == 0

module _ {A : Type 0} (kind : WordKind) (reads : List A → List ℕ → Bool → Option A) where
  -- a member that does not read is refused by the number of those before it; the others go on after one that does
  abbrev pub after_member : List A → Option A → (List A → Read (List A)) → Read (List A)
  after_member before None next = Err (BadWords kind (length before))
  after_member before (Some member) next = next (before ++ member ∷ [])

  -- the members that are left, after those `before`: each is read by what stands before it, and by whether it is the last
  abbrev pub members_from : List (List ℕ) → List A → Read (List A)
  members_from [] before = Ok before
  members_from (text ∷ rest) before = after_member before (reads before text (is_none_left rest)) (members_from rest)

  abbrev pub members_in : List (List ℕ) → Read (List A)
  members_in texts = members_from texts []

  -- the members of an option's text, or none where it is not given
  abbrev pub list_given : Option (List ℕ) → Read (List A)
  list_given None = Ok []
  list_given (Some text) = members_in (members_of text)
