-- What holds of every list that is read member by member.
use Rattle.std.proofs.Common.{◌≡◌, ℕ, Bool, List, [], ◌∷◌, ◌++◌, Option, Some, None, Ok, refl, subst}
use Rattle.word_values.specs.Members.{after_member, is_none_left, members_from}
use Rattle.word_values.specs.declared.refusals.WordKind.{WordKind}

module _ {A : Type 0} (kind : WordKind) (reads : List A → List ℕ → Bool → Option A) where
  -- a fact that each member keeps
  pub kept : (P : List A → Type 0) → ((before : List A) (text : List ℕ) (is_last : Bool) (member : A) → P before → reads before text is_last ≡ Some member → P (before ++ member ∷ []))
      → (texts : List (List ℕ)) (before made : List A) → P before → members_from kind reads texts before ≡ Ok made → P made
  kept P step [] before made h e = let same : before ≡ made = cc in subst P same h
  kept P step (text ∷ rest) before made h e =
      go (reads before text (is_none_left rest)) refl e (λ member q. kept P step rest (before ++ member ∷ []) made (step before text (is_none_left rest) member h q))
    where
      go : (read : Option A) → reads before text (is_none_left rest) ≡ read
          → after_member kind reads before read (members_from kind reads rest) ≡ Ok made
          → ((member : A) → reads before text (is_none_left rest) ≡ Some member → members_from kind reads rest (before ++ member ∷ []) ≡ Ok made → P made) → P made
      go None q e next = let no : ⊥ = cc in absurd no
      go (Some member) q e next = next member q e
