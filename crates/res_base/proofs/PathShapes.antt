-- The parts of a path, however they are joined.
use Rattle.std.proofs.Common.{◌≡◌, ℕ, List, [], ◌∷◌, ◌++◌, refl, append_assoc}

pub file_shape : (folder name version dash classifier ext : List ℕ)
    → (folder ++ 47 ∷ (name ++ 47 ∷ (version ++ 47 ∷ (name ++ 45 ∷ (version ++ (dash ++ (classifier ++ 46 ∷ [])))))))
    ++ ext
    ≡ ((folder ++ 47 ∷ name) ++ 47 ∷ (version ++ 47 ∷ (name ++ 45 ∷ version))) ++ (dash ++ (classifier ++ 46 ∷ ext))
file_shape folder name version dash classifier ext = simp append_assoc refl
