-- A relation that holds place by place between a list and itself.
use Rattle.std.proofs.Common.{List, [], ◌∷◌}
use Rattle.std.specs.List.{AllZip}

pub zip_refl : {A : Type 0} (R : A → A → Type 0) → ((a : A) → R a a) → (xs : List A) → AllZip R xs xs
zip_refl R r [] = tt
zip_refl R r (x ∷ xs) = (r x, zip_refl R r xs)
