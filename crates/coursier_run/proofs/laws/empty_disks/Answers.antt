use Rattle.std.proofs.Common.{◌≡◌, ℕ, List, Option, None, Some, inl, inr, sym, ◌∙◌, subst}
use Rattle.disk_base.specs.Images.{IsImageOf, MayShow}
use Rattle.disk_base.specs.Names.{unbound}
use Rattle.coursier_run.proofs.laws.empty_disks.Goals as goal

shows_none : (o : Option (List ℕ)) → MayShow unbound o → o ≡ None
shows_none o (inl e) = e
shows_none o (inr x) = absurd x

absent : (o : Option (List ℕ)) (bytes : List ℕ) → o ≡ None → o ≡ Some bytes → ⊥
absent o bytes none some = let e : None ≡ Some bytes = sym none ∙ some in cc

pub returns : goal.returns
returns c = λ disk w told i image.
    let none : (name : List ℕ) → i name ≡ None = λ name. shows_none (i name) (subst (λ t. IsImageOf t i) told image name) in
    λ name is_data. (λ bytes there. absurd (absent (i name) bytes (none name) there), λ line there. absurd (absent _ line (none _) there))
