-- What names may show, whatever a crash leaves.
use Rattle.std.specs.Prelude.{ℕ, ◌≡◌, ◌⊎◌, List, [], Option, Some, None}
use Rattle.cache_images.specs.Places.{IsDataName, part_name, record_name}
use Rattle.cache_images.specs.Sound.{RecordFits}
use Rattle.disk_base.specs.Images.{MayShow}
use Rattle.disk_base.specs.Names.{Names, settled, whole}
use Rattle.disk_base.specs.declared.contents.Bindings.{Bindings}

-- whatever a crash leaves, the name is unbound
abbrev pub IsAbsent : Bindings → Type 0
IsAbsent b = (o : Option (List ℕ)) → MayShow b o → o ≡ None

-- whatever a crash leaves, the name has these bytes
abbrev pub IsFirmly : Bindings → List ℕ → Type 0
IsFirmly b bytes = (o : Option (List ℕ)) → MayShow b o → o ≡ Some bytes

-- no earlier binding can come back
abbrev pub IsSettled : Bindings → Type 0
IsSettled b = b.before ≡ []

-- the same bindings, or those without the earlier ones
abbrev pub Kept : Bindings → Bindings → Type 0
Kept new old = (new ≡ old) ⊎ (new ≡ settled old)

-- the part is firm, no file has the name, and the record that stands fits the part
pub record IsSealed (s : Names) (number : ℕ) (name : List ℕ) : Type 0 where
  pub named : IsDataName name
  pub bytes : List ℕ
  pub line : List ℕ
  pub firm : (s (part_name number)).present ≡ Some (whole bytes)
  pub absent : IsAbsent (s name)
  pub recorded : IsFirmly (s (record_name name)) line
  pub fits : RecordFits line bytes
