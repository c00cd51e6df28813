-- What the crate below proves of keys, as the proofs here take it.
use Rattle.std.proofs.Common.{◌≡◌, ℕ, ◌≤◌, ◌*◌, true, List, refl, length}
use Rattle.std.specs.Prelude.{◌↔◌, count_by}
use Rattle.res_base.specs.Members.{Among, each_once}
use Rattle.res_base.specs.Names.{key_eq}
use Rattle.res_base.specs.declared.key.FileKey.{FileKey}

abbrev pub Decided : Type 0
Decided = (a b : FileKey) → (key_eq a b ≡ true) ↔ (a ≡ b)

pub same_key : Decided → (a b : FileKey) → key_eq a b ≡ true → a ≡ b
same_key decided a b = (decided a b).0

pub key_itself : Decided → (a : FileKey) → key_eq a a ≡ true
key_itself decided a = (decided a a).1 refl

abbrev pub FillPlaces : Type 0
FillPlaces = (most : ℕ) (keys others : List FileKey) → ((key : FileKey) → Among key keys → Among key others)
    → ((key : FileKey) → count_by (key_eq key) keys ≤ most) → length keys ≤ most * length others

abbrev pub KeepsKeys : Type 0
KeepsKeys = (key : FileKey) (keys : List FileKey) → Among key keys ↔ Among key (each_once key_eq keys)

abbrev pub HasOnce : Type 0
HasOnce = (key : FileKey) (keys : List FileKey) → count_by (key_eq key) (each_once key_eq keys) ≤ 1

pub record KeyLaws : Type 0 where
  pub decided : Decided
  pub pigeons : FillPlaces
  pub kept : KeepsKeys
  pub once : HasOnce

pub key_laws : Decided → FillPlaces → KeepsKeys → HasOnce → KeyLaws
key_laws decided pigeons kept once = record { decided = decided; pigeons = pigeons; kept = kept; once = once }
