-- What the calls that change nothing answer.
use Rattle.std.specs.Prelude.{ℕ, ◌≡◌, ◌≤◌, ◌-◌, ◌^◌, ◌↔◌, List, Option, Some, None, IsSome, length, take, drop, min}
use Rattle.std.specs.List.{starts_with}
use Rattle.std.specs.List.Sorted.{IsStrictlySortedBy}
use Rattle.std.specs.Prelude.{nat_eq, true}
use Rattle.res_base.specs.Members.{Among}
use Rattle.res_base.specs.Names.{text_cmp}
use Rattle.disk_base.specs.Names.{Names}
use Rattle.disk_base.specs.declared.disk.Read.{Read}
use Rattle.disk_base.specs.declared.disk.Read.TheVariants.{Bytes, Missing}

-- of these bytes those from a place on were read, as many as there are and fit
abbrev pub AreRead : List ℕ → ℕ → List ℕ → ℕ → Type 0
AreRead content place into n = (n ≡ min (length into) (length content - place))
    × (take n into ≡ take n (drop place content))

-- what a read at a place of this content, or of none, answers; the room has these bytes then
abbrev pub AnswersRead : Option (List ℕ) → ℕ → List ℕ → Read → Type 0
AnswersRead None place into read = read ≡ Missing
AnswersRead (Some content) place into read = (n : ℕ) × (read ≡ Bytes n) × AreRead content place into n

-- what is so on every disk: no more than the room, and nothing at a place of 2^63 or more
abbrev pub FitsRoom : ℕ → ℕ → Read → Type 0
FitsRoom place room Missing = Unit {0}
FitsRoom place room (Bytes n) = (n ≤ room) × (2 ^ 63 ≤ place → n ≡ 0)

-- these are the bound names that begin so, by bytes
pub record AreListed (s : Names) (prefix : List ℕ) (names : List (List ℕ)) : Type 0 where
  pub rising : IsStrictlySortedBy text_cmp names
  pub exactly : (name : List ℕ) → Among name names ↔ (IsSome (s name).present × (starts_with nat_eq name prefix ≡ true))
