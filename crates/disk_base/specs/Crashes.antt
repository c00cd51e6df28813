-- The images that numbers pick.
use Rattle.std.specs.Prelude.{ℕ, ◌≡◌, ◌+◌, ◌/◌, ◌%◌, ◌-◌, ◌==◌, ◌++◌, ◌||◌, ◌↔◌, Bool, true, List, [], ◌∷◌, Option, Some, None, if◌then◌else◌, is_some, length, replicate, take, slice_index_or}
use Rattle.std.specs.List.{list_any}
use Rattle.std.specs.List.Sorted.{IsStrictlySortedBy}
use Rattle.std.specs.Option.{option_map}
use Rattle.res_base.specs.Members.{Among}
use Rattle.res_base.specs.Names.{text_cmp, text_eq}
use Rattle.disk_base.specs.Images.{Image}
use Rattle.disk_base.specs.Names.{Names}
use Rattle.disk_base.specs.declared.contents.Content.{Content}
use Rattle.disk_base.specs.declared.contents.Bindings.{Bindings}

-- the name is bound, or was since the names were synced
abbrev pub was_bound : Bindings → Bool
was_bound b = is_some b.present || list_any is_some b.before

-- a content as it was written, or, at an odd number, with a zero byte for each one that is not firm
abbrev pub shown_by : ℕ → Content → List ℕ
shown_by number c =
    if number % 2 == 0 then c.bytes else take c.firm c.bytes ++ replicate (length c.bytes - c.firm) 0

-- the one of these bindings that the number picks, by its rest, and how it shows, by the quotient
abbrev pub picked_from : ℕ → List (Option Content) → Option (List ℕ)
picked_from number bindings =
    option_map (shown_by (number / length bindings)) (slice_index_or bindings (number % length bindings) None)

-- in order of time
abbrev pub picked : ℕ → Bindings → Option (List ℕ)
picked number b = picked_from number (b.before ++ b.present ∷ [])

-- the number at a place, 0 past the end
abbrev pub number_at : List ℕ → ℕ → ℕ
number_at picks place = slice_index_or picks place 0

-- each of these names shows what the number at its place picks, and the others are unbound
abbrev pub crashed : List ℕ → ℕ → Names → List (List ℕ) → Image
crashed picks place s [] name = None
crashed picks place s (first ∷ names) name =
    if text_eq first name then picked (number_at picks place) (s first) else crashed picks (place + 1) s names name

-- the image that the numbers pick: the names that are bound, or were since the names were synced, by bytes, each by its
-- number
pub record IsPicked (picks : List ℕ) (s : Names) (i : Image) : Type 0 where
  pub names : List (List ℕ)
  pub rising : IsStrictlySortedBy text_cmp names
  pub held : (name : List ℕ) → Among name names ↔ (was_bound (s name) ≡ true)
  pub shown : (name : List ℕ) → i name ≡ crashed picks 0 s names name
