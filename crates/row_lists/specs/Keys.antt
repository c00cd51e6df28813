-- The order of rows by their keys, and tables of places under keys.
use Rattle.std.specs.BTreeMap.{BTreeMap, get}
use Rattle.std.specs.Prelude.{◌≡◌, ℕ, ◌&&◌, Bool, [], List, Option, position, refl}
use Rattle.std.proofs.Common.{sym, ◌∙◌}
use Rattle.std.specs.Cmp.Lexicographic.{texts_ties}
use Rattle.std.specs.declared.cmp.Ordering.{Ordering}
use Rattle.std.specs.declared.cmp.Ordering.TheVariants.{Less, Equal, Greater}
use Rattle.std.specs.Ordering.{is_eq, on, ordering_then, then_cmp}
use Rattle.res_base.specs.Names.{text_cmp}
use Rattle.res_base.specs.declared.pom.DepRecord.{DepRecord}
use Rattle.row_lists.specs.RowLists.{kind_or_jar, row_key_eq}

-- by org, then by name, then by type, then by classifier
abbrev pub row_key_cmp : DepRecord → DepRecord → Ordering
row_key_cmp =
    then_cmp (then_cmp (on (λ row. row.«module».org) text_cmp) (on (λ row. row.«module».name) text_cmp))
    (then_cmp (on kind_or_jar text_cmp) (on (λ row. row.classifier) text_cmp))

both : (x y : Ordering) → is_eq (ordering_then x y) ≡ (is_eq x && is_eq y)
both Less y = refl
both Equal y = refl
both Greater y = refl

all_four : (a b c d : Bool) (w x y z : Ordering) → a ≡ is_eq w → b ≡ is_eq x → c ≡ is_eq y → d ≡ is_eq z
    → ((a && b) && (c && d)) ≡ is_eq (ordering_then (ordering_then w x) (ordering_then y z))
all_four a b c d w x y z e f g h =
    rw (e, f, g, h) (sym (both (ordering_then w x) (ordering_then y z) ∙ rw (both w x, both y z) refl))

-- keys are equal where neither comes first
pub key_ties : (a b : DepRecord) → row_key_eq a b ≡ is_eq (row_key_cmp a b)
key_ties a b =
    all_four _ _ _ _ _ _ _ _ (texts_ties a.«module».org b.«module».org) (texts_ties a.«module».name b.«module».name)
    (texts_ties (kind_or_jar a) (kind_or_jar b)) (texts_ties a.classifier b.classifier)

-- a row with the key of another, and nothing else
abbrev pub key_part : DepRecord → DepRecord
key_part row = record row { version = []; scope = []; optional = []; exclusions = [] }

-- the place of the first row with the key of another
abbrev pub place_of : DepRecord → List DepRecord → Option ℕ
place_of row rows = position (row_key_eq row) rows

-- the table has the place of each key, and no other key
abbrev pub HasPlaces : List DepRecord → BTreeMap DepRecord ℕ → Type 0
HasPlaces rows places = (row : DepRecord) → get row_key_cmp places row ≡ place_of row rows
