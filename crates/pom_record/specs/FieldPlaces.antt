-- Where the fields of an element stand among its children.
use Rattle.std.specs.Prelude.{◌≡◌, ℕ, ◌<◌, List, slice_get, slice_index}
use Rattle.pom_record.specs.FieldNames.{name_rows}
use Rattle.case_table.specs.Numbers.{name_at}
use Rattle.pom_grammar.specs.declared.tree.Tree.{Tree}
use Rattle.pom_record.specs.Fields.{field}

-- at a name's number stands the place of the first child of that name, or a place past all children
abbrev pub ArePlaces : List Tree → List ℕ → Type 0
ArePlaces children places = (number : ℕ) → number < 18
    → slice_get children (slice_index places number) ≡ field (name_at name_rows number) children
