-- The fields of an element, by the names of its children.
use Rattle.std.specs.Prelude.{ℕ, Bool, List, [], filter, find, Option, Some, None}
use Rattle.std.specs.Str.{bytes_eq}
use Rattle.pom_grammar.specs.declared.tree.Tree.{Tree, out-Tree}

abbrev pub is_named : List ℕ → Tree → Bool
is_named name tree = bytes_eq (out-Tree tree).name name

-- a field is the first child of its name
abbrev pub field : List ℕ → List Tree → Option Tree
field name children = find (is_named name) children

-- all children of a name
abbrev pub named : List ℕ → List Tree → List Tree
named name children = filter (is_named name) children

abbrev pub text_in : Option Tree → List ℕ
text_in None = []
text_in (Some tree) = (out-Tree tree).text

abbrev pub children_in : Option Tree → List Tree
children_in None = []
children_in (Some tree) = (out-Tree tree).children

-- the text of a field, which is empty where there is no such field
abbrev pub text_of : List ℕ → List Tree → List ℕ
text_of name children = text_in (field name children)

-- the children of a field, none where there is no such field
abbrev pub children_of : List ℕ → List Tree → List Tree
children_of name children = children_in (field name children)
