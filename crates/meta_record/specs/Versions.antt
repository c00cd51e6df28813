-- What a listing says: the versions of a module, after the `maven-metadata.xml` of the Maven 2
-- repository layout.
use Rattle.std.specs.Prelude.{ℕ, Bool, not, ◌&&◌, ◌==◌, List, [], filter, find, map, length, Option, Some, None, codes}
use Rattle.std.specs.Str.{bytes_eq}
use Rattle.pom_grammar.specs.declared.tree.Tree.{Tree, out-Tree}

abbrev pub is_named : List ℕ → Tree → Bool
is_named name tree = bytes_eq (out-Tree tree).name name

abbrev pub children_in : Option Tree → List Tree
children_in None = []
children_in (Some tree) = (out-Tree tree).children

-- the children of the first child of a name, none where there is no such child
abbrev pub children_of : List ℕ → List Tree → List Tree
children_of name children = children_in (find (is_named name) children)

abbrev pub has_text : Tree → Bool
has_text tree = not (length (out-Tree tree).text == 0)

abbrev pub text : Tree → List ℕ
text tree = (out-Tree tree).text

-- a version is the text of a child `version`, if it has one
abbrev pub is_version : Tree → Bool
is_version tree = is_named (codes "version") tree && has_text tree

abbrev pub versions_among : List Tree → List (List ℕ)
versions_among children = map text (filter is_version children)

-- the versions of `versioning/versions`, in order
abbrev pub versions_in : List Tree → List (List ℕ)
versions_in children = versions_among (children_of (codes "versions") (children_of (codes "versioning") children))
