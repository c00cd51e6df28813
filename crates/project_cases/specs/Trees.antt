-- Trees of elements in words.
use Rattle.std.specs.Prelude.{ℕ, zero, suc, List, [], ◌++◌, codes}
use Rattle.std.specs.List.{flat_map}
use Rattle.pom_grammar.specs.declared.tree.Tree.{Tree, out-Tree}
use Rattle.case_words.specs.HexWord.{hex_word}

abbrev pub head_word : Tree → List ℕ
head_word tree = codes "(" ++ (hex_word (out-Tree tree).name ++ (codes " " ++ hex_word (out-Tree tree).text))

-- in brackets the name, the text and the children, with a space before each but the first; so many levels of it
abbrev pub tree_word : ℕ → Tree → List ℕ
tree_word zero tree = []
tree_word (suc levels) tree = head_word tree ++ (flat_map (λ child. codes " " ++ tree_word levels child) (out-Tree tree).children ++ codes ")")
