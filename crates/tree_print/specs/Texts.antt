-- The text of the tree.
use Rattle.std.specs.Prelude.{ℕ, zero, suc, Bool, true, false, Option, None, Some, List, [], ◌∷◌, ◌++◌}
use Rattle.std.specs.Prelude.{codes, slice_get}
use Rattle.std.specs.List.{flat_map}
use Rattle.ascii_bytes.specs.Signs.{colon, line_feed, space}
use Rattle.res_base.specs.Names.{text_eq}
use Rattle.res_base.specs.declared.coord.Module.{Module}
use Rattle.resolution.specs.declared.settled.Edge.{Edge}
use Rattle.resolution.specs.declared.settled.Node.{Node}
use Rattle.resolution.specs.declared.settled.Settled.{Settled}
use Rattle.tree_print.specs.Lines.{Line, tree_lines}

-- two spaces for each step of depth
abbrev pub indent : ℕ → List ℕ
indent zero = []
indent (suc depth) = space ∷ space ∷ indent depth

-- a dash for an empty text
abbrev pub asked_text : List ℕ → List ℕ
asked_text [] = codes "-"
asked_text (byte ∷ asked) = byte ∷ asked

abbrev pub name_text : Module → List ℕ → List ℕ
name_text m asked = m.org ++ colon ∷ (m.name ++ colon ∷ asked_text asked)

-- the chosen version, where it is not the text that is asked
abbrev pub choice_text : Bool → List ℕ → List ℕ
choice_text true version = []
choice_text false version = codes " -> " ++ version

abbrev pub node_text : Node → List ℕ → List ℕ
node_text node asked =
    name_text node.coord.«module» asked ++ choice_text (text_eq asked node.coord.version) node.coord.version

abbrev pub target_text : Option Node → List ℕ → List ℕ
target_text None asked = []
target_text (Some node) asked = node_text node asked

abbrev pub end_text : Bool → List ℕ
end_text true = codes " (above)" ++ line_feed ∷ []
end_text false = line_feed ∷ []

-- a line without its indent
abbrev pub entry_text : List Node → Edge → Bool → List ℕ
entry_text nodes e above = target_text (slice_get nodes e.target) e.asked ++ end_text above

abbrev pub line_text : List Node → Line → List ℕ
line_text nodes line = indent line.depth ++ entry_text nodes line.edge line.above

abbrev pub tree_text : Settled → List ℕ
tree_text settled = flat_map (line_text settled.nodes) (tree_lines settled.edges)
