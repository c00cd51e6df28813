-- The edges of a node, in order.
use Rattle.std.specs.Prelude.{ℕ, Bool, false, Option, None, Some, List, [], ◌∷◌, filter, if◌then◌else◌}
use Rattle.std.specs.Prelude.{is_none, nat_eq}
use Rattle.resolution.specs.declared.settled.Edge.{Edge}

abbrev pub starts_at : ℕ → Option ℕ → Bool
starts_at place None = false
starts_at place (Some source) = nat_eq place source

abbrev pub leaves : ℕ → Edge → Bool
leaves place e = starts_at place e.source

abbrev pub is_root : Edge → Bool
is_root e = is_none e.source

-- the edges that go from a node
abbrev pub edges_of : List Edge → ℕ → List Edge
edges_of edges place = filter (leaves place) edges

-- the edges that go from no node
abbrev pub root_edges : List Edge → List Edge
root_edges edges = filter is_root edges

-- one value, or none
abbrev pub if_so : {A : Type 0} → Bool → A → List A
if_so so x = if so then x ∷ [] else []
