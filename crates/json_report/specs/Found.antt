-- Targets of edges that are found at their places.
use Rattle.std.specs.Prelude.{ℕ, Option, None, Some, List, [], fold, map, nat_eq, slice_get}
use Rattle.indexmap.specs.IndexSet.{insert_key}
use Rattle.resolution.specs.declared.settled.Edge.{Edge}

-- with the target of an edge, where there is one
abbrev pub with_target : List ℕ → Option Edge → List ℕ
with_target targets None = targets
with_target targets (Some e) = insert_key nat_eq targets e.target

-- the targets of the edges at some places, each at its first place
abbrev pub found_targets : List Edge → List ℕ → List ℕ
found_targets edges places = fold with_target [] (map (slice_get edges) places)
