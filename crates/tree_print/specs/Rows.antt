-- Worked rows.
use Rattle.std.specs.Prelude.{◌≡◌, ℕ, false, Option, None, Some, List, [], ◌∷◌, ◌++◌, codes, refl}
use Rattle.ascii_bytes.specs.Signs.{line_feed}
use Rattle.res_base.specs.Builders.{coord_of}
use Rattle.resolution.specs.declared.settled.Edge.{Edge}
use Rattle.resolution.specs.declared.settled.Node.{Node}
use Rattle.resolution.specs.declared.settled.Settled.{Settled}
use Rattle.tree_print.specs.Texts.{tree_text}

abbrev node : List ℕ → List ℕ → Node
node name version =
    record { coord = coord_of (codes "x") name version; repo = 0; packaging = codes "jar"; moved = false }

abbrev edge : Option ℕ → ℕ → List ℕ → Edge
edge source target asked =
    record { source = source; target = target; asked = asked; kind = codes "jar"; classifier = [] }

abbrev settled : List Node → List Edge → Settled
settled nodes edges = record { round = 1; nodes = nodes; edges = edges }

abbrev line : List ℕ → List ℕ
line text = text ++ line_feed ∷ []

abbrev abc : List Node
abc = node (codes "a") (codes "1") ∷ node (codes "b") (codes "1") ∷ node (codes "c") (codes "1.10") ∷ []

-- a module's edges stand below its first line alone
pub above : tree_text (settled abc (edge None 0 (codes "1") ∷ edge (Some 0) 1 (codes "1")
    ∷ edge (Some 0) 2 (codes "1.9") ∷ edge (Some 1) 2 (codes "1.10") ∷ []))
    ≡ line (codes "x:a:1") ++ (line (codes "  x:b:1")
    ++ (line (codes "    x:c:1.10") ++ line (codes "  x:c:1.9 -> 1.10 (above)")))
above = refl

-- a module below itself, a root that stands above, and no constraint
pub around : tree_text (settled abc (edge None 0 (codes "1") ∷ edge None 1 []
    ∷ edge (Some 0) 1 (codes "1") ∷ edge (Some 1) 0 (codes "1") ∷ []))
    ≡ line (codes "x:a:1") ++ (line (codes "  x:b:1")
    ++ (line (codes "    x:a:1 (above)") ++ line (codes "x:b:- -> 1 (above)")))
around = refl
