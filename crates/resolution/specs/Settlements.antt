-- What every reader of a settled resolution may rest on.
use Rattle.std.specs.Prelude.{◌≡◌, ◌<◌, ℕ, true, Option, None, Some, List, All, length}
use Rattle.res_base.specs.Plain.{is_plain_coord}
use Rattle.resolution.specs.declared.settled.Edge.{Edge}
use Rattle.resolution.specs.declared.settled.Node.{Node}
use Rattle.resolution.specs.declared.settled.Settled.{Settled}
use Rattle.resolution.specs.declared.verdict.Verdict.{Verdict}
use Rattle.resolution.specs.declared.verdict.Verdict.TheVariants as verdicts

-- one of so many places, where there is one
abbrev pub IsPlaceIn : ℕ → Option ℕ → Type 0
IsPlaceIn count None = Unit {0}
IsPlaceIn count (Some place) = place < count

-- an edge goes to one of so many nodes, and from one of them where it is no root
abbrev pub IsEdgeOf : ℕ → Edge → Type 0
IsEdgeOf count e = (e.target < count) × IsPlaceIn count e.source

-- the places of its edges are places of its nodes, and the coordinates of its nodes are plain
pub record IsSettlement (settled : Settled) : Type 0 where
  pub edges : All (λ (e : Edge). IsEdgeOf (length settled.nodes) e) settled.edges
  pub coordinates : All (λ (node : Node). is_plain_coord node.coord ≡ true) settled.nodes

-- each of its projects was found in one of so many repositories
abbrev pub HasRepositories : ℕ → Settled → Type 0
HasRepositories count settled = All (λ (node : Node). node.repo < count) settled.nodes

-- a fact about what was settled, where something was
abbrev pub IfSettled : Verdict → (Settled → Type 0) → Type 0
IfSettled (verdicts.Settled settled) P = P settled
IfSettled (verdicts.Clashes clashes) P = Unit {0}
IfSettled (verdicts.Failed faults) P = Unit {0}
IfSettled (verdicts.Unsettled rounds) P = Unit {0}
