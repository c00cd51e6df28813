use Rattle.std.proofs.Common.{◌≡◌, ◌++◌, ◌-◌, codes, take, string_bytes}
use Rattle.std.specs.List.{flat_map}
use Rattle.project_cases.specs.Trees.{tree_word}
use Rattle.project_cases.proofs.trees.+push_tree.Given as goal

abbrev pub decreases-push_tree : goal.decreases-push_tree
decreases-push_tree l = l.levels

abbrev pub invariant-loop-child : goal.invariant-loop-child
invariant-loop-child l = string_bytes l.line ≡ string_bytes l.initial.line ++ flat_map (λ child. codes " " ++ tree_word (l.levels - 1) child) (take l.child-index l.child-items)
