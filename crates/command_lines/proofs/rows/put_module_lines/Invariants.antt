use Rattle.std.proofs.Common.{◌≡◌, ◌++◌, take}
use Rattle.std.specs.List.{flat_map}
use Rattle.command_lines.specs.Rendered.{module_line}
use Rattle.command_lines.proofs.rows.put_module_lines.Given as goal

abbrev pub invariant-loop-node : goal.invariant-loop-node
invariant-loop-node l = l.text ≡ l.initial.text ++ flat_map (module_line l.configuration) (take l.node-index l.nodes)
