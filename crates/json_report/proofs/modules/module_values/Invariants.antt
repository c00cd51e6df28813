use Rattle.std.proofs.Common.{◌≡◌, ◌++◌, drop, map}
use Rattle.json_report.specs.Report.{module_values}
use Rattle.serde_json.specs.View.{view}
use Rattle.json_report.proofs.modules.module_values.Given as goal

abbrev pub invariant-loop-place : goal.invariant-loop-place
invariant-loop-place l = map view l.made.items ++ module_values l.settled l.addresses l.place (drop l.place l.settled.nodes) ≡ module_values l.settled l.addresses 0 l.settled.nodes
