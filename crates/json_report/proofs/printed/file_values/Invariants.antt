use Rattle.std.proofs.Common.{◌≡◌, map, take}
use Rattle.json_report.specs.Report.{file_value}
use Rattle.serde_json.specs.View.{view}
use Rattle.json_report.proofs.printed.file_values.Given as goal

abbrev pub invariant-loop-row : goal.invariant-loop-row
invariant-loop-row l = map view l.made.items ≡ map (file_value l.prefix) (take l.row-index l.rows)
