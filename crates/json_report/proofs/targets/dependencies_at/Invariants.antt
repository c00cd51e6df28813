use Rattle.std.proofs.Common.{◌≡◌, drop, fold, map}
use Rattle.std.specs.Prelude.{slice_get}
use Rattle.json_report.specs.Found.{found_targets, with_target}
use Rattle.json_report.specs.Report.{dependency}
use Rattle.serde_json.specs.View.{view}
use Rattle.json_report.proofs.targets.dependencies_at.Given as goal

abbrev pub invariant-loop-at : goal.invariant-loop-at
invariant-loop-at l =
    record {
      made : map view l.made.items ≡ map (dependency l.nodes) l.targets.keys;
      targets : fold with_target l.targets.keys (map (slice_get l.edges) (drop l.at-index l.places)) ≡ found_targets l.edges l.places;
    }
