use Rattle.std.proofs.Common.{◌≡◌}
use Rattle.std.specs.List.{filter_map}
use Rattle.class_path.specs.Files.{row_for}
use Rattle.res_base.specs.Known.{known_of}
use Rattle.class_path.proofs.rows.all_rows.Given as goal

abbrev pub invariant-loop-key : goal.invariant-loop-key
invariant-loop-key l = l.rows ≡ filter_map (row_for (known_of l.known.pairs) l.addresses) l.yielded
