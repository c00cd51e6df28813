use Rattle.std.proofs.Common.{◌≡◌, not, filter}
use Rattle.pom_build.specs.Imports.{is_import}
use Rattle.pom_build.proofs.imports.split_rows.Given as goal

abbrev pub invariant-loop-row : goal.invariant-loop-row
invariant-loop-row l = (l.split.rows ≡ filter (λ row. not (is_import row)) l.yielded) × (l.split.imports ≡ filter is_import l.yielded)
