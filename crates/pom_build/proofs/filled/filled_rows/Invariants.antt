use Rattle.std.proofs.Common.{◌≡◌, map, take}
use Rattle.pom_build.specs.Filling.{filled_row}
use Rattle.pom_build.specs.Names.{fill_in}
use Rattle.pom_build.proofs.filled.filled_rows.Given as goal

abbrev pub invariant-loop-row : goal.invariant-loop-row
invariant-loop-row l = l.made ≡ map (filled_row (fill_in l.named)) (map (λ row. row.now) (take l.row-index l.rows))
