use Rattle.std.proofs.Common.{suc, Some, rules}
use Rattle.std.specs.BTreeMap.{Updates}
use Rattle.pom_build.specs.CoordTables.{coord_cmp}
use Rattle.pom_build.specs.declared.memo.Kept.{Kept}
use Rattle.pom_build.proofs.Coords.{put_at}
use Rattle.pom_build.proofs.imports.keep.Goals as goal

pub returns : goal.returns
returns c =
    let new : Kept = record { rows = c.args.sum.table; levels = suc c.args.sum.levels } in
    let noted : Updates coord_cmp c.args.memo.now.kept c.insert.new.self c.args.coord.now (Some new) = search rules in
    λ other. put_at c.args.memo.now.kept c.insert.new.self c.args.coord.now new noted other
