use Rattle.std.proofs.Common.{Some, rules}
use Rattle.std.specs.BTreeMap.{Updates}
use Rattle.pom_build.specs.CoordTables.{coord_cmp}
use Rattle.pom_build.proofs.Coords.{level_put}
use Rattle.pom_build.proofs.needs.with_level_at.Goals as goal

pub returns-clause-levels : goal.returns-clause-levels
returns-clause-levels c =
    let noted : Updates coord_cmp c.args.seen.levels c.insert.new.self c.args.coord.now (Some c.args.level) = search rules in
    λ one. level_put c.args.seen.levels c.insert.new.self c.args.coord.now c.args.level noted one
