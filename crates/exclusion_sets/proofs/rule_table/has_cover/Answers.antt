use Rattle.std.proofs.Common.{◌≡◌, false, rules}
use Rattle.std.specs.Prelude.{codes}
use Rattle.exclusion_sets.specs.Lookups.{table_has}
use Rattle.exclusion_sets.proofs.rule_table.has_cover.Goals as goal

pub returns : goal.returns
returns c =
    let table = c.args.table.now in
    let first : table_has table c.args.org.now c.args.name.now ≡ false = search rules in
    let second : table_has table c.args.org.now (codes "*") ≡ false = search rules in
    let third : table_has table (codes "*") (codes "*") ≡ false = search rules in
    rw (first, second, third) (search rules)
