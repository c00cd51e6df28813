use Rattle.std.proofs.Common.{◌≡◌, false, None, Some, rules}
use Rattle.std.specs.BTreeMap.{Updates, get}
use Rattle.res_base.specs.Names.{key_cmp}
use Rattle.claim_log.specs.Tallies.{tally}
use Rattle.claim_log.proofs.Rows.{row_added}
use Rattle.claim_log.proofs.tallies.add_row.Goals as goal

pub returns-clause-kept : goal.returns-clause-kept
returns-clause-kept c =
    let none : get key_cmp c.args.tallies.now c.args.key.now ≡ None = search rules in
    let added : Updates key_cmp c.args.tallies.now c.insert.new.self c.args.key.now (Some (tally 0 false)) = search rules in
    row_added c.equality_decided.ensures.keys c.args.tallies.now c.insert.new.self c.args.key.now none added
