use Rattle.std.proofs.Common.{◌≡◌, sym, rules}
use Rattle.std.specs.declared.cmp.Ordering.TheVariants.{Equal}
use Rattle.res_base.specs.Names.{key_cmp}
use Rattle.claim_log.proofs.Keys.{tied}
use Rattle.claim_log.proofs.flights.land.Goals as goal

pub returns-clause-value : goal.returns-clause-value
returns-clause-value c =
    let same : key_cmp c.args.key.now c.unwrap-own.result.0 ≡ Equal = search rules in
    sym (tied c.equality_decided.ensures.keys c.args.key.now c.unwrap-own.result.0 same)
