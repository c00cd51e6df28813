use Rattle.std.proofs.Common.{◌≡◌}
use Rattle.round_core.proofs.Below.{Below}
use Rattle.round_core.proofs.Fixed.{rounds_fixed}
use Rattle.round_core.proofs.laws.look_laws.Goals as goal

pub returns-clause-rounds : goal.returns-clause-rounds
returns-clause-rounds c =
    let laws : Below = record {
      sets = record { excludes = c.within_laws.ensures.excludes; either = c.join_laws.ensures.either };
      answer_grows = c.build_laws.ensures.answer;
      keys_grow = c.build_laws.ensures.keys;
      answer_reads = c.read_laws.ensures.answer;
      keys_read = c.read_laws.ensures.keys;
      needed = c.answer_laws.ensures.needed;
      some = c.answer_laws.ensures.some;
      listing_grows = c.listing_laws.ensures;
    } in
    λ known other ask h. (rounds_fixed laws known other ask h).progress

pub returns-clause-reads : goal.returns-clause-reads
returns-clause-reads c =
    let laws : Below = record {
      sets = record { excludes = c.within_laws.ensures.excludes; either = c.join_laws.ensures.either };
      answer_grows = c.build_laws.ensures.answer;
      keys_grow = c.build_laws.ensures.keys;
      answer_reads = c.read_laws.ensures.answer;
      keys_read = c.read_laws.ensures.keys;
      needed = c.answer_laws.ensures.needed;
      some = c.answer_laws.ensures.some;
      listing_grows = c.listing_laws.ensures;
    } in
    λ known other ask h. (rounds_fixed laws known other ask h).keys
