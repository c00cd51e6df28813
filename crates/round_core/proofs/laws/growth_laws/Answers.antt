use Rattle.std.proofs.Common.{◌≡◌, ◌++◌, sym}
use Rattle.live_walk.proofs.Members.{in_front}
use Rattle.round_core.specs.Reads.{files_of, reads_of}
use Rattle.round_core.specs.Rounds.{rounds_of}
use Rattle.round_core.proofs.Below.{Below}
use Rattle.round_core.proofs.Grow as grow
use Rattle.round_core.proofs.Opens.{needs_read}
use Rattle.round_core.proofs.Orders.{same_key}
use Rattle.round_core.proofs.ReadsGrow.{reads_more}
use Rattle.round_core.proofs.Waits.{contains_in, in_contains}
use Rattle.round_core.proofs.laws.growth_laws.Goals as goal

pub returns-clause-round : goal.returns-clause-round
returns-clause-round c =
    let laws : Below = record {
      sets = record { excludes = c.within_laws.ensures.excludes; either = c.join_laws.ensures.either };
      answer_grows = c.build_laws.ensures.answer;
      keys_grow = c.build_laws.ensures.keys;
      answer_reads = c.read_laws.ensures.answer;
      keys_read = c.read_laws.ensures.keys;
      needed = c.answer_laws.ensures.needed;
      some = c.answer_laws.ensures.some;
      listing_grows = c.listing_laws.ensures;
    } in
    λ before after ask chosen later more h. grow.round_grows laws before after more ask chosen later h

pub returns-clause-rises : goal.returns-clause-rises
returns-clause-rises c = grow.round_rises

pub returns-clause-did : goal.returns-clause-did
returns-clause-did c =
    let laws : Below = record {
      sets = record { excludes = c.within_laws.ensures.excludes; either = c.join_laws.ensures.either };
      answer_grows = c.build_laws.ensures.answer;
      keys_grow = c.build_laws.ensures.keys;
      answer_reads = c.read_laws.ensures.answer;
      keys_read = c.read_laws.ensures.keys;
      needed = c.answer_laws.ensures.needed;
      some = c.answer_laws.ensures.some;
      listing_grows = c.listing_laws.ensures;
    } in
    λ before after ask done chosen more h. grow.did_grows laws before after more ask h

pub returns-clause-over : goal.returns-clause-over
returns-clause-over c =
    let laws : Below = record {
      sets = record { excludes = c.within_laws.ensures.excludes; either = c.join_laws.ensures.either };
      answer_grows = c.build_laws.ensures.answer;
      keys_grow = c.build_laws.ensures.keys;
      answer_reads = c.read_laws.ensures.answer;
      keys_read = c.read_laws.ensures.keys;
      needed = c.answer_laws.ensures.needed;
      some = c.answer_laws.ensures.some;
      listing_grows = c.listing_laws.ensures;
    } in
    λ before after ask more h. grow.rounds_grow laws before after more ask h

pub returns-clause-reads : goal.returns-clause-reads
returns-clause-reads c =
    let laws : Below = record {
      sets = record { excludes = c.within_laws.ensures.excludes; either = c.join_laws.ensures.either };
      answer_grows = c.build_laws.ensures.answer;
      keys_grow = c.build_laws.ensures.keys;
      answer_reads = c.read_laws.ensures.answer;
      keys_read = c.read_laws.ensures.keys;
      needed = c.answer_laws.ensures.needed;
      some = c.answer_laws.ensures.some;
      listing_grows = c.listing_laws.ensures;
    } in
    λ before after ask key more h. in_contains key (reads_of after ask)
    (reads_more laws before after more ask key (contains_in key (reads_of before ask) h))

pub returns-clause-needed : goal.returns-clause-needed
returns-clause-needed c =
    let laws : Below = record {
      sets = record { excludes = c.within_laws.ensures.excludes; either = c.join_laws.ensures.either };
      answer_grows = c.build_laws.ensures.answer;
      keys_grow = c.build_laws.ensures.keys;
      answer_reads = c.read_laws.ensures.answer;
      keys_read = c.read_laws.ensures.keys;
      needed = c.answer_laws.ensures.needed;
      some = c.answer_laws.ensures.some;
      listing_grows = c.listing_laws.ensures;
    } in
    λ before after ask key more h.
    in_contains key (reads_of after ask ++ files_of ask.files (rounds_of after ask))
    (in_front (files_of ask.files (rounds_of after ask))
    (reads_more laws before after more ask key
    (needs_read (same_key c.equality_decided.ensures.keys) laws before ask key (contains_in key _ h)).0))
