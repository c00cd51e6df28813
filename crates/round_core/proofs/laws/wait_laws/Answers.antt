use Rattle.std.proofs.Common.{◌≡◌}
use Rattle.round_core.specs.Reads.{needs_in, reads_of}
use Rattle.round_core.specs.Rounds.{rounds_of}
use Rattle.round_core.proofs.Below.{Below}
use Rattle.round_core.proofs.Opens as opens
use Rattle.round_core.proofs.Orders.{same_key}
use Rattle.round_core.proofs.Waits.{contains_in, in_contains}
use Rattle.round_core.proofs.laws.wait_laws.Goals as goal

pub returns-clause-opens : goal.returns-clause-opens
returns-clause-opens c =
    let laws : Below = record {
      sets = record { excludes = c.within_laws.ensures.excludes; either = c.join_laws.ensures.either };
      answer_grows = c.build_laws.ensures.answer;
      keys_grow = c.build_laws.ensures.keys;
      answer_reads = c.read_laws.ensures.answer;
      keys_read = c.read_laws.ensures.keys;
      needed = c.answer_laws.ensures.needed;
      some = c.answer_laws.ensures.some;
      listing_grows = c.listing_laws.ensures;
    } in
    λ known ask key h n. in_contains key (needs_in (rounds_of known ask))
    (opens.reads_needed (same_key c.equality_decided.ensures.keys) laws known ask key
    (contains_in key (reads_of known ask) h) n)

pub returns-clause-unknown : goal.returns-clause-unknown
returns-clause-unknown c =
    let laws : Below = record {
      sets = record { excludes = c.within_laws.ensures.excludes; either = c.join_laws.ensures.either };
      answer_grows = c.build_laws.ensures.answer;
      keys_grow = c.build_laws.ensures.keys;
      answer_reads = c.read_laws.ensures.answer;
      keys_read = c.read_laws.ensures.keys;
      needed = c.answer_laws.ensures.needed;
      some = c.answer_laws.ensures.some;
      listing_grows = c.listing_laws.ensures;
    } in
    λ known ask key h.
    (opens.needs_read (same_key c.equality_decided.ensures.keys) laws known ask key
    (contains_in key (needs_in (rounds_of known ask)) h)).1

pub returns-clause-read : goal.returns-clause-read
returns-clause-read c =
    let laws : Below = record {
      sets = record { excludes = c.within_laws.ensures.excludes; either = c.join_laws.ensures.either };
      answer_grows = c.build_laws.ensures.answer;
      keys_grow = c.build_laws.ensures.keys;
      answer_reads = c.read_laws.ensures.answer;
      keys_read = c.read_laws.ensures.keys;
      needed = c.answer_laws.ensures.needed;
      some = c.answer_laws.ensures.some;
      listing_grows = c.listing_laws.ensures;
    } in
    λ known ask key h. in_contains key (reads_of known ask)
    (opens.needs_read (same_key c.equality_decided.ensures.keys) laws known ask key
    (contains_in key (needs_in (rounds_of known ask)) h)).0

pub returns-clause-some : goal.returns-clause-some
returns-clause-some c =
    let laws : Below = record {
      sets = record { excludes = c.within_laws.ensures.excludes; either = c.join_laws.ensures.either };
      answer_grows = c.build_laws.ensures.answer;
      keys_grow = c.build_laws.ensures.keys;
      answer_reads = c.read_laws.ensures.answer;
      keys_read = c.read_laws.ensures.keys;
      needed = c.answer_laws.ensures.needed;
      some = c.answer_laws.ensures.some;
      listing_grows = c.listing_laws.ensures;
    } in
    λ known ask round choices needs h. opens.rounds_some
    (same_key c.equality_decided.ensures.keys) laws known ask round choices needs h

pub returns-clause-known : goal.returns-clause-known
returns-clause-known c =
    let laws : Below = record {
      sets = record { excludes = c.within_laws.ensures.excludes; either = c.join_laws.ensures.either };
      answer_grows = c.build_laws.ensures.answer;
      keys_grow = c.build_laws.ensures.keys;
      answer_reads = c.read_laws.ensures.answer;
      keys_read = c.read_laws.ensures.keys;
      needed = c.answer_laws.ensures.needed;
      some = c.answer_laws.ensures.some;
      listing_grows = c.listing_laws.ensures;
    } in
    λ known ask key over h n. opens.over_known (same_key c.equality_decided.ensures.keys) laws known ask key over
    (contains_in key (reads_of known ask) h) n

pub returns-clause-over : goal.returns-clause-over
returns-clause-over c =
    let laws : Below = record {
      sets = record { excludes = c.within_laws.ensures.excludes; either = c.join_laws.ensures.either };
      answer_grows = c.build_laws.ensures.answer;
      keys_grow = c.build_laws.ensures.keys;
      answer_reads = c.read_laws.ensures.answer;
      keys_read = c.read_laws.ensures.keys;
      needed = c.answer_laws.ensures.needed;
      some = c.answer_laws.ensures.some;
      listing_grows = c.listing_laws.ensures;
    } in
    λ known ask all. opens.known_over (same_key c.equality_decided.ensures.keys) laws known ask
    (λ key h n. all key (in_contains key (reads_of known ask) h) n)
