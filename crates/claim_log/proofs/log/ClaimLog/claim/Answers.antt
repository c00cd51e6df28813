use Rattle.std.proofs.Common.{◌+◌, ◌≤◌, ◌<◌, ◌∷◌, ◌++◌, [], arith, sym, ◌∙◌, ap, subst, length, length-append}
use Rattle.std.proofs.lemmas.List.{append-nil}
use Rattle.std.specs.BTreeMap.{btree_map_len}
use Rattle.std.specs.Prelude.{vec_capacity}
use Rattle.claim_log.specs.Kept.{IsKept}
use Rattle.claim_log.specs.Logs.{Log, then_by}
use Rattle.claim_log.specs.Told.{entry, history_of}
use Rattle.std.proofs.lemmas.List.Sums.{count_by-le-length}
use Rattle.claim_log.specs.declared.event.EventKind.TheVariants.{Claim}
use Rattle.claim_log.proofs.Keeping.{claim_keeps}
use Rattle.claim_log.proofs.Telling.{Tells, as_many, tells_more}
use Rattle.claim_rules.specs.Counts.{is_claim}
use Rattle.claim_rules.specs.Histories.{claim, Entry, History, known_in}
use Rattle.claim_log.proofs.log.ClaimLog.claim.Goals as goal

abbrev before : (c : goal.After-put_last) → History
before c = history_of c.self.inside.events.items c.self.inside.known.pairs

tells : (c : goal.After-put_last)
    → Tells (before c) (entry c.args.seat (claim c.args.key.now)) c.put_last.new.events.items c.self.inside.known.pairs
tells c =
    tells_more (before c) (entry c.args.seat (claim c.args.key.now)) c.self.inside.events.items
    c.put_last.new.events.items c.self.inside.known.pairs c.self.inside.known.pairs c.self.invariant.1
    (c.put_last.ensures.items
    ∙ ap (λ items. items ++ record { seat = c.args.seat; kind = Claim c.in_ok-copied.copied } ∷ []) c.make_room.ensures.events
    ∙ ap (λ k. c.self.inside.events.items ++ record { seat = c.args.seat; kind = Claim k } ∷ []) c.in_ok-copied.ensures.copied)
    (sym (append-nil c.self.inside.known.pairs))

keeps : (c : goal.After-put_last) → IsKept c.self.inside.known.repos
    (before c ++ entry c.args.seat (claim c.args.key.now) ∷ []) c.make_room.new.flights c.make_room.new.tallies
    (c.self.inside.claims + 1)
keeps c =
    claim_keeps c.equality_decided.ensures.keys c.self.inside.known.repos (before c) c.self.inside.flights
    c.self.inside.tallies c.self.inside.claims c.self.invariant.2 c.args.seat c.args.key.now c.make_room.new.flights
    c.make_room.new.tallies c.in_ok-copied.ensures.flights c.make_room.ensures.rows c.in_ok-copied.ensures.row
    (subst (λ n. c.args.key.now.repo < n) (sym (ap (λ (log : Log). log.repos) c.self.view_is)) c.requires.repo)
    (ap (λ (log : Log). known_in log.history c.args.key.now) c.self.view_is ∙ c.requires.unknown)

-- there are at most as many claims as events
pub overflow_add-self : goal.overflow_add-self
overflow_add-self c =
    let h = history_of c.self.inside.events.items c.self.inside.known.pairs in
    let events = c.self.inside.events in
    omega (
      arith,
      c.self.invariant.2.claimed,
      count_by-le-length (λ (e : Entry). is_claim e.what) h,
      as_many h events.items c.self.inside.known.pairs c.self.invariant.1,
      events.ok.0,
      events.ok.1,
      events.small,
    )

pub invariant_of-self-2 : goal.invariant_of-self-2
invariant_of-self-2 c =
    let one_more = simp length-append at (ap length c.put_last.ensures.items) in
    let room : length c.put_last.new.events.items + btree_map_len c.make_room.new.flights ≤ vec_capacity c.put_last.new.events =
    omega (arith, one_more, c.in_ok-copied.ensures.room, c.put_last.ensures.capacity) in (
      room,
      (tells c).are,
      subst (λ h. IsKept c.self.inside.known.repos h c.make_room.new.flights c.make_room.new.tallies (c.self.inside.claims + 1))
          (sym (tells c).now) (keeps c),
    )

pub returns-clause-ok : goal.returns-clause-ok
returns-clause-ok c =
    ap (λ h. record { repos = c.self.inside.known.repos; history = h }) (tells c).now
    ∙ ap (λ (log : Log). then_by log c.args.seat (claim c.args.key.now)) c.self.view_is
