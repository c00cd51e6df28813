use Rattle.std.proofs.Common.{◌≡◌, ◌+◌, ◌≤◌, ◌∷◌, ◌++◌, [], Some, arith, sym, ◌∙◌, ap, subst, length, length-append, rules}
use Rattle.std.proofs.lemmas.List.{append-nil}
use Rattle.std.specs.BTreeMap.{btree_map_len, get}
use Rattle.std.specs.Prelude.{vec_capacity}
use Rattle.claim_log.specs.Kept.{IsKept}
use Rattle.claim_log.specs.Logs.{Log, then_by}
use Rattle.claim_log.specs.Told.{entry, history_of}
use Rattle.claim_log.specs.declared.event.EventKind.TheVariants.{GiveBack}
use Rattle.claim_log.proofs.Keeping.{return_keeps}
use Rattle.claim_log.proofs.Telling.{Tells, tells_more}
use Rattle.claim_rules.specs.Histories.{give_back, holder, History}
use Rattle.res_base.specs.Names.{key_cmp}
use Rattle.claim_log.proofs.log.ClaimLog.give_back.Goals as goal

abbrev before : (c : goal.After-put_last) → History
before c = history_of c.self.inside.events.items c.self.inside.known.pairs

own : (c : goal.After-put_last) → holder (before c) c.args.key.now ≡ Some c.args.seat
own c =
    let held : get key_cmp c.self.inside.flights c.args.key.now ≡ Some c.args.seat = search rules in
    sym (c.self.invariant.2.held c.args.key.now) ∙ held

tells : (c : goal.After-put_last)
    → Tells (before c) (entry c.args.seat (give_back c.args.key.now)) c.put_last.new.events.items c.self.inside.known.pairs
tells c =
    tells_more (before c) (entry c.args.seat (give_back c.args.key.now)) c.self.inside.events.items
    c.put_last.new.events.items c.self.inside.known.pairs c.self.inside.known.pairs c.self.invariant.1
    (c.put_last.ensures.items
    ∙ ap (λ k. c.self.inside.events.items ++ record { seat = c.args.seat; kind = GiveBack k } ∷ []) c.land-own.ensures.value)
    (sym (append-nil c.self.inside.known.pairs))

keeps : (c : goal.After-put_last) → IsKept c.self.inside.known.repos
    (before c ++ entry c.args.seat (give_back c.args.key.now) ∷ []) c.land-own.new.flights c.self.inside.tallies c.self.inside.claims
keeps c =
    return_keeps c.equality_decided.ensures.keys c.self.inside.known.repos (before c) c.self.inside.flights
    c.self.inside.tallies c.self.inside.claims c.self.invariant.2 c.args.seat c.args.key.now c.land-own.new.flights (own c)
    c.land-own.ensures.updates

pub invariant_of-self : goal.invariant_of-self
invariant_of-self c =
    let one_more = simp length-append at (ap length c.put_last.ensures.items) in
    let room : length c.put_last.new.events.items + btree_map_len c.land-own.new.flights ≤ vec_capacity c.put_last.new.events =
    omega (arith, c.self.invariant.0, one_more, c.land-own.ensures.len, c.put_last.ensures.capacity) in (
      room,
      (tells c).are,
      subst (λ h. IsKept c.self.inside.known.repos h c.land-own.new.flights c.self.inside.tallies c.self.inside.claims)
          (sym (tells c).now) (keeps c),
    )

pub returns-clause-ok : goal.returns-clause-ok
returns-clause-ok c =
    ap (λ h. record { repos = c.self.inside.known.repos; history = h }) (tells c).now
    ∙ ap (λ (log : Log). then_by log c.args.seat (give_back c.args.key.now)) c.self.view_is
