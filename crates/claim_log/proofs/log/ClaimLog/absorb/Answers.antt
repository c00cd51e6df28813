use Rattle.std.proofs.Common.{◌≡◌, ◌+◌, ◌≤◌, ◌∷◌, ◌++◌, [], Some, arith, sym, ◌∙◌, ap, subst, length, length-append, rules}
use Rattle.std.specs.BTreeMap.{btree_map_len, get}
use Rattle.std.specs.Prelude.{vec_capacity}
use Rattle.claim_log.specs.Kept.{IsKept}
use Rattle.claim_log.specs.Logs.{Log, then_by}
use Rattle.claim_log.specs.Told.{entry, history_of}
use Rattle.std.specs.Option.{is_some}
use Rattle.claim_log.specs.declared.event.EventKind.TheVariants.{Arrive}
use Rattle.claim_log.proofs.Keeping.{arrive_keeps}
use Rattle.claim_log.proofs.Telling.{Tells, tells_more}
use Rattle.claim_rules.specs.Histories.{arrive, holder, History}
use Rattle.project_lookup.specs.KnownPairs.{KnownPairs}
use Rattle.res_base.specs.Names.{key_cmp}
use Rattle.claim_log.proofs.log.ClaimLog.absorb.Goals as goal

-- only keys of the repositories are claimed
pub put_known-requires-clause-repo : goal.put_known-requires-clause-repo
put_known-requires-clause-repo c =
    let held : get key_cmp c.self.inside.flights c.args.key.now ≡ Some c.args.seat = search rules in
    c.self.invariant.2.listed c.args.key.now (ap is_some (sym (c.self.invariant.2.held c.args.key.now) ∙ held))

abbrev before : (c : goal.After-put_last) → History
before c = history_of c.self.inside.events.items c.self.inside.known.pairs

own : (c : goal.After-put_last) → holder (before c) c.args.key.now ≡ Some c.args.seat
own c =
    let held : get key_cmp c.self.inside.flights c.args.key.now ≡ Some c.args.seat = search rules in
    sym (c.self.invariant.2.held c.args.key.now) ∙ held

known : (c : goal.After-put_last) → c.put_known.new.known
    ≡ record { repos = c.self.inside.known.repos; pairs = c.self.inside.known.pairs ++ (c.args.key.now, c.args.reading) ∷ [] }
known c = c.in-Ok.ensures.ok

tells : (c : goal.After-put_last) → Tells (before c) (entry c.args.seat (arrive c.args.key.now c.args.reading))
    c.put_last.new.events.items c.put_known.new.known.pairs
tells c =
    tells_more (before c) (entry c.args.seat (arrive c.args.key.now c.args.reading)) c.self.inside.events.items
    c.put_last.new.events.items c.self.inside.known.pairs c.put_known.new.known.pairs c.self.invariant.1
    (c.put_last.ensures.items
    ∙ ap (λ k. c.self.inside.events.items ++ record { seat = c.args.seat; kind = Arrive k c.len-place.result } ∷ []) c.land-own.ensures.value
    ∙ ap (λ n. c.self.inside.events.items ++ record { seat = c.args.seat; kind = Arrive c.args.key.now n } ∷ []) c.len-place.ensures.value)
    (ap (λ (k : KnownPairs). k.pairs) (known c))

keeps : (c : goal.After-put_last) → IsKept c.self.inside.known.repos
    (before c ++ entry c.args.seat (arrive c.args.key.now c.args.reading) ∷ []) c.land-own.new.flights c.self.inside.tallies
    c.self.inside.claims
keeps c =
    arrive_keeps c.equality_decided.ensures.keys c.self.inside.known.repos (before c) c.self.inside.flights
    c.self.inside.tallies c.self.inside.claims c.self.invariant.2 c.args.seat c.args.key.now c.args.reading
    c.land-own.new.flights (own c) c.land-own.ensures.updates

repos : (c : goal.After-put_last) → c.put_known.new.known.repos ≡ c.self.inside.known.repos
repos c = ap (λ (k : KnownPairs). k.repos) (known c)

pub invariant_of-self-in-Ok : goal.invariant_of-self-in-Ok
invariant_of-self-in-Ok c =
    let one_more = simp length-append at (ap length c.put_last.ensures.items) in
    let room : length c.put_last.new.events.items + btree_map_len c.land-own.new.flights ≤ vec_capacity c.put_last.new.events =
    omega (arith, c.self.invariant.0, one_more, c.land-own.ensures.len, c.put_last.ensures.capacity) in (
      room,
      (tells c).are,
      subst (λ n. IsKept n (history_of c.put_last.new.events.items c.put_known.new.known.pairs) c.land-own.new.flights c.self.inside.tallies c.self.inside.claims)
          (sym (repos c))
          (subst (λ h. IsKept c.self.inside.known.repos h c.land-own.new.flights c.self.inside.tallies c.self.inside.claims)
          (sym (tells c).now) (keeps c)),
    )

pub returns-in-Ok-clause-ok : goal.returns-in-Ok-clause-ok
returns-in-Ok-clause-ok c =
    ap (λ n. record { repos = n; history = history_of c.put_last.new.events.items c.put_known.new.known.pairs }) (repos c)
    ∙ ap (λ h. record { repos = c.self.inside.known.repos; history = h }) (tells c).now
    ∙ ap (λ (log : Log). then_by log c.args.seat (arrive c.args.key.now c.args.reading)) c.self.view_is
