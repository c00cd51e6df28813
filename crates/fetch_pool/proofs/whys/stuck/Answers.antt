use Rattle.std.proofs.Common.{◌≡◌, None, sym, subst, ◌∙◌, true≢false}
use Rattle.std.specs.Prelude.{IsSome}
use Rattle.arrival_core.specs.Resolving.{resolver_of}
use Rattle.claim_rules.specs.Claims.{IsAnswer, IsStuck}
use Rattle.claim_rules.specs.Histories.{known_in}
use Rattle.claim_rules.specs.Sessions.{needs}
use Rattle.fetch_pool.proofs.Telling.{broken_why}
use Rattle.pool_rules.specs.Ends.{last_why}
use Rattle.fetch_pool.proofs.whys.stuck.Goals as goal

pub unreachable-requires : goal.unreachable-requires
unreachable-requires c =
    let h = c.args.core.now.history in
    let s = c.args.core.now.settings in
    let r = resolver_of c.args.core.now.ask in
    let key = c.args.key in
    let stuck : IsStuck s r h key = subst (λ a. IsAnswer s r h a) c.requires.answer (c.claim_answers.ensures.says s r h) in
    let some : IsSome (last_why h key) =
    broken_why s.retries h key (stuck.broken key (c.least_keys.ensures.among (needs r (known_in h)) key stuck.first)) in
    let none : last_why h key ≡ None = sym (c.last_why.ensures h c.events.ensures.value) ∙ c.in-None.is in
    true≢false (sym (subst (λ o. IsSome o) none some))
