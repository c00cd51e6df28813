use Rattle.std.proofs.Common.{List, arith, refl, sym, ap, subst, true≢false}
use Rattle.arrival_core.proofs.Standing.{none_last}
use Rattle.arrival_core.specs.Kept.{Chosen}
use Rattle.claim_rules.specs.Histories.{known_in}
use Rattle.resolution.specs.declared.choices.ChoiceRow.{ChoiceRow}
use Rattle.round_core.specs.Earlier.{AreLasting}
use Rattle.round_core.specs.Endings.{Waited}
use Rattle.round_core.specs.Rounds.{begun}
use Rattle.arrival_core.specs.Resolving.{resolver_of}
use Rattle.claim_log.specs.Logs.{Log}
use Rattle.claim_rules.specs.Legal.{Legal}
use Rattle.arrival_core.proofs.claim_core.Core.new.Goals as goal

pub invariant_of-result : goal.invariant_of-result
invariant_of-result c =
    record {
      repos = refl;
      log_repos = ap (λ (log : Log). log.repos) c.new-log.ensures;
      legal = subst (λ (log : Log). Legal (record { repos = c.args.ask.repos; eager = c.args.eager; retries = c.args.retries; limits = c.args.limits }) (resolver_of c.args.ask) log.history) (sym c.new-log.ensures) tt;
      stood = (subst (λ (rows : List ChoiceRow). Waited (known_in c.new-log.result.history) c.args.ask 0 rows) (sym c.new.ensures) (record { did = begun; few = omega arith }), subst (λ (built : List Chosen). AreLasting (known_in c.new-log.result.history) c.args.ask.repos built) (sym c.none.ensures) (none_last (known_in c.new-log.result.history) c.args.ask.repos));
      scratch = λ up. absurd (true≢false (sym up));
      agenda = λ up. absurd (true≢false (sym up));
    }
