-- The rounds of an ask, as the rules of claims see them.
use Rattle.claim_rules.specs.Resolvers.{Standing, waiting, given, Resolver}
use Rattle.resolution.specs.declared.ask.Ask.{Ask}
use Rattle.resolution.specs.declared.progress.Progress.{Progress}
use Rattle.resolution.specs.declared.progress.Progress.TheVariants.{Waiting, Over}
use Rattle.resolution.specs.declared.verdict.Verdict.{Verdict}
use Rattle.round_core.specs.Reads.{files_if, reads_of}
use Rattle.round_core.specs.Rounds.{rounds_of}

abbrev pub standing_of : Progress → Standing Verdict
standing_of (Waiting round choices needs) = waiting needs
standing_of (Over verdict) = given verdict

-- where files are wanted, a verdict wants its artifacts
unfoldable pub resolver_of : Ask → Resolver Verdict
resolver_of ask =
    record {
      rounds = λ known. standing_of (rounds_of known ask);
      reads = λ known. reads_of known ask;
      files = λ verdict. files_if ask.files verdict;
    }
