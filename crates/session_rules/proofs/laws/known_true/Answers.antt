use Rattle.std.proofs.Common.{subst, sym}
use Rattle.claim_rules.specs.Histories.{History, known_in}
use Rattle.res_base.specs.Known.{Grows}
use Rattle.session_rules.proofs.laws.known_true.Goals as goal

pub returns : goal.returns
returns g c r old new before now finish all served stays =
    stays (subst (λ (h : History). Grows (known_in h) all) (sym served.first) (λ key reading e. cc))
