use Rattle.std.proofs.Common.{ap, subst, sym, ◌∙◌}
use Rattle.exclusion_sets.specs.Minimal.{IsMinimal, unless_covered}
use Rattle.exclusion_sets.proofs.Minimal.{minimal_after}
use Rattle.exclusion_sets.proofs.antichain.Antichain.add.Goals as goal

pub returns-in-None-clause-minimal : goal.returns-in-None-clause-minimal
returns-in-None-clause-minimal c =
    λ minimal. subst IsMinimal (ap (λ place. unless_covered place c.args.self.now.sets c.args.set) (sym c.place_within.ensures ∙ c.in-None.is) ∙ sym c.put.ensures) (minimal_after c.args.self.now.sets c.args.set minimal)
