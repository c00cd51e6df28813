use Rattle.std.proofs.Common.{◌≡◌, replicate}
use Rattle.res_base.specs.declared.reading.Reason.TheVariants.{BadName}
use Rattle.project_lookup.proofs.looks.bad_names.Given as goal

abbrev pub invariant-loop-repo : goal.invariant-loop-repo
invariant-loop-repo l = l.reasons ≡ replicate l._repo BadName
