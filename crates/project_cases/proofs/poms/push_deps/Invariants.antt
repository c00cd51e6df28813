use Rattle.std.proofs.Common.{◌≡◌, ◌++◌, map, take, string_bytes}
use Rattle.project_cases.specs.Poms.{dep_words}
use Rattle.project_cases.proofs.poms.push_deps.Given as goal

abbrev pub invariant-loop-dep : goal.invariant-loop-dep
invariant-loop-dep l = map string_bytes l.words.items ≡ map string_bytes l.initial.words.items ++ dep_words l.label (take l.dep-index l.deps)
