use Rattle.std.proofs.Common.{◌≡◌, ◌∷◌, codes, map, take, string_bytes}
use Rattle.project_cases.specs.Reasons.{reason_line}
use Rattle.project_cases.proofs.lookups.not_found_line.Given as goal

abbrev pub invariant-loop-reason : goal.invariant-loop-reason
invariant-loop-reason l = map string_bytes l.words.items ≡ codes "not-found" ∷ map reason_line (take l.reason-index l.reasons)
