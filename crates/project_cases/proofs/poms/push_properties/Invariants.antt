use Rattle.std.proofs.Common.{◌≡◌, ◌++◌, map, take, string_bytes}
use Rattle.project_cases.specs.Poms.{property_word}
use Rattle.project_cases.proofs.poms.push_properties.Given as goal

abbrev pub invariant-loop-property : goal.invariant-loop-property
invariant-loop-property l = map string_bytes l.words.items ≡ map string_bytes l.initial.words.items ++ map property_word (take l.property-index l.properties)
