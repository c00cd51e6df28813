use Rattle.std.proofs.Common.{◌≡◌, length, take, map}
use Rattle.std.specs.Char.{to_ascii_lowercase}
use Rattle.pom_text.proofs.tables.known.Given as goal

abbrev pub invariant-loop-i : goal.invariant-loop-i
invariant-loop-i l = (length l.lowered ≡ 10) × (take l.i l.lowered ≡ map to_ascii_lowercase (take l.i l.name))
