use Rattle.std.proofs.Common.{◌≡◌, fold}
use Rattle.pom_build.specs.Imports.{with_key}
use Rattle.pom_build.proofs.key_list.KeyList.with_keys.Given as goal

abbrev pub invariant-loop-key : goal.invariant-loop-key
invariant-loop-key l = l.made ≡ fold with_key l.fn.self l.yielded
