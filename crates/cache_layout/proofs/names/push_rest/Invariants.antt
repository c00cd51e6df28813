use Rattle.std.proofs.Common.{◌≡◌, ◌++◌, take}
use Rattle.std.specs.Prelude.{string_bytes}
use Rattle.cache_layout.specs.Names.{escaped}
use Rattle.cache_layout.proofs.names.push_rest.Given as goal

abbrev pub invariant-loop-byte : goal.invariant-loop-byte
invariant-loop-byte l = string_bytes l.name ≡ string_bytes l.fn.name ++ escaped (take l.byte-index l.text)
