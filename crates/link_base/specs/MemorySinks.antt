-- What a sink in memory holds.
use Rattle.std.specs.Prelude.{ℕ, List, Option, Some}
use Rattle.link_base.specs.declared.memory_calls.Calls.{Calls}
use Rattle.link_base.specs.declared.memory_sink.MemSink.{MemSink}

-- which of its calls are to fail, how many it had, and how many failed
abbrev pub calls_of : MemSink → Calls
calls_of sink = sink.calls

abbrev pub written_of : MemSink → Option (List ℕ)
written_of sink = Some sink.bytes.items
