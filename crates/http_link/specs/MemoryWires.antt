-- The connection of a wire in memory.
use Rattle.std.specs.Prelude.{Bool, true, false, Option, Some, None, string_bytes}
use Rattle.http_link.specs.declared.memory_wire.MemWire.{MemWire}
use Rattle.http_link.specs.declared.wire.Connection.{Connection}

abbrev pub if_connected : Bool → Connection → Option Connection
if_connected true connection = Some connection
if_connected false connection = None

abbrev pub connection_of : MemWire → Option Connection
connection_of wire =
    if_connected wire.connected (record {
      authority = string_bytes wire.authority;
      sent = wire.sent.items;
      received =
          wire.received;
    })
