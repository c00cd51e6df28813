-- What a wire carries.
use Rattle.std.specs.Prelude.{ℕ, ◌≡◌, ◌≤◌, ◌<◌, ◌+◌, [], ◌++◌, Option, Some, None, length, take, drop, Result, Ok, Err, OnOk, OnErr}
use Rattle.std.specs.Option.{option_map}
use Rattle.res_base.specs.Causes.{Rose}
use Rattle.http_wire.specs.Fields.{Bytes}
use Rattle.http_link.specs.declared.wire.Connection.{Connection}
use Rattle.http_link.specs.declared.wire.Failed.{Failed}

-- a count of faults in a call: it rose where the call failed, and otherwise is as before
pub record HasWireCause {T E : Type 0} (before now : ℕ) (result : Result T E) : Type 0 where
  pub later : before ≤ now
  pub failed : OnErr result (Rose before now)
  pub quiet : OnOk result (now ≡ before)

-- the connection after a call to connect
abbrev pub connected : Bytes → Result (Unit {0}) Failed → Option Connection
connected authority (Ok u) = Some (record { authority = authority; sent = []; received = 0 })
connected authority (Err e) = None

abbrev pub with_sent : Bytes → Connection → Connection
with_sent bytes at = record { authority = at.authority; sent = at.sent ++ bytes; received = at.received }

-- after a call to send
abbrev pub sent_after : Option Connection → Bytes → Result (Unit {0}) Failed → Option Connection
sent_after at bytes (Ok u) = option_map (with_sent bytes) at
sent_after at bytes (Err e) = None

abbrev pub with_received : ℕ → Connection → Connection
with_received n at = record { authority = at.authority; sent = at.sent; received = at.received + n }

-- after a call to receive
abbrev pub received_after : Option Connection → Result ℕ Failed → Option Connection
received_after at (Ok n) = option_map (with_received n) at
received_after at (Err e) = None

-- the first n bytes of a buffer are the next ones of a reply; none only at its end or without room
pub record IsReceived (reply : Bytes) (received : ℕ) (room : Bytes) (n : ℕ) : Type 0 where
  pub next : take n room ≡ take n (drop received reply)
  pub within : received + n ≤ length reply
  pub end : n ≡ 0 → 0 < length room → received ≡ length reply
