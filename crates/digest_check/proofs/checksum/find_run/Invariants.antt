use Rattle.std.proofs.Common.{◌≡◌, ◌≤◌, true, drop}
use Rattle.std.specs.List.{list_all}
use Rattle.std.specs.Prelude.{slice_range}
use Rattle.ascii_bytes.specs.Classes.{is_hex_digit}
use Rattle.digest_check.specs.ChecksumFiles.{first_run}
use Rattle.digest_check.proofs.checksum.find_run.Given as goal

abbrev pub invariant-loop-i : goal.invariant-loop-i
invariant-loop-i l = (l.start ≤ l.i) × (list_all is_hex_digit (slice_range l.bytes l.start l.i) ≡ true)
    × (first_run l.len (drop l.start l.bytes) ≡ first_run l.len l.bytes)
