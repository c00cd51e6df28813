use Rattle.std.proofs.Common.{◌≡◌, ◌++◌, ◌-◌, take, replicate}
use Rattle.disk_base.proofs.crash.shown_by.Given as goal

abbrev pub invariant-loop-i : goal.invariant-loop-i
invariant-loop-i l = l.shown ≡ take l.firm l.content.bytes ++ replicate (l._i - l.firm) 0
