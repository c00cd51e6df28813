use Rattle.std.proofs.Common.{◌++◌, ◌∙◌}
use Rattle.line_streams.proofs.Gains.{one_more, went_on, some_of}
use Rattle.line_streams.proofs.sinks.put_lines.Goals as goal

pub returns-in-Err-clause-part : goal.returns-in-Err-clause-part
returns-in-Err-clause-part g c =
    let inv = c.loop-left.invariant.sent in
    some_of _ _ _ _ inv.0 _ _ inv.2 (one_more _ inv.0 _ _ _ inv.1 c.first_line.ensures.whole) c.in-Err.ensures.part

pub loop-left-preserved : goal.loop-left-preserved
loop-left-preserved g c =
    let inv = c.loop-left.invariant.sent in
    record {
      later = c.in-Ok.ensures.cause.quiet (λ e. let never : ⊥ = cc in never) ∙ c.loop-left.invariant.later;
      sent = (inv.0 ++ c.first_line.result.0.now, one_more _ inv.0 _ _ _ inv.1 c.first_line.ensures.whole, went_on _ _ _ inv.0 _ inv.2 c.in-Ok.ensures.went);
    }
