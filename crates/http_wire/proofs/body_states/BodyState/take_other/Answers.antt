use Rattle.std.proofs.Common.{sym, ◌∙◌, drop, length}
use Rattle.http_wire.proofs.Runs.{settled_after, settled_of}
use Rattle.http_wire.proofs.body_states.BodyState.take_other.Goals as goal

pub returns-then-is_final-clause-after : goal.returns-then-is_final-clause-after
returns-then-is_final-clause-after c =
    let at_end = sym c.is_final.ensures ∙ c.if-is_final.true in
    let xs = c.args.piece.now in
    settled_after c.args.self.now (drop (length xs) xs) at_end ∙ sym (settled_after c.args.self.now xs at_end)

pub returns-then-is_final-clause-given : goal.returns-then-is_final-clause-given
returns-then-is_final-clause-given c =
    let at_end = sym c.is_final.ensures ∙ c.if-is_final.true in
    let xs = c.args.piece.now in
    settled_of c.args.self.now (drop (length xs) xs) at_end ∙ sym (settled_of c.args.self.now xs at_end)
