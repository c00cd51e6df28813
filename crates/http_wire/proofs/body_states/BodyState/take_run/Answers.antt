use Rattle.std.proofs.Common.{◌++◌, sym, ap, ◌∙◌, arith, append_assoc, drop, take, length}
use Rattle.http_wire.specs.declared.body_places.BodyPlace.TheVariants.{Refused}
use Rattle.http_wire.specs.declared.replies.ReplyErr.TheVariants.{BodyTooLong}
use Rattle.http_wire.proofs.Runs.{refused_after, refused_of, taken_after, taken_of, no_room_after, no_room_of, at}
use Rattle.http_wire.proofs.body_states.BodyState.take_run.Goals as goal

pub returns-then-self-eq0-clause-after : goal.returns-then-self-eq0-clause-after
returns-then-self-eq0-clause-after c =
    let body = c.args.self.now in
    let xs = c.args.piece.now in
    refused_after BodyTooLong body.room (drop (length xs) xs)
    ∙ ap (λ k. at (Refused BodyTooLong) k) c.if-self-eq0.true
    ∙ sym (no_room_after body xs c.if-self-eq0.true c.requires.in_file c.requires.bytes)

pub returns-then-self-eq0-clause-given : goal.returns-then-self-eq0-clause-given
returns-then-self-eq0-clause-given c =
    let body = c.args.self.now in
    let xs = c.args.piece.now in
    ap (λ more. c.args.into.now.items ++ more)
    (refused_of BodyTooLong body.room (drop (length xs) xs)
    ∙ sym (no_room_of body xs c.if-self-eq0.true c.requires.in_file c.requires.bytes))

pub returns-clause-after : goal.returns-clause-after
returns-clause-after c =
    rw c.after_content-self.ensures.value
    (taken_after c.args.self.now c.args.run c.min-count.result c.args.piece.now c.requires.range c.requires.runs
    (omega (arith, c.min.ensures, c.min-count.ensures)) (omega (arith, c.min.ensures, c.min-count.ensures)) (omega
    (arith, c.min-count.ensures)))

pub returns-clause-given : goal.returns-clause-given
returns-clause-given c =
    rw (c.after_content-self.ensures.value, c.in_ok-extend_from_slice.ensures.items)
    (append_assoc c.args.into.now.items (take c.min-count.result c.args.piece.now) _
    ∙ ap (λ more. c.args.into.now.items ++ more)
    (taken_of c.args.self.now c.args.run c.min-count.result c.args.piece.now c.requires.range c.requires.runs
    (omega (arith, c.min.ensures, c.min-count.ensures)) (omega (arith, c.min.ensures, c.min-count.ensures)) (omega
    (arith, c.min-count.ensures))))
