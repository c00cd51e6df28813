use Rattle.std.proofs.Common.{None, subst, sym}
use Rattle.std.specs.Prelude.{IfErr, IfOk}
use Rattle.fault_place.specs.Place.{IsPlace}
use Rattle.fault_place.specs.Reader.{Accepts}
use Rattle.cache_layout.specs.Fields.{IsEndText}
use Rattle.cache_layout.proofs.Tailed.{ends_of, first_is, first_place}
use Rattle.cache_layout.proofs.record_lines.read_ends.Goals as goal

pub returns-in-Ok-clause-read : goal.returns-in-Ok-clause-read
returns-in-Ok-clause-read c = subst (λ b. IsEndText b c.args.text.now (ends_of None c.in-Ok.times))
    (sym c.if-second.false) (first_is c.args.text.now c.in-Ok.times c.in-Ok.ensures.read)

pub returns-in-Err-clause-refused : goal.returns-in-Err-clause-refused
returns-in-Err-clause-refused c = subst (λ b. IsPlace (Accepts (IsEndText b)) c.args.text.now c.in-Err.place)
    (sym c.if-second.false) (first_place c.args.text.now c.in-Err.place c.in-Err.ensures.refused)

pub returns-then-second-clause-read : goal.returns-then-second-clause-read
returns-then-second-clause-read c = subst (λ b. IfOk c.read_sha256.result (IsEndText b c.args.text.now))
    (sym c.if-second.true) c.read_sha256.ensures.read

pub returns-then-second-clause-refused : goal.returns-then-second-clause-refused
returns-then-second-clause-refused c =
    subst (λ b. IfErr c.read_sha256.result (IsPlace (Accepts (IsEndText b)) c.args.text.now)) (sym c.if-second.true)
    c.read_sha256.ensures.refused
