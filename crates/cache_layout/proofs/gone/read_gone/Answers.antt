use Rattle.std.proofs.Common.{◌+◌, refl, subst, sym}
use Rattle.fault_place.specs.Place.{IsPlace}
use Rattle.fault_place.specs.Reader.{Accepts}
use Rattle.cache_layout.specs.Lines.{IsGoneLine}
use Rattle.cache_layout.proofs.Heads.{gone_line, leaves_gone, leaves_gone_head}
use Rattle.cache_layout.proofs.LineLaws.{back_gone, no_gone_outside}
use Rattle.cache_layout.proofs.gone.read_gone.Goals as goal

pub returns-in-None-clause-refused : goal.returns-in-None-clause-refused
returns-in-None-clause-refused c = subst (IsPlace (Accepts IsGoneLine) c.args.bytes.now) (sym c.common.ensures)
    (leaves_gone_head c.args.bytes.now (λ rest. c.in-None.ensures.none rest))

pub returns-in-None-clause-none : goal.returns-in-None-clause-none
returns-in-None-clause-none c = no_gone_outside c.args.bytes.now
    (leaves_gone_head c.args.bytes.now (λ rest. c.in-None.ensures.none rest)).outside

pub returns-in-Ok-clause-read : goal.returns-in-Ok-clause-read
returns-in-Ok-clause-read c =
    gone_line c.args.bytes.now c.in-Some.rest.now c.in-Ok.moment c.in-Some.ensures.rest c.in-Ok.ensures.read

pub returns-in-Ok-clause-value : goal.returns-in-Ok-clause-value
returns-in-Ok-clause-value c = back_gone c.args.bytes.now c.in-Ok.moment
    (gone_line c.args.bytes.now c.in-Some.rest.now c.in-Ok.moment c.in-Some.ensures.rest c.in-Ok.ensures.read)

pub returns-in-Err-clause-refused : goal.returns-in-Err-clause-refused
returns-in-Err-clause-refused c = leaves_gone c.args.bytes.now c.in-Some.rest.now c.in-Err.place (15 + c.in-Err.place)
    c.in-Some.ensures.rest refl c.in-Err.ensures.refused

pub returns-in-Err-clause-none : goal.returns-in-Err-clause-none
returns-in-Err-clause-none c = no_gone_outside c.args.bytes.now
    (leaves_gone c.args.bytes.now c.in-Some.rest.now c.in-Err.place (15 + c.in-Err.place)
    c.in-Some.ensures.rest refl c.in-Err.ensures.refused).outside
