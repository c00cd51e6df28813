use Rattle.std.proofs.Common.{◌≡◌, Some, refl, sym, ◌∙◌, ap}
use Rattle.fault_place.specs.Reader.{reads}
use Rattle.ascii_bytes.specs.Classes.{is_white}
use Rattle.ascii_bytes.specs.Parts.{trim_end, trim_start}
use Rattle.version_order.specs.ConstraintReader.{constraint_reader, begin}
use Rattle.version_order.specs.Shapes.{constraint_of}
use Rattle.version_order.specs.Refusals.{constraint_in}
use Rattle.version_order.proofs.Reading.{is_read, not_read}
use Rattle.version_order.proofs.constraint.read_constraint.Goals as goal

pub returns-in-Err-clause-answer : goal.returns-in-Err-clause-answer
returns-in-Err-clause-answer c =
    let bytes = c.trim_start-bytes.ensures
    ∙ ap (trim_start is_white) (c.trim_end.ensures ∙ ap (trim_end is_white) c.as_bytes.ensures.value) in
    ap (λ text. reads constraint_reader text begin)
    (sym bytes) ∙ not_read c.trim_start-bytes.result.now c.in-Err.ensures.refused.outside

pub returns-in-Ok-build-clause-answer : goal.returns-in-Ok-build-clause-answer
returns-in-Ok-build-clause-answer c =
    let bytes = c.trim_start-bytes.ensures
    ∙ ap (trim_start is_white) (c.trim_end.ensures ∙ ap (trim_end is_white) c.as_bytes.ensures.value) in
    ap (λ text. reads constraint_reader text begin) (sym bytes) ∙ is_read c.trim_start-bytes.result.now
    (constraint_of c.trim_start-bytes.result.now c.in-Ok.shape) c.in-Ok.ensures.read ∙ ap Some
    (sym c.in-Ok-build.ensures)

pub returns-in-Err-build-clause-answer : goal.returns-in-Err-build-clause-answer
returns-in-Err-build-clause-answer c =
    let bytes = c.trim_start-bytes.ensures
    ∙ ap (trim_start is_white) (c.trim_end.ensures ∙ ap (trim_end is_white) c.as_bytes.ensures.value) in
    let read : constraint_in c.args.text.now ≡ Some (constraint_of c.trim_start-bytes.result.now c.in-Ok.shape) = ap (λ text. reads constraint_reader text begin) (sym bytes)
    ∙ is_read c.trim_start-bytes.result.now
    (constraint_of c.trim_start-bytes.result.now c.in-Ok.shape) c.in-Ok.ensures.read in
    rw read refl
