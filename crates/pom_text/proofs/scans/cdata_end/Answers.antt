use Rattle.std.proofs.Common.{refl, arith, ◌≤◌, ◌+◌}
use Rattle.pom_grammar.specs.Document.{brackets}
use Rattle.pom_grammar.specs.Machine.{within}
use Rattle.pom_text.proofs.MarkupFacts.{cdata_inner, cdata_goes}
use Rattle.pom_text.proofs.scans.cdata_end.Goals as goal

pub overflow_sub-result : goal.overflow_sub-result
overflow_sub-result c =
    let inner =
    cdata_inner c.args.encoding c.args.bytes.now c.args.at c.in-Ok.end c.in-Ok.ensures.forth c.in-Ok.ensures.within
    c.in-Ok.ensures.is_text (c.in-Ok.ensures.marks brackets refl refl) in
    let forth : c.args.at + 3 ≤ c.in-Ok.end = inner.forth in
    omega arith

pub returns-in-Ok-clause-forth : goal.returns-in-Ok-clause-forth
returns-in-Ok-clause-forth c =
    let inner =
    cdata_inner c.args.encoding c.args.bytes.now c.args.at c.in-Ok.end c.in-Ok.ensures.forth c.in-Ok.ensures.within
    c.in-Ok.ensures.is_text (c.in-Ok.ensures.marks brackets refl refl) in
    let forth : c.args.at + 3 ≤ c.in-Ok.end = inner.forth in
    omega arith

pub returns-in-Ok-clause-within : goal.returns-in-Ok-clause-within
returns-in-Ok-clause-within c =
    let inner =
    cdata_inner c.args.encoding c.args.bytes.now c.args.at c.in-Ok.end c.in-Ok.ensures.forth c.in-Ok.ensures.within
    c.in-Ok.ensures.is_text (c.in-Ok.ensures.marks brackets refl refl) in
    let forth : c.args.at + 3 ≤ c.in-Ok.end = inner.forth in
    omega (arith, c.in-Ok.ensures.within)

pub returns-in-Ok-clause-is_text : goal.returns-in-Ok-clause-is_text
returns-in-Ok-clause-is_text c =
    (cdata_inner c.args.encoding c.args.bytes.now c.args.at c.in-Ok.end c.in-Ok.ensures.forth c.in-Ok.ensures.within
    c.in-Ok.ensures.is_text (c.in-Ok.ensures.marks brackets refl refl)).is_text

pub returns-in-Ok-clause-ok : goal.returns-in-Ok-clause-ok
returns-in-Ok-clause-ok c = λ frame outer.
    let inner =
    cdata_inner c.args.encoding c.args.bytes.now c.args.at c.in-Ok.end c.in-Ok.ensures.forth c.in-Ok.ensures.within
    c.in-Ok.ensures.is_text (c.in-Ok.ensures.marks brackets refl refl) in
    cdata_goes c.args.encoding c.args.bytes.now c.args.at c.in-Ok.end frame outer inner
    (c.in-Ok.ensures.ok brackets (within frame outer) refl refl)
