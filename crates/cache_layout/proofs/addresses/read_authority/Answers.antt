use Rattle.std.proofs.Common.{◌+◌, ◌++◌, length, ap, arith, refl, ◌∙◌}
use Rattle.cache_layout.specs.Addresses.{is_host, is_port}
use Rattle.cache_layout.proofs.AddressParts.{host_lacks}
use Rattle.cache_layout.proofs.With.{holds_alone, holds_both, leaves_first, leaves_second}
use Rattle.cache_layout.proofs.Words.{rest_empty}
use Rattle.cache_layout.proofs.addresses.read_authority.Goals as goal

pub returns-in-Err-clause-refused : goal.returns-in-Err-clause-refused
returns-in-Err-clause-refused c =
    let cut = c.part-cut.result in
    leaves_first is_host 58 is_port (host_lacks 58 refl) c.args.text.now cut.first.now cut.rest.now c.in-Err.place c.part-cut.ensures.whole
    c.part-cut.ensures.before c.in-Err.ensures.refused

pub returns-in-None-clause-read : goal.returns-in-None-clause-read
returns-in-None-clause-read c =
    let cut = c.part-cut.result in
    let none = rest_empty 58 cut.rest.now c.part-cut.ensures.before.begins (λ r. c.in-None.ensures.none r) in
    holds_alone is_host 58 is_port c.args.text.now cut.first.now cut.rest.now c.part-cut.ensures.whole c.part-cut.ensures.before
    none c.in_default.ensures.read

pub returns-in-Ok-clause-read : goal.returns-in-Ok-clause-read
returns-in-Ok-clause-read c =
    let cut = c.part-cut.result in
    holds_both is_host 58 is_port c.args.text.now cut.first.now cut.rest.now c.in-Some.port.now c.part-cut.ensures.whole
    c.part-cut.ensures.before c.in-Some.ensures.rest c.in_default.ensures.read c.in-Ok.ensures.read

pub returns-in-Err-read_port-clause-refused : goal.returns-in-Err-read_port-clause-refused
returns-in-Err-read_port-clause-refused c =
    let cut = c.part-cut.result in
    leaves_second is_host 58 is_port (host_lacks 58 refl) c.args.text.now cut.first.now c.in-Some.port.now c.in-Err-read_port.place
    (length cut.first.now + 1 + c.in-Err-read_port.place)
    (c.part-cut.ensures.whole ∙ ap (λ t. cut.first.now ++ t) c.in-Some.ensures.rest) c.part-cut.ensures.before.lacks
    c.in_default.ensures.read (omega arith) c.in-Err-read_port.ensures.refused
