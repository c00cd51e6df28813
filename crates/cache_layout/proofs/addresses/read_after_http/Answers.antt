use Rattle.std.proofs.Common.{◌+◌, ◌++◌, length, ap, arith, ◌∙◌}
use Rattle.link_base.specs.FilePaths.{is_file_path}
use Rattle.cache_layout.specs.Addresses.{is_authority}
use Rattle.cache_layout.proofs.AddressParts.{authority_lacks}
use Rattle.cache_layout.proofs.With.{holds_alone, holds_both, leaves_first, leaves_second}
use Rattle.cache_layout.proofs.Words.{rest_empty}
use Rattle.cache_layout.proofs.addresses.read_after_http.Goals as goal

pub returns-in-Err-clause-refused : goal.returns-in-Err-clause-refused
returns-in-Err-clause-refused c =
    let cut = c.part-cut.result in
    leaves_first is_authority 47 is_file_path authority_lacks c.args.text.now cut.first.now cut.rest.now c.in-Err.place c.part-cut.ensures.whole
    c.part-cut.ensures.before c.in-Err.ensures.refused

pub returns-in-None-clause-read : goal.returns-in-None-clause-read
returns-in-None-clause-read c =
    let cut = c.part-cut.result in
    let none = rest_empty 47 cut.rest.now c.part-cut.ensures.before.begins (λ r. c.in-None.ensures.none r) in
    holds_alone is_authority 47 is_file_path c.args.text.now cut.first.now cut.rest.now c.part-cut.ensures.whole c.part-cut.ensures.before
    none c.in_default.ensures.read

pub returns-in-Ok-clause-read : goal.returns-in-Ok-clause-read
returns-in-Ok-clause-read c =
    let cut = c.part-cut.result in
    holds_both is_authority 47 is_file_path c.args.text.now cut.first.now cut.rest.now c.in-Some.path.now c.part-cut.ensures.whole
    c.part-cut.ensures.before c.in-Some.ensures.rest c.in_default.ensures.read c.in-Ok.ensures.read

pub returns-in-Err-read_file_path-clause-refused : goal.returns-in-Err-read_file_path-clause-refused
returns-in-Err-read_file_path-clause-refused c =
    let cut = c.part-cut.result in
    leaves_second is_authority 47 is_file_path authority_lacks c.args.text.now cut.first.now c.in-Some.path.now c.in-Err-read_file_path.place
    (length cut.first.now + 1 + c.in-Err-read_file_path.place)
    (c.part-cut.ensures.whole ∙ ap (λ t. cut.first.now ++ t) c.in-Some.ensures.rest) c.part-cut.ensures.before.lacks
    c.in_default.ensures.read (omega arith) c.in-Err-read_file_path.ensures.refused
