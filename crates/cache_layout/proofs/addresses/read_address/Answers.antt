use Rattle.std.proofs.Common.{◌≡◌, max, subst, sym, ap, ◌∙◌}
use Rattle.std.specs.Prelude.{codes}
use Rattle.fault_place.specs.Place.{IsPlace}
use Rattle.cache_layout.specs.Addresses.{IsAddress}
use Rattle.cache_layout.specs.Places.{common}
use Rattle.cache_layout.proofs.AddressParts.{file_is, http_is, leaves_both, leaves_file, leaves_http}
use Rattle.cache_layout.proofs.addresses.read_address.Goals as goal

pub returns-in-Ok-clause-read : goal.returns-in-Ok-clause-read
returns-in-Ok-clause-read c = http_is c.args.text.now c.in-Some.rest.now c.in-Some.ensures.rest c.in-Ok.ensures.read

pub returns-in-Err-clause-refused : goal.returns-in-Err-clause-refused
returns-in-Err-clause-refused c =
    leaves_http c.args.text.now c.in-Some.rest.now c.in-Err.place c.in-Some.ensures.rest c.in-Err.ensures.refused

pub returns-in-Ok-read_after_file-clause-read : goal.returns-in-Ok-read_after_file-clause-read
returns-in-Ok-read_after_file-clause-read c =
    file_is c.args.text.now c.in-Some-behind.rest.now c.in-Some-behind.ensures.rest c.in-Ok-read_after_file.ensures.read

pub returns-in-Err-read_after_file-clause-refused : goal.returns-in-Err-read_after_file-clause-refused
returns-in-Err-read_after_file-clause-refused c =
    leaves_file c.args.text.now c.in-Some-behind.rest.now c.in-Err-read_after_file.place c.in-Some-behind.ensures.rest
    c.in-Err-read_after_file.ensures.refused

pub returns-clause-refused : goal.returns-clause-refused
returns-clause-refused c =
    let http = common (codes "http://") c.args.text.now in
    let file = common (codes "file:") c.args.text.now in
    let e : c.max.result ≡ max http file = c.max.ensures ∙ ap (λ k. max k c.common-file.result) c.common-http.ensures
    ∙ ap (λ k. max http k) c.common-file.ensures in
    subst (IsPlace IsAddress c.args.text.now) (sym e)
    (leaves_both c.args.text.now (λ rest. c.in_default.ensures.none rest)
    (λ rest. c.in_default-behind.ensures.none rest))
