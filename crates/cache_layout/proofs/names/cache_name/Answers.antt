use Rattle.std.proofs.Common.{rules, subst}
use Rattle.fault_place.specs.Place.{IsPlace}
use Rattle.cache_layout.specs.Addresses.{IsAddress}
use Rattle.res_base.specs.Paths.{url_at}
use Rattle.cache_layout.proofs.Escapes.{data_of}
use Rattle.cache_layout.proofs.Refused.{at_bad_address}
use Rattle.cache_layout.proofs.names.cache_name.Goals as goal

pub returns-in-Err-clause-refused : goal.returns-in-Err-clause-refused
returns-in-Err-clause-refused c = λ n e. at_bad_address IsAddress c.args.address.now c.in-Err.place n e
    (subst (λ t. IsPlace IsAddress t c.in-Err.place) c.as_bytes.ensures.value c.in-Err.ensures.refused)

pub returns-clause-data_name : goal.returns-clause-data_name
returns-clause-data_name c = data_of (url_at c.args.address.now c.args.path.now) c.in_ok-name_of.field-0
    (search rules)

pub returns-clause-address : goal.returns-clause-address
returns-clause-address c = subst IsAddress c.as_bytes.ensures.value c.in_default.ensures.read
