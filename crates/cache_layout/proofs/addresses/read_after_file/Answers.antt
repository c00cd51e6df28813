use Rattle.cache_layout.proofs.AddressParts.{leaves_rooted, rooted_is, unrooted_err, unrooted_ok}
use Rattle.cache_layout.proofs.addresses.read_after_file.Goals as goal

pub returns-in-None-clause-refused : goal.returns-in-None-clause-refused
returns-in-None-clause-refused c = unrooted_err c.args.text.now (λ rest. c.in-None.ensures.none rest)
    c.read_file_path.result c.read_file_path.ensures.refused

pub returns-in-None-clause-read : goal.returns-in-None-clause-read
returns-in-None-clause-read c = unrooted_ok c.args.text.now c.read_file_path.result c.read_file_path.ensures.read

pub returns-in-Ok-clause-read : goal.returns-in-Ok-clause-read
returns-in-Ok-clause-read c =
    rooted_is c.args.text.now c.in-Some.path.now c.in-Some.ensures.rest c.in-Ok.ensures.read

pub returns-in-Err-clause-refused : goal.returns-in-Err-clause-refused
returns-in-Err-clause-refused c =
    leaves_rooted c.args.text.now c.in-Some.path.now c.in-Err.place c.in-Some.ensures.rest c.in-Err.ensures.refused
