use Rattle.cache_layout.proofs.Values.{port_place, number_port}
use Rattle.cache_layout.proofs.addresses.read_port.Goals as goal

pub returns-in-Ok-clause-read : goal.returns-in-Ok-clause-read
returns-in-Ok-clause-read c = number_port c.args.text.now (_, c.in-Ok.ensures.read)

pub returns-in-Err-clause-refused : goal.returns-in-Err-clause-refused
returns-in-Err-clause-refused c = port_place c.args.text.now c.in-Err.place c.in-Err.ensures.refused
