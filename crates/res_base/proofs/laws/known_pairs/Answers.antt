use Rattle.res_base.proofs.KnownPairs.{among, known, new, same, unknown}
use Rattle.res_base.proofs.laws.known_pairs.Goals as goal

pub returns-clause-among : goal.returns-clause-among
returns-clause-among c = among

pub returns-clause-known : goal.returns-clause-known
returns-clause-known c = known

pub returns-clause-unknown : goal.returns-clause-unknown
returns-clause-unknown c = unknown

pub returns-clause-new : goal.returns-clause-new
returns-clause-new c = new

pub returns-clause-same : goal.returns-clause-same
returns-clause-same c pairs others distinct alike = λ i key. same pairs others distinct alike key i
