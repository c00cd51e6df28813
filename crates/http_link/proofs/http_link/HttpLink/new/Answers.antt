use Rattle.http_link.proofs.http_link.HttpLink.new.Goals as goal

pub returns-clause-agrees : goal.returns-clause-agrees
returns-clause-agrees g c = λ w tell. record { rows = tell.0; told = tell.1; agree = tell.2; open_file = tt }
