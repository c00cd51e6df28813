use Rattle.asked_paths.proofs.laws.needed_keys.Goals as goal

pub returns-clause-listed : goal.returns-clause-listed
returns-clause-listed c ask known key m = (c.paths_asked.ensures.needs ask known key m).listed

pub returns-clause-path : goal.returns-clause-path
returns-clause-path c ask known key m = (c.paths_asked.ensures.needs ask known key m).path
