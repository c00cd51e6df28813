use Rattle.res_base.proofs.PathsApart.{pom_paths_apart, listing_paths_apart}
use Rattle.res_base.proofs.paths.paths_apart.Goals as goal

pub returns-clause-poms : goal.returns-clause-poms
returns-clause-poms c = pom_paths_apart

pub returns-clause-listings : goal.returns-clause-listings
returns-clause-listings c = listing_paths_apart
