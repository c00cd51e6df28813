use Rattle.cache_images.proofs.Along.{good_along}
use Rattle.cache_images.specs.Sound.{AnyLine, HasItsRecord, IsGoneIn, IsWorlds}
use Rattle.cache_images.proofs.laws.images_along.Goals as goal

pub returns-clause-sound : goal.returns-clause-sound
returns-clause-sound c = good_along HasItsRecord AnyLine

pub returns-clause-faithful : goal.returns-clause-faithful
returns-clause-faithful c = λ w. good_along (IsWorlds w) (IsGoneIn w)
