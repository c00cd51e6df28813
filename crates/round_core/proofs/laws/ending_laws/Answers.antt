use Rattle.round_core.proofs.Ended as ended
use Rattle.round_core.proofs.laws.ending_laws.Goals as goal

pub returns-clause-ends : goal.returns-clause-ends
returns-clause-ends c = ended.ends

pub returns-clause-only : goal.returns-clause-only
returns-clause-only c = λ known ask progress h. ended.only known ask h

pub returns-clause-rises : goal.returns-clause-rises
returns-clause-rises c = λ known ask done chosen h. ended.did_rises known ask h
