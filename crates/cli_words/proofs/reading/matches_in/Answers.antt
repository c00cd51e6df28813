use Rattle.std.proofs.Common.{subst}
use Rattle.cli_words.specs.Reading.{IsRefusalOf}
use Rattle.cli_words.proofs.Unless.{first, no_fault, refused}
use Rattle.cli_words.proofs.reading.matches_in.Goals as goal

pub returns-in-Ok : goal.returns-in-Ok
returns-in-Ok c = no_fault _ _ _ (c.in-Ok.ensures.kinds c.requires) (c.in-Ok.ensures.matches (first _ _ c.requires)).0

pub returns-in-Err : goal.returns-in-Err
returns-in-Err c =
    refused _ _ _ c.refusal_of.result
    (subst (λ kind. IsRefusalOf kind c.refusal_of.result) c.kind.ensures c.refusal_of.ensures)
    (c.in-Err.ensures.kinds c.requires)
