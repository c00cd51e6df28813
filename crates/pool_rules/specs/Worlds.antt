-- What a world says of all keys.
use Rattle.std.specs.Prelude.{Some}
use Rattle.answer_reading.specs.Readings.{reading_of}
use Rattle.digest_check.specs.KeyAnswers.{answer}
use Rattle.link_base.specs.Links.{Rows}
use Rattle.claim_rules.specs.Histories.{History, known_in}
use Rattle.pool_rules.specs.declared.plan.Plan.{Plan}
use Rattle.res_base.specs.Known.{Grows, Known}
use Rattle.res_base.specs.declared.key.FileKey.{FileKey}
use Rattle.res_base.specs.declared.reading.Answer.{Answer}
use Rattle.res_base.specs.declared.reading.Reading.{Reading}

-- the answer of a world at a key
abbrev pub answer_in : Plan → Rows → FileKey → Answer
answer_in plan w key = answer w plan.addresses plan.checks plan.limit key

-- and what is read of it
abbrev pub reading_in : Plan → Rows → FileKey → Reading
reading_in plan w key = reading_of key.role (answer_in plan w key)

-- all that a world says
abbrev pub whole_of : Plan → Rows → Known
whole_of plan w key = Some (reading_in plan w key)

-- all that is known is so in this map, if it was before
abbrev pub StaysTrue : Known → History → History → Type 0
StaysTrue all old new = Grows (known_in old) all → Grows (known_in new) all
