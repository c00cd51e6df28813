use Rattle.std.proofs.Common.{ap, ◌∙◌, []}
use Rattle.claim_rules.specs.Counts.{is_claim, gave_back}
use Rattle.claim_rules.specs.Histories.{Entry, pairs_in}
use Rattle.claim_rules.specs.Legal.{MayCome}
use Rattle.claim_rules.proofs.Along.{along_more, along_begins}
use Rattle.claim_rules.proofs.EntryLemmas.{grows_by}
use Rattle.claim_rules.proofs.Flying.{flying_unknown}
use Rattle.claim_rules.proofs.history_laws.legal_histories.Goals as goal

pub returns-clause-more : goal.returns-clause-more
returns-clause-more g c s r h e legal may = along_more (MayCome s r) [] h e legal may

pub returns-clause-begins : goal.returns-clause-begins
returns-clause-begins g c s r h further legal = along_begins (MayCome s r) [] h further legal

pub returns-clause-grows : goal.returns-clause-grows
returns-clause-grows g c = grows_by c.known_grows.ensures.more

pub returns-clause-stops : goal.returns-clause-stops
returns-clause-stops g c n h e stops may = along_more _ [] h e stops may

pub returns-clause-flying : goal.returns-clause-flying
returns-clause-flying g c s r h key legal up = flying_unknown c.equality_decided.ensures.keys s r key h legal up
