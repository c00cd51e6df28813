use Rattle.pom_grammar.specs.Verdicts.{whole_verdict}
use Rattle.pom_record.proofs.ReadingLemmas.{verdict_read, verdict_refused, never_short, only_pom}
use Rattle.pom_record.proofs.laws.reading_laws.Goals as goal

pub returns-clause-read : goal.returns-clause-read
returns-clause-read c = λ bytes. verdict_read bytes (whole_verdict bytes) (c.verdict_says.ensures.says bytes)

pub returns-clause-refused : goal.returns-clause-refused
returns-clause-refused c = λ bytes. verdict_refused bytes (whole_verdict bytes) (c.verdict_says.ensures.says bytes)

pub returns-clause-never_out_of_memory : goal.returns-clause-never_out_of_memory
returns-clause-never_out_of_memory c = λ bytes.
    never_short (whole_verdict bytes) (c.verdict_says.ensures.never_out_of_memory bytes)

pub returns-clause-only : goal.returns-clause-only
returns-clause-only c = λ bytes pom. only_pom bytes pom (c.verdict_says.ensures.only bytes)
