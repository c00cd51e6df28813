use Rattle.arrival_core.specs.Resolving.{resolver_of}
use Rattle.claim_rules.specs.Histories.{known_in}
use Rattle.asked_paths.proofs.Asked.{claimed_file, hints_files, needed_files, needs_files, stuck_file}
use Rattle.asked_paths.proofs.laws.paths_asked.Goals as goal

pub returns-clause-needs : goal.returns-clause-needs
returns-clause-needs c ask known =
    needs_files known ask (λ one key. c.answer_laws.ensures.poms known ask.repos one key)
    (λ verdict is. c.settled_laws.ensures.settlement known ask verdict is)
    (λ verdict is. c.settled_laws.ensures.repositories known ask verdict is) (λ key. c.wait_laws.ensures.read known ask key)

pub returns-clause-needed : goal.returns-clause-needed
returns-clause-needed c ask known =
    needed_files known ask (λ one key. c.answer_laws.ensures.poms known ask.repos one key)
    (λ verdict is. c.settled_laws.ensures.settlement known ask verdict is)
    (λ verdict is. c.settled_laws.ensures.repositories known ask verdict is)

pub returns-clause-hints : goal.returns-clause-hints
returns-clause-hints c s ask known key same =
    hints_files s ask known same
    (needs_files known ask (λ one k. c.answer_laws.ensures.poms known ask.repos one k)
    (λ verdict is. c.settled_laws.ensures.settlement known ask verdict is)
    (λ verdict is. c.settled_laws.ensures.repositories known ask verdict is) (λ k. c.wait_laws.ensures.read known ask k)) key

pub returns-clause-claimed : goal.returns-clause-claimed
returns-clause-claimed c s ask h key same is =
    let known = known_in h in
    claimed_file s ask h key same
    (needs_files known ask (λ one k. c.answer_laws.ensures.poms known ask.repos one k)
    (λ verdict e. c.settled_laws.ensures.settlement known ask verdict e)
    (λ verdict e. c.settled_laws.ensures.repositories known ask verdict e) (λ k. c.wait_laws.ensures.read known ask k))
    (c.claim_answers.ensures.says s (resolver_of ask) h) is

pub returns-clause-stuck : goal.returns-clause-stuck
returns-clause-stuck c s ask h key is =
    let known = known_in h in
    stuck_file s ask h key
    (needs_files known ask (λ one k. c.answer_laws.ensures.poms known ask.repos one k)
    (λ verdict e. c.settled_laws.ensures.settlement known ask verdict e)
    (λ verdict e. c.settled_laws.ensures.repositories known ask verdict e) (λ k. c.wait_laws.ensures.read known ask k))
    (λ keys one e. c.least_keys.ensures.among keys one e) (c.claim_answers.ensures.says s (resolver_of ask) h) is
