use Rattle.std.proofs.Common.{inr, sym, ◌∙◌}
use Rattle.std.proofs.lemmas.Bool.{true≢false}
use Rattle.http_link.proofs.OpenFacts.{visited_here, fault_at}
use Rattle.http_link.proofs.http_link.HttpLink.visit_url.Goals as goal

pub returns-in_ok-visited-in-Some-clause-visited : goal.returns-in_ok-visited-in-Some-clause-visited
returns-in_ok-visited-in-Some-clause-visited g c = λ told of.
    visited_here told _ c.args.limit _ _ c.in-Some.place c.in_ok-visited-in-Some.visited
    (c.as_mut_slice.ensures.len ∙ c.in_ok-resize.ensures.len) (rw c.in-Some.is at c.in_ok-place_of.ensures.place)
    (c.in_ok-visited-in-Some.ensures.visit told of)

pub returns-in_ok-visited-in-Some-clause-fault : goal.returns-in_ok-visited-in-Some-clause-fault
returns-in_ok-visited-in-Some-clause-fault g c =
    fault_at _ _ c.args.limit _ c.args.address.now c.args.path.now c.in-Some.place c.in_ok-visited-in-Some.visited
    (c.as_mut_slice.ensures.len ∙ c.in_ok-resize.ensures.len) (rw c.in-Some.is at c.in_ok-place_of.ensures.place)
    (c.in_ok-visited-in-Some.ensures.visit _ (λ rows e. e))

pub returns-in-None-clause-fault : goal.returns-in-None-clause-fault
returns-in-None-clause-fault g c = inr (sym (rw c.in-None.is at c.in_ok-place_of.ensures.none))

pub returns-in_ok-visited-in-Some-clause-unsent : goal.returns-in_ok-visited-in-Some-clause-unsent
returns-in_ok-visited-in-Some-clause-unsent g c = λ no.
    absurd (true≢false ((rw c.in-Some.is at c.in_ok-place_of.ensures.none) ∙ no))

pub returns-in_ok-visited-in-Some-clause-elsewhere : goal.returns-in_ok-visited-in-Some-clause-elsewhere
returns-in_ok-visited-in-Some-clause-elsewhere g c = λ no.
    absurd (true≢false ((rw c.in-Some.is at c.in_ok-place_of.ensures.none) ∙ no))
