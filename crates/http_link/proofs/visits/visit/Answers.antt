use Rattle.std.proofs.Common.{[], None, Some, refl, sym, ◌∙◌, subst, arith}
use Rattle.http_visits.specs.Places.{IsNextPlace}
use Rattle.http_visits.specs.Pages.{faulty, absent, moved, IsPage}
use Rattle.http_visits.specs.Visits.{Visits}
use Rattle.http_link.proofs.VisitFacts.{visits_here, visits_last, visits_nowhere, visits_next, fault_here, told_reply, says_file}
use Rattle.http_link.proofs.visits.visit.Goals as goal

pub redirects-init : goal.redirects-init
redirects-init g c = record {
  room = refl;
  pages = refl;
  later = omega arith;
  few = omega arith;
  visits = λ rows told
      says v. v;
}

pub returns-in-Opened-clause-visit : goal.returns-in-Opened-clause-visit
returns-in-Opened-clause-visit g c = λ told of.
    let f = rw c.in-Opened.is at (c.in_ok-opening.ensures.found told (λ rows e. c.redirects.invariant.pages ∙ of rows e)) in
    record {
      reply = _;
      tail = f.0.0;
      few = omega (arith, f.0.1, c.redirects.invariant.room);
      opens = f.0.2;
      says = λ rows e.
          let is = of rows e in
          says_file rows c.args.limit c.redirects.left c.args.start c.redirects.place _
          (told_reply _ rows c.redirects.place (c.redirects.invariant.pages ∙ is)) (f.1 rows e) (c.redirects.invariant.visits rows is);
    }

pub returns-in-Absent-clause-visit : goal.returns-in-Absent-clause-visit
returns-in-Absent-clause-visit g c = λ told of rows e.
    let is = of rows e in
    let f = rw c.in-Absent.is at (c.in_ok-opening.ensures.found told (λ rows e. c.redirects.invariant.pages
    ∙ of rows e)) in
    c.redirects.invariant.visits rows is absent
    (visits_here rows c.args.limit c.redirects.left c.redirects.place absent (subst
    (λ r. IsPage c.args.limit r absent) (told_reply _ rows c.redirects.place (c.redirects.invariant.pages
    ∙ is)) (f rows e)) tt)

pub returns-in-Fault-clause-visit : goal.returns-in-Fault-clause-visit
returns-in-Fault-clause-visit g c = λ told of rows e.
    let is = of rows e in
    let f = rw c.in-Fault.is at (c.in_ok-opening.ensures.found told (λ rows e. c.redirects.invariant.pages
    ∙ of rows e)) in
    let p = f rows e in (
      p.0,
      c.redirects.invariant.visits rows is p.0
          (visits_here rows c.args.limit c.redirects.left c.redirects.place p.0 (subst (λ r. IsPage c.args.limit r p.0)
          (told_reply _ rows c.redirects.place (c.redirects.invariant.pages ∙ is)) p.1) (fault_here p.0 p.2)),
      p.2,
    )

pub returns-then-left-eq0-clause-visit : goal.returns-then-left-eq0-clause-visit
returns-then-left-eq0-clause-visit g c = λ told of rows e.
    let is = of rows e in
    let f = rw c.in-Moved.is at (c.in_ok-opening.ensures.found told (λ rows e. c.redirects.invariant.pages
    ∙ of rows e)) in
    let page = subst (λ r. IsPage c.args.limit r (moved c.in-Moved.location)) (told_reply _ rows c.redirects.place
    (c.redirects.invariant.pages ∙ is)) (f rows e) in
    let last = visits_last rows c.args.limit c.redirects.place c.in-Moved.location page in (
      faulty [],
      c.redirects.invariant.visits rows is (faulty []) (subst
          (λ k. Visits rows c.args.limit k c.redirects.place (faulty [])) (sym c.if-left-eq0.true) last),
      tt,
    )

pub returns-in-None-clause-visit : goal.returns-in-None-clause-visit
returns-in-None-clause-visit g c = λ told of rows e.
    let is = of rows e in
    let f = rw c.in-Moved.is at (c.in_ok-opening.ensures.found told (λ rows e. c.redirects.invariant.pages
    ∙ of rows e)) in
    let page = subst (λ r. IsPage c.args.limit r (moved c.in-Moved.location)) (told_reply _ rows c.redirects.place
    (c.redirects.invariant.pages ∙ is)) (f rows e) in
    let next : IsNextPlace c.redirects.place c.in-Moved.location None = subst
    (λ l. IsNextPlace c.redirects.place l None) c.as_str.ensures (rw c.in-None.is at c.in_ok-next_place.ensures) in (
      faulty [],
      c.redirects.invariant.visits rows is (faulty [])
          (visits_nowhere rows c.args.limit c.redirects.left c.redirects.place c.in-Moved.location page next),
      tt,
    )

pub redirects-preserved : goal.redirects-preserved
redirects-preserved g c = record {
  room = c.in_ok-opening.ensures.room ∙ c.redirects.invariant.room;
  pages = c.in_ok-opening.ensures.pages ∙ c.redirects.invariant.pages;
  later = omega (arith, c.redirects.invariant.later, c.in_ok-opening.ensures.later);
  few = omega (arith, c.redirects.invariant.few);
  visits = λ rows is says v.
      let f = rw c.in-Moved.is at (c.in_ok-opening.ensures.found _ (λ rows e. e)) in
      let page = subst (λ r. IsPage c.args.limit r (moved c.in-Moved.location)) (told_reply _ rows c.redirects.place
      (c.redirects.invariant.pages ∙ is)) (f rows (c.redirects.invariant.pages ∙ is)) in
      let next : IsNextPlace c.redirects.place c.in-Moved.location (Some c.in-Some.next) = subst
      (λ l. IsNextPlace c.redirects.place l (Some c.in-Some.next)) c.as_str.ensures
      (rw c.in-Some.is at c.in_ok-next_place.ensures) in
      c.redirects.invariant.visits rows is says
      (visits_next rows c.args.limit c.redirects.left c.redirects.place c.in-Some.next c.in-Moved.location says
      (omega arith) page next v);
}
