use Rattle.std.proofs.Common.{sym, subst}
use Rattle.cache_store.specs.Stands.{disk_of}
use Rattle.fetch_pool.specs.Boards.{desk_of}
use Rattle.job_session.specs.Answers.{IsSession}
use Rattle.job_session.specs.Faithful.{TellsFaithful}
use Rattle.link_base.specs.Links.{Rows}
use Rattle.pool_rules.specs.Boards.{Desk, IsReady}
use Rattle.pool_rules.specs.Counts.{counts_of}
use Rattle.job_session.proofs.Asking.{FewAsked, few_within}
use Rattle.job_session.proofs.Sessions.{fresh_is, if_ok, session_of}
use Rattle.job_session.proofs.worked.work_through.Goals as goal

pub finish_alone-board-requires-clause-ready : goal.finish_alone-board-requires-clause-ready
finish_alone-board-requires-clause-ready g c =
    let job = c.args.job.now in
    subst (λ (d : Desk). IsReady d) (sym (fresh_is job c.args.moment c.args.core c.args.plan c.requires.core c.requires.plan))
    (c.fresh_ready.ensures job c.args.moment c.requires.fit)

pub returns-clause-session : goal.returns-clause-session
returns-clause-session g c =
    let job = c.args.job.now in
    let World : Rows → Type 0 = λ w. g.L.Link.agrees c.args.link.now w × TellsFaithful g.D.Disk.told w (disk_of c.args.store) in
    let counts = counts_of g.L.Link.faults g.L.Link.asked g.L.Link.failed_urls g.D.Disk.faults g.D.Disk.last in
    let done = c.finish_alone-board.result in
    if_ok c.said_at-said.result
    (λ said says.
    subst (λ d. IsSession World job c.args.moment (counts c.args.link.now (disk_of c.args.store)) (counts c.finish_alone-board.new.link d) said)
    (sym c.into_disk.ensures)
    (session_of World job c.args.moment c.args.core.ask _ (desk_of done.board) _ _ done.finish said c.requires.fit c.requires.core.ask
    (fresh_is job c.args.moment c.args.core c.args.plan c.requires.core c.requires.plan) c.finish_alone-board.ensures.worked
    (λ w here. c.finish_alone-board.ensures.known w here.0 here.1.tells here.1.now) says))
    c.said_at-said.ensures

pub returns-clause-few : goal.returns-clause-few
returns-clause-few g c =
    let job = c.args.job.now in
    let World : Rows → Type 0 = λ w. g.L.Link.agrees c.args.link.now w × TellsFaithful g.D.Disk.told w (disk_of c.args.store) in
    let few : FewAsked = record { lawful = c.rounds_lawful.ensures; retried = c.few_asked.ensures.retried; calm = c.few_asked.ensures.calm } in
    let done = c.finish_alone-board.result in
    few_within few World job c.args.moment (desk_of done.board) _ _ done.finish c.args.core.ask _ c.requires.core.ask
    (fresh_is job c.args.moment c.args.core c.args.plan c.requires.core c.requires.plan) c.finish_alone-board.ensures.worked
    c.finish_alone-board.ensures.few
    (λ w here. c.finish_alone-board.ensures.known w here.0 here.1.tells here.1.now)
