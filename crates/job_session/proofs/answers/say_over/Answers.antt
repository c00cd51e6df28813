use Rattle.std.proofs.Common.{◌≡◌, ℕ, refl, sym, ◌∙◌, ap, subst, length}
use Rattle.claim_rules.specs.Histories.{known_in}
use Rattle.job_session.specs.Answers.{IsOver, printed}
use Rattle.job_session.proofs.Sessions.{if_ok, over_is, wants_same}
use Rattle.project_lookup.specs.KnownPairs.{KnownPairs}
use Rattle.res_base.specs.Known.{known_of}
use Rattle.resolution.specs.Settlements.{HasRepositories, IfSettled}
use Rattle.resolution.specs.declared.ask.Ask.{Ask}
use Rattle.resolution.specs.declared.progress.Progress.TheVariants.{Over}
use Rattle.round_core.specs.Rounds.{rounds_of}
use Rattle.job_session.proofs.answers.say_over.Goals as goal

pub unreachable-requires : goal.unreachable-requires
unreachable-requires c =
    let core = c.args.core.now in
    let over : IsOver core.ask (known_in core.history) = c.session_over.ensures core.settings core.ask core.history c.requires.over in
    let waits = c.progress.ensures.scratch c.requires.caught_up in
    let d = sym over.over ∙ sym waits ∙ c.in-Waiting.is in
    cc

pub say_verdict-requires-clause-settlement : goal.say_verdict-requires-clause-settlement
say_verdict-requires-clause-settlement c =
    let core = c.args.core.now in
    c.settled_laws.ensures.settlement (known_in core.history) core.ask c.in-Over.verdict
    (sym (c.progress.ensures.scratch c.requires.caught_up) ∙ c.in-Over.is)

pub say_verdict-requires-clause-repositories : goal.say_verdict-requires-clause-repositories
say_verdict-requires-clause-repositories c =
    let core = c.args.core.now in
    subst (λ (n : ℕ). IfSettled c.in-Over.verdict (HasRepositories n)) (ap (λ (a : Ask). a.repos) c.requires.ask ∙ c.requires.fit.repos)
    (c.settled_laws.ensures.repositories (known_in core.history) core.ask c.in-Over.verdict
    (sym (c.progress.ensures.scratch c.requires.caught_up) ∙ c.in-Over.is))

pub say_verdict-requires-clause-known : goal.say_verdict-requires-clause-known
say_verdict-requires-clause-known c =
    let core = c.args.core.now in
    let job = c.args.job.now in
    let over : IsOver core.ask (known_in core.history) = c.session_over.ensures core.settings core.ask core.history c.requires.over in
    let same : over.verdict ≡ c.in-Over.verdict =
    over_is core.ask (known_in core.history) over c.in-Over.verdict
    (sym (c.progress.ensures.scratch c.requires.caught_up) ∙ c.in-Over.is) in
    let known : known_of c.known.result.now.pairs ≡ known_in core.history =
    ap (λ (k : KnownPairs). known_of k.pairs) c.known.ensures in
    wants_same job core.ask over.verdict c.in-Over.verdict (known_in core.history) (known_of c.known.result.now.pairs)
    c.requires.ask same (sym known) over.files

pub returns : goal.returns
returns c =
    let core = c.args.core.now in
    let job = c.args.job.now in
    let over : IsOver core.ask (known_in core.history) = c.session_over.ensures core.settings core.ask core.history c.requires.over in
    let rounds : rounds_of (known_in core.history) core.ask ≡ Over c.in-Over.verdict =
    sym (c.progress.ensures.scratch c.requires.caught_up) ∙ c.in-Over.is in
    let same : over.verdict ≡ c.in-Over.verdict = over_is core.ask (known_in core.history) over c.in-Over.verdict rounds in
    if_ok c.say_verdict.result
    (λ said is.
    record {
      verdict = c.in-Over.verdict;
      over = ap (λ (a : Ask). rounds_of (known_in core.history) a) (sym c.requires.ask) ∙ rounds;
      files = wants_same job core.ask over.verdict c.in-Over.verdict (known_in core.history) (known_in core.history)
          c.requires.ask same refl over.files;
      said_is = is ∙ ap (λ (k : KnownPairs). printed job c.in-Over.verdict (known_of k.pairs) (length k.pairs)) c.known.ensures;
    })
    c.say_verdict.ensures
