use Rattle.std.proofs.Common.{◌≡◌, true, false, ap, sym, ◌∙◌}
use Rattle.coursier_run.specs.Justified.{cached}
use Rattle.coursier_run.proofs.Sampled.{if_ok}
use Rattle.job_session.proofs.Asking.{asks_none}
use Rattle.word_values.specs.Fits.{is_sample}
use Rattle.coursier_run.proofs.run.run_job.Goals as goal

pub returns-in-Resolve-clause-done : goal.returns-in-Resolve-clause-done
returns-in-Resolve-clause-done g c =
    let own : is_sample c.args.job.now.command ≡ false = ap is_sample c.in-Resolve.is in
    if_ok c.say_cached.result.0 (λ said is. cached own is) c.say_cached.ensures.done

pub returns-in-Fetch-clause-done : goal.returns-in-Fetch-clause-done
returns-in-Fetch-clause-done g c =
    let own : is_sample c.args.job.now.command ≡ false = ap is_sample c.in-Fetch.is in
    if_ok c.say_cached-in-Fetch.result.0 (λ said is. cached own is) c.say_cached-in-Fetch.ensures.done

pub returns-in-Resolve-clause-own : goal.returns-in-Resolve-clause-own
returns-in-Resolve-clause-own g c = λ sample.
    let own : is_sample c.args.job.now.command ≡ false = ap is_sample c.in-Resolve.is in
    absurd (let d : true ≡ false = sym sample ∙ own in cc)

pub returns-in-Fetch-clause-own : goal.returns-in-Fetch-clause-own
returns-in-Fetch-clause-own g c = λ sample.
    let own : is_sample c.args.job.now.command ≡ false = ap is_sample c.in-Fetch.is in
    absurd (let d : true ≡ false = sym sample ∙ own in cc)

pub returns-in-Sample-clause-few : goal.returns-in-Sample-clause-few
returns-in-Sample-clause-few g c = asks_none _ _ _ _
