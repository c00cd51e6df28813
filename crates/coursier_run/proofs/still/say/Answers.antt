use Rattle.std.proofs.Common.{◌≡◌, true, subst, sym}
use Rattle.coursier_run.specs.Justified.{done, refused}
use Rattle.coursier_run.proofs.Sampled.{if_ok, ok_same}
use Rattle.job_session.proofs.Asking.{asks_none}
use Rattle.job_session.specs.Asks.{AsksWithin}
use Rattle.job_session.specs.Faithful.{TellsFaithful}
use Rattle.link_base.specs.Links.{Rows}
use Rattle.res_base.specs.Causes.{Rose}
use Rattle.word_values.specs.Fits.{is_sample}
use Rattle.word_values.specs.declared.job.Job.{Job}
use Rattle.coursier_run.proofs.still.say.Goals as goal

pub returns-in-Ok-clause-justified : goal.returns-in-Ok-clause-justified
returns-in-Ok-clause-justified g c =
    if_ok c.run_job.result.0 (λ said is. done c.in-Ok.job c.in-Ok.ensures.value is) c.run_job.ensures.done

pub returns-in-Err-BadWords-clause-justified : goal.returns-in-Err-BadWords-clause-justified
returns-in-Err-BadWords-clause-justified g c =
    if_ok c.said.result (λ said is. refused _ _ (rw c.in-Err-BadWords.field-0-is at c.in-Err-BadWords.ensures.value) is) c.said.ensures

pub returns-in-Ok-clause-few : goal.returns-in-Ok-clause-few
returns-in-Ok-clause-few g c = λ job read.
    let W : Rows → Type 0 = λ w. g.L.Link.agrees c.args.link.now w × TellsFaithful g.D.Disk.told w c.args.disk in
    subst
    (λ (j : Job). AsksWithin W j (Rose (g.L.Link.faults c.args.link.now) (g.L.Link.faults c.run_job.new.link))
    (g.L.Link.asked c.args.link.now) (g.L.Link.asked c.run_job.new.link))
    (ok_same _ c.in-Ok.job job c.in-Ok.ensures.value read) c.run_job.ensures.few

pub returns-in-Ok-clause-own : goal.returns-in-Ok-clause-own
returns-in-Ok-clause-own g c = λ job read sample.
    c.run_job.ensures.own
    (subst (λ (j : Job). is_sample j.command ≡ true) (sym (ok_same _ c.in-Ok.job job c.in-Ok.ensures.value read)) sample)

pub returns-in-Err-BadWords-clause-few : goal.returns-in-Err-BadWords-clause-few
returns-in-Err-BadWords-clause-few g c = λ job read. asks_none _ _ _ _

pub returns-in-Err-NoMemory-clause-few : goal.returns-in-Err-NoMemory-clause-few
returns-in-Err-NoMemory-clause-few g c = λ job read. asks_none _ _ _ _
