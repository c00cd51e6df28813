use Rattle.std.proofs.Common.{rules, true, ◌++◌, true≢false}
use Rattle.std.proofs.lemmas.Result.{on_ok_weaker}
use Rattle.cache_images.specs.Sequences.{put_steps, take_steps}
use Rattle.disk_base.proofs.Composed.{done_then, ran_cut, ran_then}
use Rattle.cache_store.proofs.AfterReads.{done_after, ran_after}
use Rattle.cache_store.proofs.files.gone_files.Goals as goal

pub returns-in_err-there-clause-clears : goal.returns-in_err-there-clause-clears
returns-in_err-there-clause-clears g c = record {
  there = true;
  neither = λ e. absurd (true≢false e);
  ran = ran_cut g.D.Disk.told g.D.Disk.moment g.D.Disk.since _
      (take_steps c.args.name.now c.args.gone.now ++ put_steps c.args.part.now c.args.gone.now c.args.line.now) _ _
      c.is_any_bound.ensures.ran;
  done = search rules;
}

pub returns-in_err-clear_file-clause-clears : goal.returns-in_err-clear_file-clause-clears
returns-in_err-clear_file-clause-clears g c = record {
  there = c.in_ok-there.there;
  neither = c.in_ok-there.ensures.neither;
  ran = ran_after g.D.Disk.told g.D.Disk.moment g.D.Disk.since _ _ _ _ c.is_any_bound.ensures.ran
      (ran_cut g.D.Disk.told g.D.Disk.moment g.D.Disk.since _ (put_steps c.args.part.now c.args.gone.now c.args.line.now) _ _
      c.clear_file.ensures.ran);
  done = search rules;
}

pub returns-clause-clears : goal.returns-clause-clears
returns-clause-clears g c = record {
  there = c.in_ok-there.there;
  neither = c.in_ok-there.ensures.neither;
  ran = ran_after g.D.Disk.told g.D.Disk.moment g.D.Disk.since _ _ _ _ c.is_any_bound.ensures.ran
      (ran_then g.D.Disk.told g.D.Disk.moment g.D.Disk.since _ _ _ _ _ c.clear_file.ensures.ran
      c.in_ok-clear_file.ensures.done c.put_file.ensures.ran);
  done = on_ok_weaker c.put_file.result
      (λ d. done_after g.D.Disk.told g.D.Disk.moment g.D.Disk.since _ _ _ _ c.is_any_bound.ensures.ran
      (done_then g.D.Disk.told _ _ _ _ _ c.in_ok-clear_file.ensures.done d)) c.put_file.ensures.done;
}
