use Rattle.std.proofs.Common.{rules, true, true≢false}
use Rattle.disk_base.proofs.Composed.{ran_cut}
use Rattle.cache_images.specs.Sequences.{take_steps}
use Rattle.cache_store.proofs.AfterReads.{done_after, ran_after}
use Rattle.cache_store.proofs.files.take_file.Goals as goal
use Rattle.std.proofs.lemmas.Result.{on_ok_weaker}

pub returns-in_err-there-clause-clears : goal.returns-in_err-there-clause-clears
returns-in_err-there-clause-clears g c = record {
  there = true;
  neither = λ e. absurd (true≢false e);
  ran = ran_cut g.D.Disk.told g.D.Disk.moment g.D.Disk.since _ (take_steps c.args.name.now c.args.gone.now) _ _
      c.is_any_bound.ensures.ran;
  done = search rules;
}

pub returns-clause-clears : goal.returns-clause-clears
returns-clause-clears g c = record {
  there = c.in_ok-there.there;
  neither = c.in_ok-there.ensures.neither;
  ran = ran_after g.D.Disk.told g.D.Disk.moment g.D.Disk.since _ _ _ _ c.is_any_bound.ensures.ran c.clear_file.ensures.ran;
  done = on_ok_weaker c.clear_file.result
      (λ d. done_after g.D.Disk.told g.D.Disk.moment g.D.Disk.since _ _ _ _ c.is_any_bound.ensures.ran d)
      c.clear_file.ensures.done;
}
