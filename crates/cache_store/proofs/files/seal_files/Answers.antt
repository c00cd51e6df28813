use Rattle.std.proofs.Common.{rules, true, true≢false}
use Rattle.std.proofs.lemmas.Result.{on_ok_weaker}
use Rattle.cache_images.specs.Sequences.{put_steps, seal_list}
use Rattle.disk_base.proofs.Composed.{done_first, done_then, ran_cut, ran_first, ran_stop, ran_then}
use Rattle.cache_store.proofs.AfterReads.{bound_after, done_after, ran_after}
use Rattle.cache_store.proofs.files.seal_files.Goals as goal

pub sync-requires : goal.sync-requires
sync-requires g c =
    bound_after g.D.Disk.told g.D.Disk.moment g.D.Disk.since c.args.part.now _ _ c.is_any_bound.ensures.ran c.requires

pub returns-in_err-there-clause-clears : goal.returns-in_err-there-clause-clears
returns-in_err-there-clause-clears g c = record {
  there = true;
  neither = λ e. absurd (true≢false e);
  ran = ran_cut g.D.Disk.told g.D.Disk.moment g.D.Disk.since _
      (seal_list true c.args.part.now c.args.name.now c.args.gone.now c.args.record_part.now c.args.entry.now
      c.args.line.now) _ _ c.is_any_bound.ensures.ran;
  done = search rules;
}

pub returns-in-Err-clause-clears : goal.returns-in-Err-clause-clears
returns-in-Err-clause-clears g c = record {
  there = c.in_ok-there.there;
  neither = c.in_ok-there.ensures.neither;
  ran = ran_after g.D.Disk.told g.D.Disk.moment g.D.Disk.since _ _ _ _ c.is_any_bound.ensures.ran
      (ran_stop g.D.Disk.told g.D.Disk.moment g.D.Disk.since _ _ _ _ c.sync.ensures.ran);
  done = tt;
}

pub returns-in_err-clear_file-clause-clears : goal.returns-in_err-clear_file-clause-clears
returns-in_err-clear_file-clause-clears g c = record {
  there = c.in_ok-there.there;
  neither = c.in_ok-there.ensures.neither;
  ran = ran_after g.D.Disk.told g.D.Disk.moment g.D.Disk.since _ _ _ _ c.is_any_bound.ensures.ran
      (ran_first g.D.Disk.told g.D.Disk.moment g.D.Disk.since _ _ _ _ _ c.sync.ensures.ran c.in_default.ensures.done
      (ran_cut g.D.Disk.told g.D.Disk.moment g.D.Disk.since _
      (put_steps c.args.record_part.now c.args.entry.now c.args.line.now) _ _ c.clear_file.ensures.ran));
  done = search rules;
}

pub returns-clause-clears : goal.returns-clause-clears
returns-clause-clears g c = record {
  there = c.in_ok-there.there;
  neither = c.in_ok-there.ensures.neither;
  ran = ran_after g.D.Disk.told g.D.Disk.moment g.D.Disk.since _ _ _ _ c.is_any_bound.ensures.ran
      (ran_first g.D.Disk.told g.D.Disk.moment g.D.Disk.since _ _ _ _ _ c.sync.ensures.ran c.in_default.ensures.done
      (ran_then g.D.Disk.told g.D.Disk.moment g.D.Disk.since _ _ _ _ _ c.clear_file.ensures.ran
      c.in_ok-clear_file.ensures.done c.put_file.ensures.ran));
  done = on_ok_weaker c.put_file.result
      (λ d. done_after g.D.Disk.told g.D.Disk.moment g.D.Disk.since _ _ _ _ c.is_any_bound.ensures.ran
      (done_first g.D.Disk.told _ _ _ _ _ c.in_default.ensures.done
      (done_then g.D.Disk.told _ _ _ _ _ c.in_ok-clear_file.ensures.done d))) c.put_file.ensures.done;
}
