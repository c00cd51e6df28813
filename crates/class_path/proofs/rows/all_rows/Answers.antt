use Rattle.class_path.specs.Files.{row_for}
use Rattle.class_path.proofs.Whole.{row_more}
use Rattle.res_base.specs.Known.{known_of}
use Rattle.class_path.proofs.rows.all_rows.Goals as goal

pub loop-key-preserved : goal.loop-key-preserved
loop-key-preserved c =
    row_more (row_for (known_of c.args.known.now.pairs) c.args.addresses.now) c.loop-key.yielded c.in-Some.key c.loop-key.rows c.put_row.new.rows c.in_ok-row_at.field-0 c.loop-key.invariant c.in_ok-row_at.ensures c.in_ok-put_row.ensures
