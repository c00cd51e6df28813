use Rattle.std.proofs.Common.{ℕ, ◌≡◌, List, sym, subst}
use Rattle.std.specs.Prelude.{OnOk}
use Rattle.disk_base.specs.Names.{after}
use Rattle.disk_base.specs.Tables.{names_in}
use Rattle.disk_base.specs.declared.steps.DiskStep.{DiskStep}
use Rattle.disk_base.proofs.rows.Table.apply.Goals as goal

pub returns-in-Rename : goal.returns-in-Rename
returns-in-Rename c =
    subst (λ (x : DiskStep). OnOk c.rename.result ((n : List ℕ) → names_in c.rename.new.self n ≡ after x (names_in c.args.self.now) n))
    (sym c.in-Rename.is) c.rename.ensures

pub returns-in-SyncNames : goal.returns-in-SyncNames
returns-in-SyncNames c =
    subst (λ (x : DiskStep). OnOk c.sync_names.result ((n : List ℕ) → names_in c.sync_names.new.self n ≡ after x (names_in c.args.self.now) n))
    (sym c.in-SyncNames.is) c.sync_names.ensures
