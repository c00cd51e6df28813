use Rattle.std.proofs.Common.{sym, subst, ◌≡◌, true}
use Rattle.std.specs.String.{string_bytes}
use Rattle.case_table.specs.Rows.{may_follow, NamesRise}
use Rattle.case_table.proofs.Search.{rise_more}
use Rattle.case_table.proofs.table.Table.push.Goals as goal

pub invariant_of-self-2 : goal.invariant_of-self-2
invariant_of-self-2 g c =
    let follows : may_follow c.self.inside.rows.items (string_bytes c.in_ok-name.name) ≡ true =
    rw (c.in_ok-name.ensures.ok, c.self.view_is) c.requires in
    subst NamesRise (sym c.in_ok-push.ensures.items) (rise_more c.self.inside.rows.items
    (string_bytes c.in_ok-name.name) c.args.value c.self.invariant follows)

pub returns-clause-rising : goal.returns-clause-rising
returns-clause-rising g c = invariant_of-self-2 g c
