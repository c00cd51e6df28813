use Rattle.std.proofs.Common.{ℕ, List, Some, sym, ap, ◌∙◌}
use Rattle.disk_base.proofs.table.name_at.Goals as goal

pub returns : goal.returns
returns c =
    let row = (c.in-Some.pair).1.now in
    (row, sym c.in-Some.ensures.entry ∙ ap (λ (name : List ℕ). Some (name, row)) (sym c.in_ok-copy.ensures))
