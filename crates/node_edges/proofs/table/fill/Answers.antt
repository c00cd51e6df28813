use Rattle.std.proofs.Common.{◌≡◌, ◌<◌, ℕ, length, sym, ◌∙◌, subst, arith}
use Rattle.node_edges.specs.Edges.{is_root, leaves}
use Rattle.node_edges.specs.Table.{row_at}
use Rattle.node_edges.proofs.Rows.{more}
use Rattle.node_edges.proofs.table.fill.Goals as goal

pub loop-at-preserved : goal.loop-at-preserved
loop-at-preserved c =
    let here : c.loop-at.at < length c.args.edges.now = omega arith in
    record {
      size = c.in_ok-put.ensures.size ∙ c.loop-at.invariant.size;
      roots = more is_root c.args.edges.now c.loop-at.at c.index-edges-at.result c.loop-at.roots c.put.new.roots here c.index-edges-at.is c.loop-at.invariant.roots c.in_ok-put.ensures.roots;
      rows = λ place within.
          more (leaves place) c.args.edges.now c.loop-at.at c.index-edges-at.result (row_at c.loop-at.rows place) (row_at c.put.new.rows place) here c.index-edges-at.is (c.loop-at.invariant.rows place within)
          (c.in_ok-put.ensures.rows place (subst (λ (n : ℕ). place < n) (sym c.loop-at.invariant.size) within));
    }
