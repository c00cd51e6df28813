use Rattle.std.proofs.Common.{ℕ, ◌≡◌, ◌+◌, ◌++◌, List, [], ◌∷◌, length, take, sym, ap, subst, ◌∙◌, arith, take_all}
use Rattle.std.specs.List.Sorted.{IsStrictlySortedBy}
use Rattle.std.proofs.lemmas.Map.Entries.{length-keys_of}
use Rattle.indexmap.specs.IndexMap.{keys}
use Rattle.res_base.specs.Members.{Among}
use Rattle.res_base.specs.Names.{text_cmp}
use Rattle.disk_base.proofs.Order.{found_among, keys_more, ordered}
use Rattle.disk_base.proofs.rows.Table.names.Goals as goal

pub loop-i-preserved : goal.loop-i-preserved
loop-i-preserved c =
    let at = c.in_ok-name_at.ensures in
    let more = keys_more c.sort_keys.new.self.entries c.loop-i.i (c.loop-i.i + 1) c.in_ok-name_at.field-0 at.0 (omega arith) at.1 in
    c.in_ok-push.ensures.ok ∙ (ap (λ (names : List (List ℕ)). names ++ c.in_ok-name_at.field-0 ∷ []) c.loop-i.invariant ∙ sym more)

pub returns-clause-order : goal.returns-clause-order
returns-clause-order c =
    let rows = c.sort_keys.new.self in
    let size = length-keys_of rows.entries in
    let all : c.loop-i.names ≡ keys rows =
    c.loop-i.invariant ∙ take_all c.loop-i.i (keys rows) (omega (arith, size, c.loop-i-test.false, c.len-i-end.ensures.len)) in
    record {
      rising = subst (λ (names : List (List ℕ)). IsStrictlySortedBy text_cmp names) (sym all)
          (ordered (keys rows) c.in_ok-sort_keys.ensures.sorted c.in_ok-sort_keys.ensures.unique);
      all = λ name h. subst (λ (names : List (List ℕ)). Among name names) (sym all) (found_among rows.entries name h);
    }
