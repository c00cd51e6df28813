use Rattle.std.proofs.Common.{◌≡◌, ◌+◌, ◌-◌, suc, not, List, [], ◌∷◌, ◌++◌, take, drop, filter, ap, arith, refl, rules, sym, subst, ◌∙◌}
use Rattle.std.specs.Option.{IfSome}
use Rattle.std.specs.Prelude.{max, min}
use Rattle.std.proofs.lemmas.List.{take_more}
use Rattle.std.proofs.lemmas.Result.{IfOk-weaker}
use Rattle.res_base.specs.Known.{known_of}
use Rattle.res_base.specs.declared.coord.Coord.{Coord}
use Rattle.res_base.specs.declared.pom.DepRecord.{DepRecord}
use Rattle.pom_build.specs.Imports.{import_coord, imported, is_import, managed_rows}
use Rattle.pom_build.specs.Lines.{line_of}
use Rattle.row_lists.specs.RowLists.{with_imported}
use Rattle.pom_build.specs.Tries.{IsGathered, IsReady, IsSum, IsTried, kept_at}
use Rattle.pom_build.specs.declared.build.BuildFault.TheVariants.{LineAbsent}
use Rattle.pom_build.specs.declared.imports.Tried.TheVariants as tries
use Rattle.pom_build.specs.declared.line.Line.{Line}
use Rattle.pom_build.specs.declared.memo.Kept.{Kept}
use Rattle.pom_build.specs.declared.outcome.Outcome.{Outcome}
use Rattle.pom_build.specs.declared.outcome.Outcome.TheVariants.{Built, Needs, NotFound, Refused}
use Rattle.pom_build.proofs.Kept.{built_of_imports, fault_next, fault_of_imports, fault_of_line, gathered_as, high_again, kept_is_tried, longer_ready, parted, sum_next, tried_as, wanting_imports, wanting_line, wanting_next}
use Rattle.pom_build.proofs.imports.+imports.Goals as goal

pub by_line-gather-requires : goal.by_line-gather-requires
by_line-gather-requires t c = (
  search rules,
  subst (λ (longer : List Coord). IsReady (known_of c.args.known.now.pairs) c.args.known.now.repos longer c.args.memo.now) (sym c.in_ok-longer.ensures)
      (longer_ready (known_of c.args.known.now.pairs) c.args.known.now.repos c.args.chain.now c.args.coord.now c.args.memo.now c.requires.ready c.requires.new),
)

pub by_line-returns-in-Fault : goal.by_line-returns-in-Fault
by_line-returns-in-Fault t c =
    let known = known_of c.args.known.now.pairs in
    let repos = c.args.known.now.repos in
    let own : List DepRecord = filter (λ row. not (is_import row)) (managed_rows c.args.line) in
    let imports : List DepRecord = filter is_import (managed_rows c.args.line) in
    let same : c.in_ok-named.named ≡ c.args.line = c.in_ok-named.ensures in
    let table : c.in_ok-table.field-0.table ≡ own = c.in_ok-table.ensures.rows ∙ ap (λ (line : Line). filter (λ row. not (is_import row)) (managed_rows line)) same in
    let listed : c.as_slice.result.now ≡ imports = c.as_slice.ensures ∙ c.in_ok-table.ensures.imports ∙ ap (λ (line : Line). filter is_import (managed_rows line)) same in
    fault_of_imports known repos c.args.left c.args.chain.now c.args.coord.now c.args.line c.in-Fault.fault c.args.memo.now c.gather.new.memo c.requires.line c.requires.apart
    (gathered_as known repos c.args.left c.in_ok-longer.longer (c.args.chain.now ++ c.args.coord.now ∷ []) c.in_ok-table.field-0.table own c.as_slice.result.now imports c.args.memo.now c.gather.new.memo c.in_ok-fault.field-0 (tries.Fault c.in-Fault.fault)
    c.in_ok-longer.ensures table listed c.in-Fault.is c.in_ok-fault.ensures)

pub by_line-returns-in-Wanting : goal.by_line-returns-in-Wanting
by_line-returns-in-Wanting t c =
    let known = known_of c.args.known.now.pairs in
    let repos = c.args.known.now.repos in
    let own : List DepRecord = filter (λ row. not (is_import row)) (managed_rows c.args.line) in
    let imports : List DepRecord = filter is_import (managed_rows c.args.line) in
    let same : c.in_ok-named.named ≡ c.args.line = c.in_ok-named.ensures in
    let table : c.in_ok-table.field-0.table ≡ own = c.in_ok-table.ensures.rows ∙ ap (λ (line : Line). filter (λ row. not (is_import row)) (managed_rows line)) same in
    let listed : c.as_slice.result.now ≡ imports = c.as_slice.ensures ∙ c.in_ok-table.ensures.imports ∙ ap (λ (line : Line). filter is_import (managed_rows line)) same in
    wanting_imports known repos c.args.left c.args.chain.now c.args.coord.now c.args.line c.args.memo.now c.gather.new.memo c.requires.line c.requires.apart
    (gathered_as known repos c.args.left c.in_ok-longer.longer (c.args.chain.now ++ c.args.coord.now ∷ []) c.in_ok-table.field-0.table own c.as_slice.result.now imports c.args.memo.now c.gather.new.memo c.in_ok-fault.field-0 tries.Wanting
    c.in_ok-longer.ensures table listed c.in-Wanting.is c.in_ok-fault.ensures)

pub by_line-returns : goal.by_line-returns
by_line-returns t c =
    let known = known_of c.args.known.now.pairs in
    let repos = c.args.known.now.repos in
    let own : List DepRecord = filter (λ row. not (is_import row)) (managed_rows c.args.line) in
    let imports : List DepRecord = filter is_import (managed_rows c.args.line) in
    let same : c.in_ok-named.named ≡ c.args.line = c.in_ok-named.ensures in
    let table : c.in_ok-table.field-0.table ≡ own = c.in_ok-table.ensures.rows ∙ ap (λ (line : Line). filter (λ row. not (is_import row)) (managed_rows line)) same in
    let listed : c.as_slice.result.now ≡ imports = c.as_slice.ensures ∙ c.in_ok-table.ensures.imports ∙ ap (λ (line : Line). filter is_import (managed_rows line)) same in
    built_of_imports known repos c.args.left c.args.chain.now c.args.coord.now c.args.line c.in-Built.sum c.args.memo.now c.gather.new.memo c.keep.new.memo c.requires.line c.requires.apart
    (gathered_as known repos c.args.left c.in_ok-longer.longer (c.args.chain.now ++ c.args.coord.now ∷ []) c.in_ok-table.field-0.table own c.as_slice.result.now imports c.args.memo.now c.gather.new.memo c.in_ok-fault.field-0 (tries.Built c.in-Built.sum)
    c.in_ok-longer.ensures table listed c.in-Built.is c.in_ok-fault.ensures)
    c.in_ok-keep-in-Built.ensures

pub expand-returns-in-Needs : goal.expand-returns-in-Needs
expand-returns-in-Needs t c =
    let more : c.args.left ≡ suc (c.args.left - 1) = omega arith in
    let line : line_of (known_of c.args.known.now.pairs) c.args.known.now.repos c.args.coord.now ≡ Needs c.in-Needs.field-0 = sym c.in_ok-line_of.ensures ∙ c.in-Needs.is in
    wanting_line (known_of c.args.known.now.pairs) c.args.known.now.repos c.args.left (c.args.left - 1) c.args.chain.now c.args.coord.now c.in-Needs.field-0 c.args.memo.now more line c.requires.apart c.requires.ready

pub expand-returns-in-NotFound : goal.expand-returns-in-NotFound
expand-returns-in-NotFound t c =
    let more : c.args.left ≡ suc (c.args.left - 1) = omega arith in
    let absent : Outcome Line = NotFound c.in-NotFound.why in
    let line : line_of (known_of c.args.known.now.pairs) c.args.known.now.repos c.args.coord.now ≡ absent = sym c.in_ok-line_of.ensures ∙ c.in-NotFound.is in
    let fault : imported c.args.coord.now absent ≡ Refused (LineAbsent c.in_ok-coord-in-NotFound.coord c.in-NotFound.why) =
    ap (λ (one : Coord). Refused (LineAbsent one c.in-NotFound.why)) (sym c.in_ok-coord-in-NotFound.ensures) in
    fault_of_line (known_of c.args.known.now.pairs) c.args.known.now.repos c.args.left (c.args.left - 1) c.args.chain.now c.args.coord.now absent (LineAbsent c.in_ok-coord-in-NotFound.coord c.in-NotFound.why) c.args.memo.now
    more line fault c.requires.apart c.requires.ready

pub expand-returns-in-Refused : goal.expand-returns-in-Refused
expand-returns-in-Refused t c =
    let more : c.args.left ≡ suc (c.args.left - 1) = omega arith in
    let line : line_of (known_of c.args.known.now.pairs) c.args.known.now.repos c.args.coord.now ≡ Refused c.in-Refused.fault = sym c.in_ok-line_of.ensures ∙ c.in-Refused.is in
    fault_of_line (known_of c.args.known.now.pairs) c.args.known.now.repos c.args.left (c.args.left - 1) c.args.chain.now c.args.coord.now (Refused c.in-Refused.fault) c.in-Refused.fault c.args.memo.now
    more line refl c.requires.apart c.requires.ready

pub gather-returns-in-Fault : goal.gather-returns-in-Fault
gather-returns-in-Fault t c =
    let known = known_of c.args.known.now.pairs in
    let repos = c.args.known.now.repos in
    let left = c.args.left in
    let chain = c.args.chain.now in
    let i = c.loop-import.import-index in
    let imports : List DepRecord = c.args.imports.now in
    let row : DepRecord = c.import-item.result in
    let more : take (i + 1) imports ≡ take i imports ++ row ∷ [] =
    take_more imports i row c.loop-import-test.true ∙ ap (λ (one : DepRecord). take i imports ++ one ∷ []) (sym c.import-item.is) in
    let tried : IsTried known repos left chain (import_coord row) c.loop-import.memo (tries.Fault c.in-Fault.fault) c.try_from.new.memo =
    tried_as known repos left chain c.in_ok-coord.coord (import_coord row) c.loop-import.memo c.try_from.new.memo c.in_ok-try_from.field-0 (tries.Fault c.in-Fault.fault) c.in_ok-coord.ensures c.in-Fault.is c.in_ok-try_from.ensures in
    subst (λ (all : List DepRecord). IsGathered known repos left chain c.args.table all c.args.memo.now (tries.Fault c.in-Fault.fault) c.try_from.new.memo) (parted imports i row more)
    (fault_next known repos left chain c.args.table (take i imports) (drop (i + 1) imports) row c.loop-import.sum c.args.memo.now c.loop-import.memo c.try_from.new.memo c.in-Fault.fault c.loop-import.invariant.2 c.loop-import.invariant.1 tried)

pub gather-returns-in-Wanting : goal.gather-returns-in-Wanting
gather-returns-in-Wanting t c =
    let known = known_of c.args.known.now.pairs in
    let repos = c.args.known.now.repos in
    let left = c.args.left in
    let chain = c.args.chain.now in
    let i = c.loop-import.import-index in
    let imports : List DepRecord = c.args.imports.now in
    let row : DepRecord = c.import-item.result in
    let more : take (i + 1) imports ≡ take i imports ++ row ∷ [] =
    take_more imports i row c.loop-import-test.true ∙ ap (λ (one : DepRecord). take i imports ++ one ∷ []) (sym c.import-item.is) in
    let tried : IsTried known repos left chain (import_coord row) c.loop-import.memo tries.Wanting c.try_from.new.memo =
    tried_as known repos left chain c.in_ok-coord.coord (import_coord row) c.loop-import.memo c.try_from.new.memo c.in_ok-try_from.field-0 tries.Wanting c.in_ok-coord.ensures c.in-Wanting.is c.in_ok-try_from.ensures in
    subst (λ (all : List DepRecord). IsGathered known repos left chain c.args.table all c.args.memo.now tries.Wanting c.try_from.new.memo) (parted imports i row more)
    (wanting_next known repos left chain c.args.table (take i imports) (drop (i + 1) imports) row c.loop-import.sum c.args.memo.now c.loop-import.memo c.try_from.new.memo c.loop-import.invariant.2 c.loop-import.invariant.1 tried)

pub gather-loop-import-preserved : goal.gather-loop-import-preserved
gather-loop-import-preserved t c =
    let known = known_of c.args.known.now.pairs in
    let repos = c.args.known.now.repos in
    let left = c.args.left in
    let chain = c.args.chain.now in
    let i = c.loop-import.import-index in
    let imports : List DepRecord = c.args.imports.now in
    let row : DepRecord = c.import-item.result in
    let before = c.loop-import.memo in
    let after = c.try_from.new.memo in
    let sum = c.loop-import.sum in
    let longer = c.in_ok-sum-in-Built.sum in
    let more : take (i + 1) imports ≡ take i imports ++ row ∷ [] =
    take_more imports i row c.loop-import-test.true ∙ ap (λ (one : DepRecord). take i imports ++ one ∷ []) (sym c.import-item.is) in
    let tried : IsTried known repos left chain (import_coord row) before (tries.Built tt) after =
    tried_as known repos left chain c.in_ok-coord.coord (import_coord row) before after c.in_ok-try_from.field-0 (tries.Built tt) c.in_ok-coord.ensures c.in-Built.is c.in_ok-try_from.ensures in
    let rows : IfSome (kept_at after (import_coord row)) (λ (kept : Kept). longer.table ≡ with_imported sum.table kept.rows) =
    subst (λ (coord : Coord). IfSome (kept_at after coord) (λ (kept : Kept). longer.table ≡ with_imported sum.table kept.rows)) c.in_ok-coord.ensures c.in_ok-sum-in-Built.ensures.rows in
    let levels : IfSome (kept_at after (import_coord row)) (λ (kept : Kept). longer.levels ≡ max sum.levels (min kept.levels left)) =
    subst (λ (coord : Coord). IfSome (kept_at after coord) (λ (kept : Kept). longer.levels ≡ max sum.levels (min kept.levels left))) c.in_ok-coord.ensures c.in_ok-sum-in-Built.ensures.levels in (
      tried.ready,
      λ one has. tried.keeps one (c.loop-import.invariant.1 one has),
      subst (λ (front : List DepRecord). IsSum known repos left chain c.args.table front longer after) (sym more)
          (sum_next known repos left chain c.args.table (take i imports) row sum longer before after c.loop-import.invariant.2 tried rows levels),
    )

pub too_high-returns : goal.too_high-returns
too_high-returns t c =
    let known = known_of c.args.known.now.pairs in
    let repos = c.args.known.now.repos in
    let left = c.args.left in
    let chain = c.args.chain.now in
    let coord = c.args.coord.now in
    let memo = c.args.memo.now in
    IfOk-weaker c.expand.result (λ tried. IsTried known repos left chain coord c.new-fresh.result tried c.expand.new.memo) (λ tried. IsTried known repos left chain coord memo tried memo)
    (λ tried once. high_again known repos left chain coord memo c.new-fresh.result c.expand.new.memo tried c.requires.ready c.requires.there c.requires.kept once) c.expand.ensures

pub try_from-returns-then-levels-left : goal.try_from-returns-then-levels-left
try_from-returns-then-levels-left t c =
    let found = sym c.levels.ensures ∙ c.in-Some.is in
    kept_is_tried (known_of c.args.known.now.pairs) c.args.known.now.repos c.args.left c.args.chain.now c.args.coord.now c.args.memo.now c.in-Some.levels c.requires found c.if-levels-left.true
