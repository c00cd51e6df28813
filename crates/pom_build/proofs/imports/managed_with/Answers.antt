use Rattle.std.proofs.Common.{◌≡◌, List, [], ◌∷◌, not, filter, ap, ◌∙◌}
use Rattle.res_base.specs.Known.{known_of}
use Rattle.res_base.specs.declared.pom.DepRecord.{DepRecord}
use Rattle.pom_build.specs.Imports.{is_import, managed_from, managed_rows}
use Rattle.pom_build.specs.Tries.{IsGathered}
use Rattle.pom_build.specs.Visits.{all_needed}
use Rattle.pom_build.specs.declared.imports.Tried.TheVariants as tries
use Rattle.pom_build.specs.declared.line.Line.{Line}
use Rattle.pom_build.proofs.Kept.{gathered_as}
use Rattle.pom_build.proofs.Needed.{fault_or_keys, keys_alone}
use Rattle.pom_build.proofs.imports.managed_with.Goals as goal

pub returns-in-Fault : goal.returns-in-Fault
returns-in-Fault c =
    let known = known_of c.args.known.now.pairs in
    let repos = c.args.known.now.repos in
    let line : Line = c.args.named.now in
    let own : List DepRecord = filter (λ row. not (is_import row)) (managed_rows line) in
    let imports : List DepRecord = filter is_import (managed_rows line) in
    let gathered : IsGathered known repos c.args.left (c.args.coord.now ∷ []) own imports c.new-memo.result (tries.Fault c.in-Fault.fault) c.gather.new.memo =
    gathered_as known repos c.args.left c.in_ok-chain.chain (c.args.coord.now ∷ []) c.in_ok-table.field-0.table own c.as_slice.result.now imports c.new-memo.result c.gather.new.memo c.in_ok-sum.field-0 (tries.Fault c.in-Fault.fault)
    c.in_ok-chain.ensures c.in_ok-table.ensures.rows (c.as_slice.ensures ∙ c.in_ok-table.ensures.imports) c.in-Fault.is c.in_ok-sum.ensures in
    let keys : c.in_ok-keys-in-Fault.keys ≡ all_needed (managed_from known repos c.args.left (c.args.coord.now ∷ [])) [] imports =
    c.in_ok-keys-in-Fault.ensures ∙ ap (all_needed (managed_from known repos c.args.left (c.args.coord.now ∷ [])) []) (c.as_slice-in-Fault.ensures ∙ c.in_ok-table.ensures.imports) in
    c.needed_or.ensures ∙ fault_or_keys known repos c.args.left c.args.coord.now line c.in-Fault.fault c.in_ok-keys-in-Fault.keys keys gathered.stops

pub returns : goal.returns
returns c =
    let known = known_of c.args.known.now.pairs in
    let repos = c.args.known.now.repos in
    let line : Line = c.args.named.now in
    let own : List DepRecord = filter (λ row. not (is_import row)) (managed_rows line) in
    let imports : List DepRecord = filter is_import (managed_rows line) in
    let gathered : IsGathered known repos c.args.left (c.args.coord.now ∷ []) own imports c.new-memo.result tries.Wanting c.gather.new.memo =
    gathered_as known repos c.args.left c.in_ok-chain.chain (c.args.coord.now ∷ []) c.in_ok-table.field-0.table own c.as_slice.result.now imports c.new-memo.result c.gather.new.memo c.in_ok-sum.field-0 tries.Wanting
    c.in_ok-chain.ensures c.in_ok-table.ensures.rows (c.as_slice.ensures ∙ c.in_ok-table.ensures.imports) c.in-Wanting.is c.in_ok-sum.ensures in
    let keys : c.in_ok-keys-in-Wanting.keys ≡ all_needed (managed_from known repos c.args.left (c.args.coord.now ∷ [])) [] imports =
    c.in_ok-keys-in-Wanting.ensures ∙ ap (all_needed (managed_from known repos c.args.left (c.args.coord.now ∷ [])) []) (c.as_slice-in-Wanting.ensures ∙ c.in_ok-table.ensures.imports) in
    keys_alone known repos c.args.left c.args.coord.now line c.in_ok-keys-in-Wanting.keys keys gathered.stops
