use Rattle.std.proofs.Common.{◌≡◌, true, false, Some, [], ◌∷◌, ◌++◌, length, sym, ◌∙◌, ap, subst, rules}
use Rattle.std.specs.BTreeMap.{Updates}
use Rattle.res_base.specs.Names.{module_cmp, module_eq}
use Rattle.round_core.specs.Tables.{HasNumbers, has, once}
use Rattle.round_core.proofs.NumberTables.{known_by, new_module, numbers_put, old_module}
use Rattle.round_core.proofs.numbers.ModuleTable.with.Goals as goal

pub returns-then-contains_key : goal.returns-then-contains_key
returns-then-contains_key c =
    let m = c.args.«module».now in
    let names = c.self.inside.names.items in
    let old : has names m ≡ true =
    sym (known_by names c.self.inside.numbers m c.self.invariant) ∙ sym c.contains_key.ensures ∙ c.if-contains_key.true in
    old_module names m old ∙ ap (λ names. once module_eq names m) c.self.view_is

pub invariant_of-result-2 : goal.invariant_of-result-2
invariant_of-result-2 c =
    let m = c.args.«module».now in
    let names = c.self.inside.names.items in
    let new : has names m ≡ false =
    sym (known_by names c.self.inside.numbers m c.self.invariant) ∙ sym c.contains_key.ensures ∙ c.if-contains_key.false in
    let noted : Updates module_cmp c.self.inside.numbers c.insert.new.self m (Some (length names)) = search rules in
    let pushed : c.push.new.self.items ≡ names ++ m ∷ [] = search rules in
    subst (λ names. HasNumbers names c.insert.new.self) (sym pushed)
    (numbers_put names c.self.inside.numbers c.insert.new.self m c.self.invariant new noted)

pub returns : goal.returns
returns c =
    let m = c.args.«module».now in
    let names = c.self.inside.names.items in
    let new : has names m ≡ false =
    sym (known_by names c.self.inside.numbers m c.self.invariant) ∙ sym c.contains_key.ensures ∙ c.if-contains_key.false in
    let pushed : c.push.new.self.items ≡ names ++ m ∷ [] = search rules in
    pushed ∙ new_module names m new ∙ ap (λ names. once module_eq names m) c.self.view_is
