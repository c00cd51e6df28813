use Rattle.std.proofs.Common.{◌≡◌, ◌∷◌, ◌++◌, [], true, false, get_or, sym, ◌∙◌}
use Rattle.std.specs.Prelude.{is_none}
use Rattle.exclusion_sets.specs.Minimal.{covering_place}
use Rattle.live_walk.proofs.States.{added, on_ok, stayed}
use Rattle.live_walk.proofs.walk.put.Goals as goal

pub returns-then-branch-clause-put : goal.returns-then-branch-clause-put
returns-then-branch-clause-put c =
    let free : is_none
    (covering_place (get_or c.args.table.now c.args.place c.index-table-place.result).sets c.args.set) ≡ true =
    sym c.in_ok-put_in.ensures.answer ∙ c.if-branch.true in
    let again : c.in_ok-again.again ≡ c.args.set = c.in_ok-again.ensures in
    let step =
    added c.args.modules.now c.args.table.now c.args.place c.args.set c.put_in.new.kept c.index-table-place.result
    c.requires.size c.requires.distinct c.requires.place c.args.next.now c.in_ok-put_in.ensures.sets free in
    on_ok c.push.result
    (λ (e : c.push.new.self ≡ c.args.next.now ++ record { place = c.args.place; set = c.in_ok-again.again } ∷ []).
    rw (e, again) step) c.push.ensures.ok

pub returns-clause-put : goal.returns-clause-put
returns-clause-put c =
    let taken : is_none
    (covering_place (get_or c.args.table.now c.args.place c.index-table-place.result).sets c.args.set) ≡ false =
    sym c.in_ok-put_in.ensures.answer ∙ c.if-branch.false in
    stayed c.args.modules.now c.args.table.now c.args.place c.args.set c.put_in.new.kept c.index-table-place.result
    c.requires.size c.requires.distinct c.requires.place c.args.next.now c.in_ok-put_in.ensures.sets taken
