use Rattle.std.proofs.Common.{◌≡◌, ◌∙◌, ◌-◌, ap, sym, drop, take, length, length-drop, get_or, List, ◌∷◌, arith}
use Rattle.std.proofs.Math.Seq.{take-length}
use Rattle.std.proofs.lemmas.List.{drop_more}
use Rattle.reconcile_rules.specs.declared.request.IntervalRequest.{IntervalRequest}
use Rattle.reconcile_rules.specs.Apart.{first_apart, from_first_apart, least_apart}
use Rattle.reconcile_rules.proofs.Partners.{no_pair, pair, no_partner, whole_rest, begins_with}
use Rattle.reconcile_rules.proofs.apart.least_apart.Goals as goal

pub returns-in-empty : goal.returns-in-empty
returns-in-empty c =
    let is = whole_rest c.args.asked.now c.place_of_first.result ∙ c.place_of_first.ensures.rest in
    no_pair c.args.asked.now _ is (omega (arith, c.in-empty.len_below))

pub returns-in-Some : goal.returns-in-Some
returns-in-Some c =
    let is = whole_rest c.args.asked.now c.place_of_first.result ∙ c.place_of_first.ensures.rest in
    let begins = begins_with _ c.first-item.result c.in-len1-up.len_at_least c.first-item.is in
    pair c.args.asked.now _ is c.first-item.result _ begins c.in-Some.second (sym c.in-Some.is ∙ c.first_apart.ensures)

pub returns-in-None : goal.returns-in-None
returns-in-None c =
    let is = whole_rest c.args.asked.now c.place_of_first.result ∙ c.place_of_first.ensures.rest in
    let begins = begins_with _ c.first-item.result c.in-len1-up.len_at_least c.first-item.is in
    absurd (no_partner c.args.asked.now _ is c.first-item.result _ begins (sym c.in-None.is ∙ c.first_apart.ensures))
