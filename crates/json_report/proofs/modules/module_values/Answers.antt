use Rattle.std.proofs.Common.{◌≡◌, ◌<◌, ◌+◌, ◌++◌, [], ◌∷◌, List, drop, length, map, ◌∙◌, ap, subst, arith}
use Rattle.std.proofs.lemmas.List.{map_push}
use Rattle.json_report.specs.Report.{module_values}
use Rattle.json_report.proofs.Found.{one_more}
use Rattle.resolution.specs.declared.settled.Node.{Node}
use Rattle.serde_json.specs.Data.{Data}
use Rattle.serde_json.specs.View.{view}
use Rattle.json_report.proofs.modules.module_values.Goals as goal

pub loop-place-preserved : goal.loop-place-preserved
loop-place-preserved c =
    let nodes : c.as_slice-nodes.result.now ≡ c.args.settled.now.nodes = c.as_slice-nodes.ensures in
    let within : c.loop-place.place < length c.as_slice-nodes.result.now = omega arith in
    let here : c.loop-place.place < length c.args.settled.now.nodes = subst (λ (all : List Node). c.loop-place.place < length all) nodes within in
    let rest : List Data = module_values c.args.settled.now c.args.addresses.now (c.loop-place.place + 1) (drop (c.loop-place.place + 1) c.args.settled.now.nodes) in
    let pushed : c.push.new.self.items ≡ c.loop-place.made.items ++ c.in_ok-module_value.field-0 ∷ [] = c.in_ok-push.ensures.items in
    ap (λ z. map view z ++ rest) pushed
    ∙ ap (λ z. z ++ rest) (map_push view c.loop-place.made.items c.in_ok-module_value.field-0)
    ∙ one_more c.args.settled.now c.args.addresses.now c.loop-place.place c.index-nodes-place.result (map view c.loop-place.made.items) (view c.in_ok-module_value.field-0) (module_values c.args.settled.now c.args.addresses.now 0 c.args.settled.now.nodes)
    here (cc (c.index-nodes-place.is, c.as_slice-nodes.ensures)) (cc (c.in_ok-module_value.ensures, c.index-nodes-place.is, c.as_slice-nodes.ensures)) c.loop-place.invariant
