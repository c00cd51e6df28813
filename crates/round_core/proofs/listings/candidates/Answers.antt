use Rattle.std.proofs.Common.{◌≡◌, ◌+◌, ℕ, List, [], ◌∷◌, ◌++◌, take, sym, ◌∙◌, ap}
use Rattle.std.proofs.Math.Numerals.{add-one}
use Rattle.std.proofs.Math.Seq.{take-suc}
use Rattle.round_core.specs.Listings.{candidates}
use Rattle.round_core.proofs.Made.{candidates_more}
use Rattle.round_core.proofs.listings.candidates.Goals as goal

pub loop-text-preserved : goal.loop-text-preserved
loop-text-preserved c =
    let given : List (List ℕ) = c.args.listed.now in
    let place = c.loop-text.text-index in
    let text : List ℕ = c.text-item.result in
    let next : take (place + 1) given ≡ take place given ++ text ∷ [] =
    rw add-one (take-suc given place text c.loop-text-test.true
    ∙ ap (λ (one : List ℕ). take place given ++ one ∷ []) (sym c.text-item.is)) in
    c.in_ok-put_candidate.ensures
    ∙ ap (λ (made : List (List ℕ)). made ++ candidates c.args.interval.now (text ∷ [])) c.loop-text.invariant
    ∙ sym (ap (candidates c.args.interval.now) next
    ∙ candidates_more c.args.interval.now (take place given) (text ∷ []))
