-- Rounds end in one way, which is that of the rounds that were done.
use Rattle.std.proofs.Common.{◌≡◌, ◌≤◌, ◌<◌, ◌+◌, ◌-◌, ℕ, zero, suc, Bool, true, false, List, [], refl, sym, ◌∙◌, ap, subst, arith}
use Rattle.res_base.specs.Known.{Known}
use Rattle.resolution.specs.declared.ask.Ask.{Ask}
use Rattle.resolution.specs.declared.choices.ChoiceRow.{ChoiceRow}
use Rattle.resolution.specs.declared.choices.Choices.{Choices}
use Rattle.resolution.specs.declared.progress.Progress.{Progress}
use Rattle.resolution.specs.declared.progress.Progress.TheVariants.{Over, Waiting}
use Rattle.resolution.specs.declared.progress.RoundAnswer.{RoundAnswer}
use Rattle.resolution.specs.declared.progress.RoundAnswer.TheVariants.{Needs, Next}
use Rattle.resolution.specs.declared.verdict.Verdict.TheVariants.{Unsettled}
use Rattle.round_core.specs.Choices.{Rises, choices_eq, modules_of}
use Rattle.round_core.specs.Endings.{IsEnding, settles, stops, waits}
use Rattle.round_core.specs.Rounds.{Did, after_round, begun, one_more, round_of, rounds_from, rounds_of, settled_or}
use Rattle.round_core.specs.Verdicts.{verdict_of}
use Rattle.round_core.proofs.Grow.{round_rises}

pub did_rises : (known : Known) (ask : Ask) {n : ℕ} {chosen : List ChoiceRow} → Did known ask n chosen
    → Rises (modules_of chosen)
did_rises known ask begun = tt
did_rises known ask (one_more {n} {chosen} {later} d e apart) = round_rises known ask chosen (record { rows = later }) e

module _ (known : Known) (ask : Ask) where
  abbrev verdict_after : ℕ → List ChoiceRow → Progress
  verdict_after done settled = Over (verdict_of known ask (done + 1) settled)

  -- ---- the rounds have such an ending

  ends_from : (left done : ℕ) (chosen : List ChoiceRow) → Did known ask done chosen → done + left ≡ ask.rounds
      → IsEnding known ask (rounds_from known ask left done chosen)
  ends_from zero done chosen d e =
      let q : done ≡ ask.rounds = omega (arith, e) in
      subst (λ n. IsEnding known ask (Over (Unsettled n))) (sym q) (stops (subst (λ n. Did known ask n chosen) q d))
  ends_from (suc left) done chosen d e =
      by (λ later did. ends_from left (done + 1) later did (omega (arith, e))) (round_of known ask chosen) refl
    where
      may : done < ask.rounds
      may = omega (arith, e)

      more : done + 1 ≡ suc done
      more = omega arith

      on : ((later : List ChoiceRow) → Did known ask (done + 1) later
          → IsEnding known ask (rounds_from known ask left (done + 1) later)) → (later : Choices)
          → round_of known ask chosen ≡ Next later
          → (t : Bool) → choices_eq chosen later.rows ≡ t
          → IsEnding known ask
          (settled_or t chosen later.rows (verdict_after done) (rounds_from known ask left (done + 1)))
      on further later h true same = settles may d h same
      on further later h false apart =
          further later.rows
          (subst (λ n. Did known ask n later.rows) (sym more) (one_more {later = later.rows} d h apart))

      by : ((later : List ChoiceRow) → Did known ask (done + 1) later
          → IsEnding known ask (rounds_from known ask left (done + 1) later)) → (answer : RoundAnswer)
          → round_of known ask chosen ≡ answer
          → IsEnding known ask
          (after_round answer done chosen (verdict_after done) (rounds_from known ask left (done + 1)))
      by further (Needs keys) h = waits may d h
      by further (Next later) h = on further later h (choices_eq chosen later.rows) refl

  pub ends : IsEnding known ask (rounds_of known ask)
  ends = ends_from ask.rounds 0 [] begun (omega arith)

  -- ---- and no other

  one_round : (left done : ℕ) (chosen : List ChoiceRow) → rounds_from known ask (suc left) done chosen
      ≡ after_round (round_of known ask chosen) done chosen (verdict_after done) (rounds_from known ask left (done + 1))
  one_round left done chosen = refl

  -- rounds go on from those that were done
  pub goes_on : {done : ℕ} {chosen : List ChoiceRow} → Did known ask done chosen → done ≤ ask.rounds
      → rounds_of known ask ≡ rounds_from known ask (ask.rounds - done) done chosen
  goes_on begun h = let all : ask.rounds - 0 ≡ ask.rounds =
      omega arith in ap (λ n. rounds_from known ask n 0 []) (sym all)
  goes_on (one_more {n} {chosen} {later} d e apart) h =
      let left : ask.rounds - n ≡ suc (ask.rounds - suc n) = omega (arith, h) in
      let more : n + 1 ≡ suc n = omega arith in
      goes_on d (omega (arith, h))
      ∙ ap (λ k. rounds_from known ask k n chosen) left
      ∙ one_round (ask.rounds - suc n) n chosen
      ∙ ap (λ a. after_round a n chosen (verdict_after n) (rounds_from known ask (ask.rounds - suc n) (n + 1))) e
      ∙ ap (λ t. settled_or t chosen later (verdict_after n) (rounds_from known ask (ask.rounds - suc n) (n + 1))) apart
      ∙ ap (λ k. rounds_from known ask (ask.rounds - suc n) k later) more

  last_round : {done : ℕ} {chosen : List ChoiceRow} → Did known ask done chosen → done < ask.rounds
      → rounds_of known ask
      ≡ after_round (round_of known ask chosen) done chosen (verdict_after done)
      (rounds_from known ask (ask.rounds - suc done) (done + 1))
  last_round {done} {chosen} d h =
      let left : ask.rounds - done ≡ suc (ask.rounds - suc done) = omega (arith, h) in
      goes_on d (omega (arith, h)) ∙ ap (λ k. rounds_from known ask k done chosen) left
      ∙ one_round (ask.rounds - suc done) done chosen

  pub only : {progress : Progress} → IsEnding known ask progress → rounds_of known ask ≡ progress
  only (waits {done} {chosen} {keys} h d e) =
      last_round d h
      ∙ ap (λ a. after_round a done chosen (verdict_after done)
      (rounds_from known ask (ask.rounds - suc done) (done + 1))) e
  only (settles {done} {chosen} {later} h d e same) =
      last_round d h
      ∙ ap (λ a. after_round a done chosen (verdict_after done)
      (rounds_from known ask (ask.rounds - suc done) (done + 1))) e
      ∙ ap (λ t. settled_or t chosen later.rows (verdict_after done)
      (rounds_from known ask (ask.rounds - suc done) (done + 1))) same
  only (stops {chosen} d) = let none : ask.rounds - ask.rounds ≡ 0 = omega arith in goes_on d (omega arith)
      ∙ ap (λ k. rounds_from known ask k ask.rounds chosen) none
