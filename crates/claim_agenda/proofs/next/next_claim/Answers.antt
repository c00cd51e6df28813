use Rattle.std.proofs.Common.{◌≡◌, ◌<◌, ◌≤◌, arith, true, false, Some, IfOk, length, get_or, refl, sym, ◌∙◌, ap, subst, rules}
use Rattle.std.specs.Prelude.{nat_lt, slice_get}
use Rattle.std.proofs.lemmas.Option.{slice_get_read}
use Rattle.claim_agenda.proofs.Choosing.{hint_answers, need_answers, stuck_answers}
use Rattle.claim_agenda.proofs.Queues.{LeastLaws}
use Rattle.claim_agenda.specs.Agendas.{IsQueue}
use Rattle.claim_agenda.specs.Answering.{answer_from}
use Rattle.claim_rules.specs.Claims.{is_free, of_hint}
use Rattle.claim_rules.specs.Counts.{claims}
use Rattle.claim_rules.specs.Histories.{any_in_flight}
use Rattle.claim_rules.specs.declared.claim.Claim.TheVariants.{Stuck}
use Rattle.res_base.specs.declared.key.FileKey.{FileKey}
use Rattle.claim_agenda.proofs.next.next_claim.Goals as goal

pub returns-then-need-len-clause-answer : goal.returns-then-need-len-clause-answer
returns-then-need-len-clause-answer c =
    let laws : LeastLaws = record {
      among = c.least_keys.ensures.among;
      lowest = c.least_keys.ensures.lowest;
      none = c.least_keys.ensures.none;
    } in
    let s = c.args.settings.now in
    let h = c.args.log.now.history in
    let agenda = c.args.agenda.now in
    let needs = agenda.needs.items in
    let hints = agenda.hints.items in
    let place = c.next_free-need.result in
    let key = c.index.result.now in
    let as_needs : c.as_slice.result.now ≡ needs = c.as_slice.ensures.value in
    let queue : IsQueue (is_free s.retries h) needs place =
    subst (λ keys. IsQueue (is_free s.retries h) keys place) as_needs c.next_free-need.ensures.queue in
    let here = subst (λ keys. (d : FileKey) → place < length keys → is_free s.retries h (get_or keys place d) ≡ true) as_needs
    c.next_free-need.ensures.free in
    let within : place < length needs = omega (arith, c.if-need-len.true, c.len.ensures, agenda.needs.ok.0) in
    let at : key ≡ get_or needs place key = c.index.ensures in
    let is : slice_get needs place ≡ Some key = slice_get_read needs (length needs) place key refl within at in
    subst (λ answer. IfOk c.need_answer.result (λ made. made ≡ answer))
    (need_answers c.equality_decided.ensures.keys laws s h needs hints place queue here key is
    ∙ ap (λ over. answer_from s h over needs hints) (sym c.if-agenda.false))
    c.need_answer.ensures

pub returns-then-not-any_in_flight-clause-answer : goal.returns-then-not-any_in_flight-clause-answer
returns-then-not-any_in_flight-clause-answer c =
    let laws : LeastLaws = record {
      among = c.least_keys.ensures.among;
      lowest = c.least_keys.ensures.lowest;
      none = c.least_keys.ensures.none;
    } in
    let s = c.args.settings.now in
    let h = c.args.log.now.history in
    let agenda = c.args.agenda.now in
    let needs = agenda.needs.items in
    let hints = agenda.hints.items in
    let place = c.next_free-need.result in
    let key = c.index-then-not-any_in_flight.result.now in
    let as_needs : c.as_slice.result.now ≡ needs = c.as_slice.ensures.value in
    let queue : IsQueue (is_free s.retries h) needs place =
    subst (λ keys. IsQueue (is_free s.retries h) keys place) as_needs c.next_free-need.ensures.queue in
    let none : length needs ≤ place = omega (arith, c.if-need-len.false, c.len.ensures, agenda.needs.ok.0) in
    let calm : any_in_flight h ≡ false = search rules in
    let some : 0 < length needs = c.requires.some c.if-agenda.false in
    let at : key ≡ get_or needs 0 key = c.index-then-not-any_in_flight.ensures in
    let is : slice_get needs 0 ≡ Some key = slice_get_read needs (length needs) 0 key refl some at in
    ap Stuck c.in_ok-copy.ensures
    ∙ stuck_answers c.equality_decided.ensures.keys laws s h needs hints place queue none calm (λ one. c.flights_told.ensures.any h one)
    c.requires.unknown key is
    ∙ ap (λ over. answer_from s h over needs hints) (sym c.if-agenda.false)

pub returns-clause-answer : goal.returns-clause-answer
returns-clause-answer c =
    let laws : LeastLaws = record {
      among = c.least_keys.ensures.among;
      lowest = c.least_keys.ensures.lowest;
      none = c.least_keys.ensures.none;
    } in
    let s = c.args.settings.now in
    let h = c.args.log.now.history in
    let agenda = c.args.agenda.now in
    let needs = agenda.needs.items in
    let hints = agenda.hints.items in
    let place = c.next_free-need.result in
    let at = c.next_free-hint.result in
    let as_needs : c.as_slice.result.now ≡ needs = c.as_slice.ensures.value in
    let queue : IsQueue (is_free s.retries h) needs place =
    subst (λ keys. IsQueue (is_free s.retries h) keys place) as_needs c.next_free-need.ensures.queue in
    let none : length needs ≤ place = omega (arith, c.if-need-len.false, c.len.ensures, agenda.needs.ok.0) in
    let flying : any_in_flight h ≡ true = search rules in
    let as_hints : c.as_slice-2.result.now ≡ hints = c.as_slice-2.ensures.value in
    let hint_queue : IsQueue (is_free s.retries h) hints at =
    subst (λ keys. IsQueue (is_free s.retries h) keys at) as_hints c.next_free-hint.ensures.queue in
    let here = subst (λ keys. (d : FileKey) → at < length keys → is_free s.retries h (get_or keys at d) ≡ true) as_hints
    c.next_free-hint.ensures.free in
    let again : c.as_slice-3.result.now ≡ hints = c.as_slice-3.ensures.value in
    subst (λ answer. IfOk c.hint_answer.result (λ made. made ≡ answer))
    (ap (λ keys. of_hint (slice_get keys at) (nat_lt (claims h) s.limits.hint_claims)) again
    ∙ hint_answers c.equality_decided.ensures.keys laws s h needs hints place queue none flying at hint_queue here
    ∙ ap (λ over. answer_from s h over needs hints) (sym c.if-agenda.false))
    c.hint_answer.ensures
