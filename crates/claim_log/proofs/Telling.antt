-- Events and pairs tell their history, and one more event is one more entry.
use Rattle.std.proofs.Common.{◌≡◌, ℕ, ◌+◌, arith, List, [], ◌∷◌, ◌++◌, length, length-append, refl, sym, ◌∙◌, ap, subst}
use Rattle.std.proofs.lemmas.List.{append-nil}
use Rattle.std.proofs.lemmas.List.Concat.{flat_map-append}
use Rattle.claim_log.specs.Events.{kind_of, event_of, events_from, events_of}
use Rattle.claim_log.specs.Told.{Pairs, entry, with_kind, history_of, AreOf}
use Rattle.claim_log.specs.declared.event.Event.{Event}
use Rattle.claim_rules.specs.Histories.{What, claim, arrive, broke, give_back, Entry, History, pair_in, pairs_in}

pub pairs_more : (h : History) (e : Entry) → pairs_in (h ++ e ∷ []) ≡ pairs_in h ++ pair_in e.what
pairs_more h e = flat_map-append (λ (x : Entry). pair_in x.what) h (e ∷ []) ∙ ap (λ t. pairs_in h ++ t) (append-nil (pair_in e.what))

events_more_from : (place : ℕ) (h : History) (e : Entry)
    → events_from place (h ++ e ∷ []) ≡ events_from place h ++ event_of (place + length (pairs_in h)) e ∷ []
events_more_from place [] e = ap (λ n. event_of n e ∷ []) (omega arith)
events_more_from place (x ∷ h) e =
    let moved : place + length (pair_in x.what) + length (pairs_in h) ≡ place + length (pair_in x.what ++ pairs_in h) = omega (arith, length-append (pair_in x.what) (pairs_in h)) in
    ap (λ t. event_of place x ∷ t) (events_more_from (place + length (pair_in x.what)) h e ∙ ap (λ n. events_from (place + length (pair_in x.what)) h ++ event_of n e ∷ []) moved)

pub events_more : (h : History) (e : Entry) → events_of (h ++ e ∷ []) ≡ events_of h ++ event_of (length (pairs_in h)) e ∷ []
events_more h e = events_more_from 0 h e ∙ ap (λ n. events_of h ++ event_of n e ∷ []) (omega arith)

told_from : (place : ℕ) (h : History) → history_of (events_from place h) (pairs_in h) ≡ h
told_from place [] = refl
told_from place (e ∷ h) = by e.what (told_from (place + length (pair_in e.what)) h)
  where
    by : (w : What) → history_of (events_from (place + length (pair_in e.what)) h) (pairs_in h) ≡ h
        → with_kind e.seat (kind_of place w) (pair_in w ++ pairs_in h) (history_of (events_from (place + length (pair_in e.what)) h)) ≡ entry e.seat w ∷ h
    by (claim key) later = ap (λ t. entry e.seat (claim key) ∷ t) later
    by (arrive key reading) later = ap (λ t. entry e.seat (arrive key reading) ∷ t) later
    by (broke key why) later = ap (λ t. entry e.seat (broke key why) ∷ t) later
    by (give_back key) later = ap (λ t. entry e.seat (give_back key) ∷ t) later

pub told : (h : History) (events : List Event) (pairs : Pairs) → AreOf h events pairs → history_of events pairs ≡ h
told h events pairs are = rw (← are.told, ← are.paired) (told_from 0 h)

-- the event and the pair of an entry, behind those before it
pub are_more : (h : History) (e : Entry) (events later : List Event) (pairs now : Pairs) → AreOf h events pairs
    → later ≡ events ++ event_of (length pairs) e ∷ [] → now ≡ pairs ++ pair_in e.what → AreOf (h ++ e ∷ []) later now
are_more h e events later pairs now are is told =
    record {
      told = events_more h e ∙ ap (λ t. t ++ event_of (length (pairs_in h)) e ∷ []) are.told ∙ ap (λ n. events ++ event_of (length n) e ∷ []) are.paired ∙ sym is;
      paired = pairs_more h e ∙ ap (λ t. t ++ pair_in e.what) are.paired ∙ sym told;
    }

-- so many entries are so many events
length_from : (place : ℕ) (h : History) → length (events_from place h) ≡ length h
length_from place [] = refl
length_from place (e ∷ h) = omega (arith, length_from (place + length (pair_in e.what)) h)

pub as_many : (h : History) (events : List Event) (pairs : Pairs) → AreOf h events pairs → length h ≡ length events
as_many h events pairs are = sym (length_from 0 h) ∙ ap length are.told

-- the history that is told after one more entry
pub record Tells (h : History) (e : Entry) (events : List Event) (pairs : Pairs) : Type 0 where
  pub now : history_of events pairs ≡ h ++ e ∷ []
  pub are : AreOf (history_of events pairs) events pairs

pub tells_more : (h : History) (e : Entry) (events later : List Event) (pairs now : Pairs) → AreOf h events pairs
    → later ≡ events ++ event_of (length pairs) e ∷ [] → now ≡ pairs ++ pair_in e.what → Tells h e later now
tells_more h e events later pairs now are is told_pairs =
    let both : AreOf (h ++ e ∷ []) later now = are_more h e events later pairs now are is told_pairs in
    let one : history_of later now ≡ h ++ e ∷ [] = told (h ++ e ∷ []) later now both in
    record { now = one; are = subst (λ t. AreOf t later now) (sym one) both }
