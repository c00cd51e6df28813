-- The events of a history. An arrival names the place of its pair among the known pairs.
use Rattle.std.specs.Prelude.{ℕ, ◌+◌, List, [], ◌∷◌, length}
use Rattle.claim_log.specs.declared.event.Event.{Event}
use Rattle.claim_log.specs.declared.event.EventKind.{EventKind}
use Rattle.claim_log.specs.declared.event.EventKind.TheVariants as kinds
use Rattle.claim_rules.specs.Histories.{What, claim, arrive, broke, give_back, Entry, History, pair_in}

-- what happened, where so many pairs arrived before
abbrev pub kind_of : ℕ → What → EventKind
kind_of place (claim key) = kinds.Claim key
kind_of place (arrive key reading) = kinds.Arrive key place
kind_of place (broke key why) = kinds.Broke key why
kind_of place (give_back key) = kinds.GiveBack key

abbrev pub event_of : ℕ → Entry → Event
event_of place e = record { seat = e.seat; kind = kind_of place e.what }

abbrev pub events_from : ℕ → History → List Event
events_from place [] = []
events_from place (e ∷ h) = event_of place e ∷ events_from (place + length (pair_in e.what)) h

-- one event for each entry; the first arrival has place 0, the next one place 1, and so on
abbrev pub events_of : History → List Event
events_of h = events_from 0 h
