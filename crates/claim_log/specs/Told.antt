-- The history that events tell together with the known pairs: each arrival takes the next pair.
use Rattle.std.specs.Prelude.{◌≡◌, ℕ, List, [], ◌∷◌}
use Rattle.claim_log.specs.Events.{events_of}
use Rattle.claim_log.specs.declared.event.Event.{Event}
use Rattle.claim_log.specs.declared.event.EventKind.{EventKind}
use Rattle.claim_log.specs.declared.event.EventKind.TheVariants as kinds
use Rattle.claim_rules.specs.Histories.{What, claim, arrive, broke, give_back, Entry, History, pairs_in}
use Rattle.res_base.specs.declared.key.FileKey.{FileKey}
use Rattle.res_base.specs.declared.reading.Reading.{Reading}

abbrev pub Pairs : Type 0
Pairs = List (FileKey × Reading)

abbrev pub entry : ℕ → What → Entry
entry seat what = record { seat = seat; what = what }

-- an arrival without a pair tells nothing
abbrev pub with_next : ℕ → FileKey → Pairs → (Pairs → History) → History
with_next seat key [] further = further []
with_next seat key (pair ∷ pairs) further = entry seat (arrive key pair.1) ∷ further pairs

abbrev pub with_kind : ℕ → EventKind → Pairs → (Pairs → History) → History
with_kind seat (kinds.Claim key) pairs further = entry seat (claim key) ∷ further pairs
with_kind seat (kinds.Arrive key place) pairs further = with_next seat key pairs further
with_kind seat (kinds.Broke key why) pairs further = entry seat (broke key why) ∷ further pairs
with_kind seat (kinds.GiveBack key) pairs further = entry seat (give_back key) ∷ further pairs

abbrev pub history_of : List Event → Pairs → History
history_of [] pairs = []
history_of (e ∷ events) pairs = with_kind e.seat e.kind pairs (history_of events)

-- the events and the pairs are those of the history
pub record AreOf (h : History) (events : List Event) (pairs : Pairs) : Type 0 where
  pub told : events_of h ≡ events
  pub paired : pairs_in h ≡ pairs
