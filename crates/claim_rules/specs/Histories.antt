-- Histories: what became of claims, in order. An arrival has its reading with it, so one list tells both the events and
-- the known pairs.
use Rattle.std.specs.Prelude.{ℕ, ◌||◌, ◌&&◌, Bool, true, false, if◌then◌else◌, List, [], ◌∷◌, Option, Some, None, fold, nat_eq}
use Rattle.std.specs.List.{flat_map, list_any}
use Rattle.std.specs.Option.{is_some}
use Rattle.claim_rules.specs.declared.why.Why.{Why}
use Rattle.res_base.specs.Known.{Known, known_of}
use Rattle.res_base.specs.Names.{key_eq}
use Rattle.res_base.specs.declared.key.FileKey.{FileKey}
use Rattle.res_base.specs.declared.reading.Reading.{Reading}

-- a key is claimed; or a claim ends: its answer arrives, it breaks, or it is given back
pub data What : Type 0 where
  claim : FileKey → What
  arrive : FileKey → Reading → What
  broke : FileKey → Why → What
  give_back : FileKey → What

-- what happened, and by which seat
pub record Entry : Type 0 where
  pub seat : ℕ
  pub what : What

abbrev pub History : Type 0
History = List Entry

abbrev pub key_in : What → FileKey
key_in (claim key) = key
key_in (arrive key reading) = key
key_in (broke key why) = key
key_in (give_back key) = key

abbrev pub pair_in : What → List (FileKey × Reading)
pair_in (claim key) = []
pair_in (arrive key reading) = (key, reading) ∷ []
pair_in (broke key why) = []
pair_in (give_back key) = []

-- the pairs that arrived, in their order
abbrev pub pairs_in : History → List (FileKey × Reading)
pairs_in h = flat_map (λ (e : Entry). pair_in e.what) h

abbrev pub known_in : History → Known
known_in h = known_of (pairs_in h)

abbrev pub is_seat : Option ℕ → ℕ → Bool
is_seat None seat = false
is_seat (Some one) seat = nat_eq one seat

abbrev pub unless_ended : Bool → Option ℕ → Option ℕ
unless_ended true holds = None
unless_ended false holds = holds

-- whoever claims the key has it, until that seat ends the claim
abbrev pub holder_after : FileKey → Option ℕ → ℕ → What → Option ℕ
holder_after key holds seat (claim one) = if key_eq one key then Some seat else holds
holder_after key holds seat (arrive one reading) = unless_ended (key_eq one key && is_seat holds seat) holds
holder_after key holds seat (broke one why) = unless_ended (key_eq one key && is_seat holds seat) holds
holder_after key holds seat (give_back one) = unless_ended (key_eq one key && is_seat holds seat) holds

-- the seat that has a claim on the key
abbrev pub holder : History → FileKey → Option ℕ
holder h key = fold (λ holds (e : Entry). holder_after key holds e.seat e.what) None h

abbrev pub in_flight : History → FileKey → Bool
in_flight h key = is_some (holder h key)

-- some claim is in flight
abbrev pub any_in_flight : History → Bool
any_in_flight h = list_any (λ (e : Entry). in_flight h (key_in e.what)) h
