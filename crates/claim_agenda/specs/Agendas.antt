-- Needs and hints in order, and before which place none of them is free.
use Rattle.std.specs.List.Sorted.{IsSorted}
use Rattle.std.specs.Prelude.{◌≡◌, ◌⊎◌, ℕ, ◌<◌, ◌≤◌, Bool, false, List, None, length, slice_index_or}
use Rattle.claim_agenda.specs.declared.agenda.Agenda.{Agenda}
use Rattle.claim_rules.specs.Claims.{is_free}
use Rattle.claim_rules.specs.Histories.{History, holder, known_in}
use Rattle.claim_rules.specs.Resolvers.{Resolver}
use Rattle.claim_rules.specs.Sessions.{hints, is_over, needs, with_later}
use Rattle.claim_rules.specs.declared.settings.Settings.{Settings}
use Rattle.res_base.specs.Members.{Among}
use Rattle.res_base.specs.Names.{key_cmp}
use Rattle.res_base.specs.declared.key.FileKey.{FileKey}

-- keys in order, of which none before the place is free
pub record IsQueue (free : FileKey → Bool) (keys : List FileKey) (place : ℕ) : Type 0 where
  pub sorted : IsSorted key_cmp keys
  pub within : place ≤ length keys
  pub busy : (k : ℕ) (d : FileKey) → k < place → free (slice_index_or keys k d) ≡ false

-- the same keys, in any order and any number
pub record SameKeys (one other : List FileKey) : Type 0 where
  pub there : (key : FileKey) → Among key one → Among key other
  pub back : (key : FileKey) → Among key other → Among key one

-- the needs and hints of a history, none of which is free before its place
pub record IsAgenda {V : Type 0} (s : Settings) (r : Resolver V) (h : History) (a : Agenda) : Type 0 where
  pub ends : a.is_over ≡ is_over r (known_in h)
  pub needed : SameKeys a.needs.items (needs r (known_in h))
  pub hinted : SameKeys a.hints.items (hints s r (known_in h))
  pub need_queue : IsQueue (is_free s.retries h) a.needs.items a.next_need
  pub hint_queue : IsQueue (is_free s.retries h) a.hints.items a.next_hint

-- an agenda of which nothing was claimed yet
pub record IsPlan (s : Settings) (over : Bool) (needs : List FileKey) (a : Agenda) : Type 0 where
  pub is_over : a.is_over ≡ over
  pub needed : SameKeys a.needs.items needs
  pub hinted : SameKeys a.hints.items (with_later s needs)
  pub need_order : IsSorted key_cmp a.needs.items
  pub hint_order : IsSorted key_cmp a.hints.items
  pub first_need : a.next_need ≡ 0
  pub first_hint : a.next_hint ≡ 0

-- the same but for the places
pub record KeepsKeys (before after : Agenda) : Type 0 where
  pub same_end : after.is_over ≡ before.is_over
  pub same_needs : after.needs.items ≡ before.needs.items
  pub same_hints : after.hints.items ≡ before.hints.items

-- a need or a hint that is neither known nor in flight
pub record IsClaimable {V : Type 0} (s : Settings) (r : Resolver V) (h : History) (key : FileKey) : Type 0 where
  pub member : Among key (needs r (known_in h)) ⊎ Among key (hints s r (known_in h))
  pub unknown : known_in h key ≡ None
  pub landed : holder h key ≡ None
