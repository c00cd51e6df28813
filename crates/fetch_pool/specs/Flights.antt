-- Keys that one seat has in flight, in the order of their claims.
use Rattle.std.specs.Prelude.{ℕ, ◌≡◌, ◌++◌, Bool, false, if◌then◌else◌, List, [], ◌∷◌, Option, Some, None, map}
use Rattle.std.specs.List.{list_any}
use Rattle.claim_rules.specs.Histories.{What, History, holder}
use Rattle.file_fetch.specs.Keys.{CanAsk}
use Rattle.pool_rules.specs.Works.{by_seat}
use Rattle.pool_rules.specs.declared.plan.Plan.{Plan}
use Rattle.res_base.specs.Names.{key_eq}
use Rattle.res_base.specs.declared.key.FileKey.{FileKey}

-- the key is one of these
abbrev pub is_one_of : List FileKey → FileKey → Bool
is_one_of keys key = list_any (λ one. key_eq one key) keys

-- who has a key, where a seat has these and nobody has another one
abbrev pub seat_for : ℕ → List FileKey → FileKey → Option ℕ
seat_for seat keys key = if is_one_of keys key then Some seat else None

-- no key stands there twice
abbrev pub AreDistinct : List FileKey → Type 0
AreDistinct [] = Unit {0}
AreDistinct (key ∷ keys) = (is_one_of keys key ≡ false) × AreDistinct keys

-- each of these may be asked for
abbrev pub CanAskEach : Plan → List FileKey → Type 0
CanAskEach plan [] = Unit {0}
CanAskEach plan (key ∷ keys) = CanAsk plan key × CanAskEach plan keys

-- the seat has a claim on each of these keys, and nobody has one on another key
pub record OnlyFlying (h : History) (seat : ℕ) (keys : List FileKey) : Type 0 where
  pub held : (key : FileKey) → holder h key ≡ seat_for seat keys key
  pub distinct : AreDistinct keys

-- these keys alone are in flight, and each may be asked for
pub record AreDue (plan : Plan) (h : History) (seat : ℕ) (keys : List FileKey) : Type 0 where
  pub flying : OnlyFlying h seat keys
  pub asked : CanAskEach plan keys

-- a history with an entry more for each of these keys, by a seat
abbrev pub with_each : History → ℕ → (FileKey → What) → List FileKey → History
with_each h seat what keys = h ++ map (λ key. by_seat seat (what key)) keys
