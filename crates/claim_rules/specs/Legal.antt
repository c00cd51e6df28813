-- Legal histories: what may come after what.
use Rattle.std.specs.Prelude.{ℕ, ◌≡◌, Bool, true, false, [], ◌∷◌, ◌++◌, Some, drop}
use Rattle.claim_rules.specs.Claims.{claim_of}
use Rattle.claim_rules.specs.Counts.{is_claim, gave_back}
use Rattle.claim_rules.specs.Histories.{What, claim, arrive, broke, give_back, Entry, History, holder}
use Rattle.claim_rules.specs.Resolvers.{Resolver}
use Rattle.claim_rules.specs.declared.claim.Claim.TheVariants.{Claimed}
use Rattle.claim_rules.specs.declared.settings.Settings.{Settings}

-- each entry may come after those before it
abbrev pub Along : (History → Entry → Type 0) → History → History → Type 0
Along May before [] = Unit {0}
Along May before (e ∷ more) = May before e × Along May (before ++ e ∷ []) more

-- a claim is of the key that it is answered; only the seat that has a claim ends it
abbrev pub may_come : {V : Type 0} → Settings → Resolver V → History → ℕ → What → Type 0
may_come s r h seat (claim key) = claim_of s r h ≡ Claimed key
may_come s r h seat (arrive key reading) = holder h key ≡ Some seat
may_come s r h seat (broke key why) = holder h key ≡ Some seat
may_come s r h seat (give_back key) = holder h key ≡ Some seat

abbrev pub MayCome : {V : Type 0} → Settings → Resolver V → History → Entry → Type 0
MayCome s r h e = may_come s r h e.seat e.what

abbrev pub Legal : {V : Type 0} → Settings → Resolver V → History → Type 0
Legal s r h = Along (MayCome s r) [] h

-- from so many entries on, nothing is claimed once a claim was given back
abbrev pub StopsFrom : ℕ → History → Type 0
StopsFrom n h = Along (λ before (e : Entry). is_claim e.what ≡ true → gave_back (drop n before) ≡ false) [] h
