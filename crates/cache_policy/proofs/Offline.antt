-- Nothing is unavailable where somebody may be asked.
use Rattle.std.proofs.Common.{◌≡◌, ℕ, Bool, true, false, cond, not, ◌||◌, refl}
use Rattle.cache_policy.specs.Decisions.{in_table}
use Rattle.cache_policy.specs.declared.Decision.{Decision}
use Rattle.cache_policy.specs.declared.Decision.TheVariants.{Use, Ask, Unavailable}
use Rattle.cache_policy.specs.declared.Mode.{Mode}
use Rattle.cache_policy.specs.declared.Mode.TheVariants.{Missing, Offline, Refresh}
use Rattle.cache_policy.specs.declared.decisions.Usable.{Usable}
use Rattle.cache_policy.specs.declared.decisions.Usable.TheVariants.{Data, Absence, Neither}

may_ask : {P : Type 0} (b : Bool) → cond b Use Ask ≡ Unavailable → P
may_ask true e = cc
may_ask false e = cc

pub only_offline : (mode : Mode) (changing : Bool) (fresh : ℕ → Bool) (usable : Usable)
    → in_table mode changing fresh usable ≡ Unavailable → mode ≡ Offline
only_offline Offline changing fresh usable e = refl
only_offline Missing changing fresh (Data since) e = may_ask (not changing || fresh since) e
only_offline Missing changing fresh (Absence since) e = may_ask (fresh since) e
only_offline Missing changing fresh Neither e = may_ask false e
only_offline Refresh changing fresh usable e = may_ask false e
