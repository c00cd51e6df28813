-- Who is asked, and what is used.
use Rattle.std.proofs.Common.{◌≡◌, Bool, true, false, refl}
use Rattle.cache_layout.specs.declared.record.Found.{Found}
use Rattle.cache_layout.specs.declared.record.Found.TheVariants.{Broken, Gone, Nothing, Whole}
use Rattle.cache_layout.specs.declared.record.Record.{Record}
use Rattle.cache_policy.specs.Decisions.{checks_eq}
use Rattle.cache_policy.specs.declared.Decision.TheVariants.{Ask, Use}
use Rattle.cache_policy.specs.declared.Mode.{Mode}
use Rattle.cache_policy.specs.declared.Mode.TheVariants.{Missing, Offline, Refresh}
use Rattle.pool_rules.specs.declared.plan.Plan.{Plan}
use Rattle.res_base.specs.declared.key.FileKey.{FileKey}
use Rattle.file_fetch.specs.Decided.{decided}

module _ (plan : Plan) (key : FileKey) where
  -- nobody is asked in offline mode
  pub asks_online : (found : Found) → decided plan key found ≡ Ask → plan.mode ≡ Offline → ⊥
  asks_online (Whole entry) e off = by (checks_eq entry.checks plan.checks) refl
    where
      by : (b : Bool) → checks_eq entry.checks plan.checks ≡ b → ⊥
      by true is = let h = rw (is, off) at e in let no : ⊥ = cc in no
      by false is = let h = rw (is, off) at e in let no : ⊥ = cc in no
  asks_online (Gone moment) e off = let h = rw off at e in let no : ⊥ = cc in no
  asks_online Nothing e off = let h = rw off at e in let no : ⊥ = cc in no
  asks_online (Broken wanted got) e off = let h = rw off at e in let no : ⊥ = cc in no

  -- data is used where its record has the plan's checks
  pub used_same : (entry : Record) → decided plan key (Whole entry) ≡ Use → checks_eq entry.checks plan.checks ≡ true
  used_same entry e = by (checks_eq entry.checks plan.checks) refl
    where
      unusable : (mode : Mode) → plan.mode ≡ mode → checks_eq entry.checks plan.checks ≡ false → ⊥
      unusable Missing is other = let h = rw (other, is) at e in let no : ⊥ = cc in no
      unusable Offline is other = let h = rw (other, is) at e in let no : ⊥ = cc in no
      unusable Refresh is other = let h = rw (other, is) at e in let no : ⊥ = cc in no

      by : (b : Bool) → checks_eq entry.checks plan.checks ≡ b → checks_eq entry.checks plan.checks ≡ true
      by true is = is
      by false is = absurd (unusable plan.mode refl is)
