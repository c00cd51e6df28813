-- Counts along a history, and counts of a link that fails.
use Rattle.std.proofs.Common.{◌≡◌, ◌⊎◌, inl, inr, ℕ, ◌+◌, ◌*◌, ◌≤◌, Bool, true, false, cond, ◌&&◌, List, [], ◌∷◌, ◌++◌, Option, Some, None, refl, sym, ◌∙◌, ap, subst, true≢false, arith, append_assoc}
use Rattle.std.specs.Prelude.{IsSome, count_by, min}
use Rattle.std.specs.Option.{option_map}
use Rattle.std.proofs.Math.Nat.{add-mul}
use Rattle.std.proofs.lemmas.List.Sums.{sum_by-append}
use Rattle.claim_rules.proofs.EntryLemmas.{count_more}
use Rattle.claim_rules.specs.Counts.{claims_that, is_claim}
use Rattle.claim_rules.specs.Histories.{What, claim, Entry, History, key_in}
use Rattle.link_base.specs.Links.{FailedLonger}
use Rattle.pool_rules.specs.Counts.{AreLater, Counts, RiseBeside, urls_of, is_beside}
use Rattle.pool_rules.specs.Plans.{url_in}
use Rattle.pool_rules.specs.Works.{by_seat, with_entry, with_turn}
use Rattle.pool_rules.specs.declared.plan.Plan.{Plan}
use Rattle.res_base.specs.Causes.{Rose, count_end}
use Rattle.res_base.specs.declared.key.FileKey.{FileKey}

-- ---- counts that rise

pub rise_once : (before now less more : ℕ) → Rose before now → more ≡ less + 1 → RiseBeside before now less more
rise_once before now less more rose is = by (before + 1) count_end rose (omega arith)
  where
    by : (m e : ℕ) → min m e ≤ now → m ≡ before + 1 → (before + more ≤ now + less) ⊎ (e ≤ now)
    by m e h at = grind arith

pub rise_none : (before now less more : ℕ) → before ≤ now → more ≡ less → RiseBeside before now less more
rise_none before now less more later is = inl (omega (arith, later, is))

pub rise_on : (a b c k l m : ℕ) → b ≤ c → RiseBeside a b k l → RiseBeside b c l m → RiseBeside a c k m
rise_on a b c k l m later (inl x) (inl y) = inl (omega (arith, x, y))
rise_on a b c k l m later (inr e) y = inr (omega (arith, e, later))
rise_on a b c k l m later (inl x) (inr e) = inr e

pub rose_on : (a b c : ℕ) → a ≤ b → Rose b c → Rose a c
rose_on a b c le rose = by count_end rose
  where
    by : (e : ℕ) → min (b + 1) e ≤ c → min (a + 1) e ≤ c
    by e h = grind arith

-- ---- URLs that failed

pub longer_on : (a b c : Option (List (List ℕ))) → FailedLonger a b → FailedLonger b c → FailedLonger a c
longer_on None b c one two = ([], two.1 ∙ ap (option_map (λ urls. urls ++ two.0)) one.1)
longer_on (Some urls) b c one two =
    (one.0 ++ two.0, two.1 ∙ ap (option_map (λ us. us ++ two.0)) one.1 ∙ ap Some (append_assoc urls one.0 two.0))

pub told_on : (a b : Option (List (List ℕ))) → FailedLonger a b → IsSome a → IsSome b
told_on None b longer told = absurd (true≢false (sym told))
told_on (Some urls) b longer told = subst IsSome (sym longer.1) refl

pub urls_later : (plan : Plan) (key : FileKey) (a b : Option (List (List ℕ))) → FailedLonger a b
    → urls_of plan key a ≤ urls_of plan key b
urls_later plan key None b longer = omega arith
urls_later plan key (Some urls) b longer =
    let is : urls_of plan key b ≡ urls_of plan key (Some urls) + urls_of plan key (Some longer.0) =
    ap (urls_of plan key) longer.1 ∙ sum_by-append (λ u. cond (is_beside (url_in plan key) u) 1 0) urls longer.0 in
    omega (arith, is)

pub later_on : (plan : Plan) (a b c : Counts) → AreLater plan a b → AreLater plan b c → AreLater plan a c
later_on plan a b c one two =
    record {
      faults = omega (arith, one.faults, two.faults);
      asked = omega (arith, one.asked, two.asked);
      failed = longer_on a.failed b.failed c.failed one.failed two.failed;
      disk_faults = omega (arith, one.disk_faults, two.disk_faults);
      silent = λ off. two.silent off ∙ one.silent off;
    }

-- ---- one entry more

pub none_more : (test : Entry → Bool) (h : History) (e : Entry) → test e ≡ false
    → count_by test (h ++ e ∷ []) ≡ count_by test h
none_more test h e absent = count_more test h e ∙ ap (λ b. count_by test h + cond b 1 0) absent ∙ omega arith

pub one_more : (test : Entry → Bool) (h : History) (e : Entry) → test e ≡ true
    → count_by test (h ++ e ∷ []) ≡ count_by test h + 1
one_more test h e passes = count_more test h e ∙ ap (λ b. count_by test h + cond b 1 0) passes

-- the claims of keys that pass, after a claim and its end
pub claims_turn : (may : FileKey → Bool) (h : History) (seat : ℕ) (key : FileKey) (what : What)
    → is_claim what ≡ false
    → claims_that may (with_turn h seat key what) ≡ claims_that may h + cond (may key) 1 0
claims_turn may h seat key what end =
    none_more (λ (e : Entry). is_claim e.what && may (key_in e.what)) (with_entry h seat (claim key))
    (by_seat seat what) (ap (λ b. b && may (key_in what)) end)
    ∙ count_more (λ (e : Entry). is_claim e.what && may (key_in e.what)) h (by_seat seat (claim key))

pub asks_more : (b : Bool) (now before claims files : ℕ) → now ≤ before + cond b files 0
    → now + claims * files ≤ before + (claims + cond b 1 0) * files
asks_more true now before claims files le = omega (arith, le, add-mul claims 1 files)
asks_more false now before claims files le = omega (arith, le, add-mul claims 0 files)
