-- Laws of a disk in memory.
use Rattle.std.specs.Prelude.{ℕ, ◌≡◌, ◌≤◌, ◌+◌, ◌⊎◌, ◌++◌, List, [], ◌∷◌, Some, length, take}
use Rattle.std.proofs.Common.{refl, sym, ap, subst, ◌∙◌, arith, inl, inr, leb, true, false, ◌<◌, take_all, length-append}
use Rattle.std.proofs.lemmas.List.{take-append-le}
use Rattle.std.proofs.lemmas.Bool.Decides.{leb_tells}
use Rattle.disk_base.specs.Images.{Image, IsImage, IsImageOf}
use Rattle.disk_base.specs.MemoryDisks.{moment_in, names_at, names_now, since_in, told_in}
use Rattle.disk_base.specs.Names.{Names, after, run}
use Rattle.disk_base.specs.Runs.{Done, IsToldImageAlong, Ran}
use Rattle.disk_base.specs.Tables.{names_of}
use Rattle.disk_base.specs.declared.log.Log.{Log}
use Rattle.disk_base.specs.declared.steps.DiskStep.{DiskStep}

all_now : (log : Log) (k : ℕ) → length log.calls ≤ k → names_at log k ≡ names_now log
all_now log k le = ap (λ (xs : List DiskStep). run xs (names_of log.first)) (take_all k log.calls le)

pub counts_now_in : (log : Log) (t : ℕ) (i : Image) → t ≤ moment_in log → IsImageOf (told_in log) i → since_in log t i
counts_now_in log t i le h =
    let all = all_now log (length log.calls) (omega arith) in
    (length log.calls, le, omega arith, subst (λ (s : Names). IsImage s i) (sym all) h)

pub only_now_in : (log : Log) (i : Image) → since_in log (moment_in log) i → IsImageOf (told_in log) i
only_now_in log i h = subst (λ (s : Names). IsImage s i) (all_now log h.0 h.1) h.3

run_last : (xs : List DiskStep) (x : DiskStep) (s : Names) → run (xs ++ x ∷ []) s ≡ after x (run xs s)
run_last [] x s = refl
run_last (y ∷ xs) x s = run_last xs x (after y s)

-- a log with one change more
abbrev pub with_step : Log → DiskStep → Log
with_step old x = record { first = old.first; calls = old.calls ++ x ∷ [] }

longer_each : (old : Log) (x : DiskStep) (t : ℕ) (i : Image) (k : ℕ) → t ≤ k
    → (k ≤ length old.calls) ⊎ (k ≡ length old.calls + 1) → IsImage (names_at (with_step old x) k) i
    → since_in old t i ⊎ IsToldImageAlong (x ∷ []) (told_in old) i
longer_each old x t i k le (inl small) h =
    let same = take-append-le k old.calls (x ∷ []) small in
    inl (k, le, small, subst (λ (xs : List DiskStep). IsImage (run xs (names_of old.first)) i) same h)
longer_each old x t i k le (inr last) h =
    let long : length (old.calls ++ x ∷ []) ≤ k = omega (arith, last, length-append old.calls (x ∷ [])) in
    let same = all_now (with_step old x) k long ∙ run_last old.calls x (names_of old.first) in
    inr (inr (subst (λ (s : Names). IsImage s i) same h))

upto : (k n : ℕ) → k ≤ n + 1 → (k ≤ n) ⊎ (k ≡ n + 1)
upto k n le = split (leb_tells k n)
  where
    split : ((leb k n ≡ true) × (k ≤ n)) ⊎ ((leb k n ≡ false) × (n < k)) → (k ≤ n) ⊎ (k ≡ n + 1)
    split (inl h) = inl h.1
    split (inr h) = inr (omega arith)

pub ran_longer : (old : Log) (x : DiskStep) → Ran told_in moment_in since_in (x ∷ []) old (with_step old x)
ran_longer old x = record {
  later = omega (arith, length-append old.calls (x ∷ []));
  stands = (names_now (with_step old x), refl, inr (run_last old.calls x (names_of old.first)));
  each = λ t i le h.
      let within = upto h.0 (length old.calls) (omega (arith, h.2, length-append old.calls (x ∷ []))) in
      longer_each old x t i h.0 h.1 within h.3;
}

pub done_longer : (old : Log) (x : DiskStep) → Done told_in (x ∷ []) old (with_step old x)
done_longer old x = record { names = ap Some (run_last old.calls x (names_of old.first)) }

pub ran_same : (old : Log) (x : DiskStep) → Ran told_in moment_in since_in (x ∷ []) old old
ran_same old x = record { later = omega arith; stands = (names_now old, refl, inl refl); each = λ t i le h. inl h }

pub ran_none : (old : Log) → Ran told_in moment_in since_in [] old old
ran_none old = record { later = omega arith; stands = (names_now old, refl, refl); each = λ t i le h. inl h }
