-- What holds along a history: by its last entry, and for its beginnings.
use Rattle.std.proofs.Common.{[], ◌∷◌, ◌++◌, sym, subst, append_assoc}
use Rattle.std.proofs.lemmas.List.{append-nil}
use Rattle.claim_rules.specs.Histories.{Entry, History}
use Rattle.claim_rules.specs.Legal.{Along}

module _ (May : History → Entry → Type 0) where
  pub along_more : (before h : History) (e : Entry) → Along May before h → May (before ++ h) e
      → Along May before (h ++ e ∷ [])
  along_more before [] e along may = (subst (λ t. May t e) (append-nil before) may, tt)
  along_more before (x ∷ h) e along may = (
    along.0,
    along_more (before ++ x ∷ []) h e along.1
        (subst (λ t. May t e) (sym (append_assoc before (x ∷ []) h)) may),
  )

  pub along_begins : (before h more : History) → Along May before (h ++ more) → Along May before h
  along_begins before [] more along = tt
  along_begins before (x ∷ h) more along = (along.0, along_begins (before ++ x ∷ []) h more along.1)

  -- what holds at first, and after each entry that may come, holds at the end
  pub along_all : (P : History → Type 0) → ((h : History) (e : Entry) → P h → May h e → P (h ++ e ∷ []))
      → (before h : History) → P before → Along May before h → P (before ++ h)
  along_all P step before [] p along = subst P (sym (append-nil before)) p
  along_all P step before (x ∷ h) p along =
      subst P (append_assoc before (x ∷ []) h) (along_all P step (before ++ x ∷ []) h (step before x p along.0) along.1)

pub along_both : (May And : History → Entry → Type 0) (before h : History) → Along May before h → Along And before h
    → Along (λ t e. May t e × And t e) before h
along_both May And before [] one other = tt
along_both May And before (x ∷ h) one other =
    ((one.0, other.0), along_both May And (before ++ x ∷ []) h one.1 other.1)
