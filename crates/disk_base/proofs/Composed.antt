-- How runs of calls are put together, and what holds in each image of a run.
use Rattle.std.proofs.Common.{ℕ, ◌≡◌, ◌≤◌, ◌⊎◌, ◌++◌, List, [], ◌∷◌, Option, Some, None, refl, sym, ap, subst, ◌∙◌, inl, inr, ⊎_elim, arith, true, IsSome}
use Rattle.std.specs.Cmp.Lexicographic.{bytes_decides}
use Rattle.std.specs.Option.{option_map}
use Rattle.res_base.specs.Names.{text_eq}
use Rattle.disk_base.specs.Images.{Image, IsImage, IsImageOf}
use Rattle.disk_base.specs.Names.{Names, after, run, told_after, IsBoundIn, longer, made_firm}
use Rattle.disk_base.specs.Runs.{AllAlong, Done, IsAlong, IsImageAlong, IsToldAlong, IsToldImageAlong, Keeps, Ran}
use Rattle.disk_base.specs.declared.contents.Content.{Content}
use Rattle.disk_base.specs.declared.steps.DiskStep.{DiskStep}
use Rattle.disk_base.specs.declared.steps.DiskStep.TheVariants.{Start, Append, Sync}

pub run-append : (xs ys : List DiskStep) (s : Names) → run (xs ++ ys) s ≡ run ys (run xs s)
run-append [] ys s = refl
run-append (x ∷ xs) ys s = run-append xs ys (after x s)

along_start : (ys : List DiskStep) (s r : Names) → r ≡ s → IsAlong ys s r
along_start [] s r e = e
along_start (y ∷ ys) s r e = inl e

along_left : (xs ys : List DiskStep) (s r : Names) → IsAlong xs s r → IsAlong (xs ++ ys) s r
along_left [] ys s r h = along_start ys s r h
along_left (x ∷ xs) ys s r (inl h) = inl h
along_left (x ∷ xs) ys s r (inr h) = inr (along_left xs ys (after x s) r h)

along_right : (xs ys : List DiskStep) (s r : Names) → IsAlong ys (run xs s) r → IsAlong (xs ++ ys) s r
along_right [] ys s r h = h
along_right (x ∷ xs) ys s r h = inr (along_right xs ys (after x s) r h)

image_start : (ys : List DiskStep) (s : Names) (i : Image) → IsImage s i → IsImageAlong ys s i
image_start [] s i h = h
image_start (y ∷ ys) s i h = inl h

image_left : (xs ys : List DiskStep) (s : Names) (i : Image) → IsImageAlong xs s i → IsImageAlong (xs ++ ys) s i
image_left [] ys s i h = image_start ys s i h
image_left (x ∷ xs) ys s i (inl h) = inl h
image_left (x ∷ xs) ys s i (inr h) = inr (image_left xs ys (after x s) i h)

image_right : (xs ys : List DiskStep) (s : Names) (i : Image) → IsImageAlong ys (run xs s) i
    → IsImageAlong (xs ++ ys) s i
image_right [] ys s i h = h
image_right (x ∷ xs) ys s i h = inr (image_right xs ys (after x s) i h)

told_left : (xs ys : List DiskStep) (old new : Option Names) → IsToldAlong xs old new → IsToldAlong (xs ++ ys) old new
told_left xs ys None new h = h
told_left xs ys (Some s) new h = (h.0, h.1, along_left xs ys s h.0 h.2)

told_right : (xs ys : List DiskStep) (old new : Option Names) → IsToldAlong ys (told_after xs old) new
    → IsToldAlong (xs ++ ys) old new
told_right xs ys None new h = h
told_right xs ys (Some s) new h = (h.0, h.1, along_right xs ys s h.0 h.2)

shown_left : (xs ys : List DiskStep) (old : Option Names) (i : Image) → IsToldImageAlong xs old i
    → IsToldImageAlong (xs ++ ys) old i
shown_left xs ys None i h = h
shown_left xs ys (Some s) i h = image_left xs ys s i h

shown_right : (xs ys : List DiskStep) (old : Option Names) (i : Image) → IsToldImageAlong ys (told_after xs old) i
    → IsToldImageAlong (xs ++ ys) old i
shown_right xs ys None i h = h
shown_right xs ys (Some s) i h = image_right xs ys s i h

pub after-append : (xs ys : List DiskStep) (old : Option Names)
    → told_after ys (told_after xs old) ≡ told_after (xs ++ ys) old
after-append xs ys None = refl
after-append xs ys (Some s) = ap Some (sym (run-append xs ys s))

no_step : (o : Option Names) → o ≡ told_after [] o
no_step None = refl
no_step (Some s) = refl

told_start : (told : Option Names) → IsToldAlong [] told told
told_start None = refl
told_start (Some s) = (s, refl, refl)

same_told : (o n : Option Names) → IsToldAlong [] o n → n ≡ o
same_told None n h = h
same_told (Some s) n h = h.1 ∙ ap Some h.2

still : (f : Content → Content) (o : Option Content) → IsSome o → IsSome (option_map f o)
still f None h = h
still f (Some c) h = h

same_text : (n : List ℕ) → text_eq n n ≡ true
same_text n = (bytes_decides n n).1 refl

abbrev IsSomeIn : Option Names → List ℕ → Type 0
IsSomeIn told name = (s : Names) → told ≡ Some s → IsSome (s name).present

started : (n : List ℕ) (o m : Option Names) → m ≡ told_after (Start n ∷ []) o → IsSomeIn m n
started n None m e s h = absurd (cc)
started n (Some r) m e s h =
    let is : after (Start n) r ≡ s = cc in subst (λ (u : Names). IsSome (u n).present) is (rw (same_text n) refl)

appended : (n bytes : List ℕ) (o m : Option Names) → IsSomeIn o n → m ≡ told_after (Append n bytes ∷ []) o
    → IsSomeIn m n
appended n bytes None m b e s h = absurd (cc)
appended n bytes (Some r) m b e s h =
    let is : after (Append n bytes) r ≡ s = cc in
    subst (λ (u : Names). IsSome (u n).present) is (rw (same_text n) (still (longer bytes) (r n).present (b r refl)))

synced : (n : List ℕ) (o m : Option Names) → IsSomeIn o n → m ≡ told_after (Sync n ∷ []) o → IsSomeIn m n
synced n None m b e s h = absurd (cc)
synced n (Some r) m b e s h =
    let is : after (Sync n) r ≡ s = cc in
    subst (λ (u : Names). IsSome (u n).present) is (rw (same_text n) (still made_firm (r n).present (b r refl)))

module _ {D : Type 0} (told : D → Option Names) (moment : D → ℕ) (since : D → ℕ → Image → Type 0) where
  -- no call
  pub ran_none : (disk : D) → Ran told moment since [] disk disk
  ran_none disk = record { later = omega arith; stands = told_start (told disk); each = λ t i le h. inl h }

  -- more calls were to come, and were not made
  pub ran_cut : (xs ys : List DiskStep) (old new : D) → Ran told moment since xs old new
      → Ran told moment since (xs ++ ys) old new
  ran_cut xs ys old new a = record {
    later = a.later;
    stands = told_left xs ys (told old) (told new) a.stands;
    each = λ t i le h.
        ⊎_elim (λ (p : since old t i). inl p)
        (λ (p : IsToldImageAlong xs (told old) i). inr (shown_left xs ys (told old) i p)) (a.each t i le h);
  }

  -- all of some calls, and then others
  pub ran_then : (xs ys : List DiskStep) (old mid new : D) → Ran told moment since xs old mid → Done told xs old mid
      → Ran told moment since ys mid new → Ran told moment since (xs ++ ys) old new
  ran_then xs ys old mid new a done b = record {
    later = omega (arith, a.later, b.later);
    stands =
        let rest = subst (λ (m : Option Names). IsToldAlong ys m (told new)) done.names b.stands in
        told_right xs ys (told old) (told new) rest;
    each = λ t i le h.
        ⊎_elim (λ (p : since mid t i).
        ⊎_elim (λ (q : since old t i). inl q)
        (λ (q : IsToldImageAlong xs (told old) i). inr (shown_left xs ys (told old) i q)) (a.each t i le p))
        (λ (p : IsToldImageAlong ys (told mid) i).
        let later = subst (λ (m : Option Names). IsToldImageAlong ys m i) done.names p in
        inr (shown_right xs ys (told old) i later)) (b.each t i (omega (arith, le, a.later)) h);
  }

  -- one call whose effect stands, and then others
  pub ran_first : (x : DiskStep) (xs : List DiskStep) (old mid new : D) → Ran told moment since (x ∷ []) old mid
      → Done told (x ∷ []) old mid → Ran told moment since xs mid new → Ran told moment since (x ∷ xs) old new
  ran_first x xs old mid new a done b = ran_then (x ∷ []) xs old mid new a done b

  -- calls that change nothing
  pub told_read : (old new : D) → Ran told moment since [] old new → told new ≡ told old
  told_read old new a = same_told (told old) (told new) a.stands

  pub ran_reads : (old mid new : D) → Ran told moment since [] old mid → Ran told moment since [] mid new
      → Ran told moment since [] old new
  ran_reads old mid new a b =
      ran_then [] [] old mid new a record { names = told_read old mid a ∙ no_step (told old) } b

  -- one call, and no more
  pub ran_stop : (x : DiskStep) (xs : List DiskStep) (old new : D) → Ran told moment since (x ∷ []) old new
      → Ran told moment since (x ∷ xs) old new
  ran_stop x xs old new a = ran_cut (x ∷ []) xs old new a

module _ {D : Type 0} (told : D → Option Names) where
  pub done_first : (x : DiskStep) (xs : List DiskStep) (old mid new : D) → Done told (x ∷ []) old mid
      → Done told xs mid new → Done told (x ∷ xs) old new
  done_first x xs old mid new a b =
      record { names = b.names ∙ ap (told_after xs) a.names ∙ after-append (x ∷ []) xs (told old) }

  pub done_then : (xs ys : List DiskStep) (old mid new : D) → Done told xs old mid → Done told ys mid new
      → Done told (xs ++ ys) old new
  done_then xs ys old mid new a b =
      record { names = b.names ∙ ap (told_after ys) a.names ∙ after-append xs ys (told old) }

  pub done_none : (disk : D) → Done told [] disk disk
  done_none disk = record { names = no_step (told disk) }

  pub bound_started : (n : List ℕ) (old new : D) → Done told (Start n ∷ []) old new → IsBoundIn (told new) n
  bound_started n old new e = record { bound = started n (told old) (told new) e.names }

  pub bound_appended : (n bytes : List ℕ) (old new : D) → IsBoundIn (told old) n
      → Done told (Append n bytes ∷ []) old new → IsBoundIn (told new) n
  bound_appended n bytes old new b e = record { bound = appended n bytes (told old) (told new) b.bound e.names }

  pub bound_synced : (n : List ℕ) (old new : D) → IsBoundIn (told old) n → Done told (Sync n ∷ []) old new
      → IsBoundIn (told new) n
  bound_synced n old new b e = record { bound = synced n (told old) (told new) b.bound e.names }

module _ (P : Image → Type 0) where
  along_has : (steps : List DiskStep) (s : Names) (i : Image) → AllAlong P steps s → IsImageAlong steps s i → P i
  along_has [] s i all h = all i h
  along_has (x ∷ xs) s i all (inl h) = all.0 i h
  along_has (x ∷ xs) s i all (inr h) = along_has xs (after x s) i all.1 h

  cut_has : (steps : List DiskStep) (s r : Names) (i : Image) → AllAlong P steps s → IsAlong steps s r → IsImage r i
      → P i
  cut_has [] s r i all e h = all i (subst (λ (u : Names). IsImage u i) e h)
  cut_has (x ∷ xs) s r i all (inl e) h = all.0 i (subst (λ (u : Names). IsImage u i) e h)
  cut_has (x ∷ xs) s r i all (inr e) h = cut_has xs (after x s) r i all.1 e h

  told_has : (steps : List DiskStep) (o : Option Names) (i : Image)
      → ((s : Names) → o ≡ Some s → AllAlong P steps s) → IsToldImageAlong steps o i → P i
  told_has steps None i all h = absurd h
  told_has steps (Some s) i all h = along_has steps s i (all s refl) h

  told_cut_has : (steps : List DiskStep) (o n : Option Names) (i : Image)
      → ((s : Names) → o ≡ Some s → AllAlong P steps s) → IsToldAlong steps o n → IsImageOf n i → P i
  told_cut_has steps None n i all e h = absurd (subst (λ (u : Option Names). IsImageOf u i) e h)
  told_cut_has steps (Some s) n i all e h =
      cut_has steps s e.0 i (all s refl) e.2 (subst (λ (u : Option Names). IsImageOf u i) e.1 h)

  of_told : (o : Option Names) (s : Names) → o ≡ Some s → ((i : Image) → IsImageOf o i → P i)
      → (i : Image) → IsImage s i → P i
  of_told o s e all i h = all i (subst (λ (u : Option Names). IsImageOf u i) (sym e) h)

  module _ {D : Type 0} (told : D → Option Names) (moment : D → ℕ) (since : D → ℕ → Image → Type 0) where
    -- a run keeps P where every image along it has P, given that those at its start do
    pub keeps : (steps : List DiskStep) (old new : D) → Ran told moment since steps old new
        → ((s : Names) → told old ≡ Some s → ((i : Image) → IsImage s i → P i) → AllAlong P steps s)
        → Keeps told moment since P old new
    keeps steps old new a all = record {
      later = a.later;
      now = λ had i h.
          told_cut_has steps (told old) (told new) i (λ s e. all s e (of_told (told old) s e had)) a.stands h;
      each = λ had t i le h.
          ⊎_elim (λ (p : since old t i). inl p) (λ (p : IsToldImageAlong steps (told old) i).
          inr (told_has steps (told old) i (λ s e. all s e (of_told (told old) s e had)) p)) (a.each t i le h);
    }

    pub keeps_refl : (disk : D) → Keeps told moment since P disk disk
    keeps_refl disk = record { later = omega arith; now = λ had. had; each = λ had t i le h. inl h }

    pub keeps_trans : (a b c : D) → Keeps told moment since P a b → Keeps told moment since P b c
        → Keeps told moment since P a c
    keeps_trans a b c p q = record {
      later = omega (arith, p.later, q.later);
      now = λ had. q.now (p.now had);
      each = λ had t i le h.
          ⊎_elim (λ (u : since b t i). p.each had t i le u) (λ (u : P i). inr u)
          (q.each (p.now had) t i (omega (arith, le, p.later)) h);
    }
