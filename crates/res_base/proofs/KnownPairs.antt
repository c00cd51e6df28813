-- What is known by a list of pairs.
use Rattle.std.proofs.Common.{◌≡◌, inl, inr, Bool, true, false, cond, None, Some, Option, List, [], ◌∷◌, ◌++◌, map, refl, sym, ◌∙◌, ap, subst, true≢false}
use Rattle.std.specs.Prelude.{◌↔◌}
use Rattle.std.specs.List.{AllByRecursion}
use Rattle.std.proofs.lemmas.Map.Keys.{IsDistinct-head, IsDistinct-tail}
use Rattle.std.proofs.lemmas.Option.{none-some, same_Some}
use Rattle.res_base.specs.Known.{Known, known_of, Grows, HasDistinctKeys}
use Rattle.res_base.specs.Members.{Among}
use Rattle.res_base.specs.Names.{key_eq}
use Rattle.res_base.specs.declared.key.FileKey.{FileKey}
use Rattle.res_base.specs.declared.reading.Reading.{Reading}
use Rattle.res_base.proofs.Equality.{key_same, key_itself}

abbrev Pairs : Type 0
Pairs = List (FileKey × Reading)

pub more : (pairs others : Pairs) → Grows (known_of pairs) (known_of (pairs ++ others))
more [] others key reading e = absurd (none-some reading e)
more (pair ∷ pairs) others key reading e = by (key_eq pair.0 key) (more pairs others key reading) e
  where
    by : (b : Bool) → (known_of pairs key ≡ Some reading → known_of (pairs ++ others) key ≡ Some reading)
        → cond b (Some pair.1) (known_of pairs key) ≡ Some reading
        → cond b (Some pair.1) (known_of (pairs ++ others) key) ≡ Some reading
    by true later e = e
    by false later e = later e

pub steps : (first second third : Known) → Grows first second → Grows second third → Grows first third
steps first second third one two key reading e = two key reading (one key reading e)

pub among : (pairs : Pairs) (key : FileKey) (reading : Reading) → known_of pairs key ≡ Some reading
    → Among (key, reading) pairs
among [] key reading e = absurd (none-some reading e)
among (pair ∷ pairs) key reading e = by (key_eq pair.0 key) refl (among pairs key reading) e
  where
    by : (b : Bool) → key_eq pair.0 key ≡ b → (known_of pairs key ≡ Some reading → Among (key, reading) pairs)
        → cond b (Some pair.1) (known_of pairs key) ≡ Some reading → Among (key, reading) (pair ∷ pairs)
    by true is later e =
        let there : key ≡ pair.0 = sym (key_same pair.0 key is) in
        let read : reading ≡ pair.1 = sym (same_Some pair.1 reading e) in
        inl (ap (λ k. (k, reading)) there ∙ ap (λ r. (pair.0, r)) read)
    by false is later e = inr (later e)

pub unknown : (pairs : Pairs) (key : FileKey) (reading : Reading) → known_of pairs key ≡ None
    → Among (key, reading) pairs → ⊥
unknown [] key reading e h = h
unknown (pair ∷ pairs) key reading e h = by (key_eq pair.0 key) refl (unknown pairs key reading) e h
  where
    by : (b : Bool) → key_eq pair.0 key ≡ b → (known_of pairs key ≡ None → Among (key, reading) pairs → ⊥)
        → cond b (Some pair.1) (known_of pairs key) ≡ None → Among (key, reading) (pair ∷ pairs) → ⊥
    by true is later e h = none-some pair.1 (sym e)
    by false is later e (inl first) =
        true≢false (sym (ap (λ p. key_eq p.0 key) (sym first) ∙ key_itself key) ∙ is)
    by false is later e (inr rest) = later e rest

pub new : (pairs : Pairs) (key : FileKey) (reading : Reading) → known_of pairs key ≡ None
    → known_of (pairs ++ (key, reading) ∷ []) key ≡ Some reading
new [] key reading e = rw (key_itself key) refl
new (pair ∷ pairs) key reading e = by (key_eq pair.0 key) (new pairs key reading) e
  where
    by : (b : Bool) → (known_of pairs key ≡ None → known_of (pairs ++ (key, reading) ∷ []) key ≡ Some reading)
        → cond b (Some pair.1) (known_of pairs key) ≡ None
        → cond b (Some pair.1) (known_of (pairs ++ (key, reading) ∷ []) key) ≡ Some reading
    by true later e = absurd (none-some pair.1 (sym e))
    by false later e = later e

-- what holds of each key holds of the key of a pair
of_key : (P : FileKey → Type 0) (pairs : Pairs) (key : FileKey) (reading : Reading)
    → AllByRecursion P (map (λ pair. pair.0) pairs) → Among (key, reading) pairs → P key
of_key P [] key reading all h = absurd h
of_key P (pair ∷ pairs) key reading all (inl e) =
    let there : pair.0 ≡ key = ap (λ p. p.0) (sym e) in
    subst P there all.0
of_key P (pair ∷ pairs) key reading all (inr h) = of_key P pairs key reading all.1 h

pub known : (pairs : Pairs) (key : FileKey) (reading : Reading) → HasDistinctKeys pairs → Among (key, reading) pairs
    → known_of pairs key ≡ Some reading
known [] key reading distinct h = absurd h
known (pair ∷ pairs) key reading distinct (inl e) =
    let is : key_eq pair.0 key ≡ true = ap (λ p. key_eq p.0 key) (sym e) ∙ key_itself key in
    rw is (ap (λ p. Some p.1) (sym e))
known (pair ∷ pairs) key reading distinct (inr h) =
    let others = IsDistinct-head key_eq pair.0 (map (λ one. one.0) pairs) distinct in
    let other : key_eq pair.0 key ≡ false = of_key (λ k. key_eq pair.0 k ≡ false) pairs key reading others h in
    rw other (known pairs key reading (IsDistinct-tail key_eq pair.0 (map (λ one. one.0) pairs) distinct) h)

pub same : (pairs others : Pairs) → HasDistinctKeys pairs
    → ((pair : FileKey × Reading) → Among pair pairs ↔ Among pair others)
    → (key : FileKey) → known_of pairs key ≡ known_of others key
same pairs others distinct alike key = by (known_of others key) refl (known_of pairs key) refl
  where
    by : (o : Option Reading) → known_of others key ≡ o → (p : Option Reading) → known_of pairs key ≡ p
        → known_of pairs key ≡ known_of others key
    by (Some reading) e p f = known pairs key reading distinct ((alike (key, reading)).1 (among others key reading e))
        ∙ sym e
    by None e None f = f ∙ sym e
    by None e (Some reading) f = absurd (unknown others key reading e
        ((alike (key, reading)).0 (among pairs key reading f)))
