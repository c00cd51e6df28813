-- Open parts by their numbers.
use Rattle.std.proofs.Common.{ℕ, zero, suc, ◌≡◌, ◌≢◌, ◌⊎◌, ◌<◌, eqb, Bool, true, false, cond, List, [], ◌∷◌, Option, Some, None, IsSome, length, get_or, set, refl, sym, ap, ◌∙◌, inl, inr, arith, true≢false}
use Rattle.std.specs.Option.{option_map}
use Rattle.std.specs.Cmp.Lexicographic.{bytes_decides}
use Rattle.std.proofs.lemmas.List.{get_or-set_same, get_or-set_other}
use Rattle.std.proofs.lemmas.Bool.Decides.{eqb_tells}
use Rattle.res_base.specs.Names.{text_eq}
use Rattle.cache_store.specs.Parts.{AreApart, AreUnsealed, OthersUnsealed, Parts, part_at, unseal, unsealed}
use Rattle.cache_store.specs.declared.part.Part.{Part}

pub within : (parts : Parts) (j : ℕ) (q : Part) → part_at parts j ≡ Some q → j < length parts
within [] j q e = absurd (cc)
within (x ∷ parts) zero q e = omega arith
within (x ∷ parts) (suc j) q e = let below : j < length parts = within parts j q e in omega arith

-- a part that is open
pub some_part : (o : Option Part) → IsSome o → (p : Part) × (o ≡ Some p)
some_part None h = absurd (true≢false (sym h))
some_part (Some p) h = (p, refl)

pub some_one : (a b : Part) → Some a ≡ Some b → a ≡ b
some_one a b h = cc

-- a place that was set
pub set_cases : (parts : Parts) (k : ℕ) (o : Option Part) (j : ℕ) (q : Part) → k < length parts
    → part_at (set parts k o) j ≡ Some q → ((j ≡ k) × (o ≡ Some q)) ⊎ ((j ≢ k) × (part_at parts j ≡ Some q))
set_cases parts k o j q le e = at (eqb_tells j k)
  where
    at : ((eqb j k ≡ true) × (j ≡ k)) ⊎ ((eqb j k ≡ false) × (j ≢ k))
        → ((j ≡ k) × (o ≡ Some q)) ⊎ ((j ≢ k) × (part_at parts j ≡ Some q))
    at (inl h) =
        let same : get_or (set parts k o) k None ≡ get_or (set parts k o) j None =
        ap (λ (i : ℕ). get_or (set parts k o) i None) (sym h.1) in
        inl (h.1, sym (get_or-set_same parts k o None le) ∙ (same ∙ e))
    at (inr h) = inr (h.1, sym (get_or-set_other parts k j o None h.1) ∙ e)

pub apart_cleared : (parts : Parts) (k : ℕ) → k < length parts → AreApart parts → AreApart (set parts k None)
apart_cleared parts k le apart i j p q name hi hj ep eq =
    at (set_cases parts k None i p le hi) (set_cases parts k None j q le hj)
  where
    at : ((i ≡ k) × (None ≡ Some p)) ⊎ ((i ≢ k) × (part_at parts i ≡ Some p))
        → ((j ≡ k) × (None ≡ Some q)) ⊎ ((j ≢ k) × (part_at parts j ≡ Some q)) → i ≡ j
    at (inl a) b = absurd (let f = a.1 in cc)
    at (inr a) (inl b) = absurd (let f = b.1 in cc)
    at (inr a) (inr b) = apart i j p q name a.1 b.1 ep eq

-- a part comes that is sealed for no name, or for one that no other part is sealed for
pub apart_set : (parts : Parts) (k : ℕ) (x : Part) → k < length parts → AreApart parts
    → ((name : List ℕ) → x.sealed ≡ Some name → (j : ℕ) (q : Part) → part_at parts j ≡ Some q → q.sealed ≡ Some name → j ≡ k)
    → AreApart (set parts k (Some x))
apart_set parts k x le apart alone i j a b name hi hj ea eb =
    at (set_cases parts k (Some x) i a le hi) (set_cases parts k (Some x) j b le hj)
  where
    mine : (r : Part) → Some x ≡ Some r → r.sealed ≡ Some name → x.sealed ≡ Some name
    mine r e f = ap (λ (y : Part). y.sealed) (some_one x r e) ∙ f

    at : ((i ≡ k) × (Some x ≡ Some a)) ⊎ ((i ≢ k) × (part_at parts i ≡ Some a))
        → ((j ≡ k) × (Some x ≡ Some b)) ⊎ ((j ≢ k) × (part_at parts j ≡ Some b)) → i ≡ j
    at (inl u) (inl v) = u.0 ∙ sym v.0
    at (inl u) (inr v) = u.0 ∙ sym (alone name (mine a u.1 ea) j b v.1 eb)
    at (inr u) (inl v) = alone name (mine b v.1 eb) i a u.1 ea ∙ sym v.0
    at (inr u) (inr v) = apart i j a b name u.1 v.1 ea eb

pub set_twice : (parts : Parts) (k : ℕ) (a b : Option Part) → set (set parts k a) k b ≡ set parts k b
set_twice [] k a b = refl
set_twice (x ∷ parts) zero a b = refl
set_twice (x ∷ parts) (suc k) a b = ap (λ (l : Parts). x ∷ l) (set_twice parts k a b)

pub set_here : (old new : Parts) (k : ℕ) (o : Option Part) → new ≡ set old k o → k < length old → part_at new k ≡ o
set_here old new k o e le = ap (λ (parts : Parts). part_at parts k) e ∙ get_or-set_same old k o None le

pub set_elsewhere : (old new : Parts) (k : ℕ) (o : Option Part) → new ≡ set old k o → (j : ℕ) → j ≢ k
    → part_at new j ≡ part_at old j
set_elsewhere old new k o e j apart = ap (λ (parts : Parts). part_at parts j) e ∙ get_or-set_other old k j o None apart

-- ---- parts that are no longer sealed for a name
unseal_case : (b : Bool) (other m : List ℕ) → (cond b None (Some other)) ≡ Some m → (b ≡ false) × (other ≡ m)
unseal_case true other m e = absurd (cc)
unseal_case false other m e = (refl, cc)

-- what is still sealed was so before, for another name
pub still_sealed : (name : List ℕ) (o : Option (List ℕ)) (m : List ℕ) → unseal name o ≡ Some m
    → (o ≡ Some m) × (name ≢ m)
still_sealed name None m e = absurd (cc)
still_sealed name (Some other) m e =
    let h = unseal_case (text_eq other name) other m e in
    (ap Some h.1, λ f. true≢false (sym ((bytes_decides other name).1 (h.1 ∙ sym f)) ∙ h.0))

abbrev Was : List ℕ → Option Part → Part → Type 0
Was name o q = (p : Part) × (o ≡ Some p) × (q ≡ unsealed name p)

was_part : (name : List ℕ) (o : Option Part) (q : Part) → option_map (unsealed name) o ≡ Some q → Was name o q
was_part name None q e = absurd (cc)
was_part name (Some p) q e = (p, refl, sym (some_one (unsealed name p) q e))

pub unsealed_part : (name : List ℕ) (old new : Parts) → AreUnsealed name old new → (j : ℕ) (q : Part)
    → part_at new j ≡ Some q → Was name (part_at old j) q
unsealed_part name old new are j q e = was_part name (part_at old j) q (sym (are j) ∙ e)

-- so none is sealed for that name
pub none_sealed : (name : List ℕ) (old new : Parts) → AreUnsealed name old new → (j : ℕ) (q : Part)
    → part_at new j ≡ Some q → q.sealed ≡ Some name → ⊥
none_sealed name old new are j q e f =
    let was = unsealed_part name old new are j q e in
    let sealed : unseal name (was.0).sealed ≡ Some name = ap (λ (x : Part). x.sealed) (sym was.2) ∙ f in
    (still_sealed name (was.0).sealed name sealed).1 refl

pub apart_unsealed : (name : List ℕ) (old new : Parts) → AreUnsealed name old new → AreApart old → AreApart new
apart_unsealed name old new are apart i j p q m hi hj ep eq =
    let was_p = unsealed_part name old new are i p hi in
    let was_q = unsealed_part name old new are j q hj in
    let sp = still_sealed name (was_p.0).sealed m (ap (λ (x : Part). x.sealed) (sym was_p.2) ∙ ep) in
    let sq = still_sealed name (was_q.0).sealed m (ap (λ (x : Part). x.sealed) (sym was_q.2) ∙ eq) in
    apart i j was_p.0 was_q.0 m was_p.1 was_q.1 sp.0 sq.0

-- the others, once one was set after that
pub others_unsealed : (name : List ℕ) (old mid new : Parts) (k : ℕ) (o : Option Part) → AreUnsealed name old mid
    → new ≡ set mid k o → OthersUnsealed k name old new
others_unsealed name old mid new k o are e j other = set_elsewhere mid new k o e j other ∙ are j
