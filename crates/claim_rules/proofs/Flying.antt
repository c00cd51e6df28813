-- Claims in flight: where no claim can be made now, there is one; and its key is not known.
use Rattle.std.proofs.Common.{◌≡◌, ◌⊎◌, inl, inr, ℕ, Bool, true, false, not, ◌&&◌, Option, Some, None, List, [], ◌∷◌, ◌++◌, refl, sym, ◌∙◌, ap, subst, true≢false}
use Rattle.std.specs.Prelude.{fold}
use Rattle.std.specs.List.{list_all}
use Rattle.std.specs.Option.{is_some}
use Rattle.claim_rules.specs.Claims.{is_free, HasNoNeed, IsNoneNow}
use Rattle.claim_rules.specs.Counts.{is_broken}
use Rattle.claim_rules.specs.Histories.{What, claim, arrive, broke, give_back, Entry, History, key_in, pair_in, known_in, holder_after, holder, in_flight, any_in_flight}
use Rattle.claim_rules.specs.Least.{least}
use Rattle.claim_rules.specs.Legal.{may_come, MayCome, Legal}
use Rattle.claim_rules.specs.Resolvers.{Resolver, IsLawful}
use Rattle.claim_rules.specs.Sessions.{is_known, needs}
use Rattle.claim_rules.specs.declared.settings.Settings.{Settings}
use Rattle.claim_rules.proofs.Along.{along_all}
use Rattle.claim_rules.proofs.AnswerLemmas.{says, claimed_free}
use Rattle.claim_rules.proofs.BaseLaws.{Decided, same_key}
use Rattle.claim_rules.proofs.EntryLemmas.{holder_more, known_alike, other_holder, flew_before, own_end, known_as_before}
use Rattle.claim_rules.proofs.LeastLemmas.{no_keys}
use Rattle.claim_rules.proofs.Members.{any_by, all_pass}
use Rattle.claim_rules.proofs.Resolved.{need_unknown, some_needs}
use Rattle.claim_rules.proofs.Tests.{fails_with, not_false}
use Rattle.res_base.specs.Members.{Among}
use Rattle.res_base.specs.Names.{key_eq}
use Rattle.res_base.specs.declared.key.FileKey.{FileKey}
use Rattle.res_base.specs.declared.reading.Reading.{Reading}

-- an entry of the key
record IsThere (key : FileKey) (h : History) : Type 0 where
  entry : Entry
  member : Among entry h
  same : key_eq (key_in entry.what) key ≡ true

there : (key : FileKey) (h : History) (holds : Option ℕ)
    → is_some (fold (λ o (e : Entry). holder_after key o e.seat e.what) holds h) ≡ true
    → (is_some holds ≡ true) ⊎ IsThere key h
there key [] holds up = inl up
there key (e ∷ h) holds up =
    by (key_eq (key_in e.what) key) refl (there key h (holder_after key holds e.seat e.what) up)
  where
    by : (b : Bool) → key_eq (key_in e.what) key ≡ b
        → (is_some (holder_after key holds e.seat e.what) ≡ true) ⊎ IsThere key h
        → (is_some holds ≡ true) ⊎ IsThere key (e ∷ h)
    by true is later = inr (record { entry = e; member = inl refl; same = is })
    by false is (inl up) = inl (sym (ap is_some (other_holder key holds e.seat e.what is)) ∙ up)
    by false is (inr t) = inr (record { entry = t.entry; member = inr t.member; same = t.same })

pub flying_any : Decided → (h : History) (key : FileKey) → in_flight h key ≡ true → any_in_flight h ≡ true
flying_any decided h key up = by (there key h None up)
  where
    by : (false ≡ true) ⊎ IsThere key h → any_in_flight h ≡ true
    by (inl never) = absurd (true≢false (sym never))
    by (inr t) =
        any_by (λ (e : Entry). in_flight h (key_in e.what)) t.entry h t.member
        (ap (in_flight h) (same_key decided (key_in t.entry.what) key t.same) ∙ up)

module _ (decided : Decided) {V : Type 0} (s : Settings) (r : Resolver V) (lawful : IsLawful r) (h : History) where
  -- where nothing is in flight, a need that is not free is broken
  broken_or_flying : any_in_flight h ≡ false → (key : FileKey) → Among key (needs r (known_in h))
      → is_free s.retries h key ≡ false → is_broken s.retries h key ≡ true
  broken_or_flying calm key m busy = by (is_broken s.retries h key) refl
    where
      unflown : in_flight h key ≡ false
      unflown = fails_with (in_flight h key) (any_in_flight h) (flying_any decided h key) calm

      by : (b : Bool) → is_broken s.retries h key ≡ b → is_broken s.retries h key ≡ true
      by true e = e
      by false e =
          let free : is_free s.retries h key ≡ true = rw (need_unknown r lawful (known_in h) key m, unflown, e) refl in
          absurd (true≢false (sym free ∙ busy))

  pub none_now_flies : IsNoneNow s r h → any_in_flight h ≡ true
  none_now_flies n = by (any_in_flight h) refl
    where
      lands : any_in_flight h ≡ false → (o : Option FileKey) → least (needs r (known_in h)) ≡ o → ⊥
      lands calm None none =
          some_needs r lawful (known_in h) n.needless.going (no_keys (needs r (known_in h)) none)
      lands calm (Some key) first =
          n.needless.unstuck key (record {
            going = n.needless.going;
            first = first;
            broken = λ one m. broken_or_flying calm one m (n.needless.busy one m);
            landed = calm;
          })

      by : (b : Bool) → any_in_flight h ≡ b → any_in_flight h ≡ true
      by true up = up
      by false calm = absurd (lands calm (least (needs r (known_in h))) refl)

module _ (decided : Decided) {V : Type 0} (s : Settings) (r : Resolver V) (key : FileKey) where
  abbrev Unknown : History → Type 0
  Unknown h = in_flight h key ≡ true → is_known (known_in h) key ≡ false

  -- what is in flight after an entry of another key was so before
  pub flew : (h : History) (e : Entry) → key_eq (key_in e.what) key ≡ false → in_flight (h ++ e ∷ []) key ≡ true
      → in_flight h key ≡ true
  flew h e other up = sym (ap is_some (holder_more h e key ∙ other_holder key (holder h key) e.seat e.what other)) ∙ up

  step : (h : History) (e : Entry) → Unknown h → MayCome s r h e → Unknown (h ++ e ∷ [])
  step h e before may up = by e.what refl may
    where
      here : (w : What) → e.what ≡ w → is_some (holder_after key (holder h key) e.seat w) ≡ true
      here w is = sym (ap (λ x. is_some (holder_after key (holder h key) e.seat x)) is)
          ∙ sym (ap is_some (holder_more h e key)) ∙ up

      other : (one : FileKey) → key_in e.what ≡ one → key_eq one key ≡ false → is_known (known_in h) key ≡ false
      other one is apart = before (flew h e (ap (λ k. key_eq k key) is ∙ apart) up)

      claims_it : (one : FileKey) → e.what ≡ claim one → may_come s r h e.seat (claim one) → (b : Bool)
          → key_eq one key ≡ b → is_known (known_in (h ++ e ∷ [])) key ≡ false
      claims_it one is m true same =
          known_alike h e key (ap pair_in is)
          ∙ subst (λ k. is_known (known_in h) k ≡ false) (same_key decided one key same)
          (claimed_free s r h one m).unknown
      claims_it one is m false apart = known_alike h e key (ap pair_in is) ∙ other one (ap key_in is) apart

      arrives : (one : FileKey) (reading : Reading) → e.what ≡ arrive one reading
          → may_come s r h e.seat (arrive one reading) → (b : Bool) → key_eq one key ≡ b
          → is_known (known_in (h ++ e ∷ [])) key ≡ false
      arrives one reading is m true same =
          let own : holder h key ≡ Some e.seat =
          subst (λ k. holder h k ≡ Some e.seat) (same_key decided one key same) m in
          let gone : is_some (holder_after key (holder h key) e.seat (arrive one reading)) ≡ false =
          ap is_some (own_end (holder h key) (key_eq one key) e.seat same own) in
          absurd (true≢false (sym (here (arrive one reading) is) ∙ gone))
      arrives one reading is m false apart =
          known_as_before h e key one reading is apart ∙ other one (ap key_in is) apart

      ends : (w : What) → e.what ≡ w → pair_in w ≡ []
          → (is_some (holder_after key (holder h key) e.seat w) ≡ true → in_flight h key ≡ true)
          → is_known (known_in (h ++ e ∷ [])) key ≡ false
      ends w is none down = known_alike h e key (ap pair_in is ∙ none) ∙ before (down (here w is))

      by : (w : What) → e.what ≡ w → may_come s r h e.seat w → is_known (known_in (h ++ e ∷ [])) key ≡ false
      by (claim one) is m = claims_it one is m (key_eq one key) refl
      by (arrive one reading) is m = arrives one reading is m (key_eq one key) refl
      by (broke one why) is m = ends (broke one why) is refl (flew_before _ (holder h key))
      by (give_back one) is m = ends (give_back one) is refl (flew_before _ (holder h key))

  pub flying_unknown : (h : History) → Legal s r h → in_flight h key ≡ true → is_known (known_in h) key ≡ false
  flying_unknown h legal = along_all (MayCome s r) Unknown step [] h (λ up. absurd (true≢false (sym up))) legal
