-- Answers for other keys than the needs change no need.
use Rattle.std.proofs.Common.{◌≡◌, inl, inr, Bool, true, false, not, None, List, [], ◌∷◌, ◌&&◌, filter, refl, sym, ◌∙◌, ap, subst, true≢false}
use Rattle.std.specs.List.{list_all}
use Rattle.std.specs.Option.{is_some}
use Rattle.claim_rules.specs.Resolvers.{Standing, waiting, given, Resolver, awaited, SameAt, IsLawful}
use Rattle.claim_rules.specs.Sessions.{is_known, needs_at, needs, is_over_at, is_over}
use Rattle.claim_rules.proofs.Resolved.{reading_of, no_reading, stays_known, is_unknown, verdict_stays}
use Rattle.res_base.specs.Known.{Known, Grows}
use Rattle.res_base.specs.Members.{Among}
use Rattle.res_base.specs.declared.key.FileKey.{FileKey}

module _ (before after : Known) (more : Grows before after) where
  -- none of these that was unknown is known later
  abbrev Lacks : List FileKey → Type 0
  Lacks keys = (key : FileKey) → Among key (filter (is_unknown before) keys) → after key ≡ None

  one_more : (key : FileKey) (keys : List FileKey) → Lacks (key ∷ keys) → Lacks keys
  one_more key keys none one m = by (is_known before key) refl
    where
      by : (b : Bool) → is_known before key ≡ b → after one ≡ None
      by true e = none one (rw e m)
      by false e = none one (rw e (inr m))

  still_unknown : (key : FileKey) (keys : List FileKey) → Lacks (key ∷ keys) → is_known before key ≡ false
      → is_known after key ≡ false
  still_unknown key keys none e = ap is_some (none key (rw e (inl refl)))

  same_known : (key : FileKey) (keys : List FileKey) → Lacks (key ∷ keys) → is_known after key ≡ is_known before key
  same_known key keys none = by (is_known before key) refl
    where
      by : (b : Bool) → is_known before key ≡ b → is_known after key ≡ is_known before key
      by true e = stays_known before after more key e ∙ sym e
      by false e = still_unknown key keys none e ∙ sym e

  pub same_left : (keys : List FileKey) → Lacks keys → filter (is_unknown after) keys ≡ filter (is_unknown before) keys
  same_left [] none = refl
  same_left (key ∷ keys) none = rw (same_known key keys none, same_left keys (one_more key keys none)) refl

  pub same_all : (keys : List FileKey) → Lacks keys → list_all (is_known after) keys ≡ list_all (is_known before) keys
  same_all [] none = refl
  same_all (key ∷ keys) none = rw (same_known key keys none, same_all keys (one_more key keys none)) refl

module _ {V : Type 0} (r : Resolver V) (lawful : IsLawful r) (before after : Known) (more : Grows before after)
    (lacks : (key : FileKey) → Among key (needs r before) → after key ≡ None) where
  same_reads : (keys : List FileKey) → r.rounds before ≡ waiting keys → SameAt before after (r.reads before)
  same_reads keys is key m = by (is_known before key) refl
    where
      by : (b : Bool) → is_known before key ≡ b → after key ≡ before key
      by true e = let k = reading_of before key e in more key k.0 k.1 ∙ sym k.1
      by false e =
          let none : before key ≡ None = no_reading before key e in
          let open_one : Among key keys = subst (λ st. Among key (awaited st)) is (lawful.opens before key m none) in
          lacks key (subst (λ st. Among key (needs_at st r.files before)) (sym is) open_one) ∙ sym none

  wanted : (verdict : V) → r.rounds before ≡ given verdict → (key : FileKey)
      → Among key (filter (is_unknown before) (r.files verdict)) → after key ≡ None
  wanted verdict is key m = lacks key (subst (λ st. Among key (needs_at st r.files before)) (sym is) m)

  pub needs_stay : needs r after ≡ needs r before
  needs_stay = by (r.rounds before) refl
    where
      by : (st : Standing V) → r.rounds before ≡ st → needs r after ≡ needs r before
      by (waiting keys) is = rw (lawful.fixed before after (same_reads keys is), is) refl
      by (given verdict) is =
          rw (verdict_stays r lawful before after verdict more is, is)
          (same_left before after more (r.files verdict) (wanted verdict is))

  pub over_alike : is_over r after ≡ is_over r before
  over_alike = by (r.rounds before) refl
    where
      by : (st : Standing V) → r.rounds before ≡ st → is_over r after ≡ is_over r before
      by (waiting keys) is = rw (lawful.fixed before after (same_reads keys is), is) refl
      by (given verdict) is =
          rw (verdict_stays r lawful before after verdict more is, is)
          (same_all before after more (r.files verdict) (wanted verdict is))
