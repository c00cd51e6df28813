-- What the laws of rounds say of sessions.
use Rattle.std.proofs.Common.{◌≡◌, inl, inr, Bool, true, false, not, Option, Some, None, List, [], ◌∷◌, ◌++◌, filter, refl, sym, ◌∙◌, ap, subst, true≢false}
use Rattle.std.specs.List.{list_all}
use Rattle.std.specs.Option.{is_some}
use Rattle.claim_rules.specs.Resolvers.{Standing, waiting, given, Resolver, awaited, SameAt, IsLawful}
use Rattle.claim_rules.specs.Sessions.{is_known, needs_at, needs, is_over_at, is_over, files_at, needed}
use Rattle.claim_rules.proofs.Members.{in_front, in_back, in_either, Tested, passed, passes, each_passes, all_pass, some_fails}
use Rattle.claim_rules.proofs.Tests.{not_true, not_false}
use Rattle.res_base.specs.Known.{Known, Grows}
use Rattle.res_base.specs.Members.{Among}
use Rattle.res_base.specs.declared.key.FileKey.{FileKey}
use Rattle.res_base.specs.declared.reading.Reading.{Reading}

pub reading_of : (known : Known) (key : FileKey) → is_known known key ≡ true
    → (reading : Reading) × (known key ≡ Some reading)
reading_of known key e = by (known key) refl e
  where
    by : (o : Option Reading) → known key ≡ o → is_some o ≡ true → (reading : Reading) × (known key ≡ Some reading)
    by None is e = absurd (true≢false (sym e))
    by (Some reading) is e = (reading, is)

pub no_reading : (known : Known) (key : FileKey) → is_known known key ≡ false → known key ≡ None
no_reading known key e = by (known key) refl e
  where
    by : (o : Option Reading) → known key ≡ o → is_some o ≡ false → known key ≡ None
    by None is e = is
    by (Some reading) is e = absurd (true≢false e)

pub stays_known : (before after : Known) → Grows before after → (key : FileKey) → is_known before key ≡ true
    → is_known after key ≡ true
stays_known before after more key e = let k = reading_of before key e in ap is_some (more key k.0 k.1)

abbrev pub is_unknown : Known → FileKey → Bool
is_unknown known key = not (is_known known key)

none_awaited : {V : Type 0} (st : Standing V) (verdict : V) (key : FileKey) → st ≡ given verdict
    → Among key (awaited st) → ⊥
none_awaited st verdict key is m = subst (λ x. Among key (awaited x)) is m

module _ {V : Type 0} (r : Resolver V) where
  -- over: there is a verdict, and its artifacts are known
  pub record Done (known : Known) : Type 0 where
    pub verdict : V
    pub is : r.rounds known ≡ given verdict
    pub files : (key : FileKey) → Among key (r.files verdict) → is_known known key ≡ true

  pub done : (known : Known) → is_over r known ≡ true → Done known
  done known e = by (r.rounds known) refl e
    where
      by : (st : Standing V) → r.rounds known ≡ st → is_over_at st r.files known ≡ true → Done known
      by (waiting keys) is never = absurd (true≢false (sym never))
      by (given verdict) is all =
          record { verdict = verdict; is = is; files = each_passes (is_known known) (r.files verdict) all }

  pub over_by : (known : Known) (verdict : V) → r.rounds known ≡ given verdict
      → ((key : FileKey) → Among key (r.files verdict) → is_known known key ≡ true) → is_over r known ≡ true
  over_by known verdict is files =
      ap (λ st. is_over_at st r.files known) is ∙ all_pass (is_known known) (r.files verdict) files

  none_left : (known : Known) (keys : List FileKey) → ((key : FileKey) → Among key keys → is_known known key ≡ true)
      → filter (λ key. not (is_known known key)) keys ≡ []
  none_left known [] each = refl
  none_left known (key ∷ keys) each =
      rw (each key (inl refl)) (none_left known keys (λ one m. each one (inr m)))

  pub over_needs : (known : Known) → is_over r known ≡ true → needs r known ≡ []
  over_needs known e =
      let d : Done known = done known e in
      ap (λ st. needs_at st r.files known) d.is ∙ none_left known (r.files d.verdict) d.files

module _ {V : Type 0} (r : Resolver V) (lawful : IsLawful r) where
  pub reads_known : (known : Known) (verdict : V) → r.rounds known ≡ given verdict → (key : FileKey)
      → Among key (r.reads known) → is_known known key ≡ true
  reads_known known verdict is key m = by (is_known known key) refl
    where
      by : (b : Bool) → is_known known key ≡ b → is_known known key ≡ true
      by true e = e
      by false e =
          absurd (none_awaited (r.rounds known) verdict key is (lawful.opens known key m (no_reading known key e)))

  same_reads : (before after : Known) (verdict : V) → Grows before after → r.rounds before ≡ given verdict
      → SameAt before after (r.reads before)
  same_reads before after verdict more is key m =
      let k = reading_of before key (reads_known before verdict is key m) in more key k.0 k.1 ∙ sym k.1

  pub verdict_stays : (before after : Known) (verdict : V) → Grows before after → r.rounds before ≡ given verdict
      → r.rounds after ≡ given verdict
  verdict_stays before after verdict more is =
      lawful.fixed before after (same_reads before after verdict more is) ∙ is

  pub reads_stay : (before after : Known) (verdict : V) → Grows before after → r.rounds before ≡ given verdict
      → r.reads after ≡ r.reads before
  reads_stay before after verdict more is = lawful.fixed_reads before after (same_reads before after verdict more is)

  pub session_stays : (before after : Known) → Grows before after → is_over r before ≡ true → is_over r after ≡ true
  session_stays before after more e =
      let d : Done r before = done r before e in
      over_by r after d.verdict (verdict_stays before after d.verdict more d.is)
      (λ key m. stays_known before after more key (d.files key m))

  pub need_unknown : (known : Known) (key : FileKey) → Among key (needs r known) → is_known known key ≡ false
  need_unknown known key m = by (r.rounds known) refl m
    where
      by : (st : Standing V) → r.rounds known ≡ st → Among key (needs_at st r.files known) → is_known known key ≡ false
      by (waiting keys) is k =
          ap is_some (lawful.unknown known key (subst (λ st. Among key (awaited st)) (sym is) k))
      by (given verdict) is k =
          let t : Tested (is_unknown known) true key (r.files verdict) =
          passed (is_unknown known) key (r.files verdict) k in
          not_true (is_known known key) t.is

  pub some_needs : (known : Known) → is_over r known ≡ false → needs r known ≡ [] → ⊥
  some_needs known going none = by (r.rounds known) refl
    where
      by : (st : Standing V) → r.rounds known ≡ st → ⊥
      by (waiting keys) is =
          lawful.some known (is ∙ ap waiting (sym (ap (λ st. needs_at st r.files known) is) ∙ none))
      by (given verdict) is =
          let f = some_fails (is_known known) (r.files verdict)
          (subst (λ st. is_over_at st r.files known ≡ false) is going) in
          subst (λ ks. Among f.0 ks) (sym (ap (λ st. needs_at st r.files known) is) ∙ none)
          (passes (is_unknown known) f.0 (r.files verdict) (not_false (is_known known f.0) f.1.is) f.1.member)

  pub need_is_needed : (before after : Known) → Grows before after → (key : FileKey) → Among key (needs r before)
      → Among key (needed r after)
  need_is_needed before after more key m = by (r.rounds before) refl m
    where
      by : (st : Standing V) → r.rounds before ≡ st → Among key (needs_at st r.files before)
          → Among key (needed r after)
      by (waiting keys) is k =
          in_front key (r.reads after) (files_at (r.rounds after) r.files)
          (lawful.grows before after more key
          (lawful.read before key (subst (λ st. Among key (awaited st)) (sym is) k)))
      by (given verdict) is k =
          let t : Tested (is_unknown before) true key (r.files verdict) =
          passed (is_unknown before) key (r.files verdict) k in
          in_back key (r.reads after) (files_at (r.rounds after) r.files)
          (subst (λ st. Among key (files_at st r.files)) (sym (verdict_stays before after verdict more is)) t.member)

  pub needed_known : (before after : Known) → Grows before after → is_over r before ≡ true → (key : FileKey)
      → Among key (needed r after) → is_known before key ≡ true
  needed_known before after more e key m =
      let d : Done r before = done r before e in
      let rounds : r.rounds after ≡ given d.verdict = verdict_stays before after d.verdict more d.is in
      let at : Among key (r.reads after ++ r.files d.verdict) =
      subst (λ st. Among key (r.reads after ++ files_at st r.files)) rounds m in
      either d (subst (λ ks. Among key (ks ++ r.files d.verdict)) (reads_stay before after d.verdict more d.is) at)
    where
      either : (d : Done r before) → Among key (r.reads before ++ r.files d.verdict) → is_known before key ≡ true
      either d k =
          elim (in_either key (r.reads before) (r.files d.verdict) k) [
            | inl one ↦ reads_known before d.verdict d.is key one
            | inr one ↦ d.files key one
          ]

  pub whole_over : (known : Known) → ((key : FileKey) → is_known known key ≡ true) → is_over r known ≡ true
  whole_over known total = by (r.rounds known) refl
    where
      none : (keys : List FileKey) → r.rounds known ≡ waiting keys → ⊥
      none [] is = lawful.some known is
      none (key ∷ keys) is =
          true≢false (sym (total key)
          ∙ ap is_some (lawful.unknown known key (subst (λ st. Among key (awaited st)) (sym is) (inl refl))))

      by : (st : Standing V) → r.rounds known ≡ st → is_over r known ≡ true
      by (waiting keys) is = absurd (none keys is)
      by (given verdict) is = over_by r known verdict is (λ key m. total key)
