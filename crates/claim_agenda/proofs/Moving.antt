-- The agenda after an entry that brings no answer.
use Rattle.std.proofs.Common.{◌≡◌, ◌⊎◌, inl, inr, ℕ, ◌<◌, arith, add-zero, get_or, Bool, true, false, cond, not, ◌&&◌, ◌||◌, Option, Some, None, List, [], ◌∷◌, ◌++◌, length, refl, sym, ◌∙◌, ap, subst, true≢false}
use Rattle.std.specs.Option.{is_some}
use Rattle.std.specs.Prelude.{nat_lt}
use Rattle.std.proofs.lemmas.List.{append-nil}
use Rattle.std.proofs.lemmas.List.Concat.{flat_map-append}
use Rattle.std.proofs.lemmas.List.Folds.{list_any-append}
use Rattle.std.proofs.lemmas.List.Sums.{fold_push, sum_by_push}
use Rattle.claim_agenda.specs.Agendas.{IsAgenda, IsClaimable, IsPlan, IsQueue, KeepsKeys, SameKeys}
use Rattle.claim_agenda.specs.Answering.{answer_from}
use Rattle.claim_agenda.proofs.Choosing.{FreeKey, free_key, same_answer}
use Rattle.claim_agenda.proofs.Members.{no_members}
use Rattle.claim_agenda.proofs.Queues.{Decided, LeastLaws}
use Rattle.std.specs.List.Sorted.{IsSorted}
use Rattle.res_base.specs.Names.{key_cmp}
use Rattle.claim_agenda.specs.declared.agenda.Agenda.{Agenda}
use Rattle.claim_log.specs.Told.{entry}
use Rattle.claim_rules.specs.Claims.{IsHintClaim, IsNeedClaim, claim_of, is_free}
use Rattle.claim_rules.specs.Counts.{is_broken, is_lack, is_lacking, is_link_break, is_of, link_breaks}
use Rattle.claim_rules.specs.Histories.{What, claim, give_back, Entry, History, holder, holder_after, in_flight, known_in, pair_in, pairs_in}
use Rattle.claim_rules.specs.Resolvers.{Resolver}
use Rattle.claim_rules.specs.Sessions.{hints, is_known, is_over, needs}
use Rattle.claim_rules.specs.declared.settings.Settings.{Settings}
use Rattle.res_base.specs.Known.{Known, known_of}
use Rattle.res_base.specs.Members.{Among}
use Rattle.res_base.specs.Names.{key_eq}
use Rattle.res_base.specs.declared.key.FileKey.{FileKey}

pub same_known : (h : History) (seat : ℕ) (w : What) → pair_in w ≡ [] → known_in (h ++ entry seat w ∷ []) ≡ known_in h
same_known h seat w none =
    ap known_of (flat_map-append (λ (x : Entry). pair_in x.what) h (entry seat w ∷ []) ∙ ap (λ t. pairs_in h ++ t) (append-nil (pair_in w) ∙ none) ∙ append-nil (pairs_in h))

module _ (h : History) (seat : ℕ) (key one : FileKey) where
  abbrev later : History
  later = h ++ entry seat (claim key) ∷ []

  still_flies : in_flight h one ≡ true → in_flight later one ≡ true
  still_flies flies =
      ap is_some (fold_push (λ holds (x : Entry). holder_after one holds x.seat x.what) None h (entry seat (claim key)))
      ∙ by (key_eq key one)
    where
      by : (b : Bool) → is_some (cond b (Some seat) (holder h one)) ≡ true
      by true = refl
      by false = flies

  as_broken : (retries : ℕ) → is_broken retries later one ≡ is_broken retries h one
  as_broken retries =
      let breaks : link_breaks later one ≡ link_breaks h one =
      sum_by_push (λ x. cond (is_of is_link_break one x) 1 0) h (entry seat (claim key)) ∙ add-zero (link_breaks h one) in
      let lacks : is_lacking later one ≡ is_lacking h one =
      list_any-append (is_of is_lack one) h (entry seat (claim key) ∷ []) ∙ or_false (is_lacking h one) in
      ap (λ n. nat_lt retries n || is_lacking later one) breaks ∙ ap (λ b. nat_lt retries (link_breaks h one) || b) lacks
    where
      or_false : (b : Bool) → (b || false) ≡ b
      or_false true = refl
      or_false false = refl

  -- a claim makes no key free
  pub busy_after : (retries : ℕ) → is_free retries h one ≡ false → is_free retries later one ≡ false
  busy_after retries busy =
      ap (λ (k : Known). not (is_known k one) && (not (in_flight later one) && not (is_broken retries later one))) (same_known h seat (claim key) refl)
      ∙ ap (λ b. not (is_known (known_in h) one) && (not (in_flight later one) && not b)) (as_broken retries)
      ∙ by (is_known (known_in h) one) (in_flight h one) (in_flight later one) still_flies busy
    where
      by : (k f g : Bool) → (f ≡ true → g ≡ true) → (not k && (not f && not (is_broken retries h one))) ≡ false
          → (not k && (not g && not (is_broken retries h one))) ≡ false
      by true f g up e = refl
      by false true g up e = rw (up refl) refl
      by false false true up e = refl
      by false false false up e = e

-- where the place is the first, nothing is before it
from_first : (free : FileKey → Bool) (keys : List FileKey) (place : ℕ) → IsSorted key_cmp keys → place ≡ 0
    → IsQueue free keys place
from_first free keys place sorted is =
    record { sorted = sorted; within = omega (arith, is); busy = λ k d under. absurd (omega (arith, under, is)) }

module _ {V : Type 0} (s : Settings) (r : Resolver V) (h : History) (a : Agenda) (seat : ℕ) (key : FileKey) where
  pub after_claim_agenda : IsAgenda s r h a → IsAgenda s r (h ++ entry seat (claim key) ∷ []) a
  after_claim_agenda is =
      let known : known_in (h ++ entry seat (claim key) ∷ []) ≡ known_in h = same_known h seat (claim key) refl in
      record {
        ends = is.ends ∙ ap (is_over r) (sym known);
        needed = subst (λ (k : Known). SameKeys a.needs.items (needs r k)) (sym known) is.needed;
        hinted = subst (λ (k : Known). SameKeys a.hints.items (hints s r k)) (sym known) is.hinted;
        need_queue = kept a.needs.items a.next_need is.need_queue;
        hint_queue = kept a.hints.items a.next_hint is.hint_queue;
      }
    where
      kept : (keys : List FileKey) (place : ℕ) → IsQueue (is_free s.retries h) keys place
          → IsQueue (is_free s.retries (h ++ entry seat (claim key) ∷ [])) keys place
      kept keys place q =
          record {
            sorted = q.sorted;
            within = q.within;
            busy = λ k d under. busy_after h seat key (get_or keys k d) s.retries (q.busy k d under);
          }

  -- from the first places on
  pub after_return_agenda : IsAgenda s r h a → (b : Agenda) → KeepsKeys a b → b.next_need ≡ 0 → b.next_hint ≡ 0
      → IsAgenda s r (h ++ entry seat (give_back key) ∷ []) b
  after_return_agenda is b kept need hint =
      let known : known_in (h ++ entry seat (give_back key) ∷ []) ≡ known_in h = same_known h seat (give_back key) refl in
      record {
        ends = kept.same_end ∙ is.ends ∙ ap (is_over r) (sym known);
        needed =
            subst (λ (k : Known). SameKeys b.needs.items (needs r k)) (sym known)
            (subst (λ keys. SameKeys keys (needs r (known_in h))) (sym kept.same_needs) is.needed);
        hinted =
            subst (λ (k : Known). SameKeys b.hints.items (hints s r k)) (sym known)
            (subst (λ keys. SameKeys keys (hints s r (known_in h))) (sym kept.same_hints) is.hinted);
        need_queue =
            from_first (is_free s.retries (h ++ entry seat (give_back key) ∷ [])) b.needs.items b.next_need
            (subst (λ keys. IsSorted key_cmp keys) (sym kept.same_needs) is.need_queue.sorted) need;
        hint_queue =
            from_first (is_free s.retries (h ++ entry seat (give_back key) ∷ [])) b.hints.items b.next_hint
            (subst (λ keys. IsSorted key_cmp keys) (sym kept.same_hints) is.hint_queue.sorted) hint;
      }

module _ {V : Type 0} (s : Settings) (r : Resolver V) (h : History) (a : Agenda) where
  -- where only the places moved
  pub moved_agenda : IsAgenda s r h a → (b : Agenda) → KeepsKeys a b
      → IsQueue (is_free s.retries h) b.needs.items b.next_need → IsQueue (is_free s.retries h) b.hints.items b.next_hint
      → IsAgenda s r h b
  moved_agenda is b kept need hint =
      record {
        ends = kept.same_end ∙ is.ends;
        needed = subst (λ keys. SameKeys keys (needs r (known_in h))) (sym kept.same_needs) is.needed;
        hinted = subst (λ keys. SameKeys keys (hints s r (known_in h))) (sym kept.same_hints) is.hinted;
        need_queue = need;
        hint_queue = hint;
      }

  pub planned_agenda : IsPlan s (is_over r (known_in h)) (needs r (known_in h)) a → IsAgenda s r h a
  planned_agenda plan =
      record {
        ends = plan.is_over;
        needed = plan.needed;
        hinted = plan.hinted;
        need_queue = from_first (is_free s.retries h) a.needs.items a.next_need plan.need_order plan.first_need;
        hint_queue = from_first (is_free s.retries h) a.hints.items a.next_hint plan.hint_order plan.first_hint;
      }

-- ---- what the agenda of a history tells

none_of : {A : Type 0} (o : Option A) → is_some o ≡ false → o ≡ None
none_of None e = refl
none_of (Some x) e = absurd (true≢false e)

-- where one list has some key, so has the other
some_kept : (xs ys : List FileKey) → SameKeys xs ys → ¬ (ys ≡ []) → 0 < length xs
some_kept [] ys same some = absurd (some (no_members ys (λ x m. same.back x m)))
some_kept (x ∷ xs) ys same some = omega arith

pub agenda_some : {V : Type 0} (s : Settings) (r : Resolver V) (h : History) (a : Agenda)
    → (is_over r (known_in h) ≡ false → ¬ (needs r (known_in h) ≡ [])) → IsAgenda s r h a → a.is_over ≡ false
    → 0 < length a.needs.items
agenda_some s r h a some is going =
    some_kept a.needs.items (needs r (known_in h)) is.needed (some (sym is.ends ∙ going))

-- the answer from the agenda is the one of the history
pub agenda_answer : Decided → LeastLaws → {V : Type 0} (s : Settings) (r : Resolver V) (h : History) (a : Agenda)
    → IsAgenda s r h a → answer_from s h a.is_over a.needs.items a.hints.items ≡ claim_of s r h
agenda_answer decided laws s r h a is =
    ap (λ over. answer_from s h over a.needs.items a.hints.items) is.ends
    ∙ same_answer decided laws s h (is_over r (known_in h)) a.needs.items a.hints.items (needs r (known_in h))
    (hints s r (known_in h)) is.needed is.hinted

-- a key that is claimed is a need or a hint, and neither known nor in flight
pub claimed_key : {V : Type 0} (s : Settings) (r : Resolver V) (h : History) (key : FileKey)
    → IsNeedClaim s r h key ⊎ IsHintClaim s r h key → IsClaimable s r h key
claimed_key s r h key is = by is
  where
    from : is_free s.retries h key ≡ true → Among key (needs r (known_in h)) ⊎ Among key (hints s r (known_in h))
        → IsClaimable s r h key
    from free member =
        let f : FreeKey s.retries h key = free_key s.retries h key free in
        record {
          member = member;
          unknown = none_of (known_in h key) f.unknown;
          landed = none_of (holder h key) f.landed;
        }

    by : IsNeedClaim s r h key ⊎ IsHintClaim s r h key → IsClaimable s r h key
    by (inl need) = from need.free (inl need.need)
    by (inr hint) = from hint.free (inr hint.hint)
