-- What a core keeps after each call.
use Rattle.std.proofs.Common.{◌≡◌, ◌⊎◌, inl, inr, ℕ, ◌<◌, Bool, true, false, Some, List, [], ◌∷◌, ◌++◌, refl, sym, ◌∙◌, ap, subst, true≢false}
use Rattle.std.proofs.lemmas.List.{append-nil}
use Rattle.std.proofs.lemmas.List.Concat.{flat_map-append}
use Rattle.arrival_core.specs.Cores.{MayNote, log_after}
use Rattle.arrival_core.specs.Kept.{Chosen, IsKept, Stood}
use Rattle.arrival_core.specs.Resolving.{resolver_of, standing_of}
use Rattle.claim_agenda.specs.Agendas.{IsAgenda, IsClaimable, IsPlan}
use Rattle.claim_agenda.specs.declared.agenda.Agenda.{Agenda}
use Rattle.claim_log.specs.Logs.{Log, then_by}
use Rattle.claim_log.specs.Told.{entry}
use Rattle.claim_rules.specs.Claims.{claim_of}
use Rattle.claim_rules.specs.Histories.{What, claim, give_back, Entry, History, holder, known_in, pair_in, pairs_in}
use Rattle.claim_rules.specs.Legal.{Legal, MayCome, may_come}
use Rattle.claim_rules.specs.Sessions.{hints, is_over, is_over_at, needs, needs_at}
use Rattle.claim_rules.specs.declared.claim.Claim.{Claim}
use Rattle.claim_rules.specs.declared.claim.Claim.TheVariants.{Over, Stuck, TooMany, Claimed, NoneNow}
use Rattle.claim_rules.specs.declared.settings.Settings.{Settings}
use Rattle.res_base.specs.Known.{Known, known_of}
use Rattle.res_base.specs.Members.{Among}
use Rattle.res_base.specs.declared.key.FileKey.{FileKey}
use Rattle.resolution.specs.declared.ask.Ask.{Ask}
use Rattle.resolution.specs.declared.progress.Progress.{Progress}
use Rattle.round_core.specs.Reads.{files_if}
use Rattle.round_core.specs.Rounds.{rounds_of}

same_known : (h : History) (seat : ℕ) (w : What) → pair_in w ≡ [] → known_in (h ++ entry seat w ∷ []) ≡ known_in h
same_known h seat w none =
    ap known_of (flat_map-append (λ (x : Entry). pair_in x.what) h (entry seat w ∷ [])
    ∙ ap (λ t. pairs_in h ++ t) (append-nil (pair_in w) ∙ none) ∙ append-nil (pairs_in h))

-- what the rounds of an ask need, and whether they end it
pub its_needs : (ask : Ask) (known : Known) → needs (resolver_of ask) known ≡ needs_at (standing_of (rounds_of known ask)) (files_if ask.files) known
unfolding resolver_of
its_needs ask known = refl

pub its_end : (ask : Ask) (known : Known) → is_over (resolver_of ask) known ≡ is_over_at (standing_of (rounds_of known ask)) (files_if ask.files) known
unfolding resolver_of
its_end ask known = refl

-- a key that is claimed is a file of the repositories, and neither known nor in flight
module _ (ask : Ask) (s : Settings) (log : Log) (same : s.repos ≡ ask.repos) (log_same : log.repos ≡ ask.repos)
    (need_listed : (one : FileKey) → Among one (needs (resolver_of ask) (known_in log.history)) → one.repo < ask.repos)
    (hint_listed : (one : FileKey) → Among one (hints s (resolver_of ask) (known_in log.history)) → one.repo < s.repos)
    (claimable : (key : FileKey) → claim_of s (resolver_of ask) log.history ≡ Claimed key → IsClaimable s (resolver_of ask) log.history key) where
  member_listed : (key : FileKey)
      → Among key (needs (resolver_of ask) (known_in log.history)) ⊎ Among key (hints s (resolver_of ask) (known_in log.history))
      → key.repo < log.repos
  member_listed key (inl need) = subst (λ n. key.repo < n) (sym log_same) (need_listed key need)
  member_listed key (inr hint) = subst (λ n. key.repo < n) (same ∙ sym log_same) (hint_listed key hint)

  pub may_note : (answer : Claim) → claim_of s (resolver_of ask) log.history ≡ answer → MayNote log answer
  may_note Over is = tt
  may_note (Stuck key) is = tt
  may_note TooMany is = tt
  may_note (Claimed key) is =
      let it = claimable key is in
      record { listed = member_listed key it.member; unknown = it.unknown; landed = it.landed }
  may_note NoneNow is = tt

-- what may come makes a legal history longer
abbrev pub GoesOn : Settings → Ask → Type 0
GoesOn s ask = (h : History) (e : Entry) → Legal s (resolver_of ask) h → MayCome s (resolver_of ask) h e
    → Legal s (resolver_of ask) (h ++ e ∷ [])

module _ (ask : Ask) (s : Settings) (log : Log) (progress : Progress) (built : List Chosen) (a : Agenda) where
  pub kept_moved : (caught_up : Bool) (b : Agenda) → IsKept ask s log progress built a caught_up
      → IsAgenda s (resolver_of ask) log.history b → IsKept ask s log progress built b caught_up
  kept_moved caught_up b kept is =
      record {
        repos = kept.repos;
        log_repos = kept.log_repos;
        legal = kept.legal;
        stood = kept.stood;
        scratch = kept.scratch;
        agenda = λ up. is;
      }

  pub kept_caught_up : (caught_up : Bool) (b : Agenda) (other : Progress) (made : List Chosen) → IsKept ask s log progress built a caught_up
      → Stood ask (known_in log.history) other made
      → other ≡ rounds_of (known_in log.history) ask → IsAgenda s (resolver_of ask) log.history b → IsKept ask s log other made b true
  kept_caught_up caught_up b other made kept stood is agenda =
      record {
        repos = kept.repos;
        log_repos = kept.log_repos;
        legal = kept.legal;
        stood = stood;
        scratch = λ up. is;
        agenda = λ up. agenda;
      }

  -- without what was built
  pub kept_bare : (caught_up : Bool) → IsKept ask s log progress built a caught_up → Stood ask (known_in log.history) progress []
      → IsKept ask s log progress [] a caught_up
  kept_bare caught_up kept bare =
      record {
        repos = kept.repos;
        log_repos = kept.log_repos;
        legal = kept.legal;
        stood = bare;
        scratch = kept.scratch;
        agenda = kept.agenda;
      }

  module _ (goes_on : GoesOn s ask)
      (grows : (e : Entry) → Stood ask (known_in log.history) progress built → Stood ask (known_in (log.history ++ e ∷ [])) progress built)
      (seat : ℕ) where
    kept_claim : IsKept ask s log progress built a true → (key : FileKey) → claim_of s (resolver_of ask) log.history ≡ Claimed key
        → (b : Agenda) → IsAgenda s (resolver_of ask) (log.history ++ entry seat (claim key) ∷ []) b
        → IsKept ask s (then_by log seat (claim key)) progress built b true
    kept_claim kept key answer b agenda =
        record {
          repos = kept.repos;
          log_repos = kept.log_repos;
          legal = goes_on log.history (entry seat (claim key)) kept.legal answer;
          stood = grows (entry seat (claim key)) kept.stood;
          scratch = λ up. kept.scratch up ∙ ap (λ (k : Known). rounds_of k ask) (sym (same_known log.history seat (claim key) refl));
          agenda = λ up. agenda;
        }

    -- a claim, by its answer
    pub kept_after : IsKept ask s log progress built a true → (b : Agenda) → IsAgenda s (resolver_of ask) log.history b
        → ((key : FileKey) → IsAgenda s (resolver_of ask) (log.history ++ entry seat (claim key) ∷ []) b)
        → (answer : Claim) → claim_of s (resolver_of ask) log.history ≡ answer
        → IsKept ask s (log_after log seat answer) progress built b true
    kept_after kept b agenda claimed Over is = kept_moved true b kept agenda
    kept_after kept b agenda claimed (Stuck key) is = kept_moved true b kept agenda
    kept_after kept b agenda claimed TooMany is = kept_moved true b kept agenda
    kept_after kept b agenda claimed (Claimed key) is = kept_claim kept key is b (claimed key)
    kept_after kept b agenda claimed NoneNow is = kept_moved true b kept agenda

    -- an end after which the core is not caught up
    pub kept_end : (caught_up : Bool) → IsKept ask s log progress built a caught_up → (w : What)
        → may_come s (resolver_of ask) log.history seat w → IsKept ask s (then_by log seat w) progress built a false
    kept_end caught_up kept w may =
        record {
          repos = kept.repos;
          log_repos = kept.log_repos;
          legal = goes_on log.history (entry seat w) kept.legal may;
          stood = grows (entry seat w) kept.stood;
          scratch = λ up. absurd (true≢false (sym up));
          agenda = λ up. absurd (true≢false (sym up));
        }

    -- a key that is given back
    pub kept_return : (caught_up : Bool) → IsKept ask s log progress built a caught_up → (key : FileKey)
        → holder log.history key ≡ Some seat → (b : Agenda)
        → (IsAgenda s (resolver_of ask) log.history a → IsAgenda s (resolver_of ask) (log.history ++ entry seat (give_back key) ∷ []) b)
        → IsKept ask s (then_by log seat (give_back key)) progress built b caught_up
    kept_return caught_up kept key own b agenda =
        record {
          repos = kept.repos;
          log_repos = kept.log_repos;
          legal = goes_on log.history (entry seat (give_back key)) kept.legal own;
          stood = grows (entry seat (give_back key)) kept.stood;
          scratch = λ up. kept.scratch up ∙ ap (λ (k : Known). rounds_of k ask) (sym (same_known log.history seat (give_back key) refl));
          agenda = λ up. agenda (kept.agenda up);
        }

-- the agenda of the rounds
pub plan_made : (ask : Ask) (s : Settings) (h : History) (progress : Progress) (needed : List FileKey) (ends : Bool) (a : Agenda)
    → progress ≡ rounds_of (known_in h) ask
    → needed ≡ needs_at (standing_of progress) (files_if ask.files) (known_in h)
    → ends ≡ is_over_at (standing_of progress) (files_if ask.files) (known_in h)
    → IsPlan s ends needed a → IsPlan s (is_over (resolver_of ask) (known_in h)) (needs (resolver_of ask) (known_in h)) a
plan_made ask s h progress needed ends a scratch need end plan =
    let over : ends ≡ is_over (resolver_of ask) (known_in h) =
    end ∙ ap (λ (p : Progress). is_over_at (standing_of p) (files_if ask.files) (known_in h)) scratch ∙ sym (its_end ask (known_in h)) in
    let keys : needed ≡ needs (resolver_of ask) (known_in h) =
    need ∙ ap (λ (p : Progress). needs_at (standing_of p) (files_if ask.files) (known_in h)) scratch ∙ sym (its_needs ask (known_in h)) in
    subst (λ b. IsPlan s b (needs (resolver_of ask) (known_in h)) a) over (subst (λ keys. IsPlan s ends keys a) keys plan)
