-- Keys that sessions ask for, in one of their repositories and at paths of files.
use Rattle.std.proofs.Common.{◌≡◌, ℕ, ◌<◌, inl, inr, not, Some, List, [], ◌++◌, refl, sym, subst}
use Rattle.std.specs.Prelude.{Contains}
use Rattle.arrival_core.proofs.Listed.{hints_listed, reads_listed}
use Rattle.arrival_core.proofs.Members.{from_contains, in_either, passed, to_contains}
use Rattle.arrival_core.specs.Resolving.{resolver_of, standing_of}
use Rattle.claim_rules.specs.Claims.{IsAnswer, claim_of}
use Rattle.claim_rules.specs.Histories.{History, known_in}
use Rattle.claim_rules.specs.Least.{least}
use Rattle.claim_rules.specs.Sessions.{files_at, hints, is_known, needed, needs, needs_at}
use Rattle.claim_rules.specs.declared.claim.Claim.TheVariants.{Claimed, Stuck}
use Rattle.claim_rules.specs.declared.settings.Settings.{Settings}
use Rattle.link_base.specs.FilePaths.{IsFilePath}
use Rattle.pom_build.specs.NeededKeys.{IsPomKey}
use Rattle.pom_build.specs.Reads.{effective_keys}
use Rattle.res_base.specs.Known.{Known}
use Rattle.res_base.specs.Members.{Among}
use Rattle.res_base.specs.declared.coord.Coord.{Coord}
use Rattle.res_base.specs.declared.key.FileKey.{FileKey}
use Rattle.resolution.specs.Settlements.{HasRepositories, IfSettled, IsSettlement}
use Rattle.resolution.specs.declared.ask.Ask.{Ask}
use Rattle.resolution.specs.declared.progress.Progress.{Progress}
use Rattle.resolution.specs.declared.progress.Progress.TheVariants.{Over, Waiting}
use Rattle.resolution.specs.declared.verdict.Verdict.{Verdict}
use Rattle.round_core.specs.Reads.{files_if, needs_in, reads_of}
use Rattle.round_core.specs.Rounds.{rounds_of}
use Rattle.asked_paths.proofs.Paths.{AreFiles, Filed, hints_filed, reads_filed, verdict_files}
use Rattle.asked_paths.specs.Files.{IsFileOf}

of_both : (repos : ℕ) (keys : List FileKey) → ((key : FileKey) → Among key keys → key.repo < repos) → Filed keys
    → AreFiles repos keys
of_both repos keys listed filed key m = record { listed = listed key m; path = filed key m }

module _ (known : Known) (ask : Ask)
    (poms : (c : Coord) (key : FileKey) → Contains (effective_keys known ask.repos c) key → IsPomKey ask.repos key)
    (settled : (verdict : Verdict) → rounds_of known ask ≡ Over verdict → IfSettled verdict IsSettlement)
    (found : (verdict : Verdict) → rounds_of known ask ≡ Over verdict → IfSettled verdict (HasRepositories ask.repos)) where
  reads_files : AreFiles ask.repos (reads_of known ask)
  reads_files = of_both ask.repos (reads_of known ask) (reads_listed known ask poms) (reads_filed known ask poms)

  pub needs_files : ((key : FileKey) → Contains (needs_in (rounds_of known ask)) key → Contains (reads_of known ask) key)
      → AreFiles ask.repos (needs (resolver_of ask) known)
  unfolding resolver_of
  needs_files read key m = by (rounds_of known ask) refl m
    where
      by : (p : Progress) → rounds_of known ask ≡ p
          → Among key (needs_at (standing_of p) (λ verdict. files_if ask.files verdict) known) → IsFileOf ask.repos key
      by (Waiting round choices keys) is k =
          reads_files key (from_contains (reads_of known ask) key
          (read key (subst (λ q. Contains (needs_in q) key) (sym is) (to_contains keys key k))))
      by (Over verdict) is k =
          verdict_files ask.repos ask.files verdict (settled verdict is) (found verdict is) key
          (passed (λ (one : FileKey). not (is_known known one)) key (files_if ask.files verdict) k).member

  pub needed_files : AreFiles ask.repos (needed (resolver_of ask) known)
  unfolding resolver_of
  needed_files key m = by (rounds_of known ask) refl m
    where
      by : (p : Progress) → rounds_of known ask ≡ p
          → Among key (reads_of known ask ++ files_at (standing_of p) (λ verdict. files_if ask.files verdict))
          → IsFileOf ask.repos key
      by (Waiting round choices keys) is k =
          elim (in_either key (reads_of known ask) [] k) [ inl one ↦ reads_files key one | inr one ↦ absurd one ]
      by (Over verdict) is k =
          elim (in_either key (reads_of known ask) (files_if ask.files verdict) k) [
            | inl one ↦ reads_files key one
            | inr one ↦ verdict_files ask.repos ask.files verdict (settled verdict is) (found verdict is) key one
          ]

pub hints_files : (s : Settings) (ask : Ask) (known : Known) → s.repos ≡ ask.repos
    → AreFiles ask.repos (needs (resolver_of ask) known) → AreFiles ask.repos (hints s (resolver_of ask) known)
hints_files s ask known same files key m = record {
  listed = subst (λ (n : ℕ). key.repo < n) same (hints_listed s (needs (resolver_of ask) known) key m);
  path = hints_filed s (needs (resolver_of ask) known) (λ one k. (files one k).path) key m;
}

pub claimed_file : (s : Settings) (ask : Ask) (h : History) (key : FileKey) → s.repos ≡ ask.repos
    → AreFiles ask.repos (needs (resolver_of ask) (known_in h))
    → IsAnswer s (resolver_of ask) h (claim_of s (resolver_of ask) h) → claim_of s (resolver_of ask) h ≡ Claimed key
    → IsFileOf ask.repos key
claimed_file s ask h key same files says is =
    elim (subst (IsAnswer s (resolver_of ask) h) is says) [
      | inl need ↦ files key need.need
      | inr hint ↦ hints_files s ask (known_in h) same files key hint.hint
    ]

-- the path alone, in whatever repositories hints are asked for
pub claimed_path : (s : Settings) (ask : Ask) (h : History) (key : FileKey)
    → AreFiles ask.repos (needs (resolver_of ask) (known_in h))
    → IsAnswer s (resolver_of ask) h (claim_of s (resolver_of ask) h) → claim_of s (resolver_of ask) h ≡ Claimed key
    → IsFilePath key.path
claimed_path s ask h key files says is =
    elim (subst (IsAnswer s (resolver_of ask) h) is says) [
      | inl need ↦ (files key need.need).path
      | inr hint ↦ hints_filed s (needs (resolver_of ask) (known_in h)) (λ one k. (files one k).path) key hint.hint
    ]

pub stuck_file : (s : Settings) (ask : Ask) (h : History) (key : FileKey)
    → AreFiles ask.repos (needs (resolver_of ask) (known_in h))
    → ((keys : List FileKey) (one : FileKey) → least keys ≡ Some one → Among one keys)
    → IsAnswer s (resolver_of ask) h (claim_of s (resolver_of ask) h) → claim_of s (resolver_of ask) h ≡ Stuck key
    → IsFileOf ask.repos key
stuck_file s ask h key files among says is =
    let stuck = subst (IsAnswer s (resolver_of ask) h) is says in
    files key (among (needs (resolver_of ask) (known_in h)) key stuck.first)
