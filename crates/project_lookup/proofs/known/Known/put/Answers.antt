use Rattle.std.proofs.Common.{◌≡◌, ◌<◌, None, Some, ◌∷◌, [], ◌++◌, length, ap, sym, ◌∙◌, subst, rules}
use Rattle.std.specs.BTreeMap.{IsUnchanged, Updates}
use Rattle.res_base.specs.Names.{key_cmp}
use Rattle.project_lookup.specs.KnownPairs.{KnownPairs, AreFit, HasPlaces, place_of}
use Rattle.res_base.specs.Known.{HasDistinctKeys}
use Rattle.project_lookup.proofs.KnownLemmas.{distinct_push, fit_push, places_push, places_stay}
use Rattle.project_lookup.proofs.known.Known.put.Goals as goal
use Rattle.project_lookup.proofs.known.Known.put.Goals.{in-Ok, in-Err}

pub invariant_of-self : goal.invariant_of-self
invariant_of-self c =
    let key = c.args.key in
    let reading = c.args.reading in
    let repos = c.self.inside.repos in
    let before = c.self.inside.readings.items in
    let after = c.put_last.new.readings.items in
    let places = c.self.inside.places in
    let noted = c.put_last.new.places in
    let fits : key.repo < repos = subst (λ n. key.repo < n) (sym (ap (λ (known : KnownPairs). known.repos) c.self.view_is)) c.requires.repo in
    let unplaced : place_of before key ≡ None = ap (λ (known : KnownPairs). place_of known.pairs key) c.self.view_is ∙ c.requires.unplaced in
    elim c.match-put_last.branch [
      | in-Ok w ↦
          let grown : before ++ (key, reading) ∷ [] ≡ after = search rules in
          let updated : Updates key_cmp places noted key (Some (length before)) = search rules in (
            c.self.invariant.0,
            c.self.invariant.1,
            subst (AreFit repos) grown (fit_push repos before key reading c.self.invariant.2 fits c.requires.role),
            subst HasDistinctKeys grown (distinct_push before key reading c.self.invariant.3 unplaced),
            subst (λ pairs. HasPlaces pairs noted) grown (places_push before places noted key reading c.self.invariant.4 unplaced updated),
          )
      | in-Err w ↦
          let same : before ≡ after = search rules in
          let unchanged : IsUnchanged places noted = search rules in (
            c.self.invariant.0,
            c.self.invariant.1,
            subst (AreFit repos) same c.self.invariant.2,
            subst HasDistinctKeys same c.self.invariant.3,
            subst (λ pairs. HasPlaces pairs noted) same (places_stay before places noted c.self.invariant.4 unchanged),
          )
    ]
