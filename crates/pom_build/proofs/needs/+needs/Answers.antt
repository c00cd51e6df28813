use Rattle.std.proofs.Common.{◌≡◌, ◌+◌, ◌-◌, ◌≤◌, suc, List, [], ◌∷◌, ◌++◌, ⊎_elim, filter, fold, take, refl, sym, subst, ◌∙◌, ap, arith, rules}
use Rattle.std.proofs.lemmas.List.{take_more}
use Rattle.std.proofs.lemmas.Result.{IfOk-weaker}
use Rattle.res_base.specs.Known.{known_of}
use Rattle.res_base.specs.declared.coord.Coord.{Coord}
use Rattle.res_base.specs.declared.pom.DepRecord.{DepRecord}
use Rattle.pom_build.specs.Imports.{import_coord, imported, is_import, managed_from, managed_rows, managed_with, with_key}
use Rattle.pom_build.specs.Lines.{line_of}
use Rattle.pom_build.specs.Outcomes.{and_then, needs}
use Rattle.pom_build.specs.Visits.{IsAllVisited, IsSeenIn, IsVisited, imports_of, level_of}
use Rattle.pom_build.specs.declared.line.Line.{Line}
use Rattle.pom_build.specs.declared.needs.Seen.{Seen}
use Rattle.pom_build.specs.declared.outcome.Outcome.{Outcome}
use Rattle.pom_build.specs.declared.outcome.Outcome.TheVariants.{Built, Needs, NotFound, Refused}
use Rattle.pom_build.proofs.Needed.{ended_at, entered_at, none_visited, one_visited, seen_again, went_through_at}
use Rattle.pom_build.proofs.needs.+needs.Goals as goal

pub visit_all-loop-import-init : goal.visit_all-loop-import-init
visit_all-loop-import-init t c = none_visited (known_of c.args.known.now.pairs) c.args.known.now.repos c.args.left c.args.chain.now c.args.seen c.requires

pub visit_all-loop-import-preserved : goal.visit_all-loop-import-preserved
visit_all-loop-import-preserved t c =
    let known = known_of c.args.known.now.pairs in
    let repos = c.args.known.now.repos in
    let left = c.args.left in
    let chain = c.args.chain.now in
    let i = c.loop-import.import-index in
    let imports : List DepRecord = c.args.imports.now in
    let row : DepRecord = c.import-item.result in
    let before = c.loop-import.made in
    let after = c.in_ok-made.made in
    let here : IsVisited known repos left chain (import_coord row) before after = subst (λ (one : Coord). IsVisited known repos left chain one before after) c.in_ok-coord.ensures c.in_ok-made.ensures in
    let more : take (i + 1) imports ≡ take i imports ++ row ∷ [] =
    take_more imports i row c.loop-import-test.true ∙ ap (λ (one : DepRecord). take i imports ++ one ∷ []) (sym c.import-item.is) in
    subst (λ (front : List DepRecord). IsAllVisited known repos left chain front c.args.seen after) (sym more)
    (one_visited known repos left chain (take i imports) row c.args.seen before after c.loop-import.invariant here)

pub expand-returns-in-Needs : goal.expand-returns-in-Needs
expand-returns-in-Needs t c =
    let more : c.args.left ≡ suc (c.args.left - 1) = omega arith in
    let line : line_of (known_of c.args.known.now.pairs) c.args.known.now.repos c.args.coord.now ≡ Needs c.in-Needs.more = sym c.in_ok-more.ensures ∙ c.in-Needs.is in
    let after : Seen = record { keys = c.in_ok-keys-in-Needs.keys; levels = c.in_ok-keys.field-0.levels } in
    ended_at (known_of c.args.known.now.pairs) c.args.known.now.repos c.args.left (c.args.left - 1) more c.args.chain.now c.args.coord.now c.args.seen c.in_ok-keys.field-0 after (Needs c.in-Needs.more) line refl refl
    c.requires.seen c.requires.new c.requires.more c.in_ok-keys.ensures.keys c.in_ok-keys.ensures.levels refl c.in_ok-keys-in-Needs.ensures

pub expand-returns-in-NotFound : goal.expand-returns-in-NotFound
expand-returns-in-NotFound t c =
    let more : c.args.left ≡ suc (c.args.left - 1) = omega arith in
    let without = λ (u : Outcome Line) (is : c.in_ok-more.field-0 ≡ u) (none : imports_of u ≡ []) (no_keys : needs u ≡ [])
    (same : needs (and_then (imported c.args.coord.now u) (managed_with (managed_from (known_of c.args.known.now.pairs) c.args.known.now.repos (c.args.left - 1) (c.args.chain.now ++ c.args.coord.now ∷ [])))) ≡ needs u).
    ended_at (known_of c.args.known.now.pairs) c.args.known.now.repos c.args.left (c.args.left - 1) more c.args.chain.now c.args.coord.now c.args.seen c.in_ok-keys.field-0 c.in_ok-keys.field-0 u (sym c.in_ok-more.ensures ∙ is) none same
    c.requires.seen c.requires.new c.requires.more c.in_ok-keys.ensures.keys c.in_ok-keys.ensures.levels refl (ap (fold with_key c.in_ok-keys.field-0.keys) (sym no_keys)) in
    ⊎_elim (λ absent. without (NotFound absent.0) absent.1 refl refl refl) (λ faulty. without (Refused faulty.0) faulty.1 refl refl refl) c.in-NotFound.is

pub expand-visit_all-requires : goal.expand-visit_all-requires
expand-visit_all-requires t c =
    let more : c.args.left ≡ suc (c.args.left - 1) = omega arith in (
      search rules,
      subst (λ (chain : List Coord). IsSeenIn (known_of c.args.known.now.pairs) c.args.known.now.repos (c.args.left - 1) chain c.in_ok-keys.field-0) (sym c.in_ok-longer-in-Built.ensures)
          (entered_at (known_of c.args.known.now.pairs) c.args.known.now.repos c.args.left (c.args.left - 1) more c.args.chain.now c.args.coord.now c.args.seen c.in_ok-keys.field-0
          c.requires.seen c.requires.new c.requires.more c.in_ok-keys.ensures.keys c.in_ok-keys.ensures.levels),
    )

pub expand-returns : goal.expand-returns
expand-returns t c =
    let known = known_of c.args.known.now.pairs in
    let repos = c.args.known.now.repos in
    let left = c.args.left in
    let chain = c.args.chain.now in
    let coord = c.args.coord.now in
    let middle : Seen = c.in_ok-keys.field-0 in
    let more : left ≡ suc (left - 1) = omega arith in
    let line : line_of known repos coord ≡ Built c.in-Built.line = sym c.in_ok-more.ensures ∙ c.in-Built.is in
    let listed : c.as_slice.result.now ≡ filter is_import (managed_rows c.in-Built.line) =
    c.as_slice.ensures ∙ c.in_ok-own-in-Built.ensures.imports ∙ ap (λ (one : Line). filter is_import (managed_rows one)) c.in_ok-named-in-Built.ensures in
    IfOk-weaker c.visit_all.result (λ made. IsAllVisited known repos (left - 1) c.in_ok-longer-in-Built.longer c.as_slice.result.now middle made) (λ made. IsVisited known repos left chain coord c.args.seen made)
    (λ made all. went_through_at known repos left (left - 1) more chain coord c.args.seen middle made c.in-Built.line line
    c.requires.seen c.requires.new c.requires.more c.in_ok-keys.ensures.keys c.in_ok-keys.ensures.levels
    (subst (λ (rows : List DepRecord). IsAllVisited known repos (left - 1) (chain ++ coord ∷ []) rows middle made) listed
    (subst (λ (one : List Coord). IsAllVisited known repos (left - 1) one c.as_slice.result.now middle made) c.in_ok-longer-in-Built.ensures all))) c.visit_all.ensures

pub visit-returns-then-left-visited : goal.visit-returns-then-left-visited
visit-returns-then-left-visited t c =
    let le : c.args.left ≤ level_of c.args.seen c.args.coord.now = omega arith in
    seen_again (known_of c.args.known.now.pairs) c.args.known.now.repos c.args.left c.args.chain.now c.args.coord.now c.args.seen c.requires le
