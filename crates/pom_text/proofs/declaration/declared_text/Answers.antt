use Rattle.std.proofs.Common.{◌≡◌, ◌+◌, true, false, ◌&&◌, [], drop, get_or, slice_range, refl, sym, ◌∙◌, ap, arith, Some, None}
use Rattle.std.specs.Prelude.{◌==◌, Result, Ok, Err, IfOk, IfErr, IsErr}
use Rattle.std.proofs.lemmas.Result.{IfOk-weaker}
use Rattle.std.proofs.lemmas.Bool.{eq-eqb, ne_eqb, and_from, and_right}
use Rattle.pom_grammar.specs.Characters.{onto}
use Rattle.pom_grammar.specs.Machine.{between}
use Rattle.pom_grammar.specs.Heads.{in_declaration, in_body}
use Rattle.pom_grammar.specs.Verdicts.{reading_verdict, verdict}
use Rattle.pom_text.specs.DeclarationViews.{seen_view, ends_question}
use Rattle.pom_text.proofs.DeclaredFacts.{declaration_goes, declaration_ends, seen_more, body_verdict}
use Rattle.pom_text.proofs.declaration.declared_text.Goals as goal
use Rattle.pom_text.proofs.declaration.declared_text.Goals.{else-seen-via-then-seen+else-bytes-i-eq62, else-seen-via-else-seen}

with_both : {T E : Type 0} (r : Result T E) (P Q R : T → Type 0) → IfOk r P → IfOk r Q → ((x : T) → P x → Q x → R x)
    → IfOk r R
with_both (Ok x) P Q R p q f = f x p q
with_both (Err e) P Q R p q f = tt

where_err : {T E : Type 0} {Q : Type 0} (r : Result T E) (P R : E → Type 0) → IfErr r P → (IsErr r → Q)
    → ((e : E) → P e → Q → R e) → IfErr r R
where_err (Ok x) P R p q f = tt
where_err (Err e) P R p q f = f e p (q refl)

pub returns-then-bytes-i-eq62-clause-forth : goal.returns-then-bytes-i-eq62-clause-forth
returns-then-bytes-i-eq62-clause-forth c =
    IfOk-weaker c.head_end.result _ _ (λ head is. omega (arith, is, c.loop-i.auto.i)) c.head_end.ensures.at

pub returns-then-bytes-i-eq62-clause-past : goal.returns-then-bytes-i-eq62-clause-past
returns-then-bytes-i-eq62-clause-past c =
    IfOk-weaker c.head_end.result _ _ (λ head is. omega (arith, is, c.loop-i-test.true)) c.head_end.ensures.at

pub returns-then-bytes-i-eq62-clause-ok : goal.returns-then-bytes-i-eq62-clause-ok
returns-then-bytes-i-eq62-clause-ok c =
    let bytes = c.args.bytes.now in
    let i = c.loop-i.i in
    let seen = onto (slice_range bytes c.args.at i) [] in
    let ends : (ends_question seen && get_or bytes i 0 == 62) ≡ true =
    and_from (ends_question seen) (get_or bytes i 0 == 62) (sym c.loop-i.invariant.1 ∙ c.if-seen.true)
    (eq-eqb (get_or bytes i 0) 62 c.if-bytes-i-eq62.true) in
    with_both c.head_end.result _ _ _ c.head_end.ensures.at c.head_end.ensures.ok
    (λ head at is space.
    c.loop-i.invariant.2 space
    ∙ declaration_ends bytes space i seen (seen_view bytes i c.loop-i.seen)
    (Some (in_body head.encoding (between None))) c.loop-i-test.true ends is
    ∙ body_verdict head.encoding (between None) (drop (i + 1) bytes) (i + 1)
    ∙ ap (λ n. verdict head.encoding (between None) (drop n bytes) n) (sym at))

pub returns-then-bytes-i-eq62-clause-err : goal.returns-then-bytes-i-eq62-clause-err
returns-then-bytes-i-eq62-clause-err c =
    let bytes = c.args.bytes.now in
    let i = c.loop-i.i in
    let seen = onto (slice_range bytes c.args.at i) [] in
    let ends : (ends_question seen && get_or bytes i 0 == 62) ≡ true =
    and_from (ends_question seen) (get_or bytes i 0 == 62) (sym c.loop-i.invariant.1 ∙ c.if-seen.true)
    (eq-eqb (get_or bytes i 0) 62 c.if-bytes-i-eq62.true) in
    where_err c.head_end.result _ _ c.head_end.ensures.err c.head_end.ensures.none
    (λ fault at none space.
    c.loop-i.invariant.2 space
    ∙ declaration_ends bytes space i seen (seen_view bytes i c.loop-i.seen) None c.loop-i-test.true ends none
    ∙ ap Err (sym at))

pub loop-i-preserved : goal.loop-i-preserved
loop-i-preserved c =
    let bytes = c.args.bytes.now in
    let i = c.loop-i.i in
    let seen = onto (slice_range bytes c.args.at i) [] in
    let next = seen_view bytes (i + 1) c.next_seen-seen.result in
    let on : (ends_question seen && get_or bytes i 0 == 62) ≡ false = elim c.else-seen.branch [
      | else-seen-via-then-seen+else-bytes-i-eq62 w ↦ and_right (ends_question seen) (get_or bytes i 0 == 62)
          (ne_eqb (get_or bytes i 0) 62 w.if-bytes-i-eq62.false)
      | else-seen-via-else-seen w ↦ ap (λ b. b && get_or bytes i 0 == 62) (sym c.loop-i.invariant.1 ∙ w.if-seen.false)
    ] in
    let more = seen_more bytes c.args.at i c.loop-i.auto.i c.loop-i-test.true in (
      c.next_seen-seen.ensures.fits,
      c.next_seen-seen.ensures.question ∙ ap ends_question (sym more),
      λ space. c.loop-i.invariant.2 space
          ∙ declaration_goes bytes space i seen
          (seen_view bytes i c.loop-i.seen) next c.loop-i-test.true on c.next_seen-seen.ensures.view
          (sym c.lives.ensures ∙ c.if-not-lives.false)
          ∙ ap (λ s. reading_verdict (in_declaration space s next) (drop (i + 1) bytes) (i + 1)) (sym more),
    )
