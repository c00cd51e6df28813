use Rattle.std.proofs.Common.{◌≡◌, ◌+◌, drop, ap, sym, ◌∙◌, length, arith}
use Rattle.std.proofs.lemmas.Slice.{between_to_end}
use Rattle.pom_grammar.specs.References.{means, reference}
use Rattle.pom_text.proofs.TextFacts.{reference_ends, reference_text, reference_within, reference_expands}
use Rattle.pom_text.proofs.references.add_reference.Goals as goal

pub overflow_add-result-in-Some : goal.overflow_add-result-in-Some
overflow_add-result-in-Some c =
    let is : reference (drop (c.args.at + 1) c.args.run.now) ≡ means c.in-Some.found.len c.in-Some.found.char =
    sym (c.in-Some.ensures
    ∙ ap reference (between_to_end c.args.run.now (c.args.at + 1) (length c.args.run.now) (omega arith))) in
    let within =
    reference_within c.args.run.now c.args.at c.in-Some.found.len
    (reference_ends (drop (c.args.at + 1) c.args.run.now) c.in-Some.found.len c.in-Some.found.char is) in
    grind (arith, within, c.args.run)

pub returns-in_ok-add_char-in-Some-clause-past : goal.returns-in_ok-add_char-in-Some-clause-past
returns-in_ok-add_char-in-Some-clause-past c =
    let is : reference (drop (c.args.at + 1) c.args.run.now) ≡ means c.in-Some.found.len c.in-Some.found.char =
    sym (c.in-Some.ensures
    ∙ ap reference (between_to_end c.args.run.now (c.args.at + 1) (length c.args.run.now) (omega arith))) in
    reference_within c.args.run.now c.args.at c.in-Some.found.len
    (reference_ends (drop (c.args.at + 1) c.args.run.now) c.in-Some.found.len c.in-Some.found.char is)

pub returns-in_ok-add_char-in-Some-clause-is_text : goal.returns-in_ok-add_char-in-Some-clause-is_text
returns-in_ok-add_char-in-Some-clause-is_text c = λ e text.
    let is : reference (drop (c.args.at + 1) c.args.run.now) ≡ means c.in-Some.found.len c.in-Some.found.char =
    sym (c.in-Some.ensures
    ∙ ap reference (between_to_end c.args.run.now (c.args.at + 1) (length c.args.run.now) (omega arith))) in
    reference_text e c.args.run.now c.args.at c.in-Some.found.len c.requires.within c.requires.is_ampersand
    (reference_ends (drop (c.args.at + 1) c.args.run.now) c.in-Some.found.len c.in-Some.found.char is) text

pub returns-in_ok-add_char-in-Some-clause-ok : goal.returns-in_ok-add_char-in-Some-clause-ok
returns-in_ok-add_char-in-Some-clause-ok c = λ e.
    let is : reference (drop (c.args.at + 1) c.args.run.now) ≡ means c.in-Some.found.len c.in-Some.found.char =
    sym (c.in-Some.ensures
    ∙ ap reference (between_to_end c.args.run.now (c.args.at + 1) (length c.args.run.now) (omega arith))) in
    reference_expands e c.args.run.now c.args.text.now c.add_char.new.text c.args.at c.in-Some.found.len
    c.in-Some.found.char c.requires.within c.requires.is_ampersand is c.in_ok-add_char-in-Some.ensures
