-- Values that are read one after another.
use Rattle.std.proofs.Common.{◌≡◌, ◌∙◌, Ok, Err, IsErrAnd, ap, refl, sym}
use Rattle.word_values.specs.Refusals.{Answers, Read, ◌>>=◌}
use Rattle.word_values.specs.declared.refusals.WordsErr.{WordsErr}
use Rattle.word_values.specs.declared.refusals.WordsErr.TheVariants.{BadWords, NoMemory}

-- a refusal ends a chain
pub stop : {A B : Type 0} (wanted : Read A) (next : A → Read B) (refusal : WordsErr) → wanted ≡ Err refusal → (wanted >>= next) ≡ Err refusal
unfolding ◌>>=◌
stop wanted next refusal e = rw e refl

-- after a value it goes on
pub pass : {A B : Type 0} (wanted : Read A) (next : A → Read B) (value : A) (answer : Read B) → wanted ≡ Ok value → next value ≡ answer → (wanted >>= next) ≡ answer
unfolding ◌>>=◌
pass wanted next value answer e h = rw e h

-- what a call answers that takes no memory
pub exactly : {A : Type 0} (wanted answer : Read A) → answer ≡ wanted → Answers wanted answer
exactly wanted (Ok value) e = sym e
exactly wanted (Err NoMemory) e = tt
exactly wanted (Err (BadWords kind place)) e = sym e

-- a refusal of one is that of another where the definitions say so
pub through : {A B : Type 0} (first : Read A) (wanted : Read B) (refusal : WordsErr) → Answers first (Err refusal) → (first ≡ Err refusal → wanted ≡ Err refusal) → Answers wanted (Err refusal)
through first wanted NoMemory h next = tt
through first wanted (BadWords kind place) h next = next h

pub along : {A : Type 0} (other wanted answer : Read A) → wanted ≡ other → Answers other answer → Answers wanted answer
along other wanted answer e h = rw e h

-- where a `?` ends a call, it answers the refusal of the call before it
pub at_exit : {A B : Type 0} (first : Read A) (wanted answer : Read B) (refusal : WordsErr) → Answers first (Err refusal)
    → IsErrAnd answer (λ given. given ≡ refusal) → (first ≡ Err refusal → wanted ≡ Err refusal) → Answers wanted answer
at_exit first wanted (Ok value) refusal h is next = absurd is
at_exit first wanted (Err given) refusal h is next = rw is (through first wanted refusal h next)

pub exact_exit : {B : Type 0} (wanted answer : Read B) (refusal : WordsErr) → IsErrAnd answer (λ given. given ≡ refusal)
    → wanted ≡ Err refusal → answer ≡ wanted
exact_exit wanted (Ok value) refusal is e = absurd is
exact_exit wanted (Err given) refusal is e = ap Err is ∙ sym e
