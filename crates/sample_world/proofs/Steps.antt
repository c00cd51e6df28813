-- One dependency more in a project file, and one module more in a world.
use Rattle.std.proofs.Common.{◌≡◌, ℕ, suc, ◌+◌, ◌<◌, List, ◌∷◌, [], ◌++◌, length, drop, get_or, sym, ◌∙◌, ap, append_assoc, add-one, refl}
use Rattle.std.proofs.Math.Seq.{drop-cons}
use Rattle.std.specs.List.{flat_map}
use Rattle.res_base.specs.declared.world.WorldRow.{WorldRow}
use Rattle.sample_world.specs.Projects.{release, state_behind}
use Rattle.sample_world.specs.World.{module_rows, row_from, rows_from, state_behind_module}

pub one_text_more : {A : Type 0} (f : A → List ℕ) (items : List A) (i : ℕ) (d : A) (before whole : List ℕ)
    → i < length items → before ++ flat_map f (drop i items) ≡ whole
    → (before ++ f (get_or items i d)) ++ flat_map f (drop (i + 1) items) ≡ whole
one_text_more f items i d before whole within so =
    let step : drop i items ≡ get_or items i d ∷ drop (i + 1) items = rw (add-one, drop-cons items i d within) refl in
    rw append_assoc (ap (λ rest. before ++ flat_map f rest) (sym step) ∙ so)

-- the files of the modules from a number on, one after the other
pub one_module_more : (count left next number state : ℕ) (before whole : List WorldRow)
    → left ≡ suc next → before ++ rows_from count left number state ≡ whole
    → (before ++ module_rows count number state) ++ rows_from count next (number + 1) (state_behind_module state) ≡ whole
one_module_more count left next number state before whole is so =
    rw append_assoc (ap (λ n. before ++ rows_from count n number state) (sym is) ∙ so)

-- the files of a module's three releases, put one after the other
pub three_releases : (count number first second third : ℕ) (none one two three : List WorldRow)
    → second ≡ state_behind first → third ≡ state_behind second
    → one ≡ none ++ row_from count (release number 0) first ∷ [] → two ≡ one ++ row_from count (release number 1) second ∷ []
    → three ≡ two ++ row_from count (release number 2) third ∷ [] → three ≡ none ++ module_rows count number first
three_releases count number first second third none one two three second_is third_is one_is two_is three_is =
    let row : ℕ → ℕ → WorldRow = λ version state. row_from count (release number version) state in
    let thirds : third ≡ state_behind (state_behind first) = third_is ∙ ap state_behind second_is in
    three_is ∙ ap (λ rows. rows ++ row 2 third ∷ []) (two_is ∙ ap (λ rows. rows ++ row 1 second ∷ []) one_is)
    ∙ rw (append_assoc, append_assoc) (ap (λ state. none ++ (row 0 first ∷ row 1 state ∷ row 2 third ∷ [])) second_is)
    ∙ ap (λ state. none ++ (row 0 first ∷ row 1 (state_behind first) ∷ row 2 state ∷ [])) thirds
