-- What was chosen for a module, and when two lists of choices are one.
use Rattle.std.specs.Prelude.{◌≡◌, ⊤, ℕ, Bool, true, false, ◌&&◌, ◌==◌, Option, None, Some, List, [], ◌∷◌, map, if◌then◌else◌}
use Rattle.std.specs.Cmp.Lexicographic.{pointwise}
use Rattle.std.specs.declared.cmp.Ordering.TheVariants.{Less}
use Rattle.res_base.specs.Names.{module_cmp, module_eq, text_eq}
use Rattle.res_base.specs.declared.coord.Coord.{Coord}
use Rattle.res_base.specs.declared.coord.Module.{Module}
use Rattle.reconcile_rules.specs.declared.request.Clash.{Clash as Reason}
use Rattle.reconcile_rules.specs.declared.request.Clash.TheVariants as reasons
use Rattle.resolution.specs.declared.choices.Choice.{Choice}
use Rattle.resolution.specs.declared.choices.Choice.TheVariants.{Version, Clash}
use Rattle.resolution.specs.declared.choices.ChoiceRow.{ChoiceRow}

abbrev pub choice_of : List ChoiceRow → Module → Option Choice
choice_of [] m = None
choice_of (row ∷ rows) m = if module_eq m row.«module» then Some row.choice else choice_of rows m

-- a clash has no coordinate
abbrev pub coord_at : Module → Choice → Option Coord
coord_at m (Clash clash) = None
coord_at m (Version version) = Some (record { «module» = m; version = version })

abbrev pub coord_in : ChoiceRow → Option Coord
coord_in row = coord_at row.«module» row.choice

abbrev pub coord_by : Module → Option Choice → Option Coord
coord_by m None = None
coord_by m (Some choice) = coord_at m choice

-- the coordinate that is chosen for a module
abbrev pub chosen_coord : List ChoiceRow → Module → Option Coord
chosen_coord chosen m = coord_by m (choice_of chosen m)

abbrev pub modules_of : List ChoiceRow → List Module
modules_of chosen = map (λ (row : ChoiceRow). row.«module») chosen

abbrev pub clash_eq : Reason → Reason → Bool
clash_eq (reasons.Apart i j) (reasons.Apart k l) = i == k && j == l
clash_eq (reasons.Above i) (reasons.Above k) = i == k
clash_eq (reasons.NotAccepted i) (reasons.NotAccepted k) = i == k
clash_eq reasons.NoVersion reasons.NoVersion = true
clash_eq reasons.NoneListed reasons.NoneListed = true
clash_eq (reasons.BadConstraint i) (reasons.BadConstraint k) = i == k
clash_eq _ _ = false

abbrev pub choice_eq : Choice → Choice → Bool
choice_eq (Version a) (Version b) = text_eq a b
choice_eq (Version a) (Clash d) = false
choice_eq (Clash c) (Version b) = false
choice_eq (Clash c) (Clash d) = clash_eq c d

abbrev pub row_eq : ChoiceRow → ChoiceRow → Bool
row_eq a b = module_eq a.«module» b.«module» && choice_eq a.choice b.choice

abbrev pub choices_eq : List ChoiceRow → List ChoiceRow → Bool
choices_eq = pointwise row_eq

-- each module is below those after it
abbrev pub IsBelow : Module → List Module → Type 0
IsBelow m [] = ⊤
IsBelow m (k ∷ modules) = (module_cmp m k ≡ Less) × IsBelow m modules

abbrev pub Rises : List Module → Type 0
Rises [] = ⊤
Rises (m ∷ modules) = IsBelow m modules × Rises modules
