-- Believed: formulas over facts, in which no numbers are compared, and constraints.
use Rattle.std.specs.Prelude.{ℕ, List, [], ◌∷◌, ◌++◌, if◌then◌else◌}
use Rattle.std.specs.List.{flat_map}
use Rattle.pddl_names.specs.Equalities.{is_equality}
use Rattle.pddl_terms.specs.declared.faults.Kind.TheVariants as kind
use Rattle.pddl_terms.specs.declared.trees.ConForm.{ConForm, fold-ConForm}
use Rattle.pddl_terms.specs.declared.trees.ConForm.TheOpen.{ConForm-F}
use Rattle.pddl_terms.specs.declared.trees.FactForm.{FactForm, fold-FactForm}
use Rattle.pddl_terms.specs.declared.trees.FactForm.TheOpen.{FactForm-F}
use Rattle.pddl_terms.specs.declared.trees.Side as sides
use Rattle.pddl_terms.specs.declared.trees.Trajectory.{Trajectory}
use Rattle.pddl_terms.specs.declared.trees.Trajectory.TheVariants as trajectory
use Rattle.pddl_forms.specs.declared.formulas.Around.{Around}
use Rattle.pddl_forms.specs.declared.formulas.Around.TheVariants as around
use Rattle.pddl_forms.specs.declared.functions.Functions.{Functions}
use Rattle.pddl_names.specs.declared.offences.Offence.{Offence}
use Rattle.pddl_forms.specs.Offences.{offence}
use Rattle.pddl_forms.specs.TypedLists.{typed_offences}
use Rattle.pddl_forms.specs.Conditions.{sides_offences}

-- What stands around the parts of a `not`. Right in a preference of a goal a comparison may stand, and its `not` too.
abbrev pub below_not : Around → ℕ → Around
below_not around.Formula at = around.Formula
below_not around.Preference at = around.Negation at
below_not (around.Negation place) at = around.Formula

-- an `=` that compares numbers
abbrev pub compared : Functions → Around → ℕ → sides.Side → sides.Side → List Offence
compared fs around.Formula at left right = offence kind.LeftOut at ∷ []
compared fs around.Preference at left right = sides_offences fs left right
compared fs (around.Negation place) at left right = offence kind.Strict place ∷ sides_offences fs left right

abbrev pub formula_layer : Functions → FactForm-F (Around → List Offence) → Around → List Offence
formula_layer fs (FactForm-F.Empty at) outside = []
formula_layer fs (FactForm-F.Atom a) outside = []
formula_layer fs (FactForm-F.Equal at left right) outside = if is_equality fs.declared left right then [] else compared fs outside at left right
formula_layer fs (FactForm-F.And at parts) outside = flat_map (λ part. part around.Formula) parts
formula_layer fs (FactForm-F.Or at parts) outside = flat_map (λ part. part around.Formula) parts
formula_layer fs (FactForm-F.Not at part) outside = part (below_not outside at)
formula_layer fs (FactForm-F.Imply at left right) outside = left around.Formula ++ right around.Formula
formula_layer fs (FactForm-F.Exists at groups body) outside = typed_offences groups ++ body around.Formula
formula_layer fs (FactForm-F.Forall at groups body) outside = typed_offences groups ++ body around.Formula
formula_layer fs (FactForm-F.LeftOut at) outside = offence kind.LeftOut at ∷ []

unfoldable pub formula_in : Functions → Around → FactForm → List Offence
formula_in fs outside t = fold-FactForm (Around → List Offence) (formula_layer fs) t outside

-- a formula
abbrev pub formula_offences : Functions → FactForm → List Offence
formula_offences fs t = formula_in fs around.Formula t

-- a trajectory constraint
abbrev pub trajectory_offences : Functions → Trajectory → List Offence
trajectory_offences fs (trajectory.Always at t) = formula_offences fs t
trajectory_offences fs (trajectory.Sometime at t) = formula_offences fs t
trajectory_offences fs (trajectory.Within at moment t) = formula_offences fs t
trajectory_offences fs (trajectory.AtMostOnce at t) = formula_offences fs t
trajectory_offences fs (trajectory.SometimeAfter at first second) = formula_offences fs first ++ formula_offences fs second
trajectory_offences fs (trajectory.SometimeBefore at first second) = formula_offences fs first ++ formula_offences fs second
trajectory_offences fs (trajectory.AtEnd at t) = formula_offences fs t
trajectory_offences fs (trajectory.LeftOut at) = offence kind.LeftOut at ∷ []

-- constraints
abbrev pub constraint_layer : Functions → ConForm-F (List Offence) → List Offence
constraint_layer fs (ConForm-F.And at parts) = flat_map (λ part. part) parts
constraint_layer fs (ConForm-F.Forall at groups body) = typed_offences groups ++ body
constraint_layer fs (ConForm-F.Hard t) = trajectory_offences fs t
constraint_layer fs (ConForm-F.Preference at n t) = trajectory_offences fs t

unfoldable pub constraint_offences : Functions → ConForm → List Offence
constraint_offences fs c = fold-ConForm (List Offence) (constraint_layer fs) c
