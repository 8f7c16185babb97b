-- What is wrong in goals, form by form.
use Rattle.std.proofs.Common.{◌≡◌, sym, ap, ◌∙◌, ℕ, List, [], ◌++◌, Option, if◌then◌else◌}
use Rattle.std.specs.List.{flat_map}
use Rattle.pddl_terms.specs.declared.trees.SoftTree.{SoftTree, fold-SoftTree, fold-roll-SoftTree}
use Rattle.pddl_terms.specs.declared.trees.SoftTree.TheOpen.{SoftTree-F}
use Rattle.pddl_terms.specs.declared.trees.SoftTree.TheVariants as soft
use Rattle.pddl_terms.specs.declared.trees.GoalTree.{GoalTree, fold-GoalTree, fold-roll-GoalTree}
use Rattle.pddl_terms.specs.declared.trees.GoalTree.TheOpen.{GoalTree-F}
use Rattle.pddl_terms.specs.declared.trees.GoalTree.TheVariants as goal
use Rattle.pddl_terms.specs.declared.trees.CondTree.{CondTree}
use Rattle.pddl_terms.specs.declared.trees.FactForm.{FactForm}
use Rattle.pddl_terms.specs.declared.trees.Group.{Group}
use Rattle.pddl_terms.specs.declared.trees.Name.{Name}
use Rattle.pddl_terms.specs.declared.trees.Side.{Side}
use Rattle.pddl_forms.specs.declared.functions.Functions.{Functions}
use Rattle.pddl_names.specs.declared.offences.Offence.{Offence}
use Rattle.pddl_names.specs.Equalities.{is_equality}
use Rattle.pddl_forms.specs.declared.formulas.Around.TheVariants as around
use Rattle.pddl_forms.specs.TypedLists.{typed_offences}
use Rattle.pddl_forms.specs.Conditions.{sides_offences, condition_offences}
use Rattle.pddl_forms.specs.Formulas.{formula_in}
use Rattle.pddl_forms.specs.Goals.{soft_layer, soft_offences, goal_layer, goal_offences}
use Rattle.pddl_forms.proofs.Least.{concat-map, concat-map_at, least_of}

pub soft_offences-formula : (fs : Functions) (t : FactForm) → soft_offences fs (soft.Formula t) ≡ formula_in fs around.Preference t
unfolding soft_offences
soft_offences-formula fs t =
    ap (λ t. fold-SoftTree (List Offence) (soft_layer fs) t) (sym (soft.rolls-Formula t))
    ∙ fold-roll-SoftTree (List Offence) (soft_layer fs) (SoftTree-F.Formula t)

pub soft_offences-equal : (fs : Functions) (at : ℕ) (left : Side) (right : Side) → soft_offences fs (soft.Equal at left right) ≡ (if is_equality fs.declared left right then [] else sides_offences fs left right)
unfolding soft_offences
soft_offences-equal fs at left right =
    ap (λ t. fold-SoftTree (List Offence) (soft_layer fs) t) (sym (soft.rolls-Equal at left right))
    ∙ fold-roll-SoftTree (List Offence) (soft_layer fs) (SoftTree-F.Equal at left right)

pub soft_offences-comparison : (fs : Functions) (c : CondTree) → soft_offences fs (soft.Comparison c) ≡ condition_offences fs c
unfolding soft_offences
soft_offences-comparison fs c =
    ap (λ t. fold-SoftTree (List Offence) (soft_layer fs) t) (sym (soft.rolls-Comparison c))
    ∙ fold-roll-SoftTree (List Offence) (soft_layer fs) (SoftTree-F.Comparison c)

pub soft_offences-and : (fs : Functions) (at : ℕ) (parts : List SoftTree) → soft_offences fs (soft.And at parts) ≡ flat_map (soft_offences fs) parts
unfolding soft_offences
soft_offences-and fs at parts =
    ap (λ t. fold-SoftTree (List Offence) (soft_layer fs) t) (sym (soft.rolls-And at parts))
    ∙ fold-roll-SoftTree (List Offence) (soft_layer fs) (SoftTree-F.And at parts)
    ∙ concat-map (fold-SoftTree (List Offence) (soft_layer fs)) parts

pub goal_offences-condition : (fs : Functions) (c : CondTree) → goal_offences fs (goal.Condition c) ≡ condition_offences fs c
unfolding goal_offences
goal_offences-condition fs c =
    ap (λ t. fold-GoalTree (List Offence) (goal_layer fs) t) (sym (goal.rolls-Condition c))
    ∙ fold-roll-GoalTree (List Offence) (goal_layer fs) (GoalTree-F.Condition c)

pub goal_offences-and : (fs : Functions) (at : ℕ) (parts : List GoalTree) → goal_offences fs (goal.And at parts) ≡ flat_map (goal_offences fs) parts
unfolding goal_offences
goal_offences-and fs at parts =
    ap (λ t. fold-GoalTree (List Offence) (goal_layer fs) t) (sym (goal.rolls-And at parts))
    ∙ fold-roll-GoalTree (List Offence) (goal_layer fs) (GoalTree-F.And at parts)
    ∙ concat-map (fold-GoalTree (List Offence) (goal_layer fs)) parts

pub goal_offences-forall : (fs : Functions) (at : ℕ) (groups : List Group) (body : GoalTree) → goal_offences fs (goal.Forall at groups body) ≡ typed_offences groups ++ goal_offences fs body
unfolding goal_offences
goal_offences-forall fs at groups body =
    ap (λ t. fold-GoalTree (List Offence) (goal_layer fs) t) (sym (goal.rolls-Forall at groups body))
    ∙ fold-roll-GoalTree (List Offence) (goal_layer fs) (GoalTree-F.Forall at groups body)

pub goal_offences-preference : (fs : Functions) (at : ℕ) (n : Option Name) (wish : SoftTree) → goal_offences fs (goal.Preference at n wish) ≡ soft_offences fs wish
unfolding goal_offences
goal_offences-preference fs at n wish =
    ap (λ t. fold-GoalTree (List Offence) (goal_layer fs) t) (sym (goal.rolls-Preference at n wish))
    ∙ fold-roll-GoalTree (List Offence) (goal_layer fs) (GoalTree-F.Preference at n wish)

pub ruleset goal_rules = (soft_offences-formula, soft_offences-equal, soft_offences-comparison, soft_offences-and, goal_offences-condition, goal_offences-and, goal_offences-forall, goal_offences-preference, least_of)
