-- The heights of formulas, goals and constraints, which fall at each step down.
use Rattle.std.proofs.Common.{◌≡◌, sym, ap, ◌∙◌, ℕ, suc, zero, ◌<◌, ◌≤◌, max, List, [], ◌∷◌, map, length, get_or, arith}
use Rattle.pddl_terms.specs.declared.trees.Group.{Group}
use Rattle.pddl_terms.specs.declared.trees.FactForm.{FactForm, fold-FactForm, fold-roll-FactForm}
use Rattle.pddl_terms.specs.declared.trees.FactForm.TheOpen.{FactForm-F}
use Rattle.pddl_terms.specs.declared.trees.FactForm.TheVariants as form
use Rattle.pddl_terms.specs.declared.trees.GoalTree.{GoalTree, fold-GoalTree, fold-roll-GoalTree}
use Rattle.pddl_terms.specs.declared.trees.GoalTree.TheOpen.{GoalTree-F}
use Rattle.pddl_terms.specs.declared.trees.GoalTree.TheVariants as goal
use Rattle.pddl_terms.specs.declared.trees.ConForm.{ConForm, fold-ConForm, fold-roll-ConForm}
use Rattle.pddl_terms.specs.declared.trees.ConForm.TheOpen.{ConForm-F}
use Rattle.pddl_terms.specs.declared.trees.ConForm.TheVariants as con
use Rattle.ground_world.proofs.Heights.{greatest}

pub below_greatest : {X : Type 0} (f : X → ℕ) (xs : List X) (i : ℕ) (x : X) → i < length xs → x ≡ get_or xs i x → f x ≤ greatest (map f xs)
below_greatest f [] i x h e = absurd (omega arith)
below_greatest f (y ∷ ys) zero x h e = omega (arith, ap f e)
below_greatest f (y ∷ ys) (suc i) x h e = omega (arith, below_greatest f ys i x (omega arith) e)

-- ---- formulas

abbrev form_layer : FactForm-F ℕ → ℕ
form_layer (FactForm-F.And at parts) = suc (greatest parts)
form_layer (FactForm-F.Or at parts) = suc (greatest parts)
form_layer (FactForm-F.Not at part) = suc part
form_layer (FactForm-F.Imply at a b) = suc (max a b)
form_layer (FactForm-F.Exists at vars body) = suc body
form_layer (FactForm-F.Forall at vars body) = suc body
form_layer _ = 0

unfoldable pub form_height : FactForm → ℕ
form_height f = fold-FactForm ℕ form_layer f

pub form-And : (at : ℕ) (parts : List FactForm) → form_height (form.And at parts) ≡ suc (greatest (map form_height parts))
unfolding form_height
form-And at parts = ap (fold-FactForm ℕ form_layer) (sym (form.rolls-And at parts)) ∙ fold-roll-FactForm ℕ form_layer (FactForm-F.And at parts)

pub form-Or : (at : ℕ) (parts : List FactForm) → form_height (form.Or at parts) ≡ suc (greatest (map form_height parts))
unfolding form_height
form-Or at parts = ap (fold-FactForm ℕ form_layer) (sym (form.rolls-Or at parts)) ∙ fold-roll-FactForm ℕ form_layer (FactForm-F.Or at parts)

pub form-Not : (at : ℕ) (part : FactForm) → form_height (form.Not at part) ≡ suc (form_height part)
unfolding form_height
form-Not at part = ap (fold-FactForm ℕ form_layer) (sym (form.rolls-Not at part)) ∙ fold-roll-FactForm ℕ form_layer (FactForm-F.Not at part)

pub form-Imply : (at : ℕ) (a b : FactForm) → form_height (form.Imply at a b) ≡ suc (max (form_height a) (form_height b))
unfolding form_height
form-Imply at a b = ap (fold-FactForm ℕ form_layer) (sym (form.rolls-Imply at a b)) ∙ fold-roll-FactForm ℕ form_layer (FactForm-F.Imply at a b)

pub form-Exists : (at : ℕ) (vars : List Group) (body : FactForm) → form_height (form.Exists at vars body) ≡ suc (form_height body)
unfolding form_height
form-Exists at vars body = ap (fold-FactForm ℕ form_layer) (sym (form.rolls-Exists at vars body)) ∙ fold-roll-FactForm ℕ form_layer (FactForm-F.Exists at vars body)

pub form-Forall : (at : ℕ) (vars : List Group) (body : FactForm) → form_height (form.Forall at vars body) ≡ suc (form_height body)
unfolding form_height
form-Forall at vars body = ap (fold-FactForm ℕ form_layer) (sym (form.rolls-Forall at vars body)) ∙ fold-roll-FactForm ℕ form_layer (FactForm-F.Forall at vars body)

-- ---- goals

abbrev goal_layer : GoalTree-F ℕ → ℕ
goal_layer (GoalTree-F.And at parts) = suc (greatest parts)
goal_layer (GoalTree-F.Forall at vars body) = suc body
goal_layer _ = 0

unfoldable pub goal_height : GoalTree → ℕ
goal_height g = fold-GoalTree ℕ goal_layer g

pub goal-And : (at : ℕ) (parts : List GoalTree) → goal_height (goal.And at parts) ≡ suc (greatest (map goal_height parts))
unfolding goal_height
goal-And at parts = ap (fold-GoalTree ℕ goal_layer) (sym (goal.rolls-And at parts)) ∙ fold-roll-GoalTree ℕ goal_layer (GoalTree-F.And at parts)

pub goal-Forall : (at : ℕ) (vars : List Group) (body : GoalTree) → goal_height (goal.Forall at vars body) ≡ suc (goal_height body)
unfolding goal_height
goal-Forall at vars body = ap (fold-GoalTree ℕ goal_layer) (sym (goal.rolls-Forall at vars body)) ∙ fold-roll-GoalTree ℕ goal_layer (GoalTree-F.Forall at vars body)

-- ---- constraints

abbrev constraint_layer : ConForm-F ℕ → ℕ
constraint_layer (ConForm-F.And at parts) = suc (greatest parts)
constraint_layer (ConForm-F.Forall at vars body) = suc body
constraint_layer _ = 0

unfoldable pub constraint_height : ConForm → ℕ
constraint_height c = fold-ConForm ℕ constraint_layer c

pub constraint-And : (at : ℕ) (parts : List ConForm) → constraint_height (con.And at parts) ≡ suc (greatest (map constraint_height parts))
unfolding constraint_height
constraint-And at parts = ap (fold-ConForm ℕ constraint_layer) (sym (con.rolls-And at parts)) ∙ fold-roll-ConForm ℕ constraint_layer (ConForm-F.And at parts)

pub constraint-Forall : (at : ℕ) (vars : List Group) (body : ConForm) → constraint_height (con.Forall at vars body) ≡ suc (constraint_height body)
unfolding constraint_height
constraint-Forall at vars body = ap (fold-ConForm ℕ constraint_layer) (sym (con.rolls-Forall at vars body)) ∙ fold-roll-ConForm ℕ constraint_layer (ConForm-F.Forall at vars body)
