-- What is wrong in formulas and constraints, form by form.
use Rattle.std.proofs.Common.{◌≡◌, sym, ap, ◌∙◌, ℕ, List, [], ◌∷◌, ◌++◌, Option, if◌then◌else◌}
use Rattle.std.specs.List.{flat_map}
use Rattle.pddl_terms.specs.declared.trees.FactForm.{FactForm, fold-FactForm, fold-roll-FactForm}
use Rattle.pddl_terms.specs.declared.trees.FactForm.TheOpen.{FactForm-F}
use Rattle.pddl_terms.specs.declared.trees.FactForm.TheVariants as fact
use Rattle.pddl_terms.specs.declared.trees.ConForm.{ConForm, fold-ConForm, fold-roll-ConForm}
use Rattle.pddl_terms.specs.declared.trees.ConForm.TheOpen.{ConForm-F}
use Rattle.pddl_terms.specs.declared.trees.ConForm.TheVariants as con
use Rattle.pddl_terms.specs.declared.trees.Atom.{Atom}
use Rattle.pddl_terms.specs.declared.trees.Group.{Group}
use Rattle.pddl_terms.specs.declared.trees.Name.{Name}
use Rattle.pddl_terms.specs.declared.trees.Side.{Side}
use Rattle.pddl_terms.specs.declared.trees.Trajectory.{Trajectory}
use Rattle.pddl_terms.specs.declared.faults.Kind.TheVariants as kind
use Rattle.pddl_forms.specs.declared.functions.Functions.{Functions}
use Rattle.pddl_names.specs.declared.offences.Offence.{Offence}
use Rattle.pddl_names.specs.Equalities.{is_equality}
use Rattle.pddl_forms.specs.declared.formulas.Around.{Around}
use Rattle.pddl_forms.specs.declared.formulas.Around.TheVariants as around
use Rattle.pddl_forms.specs.Offences.{offence}
use Rattle.pddl_forms.specs.TypedLists.{typed_offences}
use Rattle.pddl_forms.specs.Formulas.{below_not, compared, formula_layer, formula_in, trajectory_offences, constraint_layer, constraint_offences}
use Rattle.pddl_forms.proofs.Least.{concat-map, concat-map_at, least_of}

pub formula_in-empty : (fs : Functions) (outside : Around) (at : ℕ) → formula_in fs outside (fact.Empty at) ≡ []
unfolding formula_in
formula_in-empty fs outside at =
    ap (λ t. fold-FactForm (Around → List Offence) (formula_layer fs) t outside) (sym (fact.rolls-Empty at))
    ∙ ap (λ f. f outside) (fold-roll-FactForm (Around → List Offence) (formula_layer fs) (FactForm-F.Empty at))

pub formula_in-atom : (fs : Functions) (outside : Around) (a : Atom) → formula_in fs outside (fact.Atom a) ≡ []
unfolding formula_in
formula_in-atom fs outside a =
    ap (λ t. fold-FactForm (Around → List Offence) (formula_layer fs) t outside) (sym (fact.rolls-Atom a))
    ∙ ap (λ f. f outside) (fold-roll-FactForm (Around → List Offence) (formula_layer fs) (FactForm-F.Atom a))

pub formula_in-equal : (fs : Functions) (outside : Around) (at : ℕ) (left : Side) (right : Side) → formula_in fs outside (fact.Equal at left right) ≡ (if is_equality fs.declared left right then [] else compared fs outside at left right)
unfolding formula_in
formula_in-equal fs outside at left right =
    ap (λ t. fold-FactForm (Around → List Offence) (formula_layer fs) t outside) (sym (fact.rolls-Equal at left right))
    ∙ ap (λ f. f outside) (fold-roll-FactForm (Around → List Offence) (formula_layer fs) (FactForm-F.Equal at left right))

pub formula_in-and : (fs : Functions) (outside : Around) (at : ℕ) (parts : List FactForm) → formula_in fs outside (fact.And at parts) ≡ flat_map (formula_in fs around.Formula) parts
unfolding formula_in
formula_in-and fs outside at parts =
    ap (λ t. fold-FactForm (Around → List Offence) (formula_layer fs) t outside) (sym (fact.rolls-And at parts))
    ∙ ap (λ f. f outside) (fold-roll-FactForm (Around → List Offence) (formula_layer fs) (FactForm-F.And at parts))
    ∙ concat-map_at (fold-FactForm (Around → List Offence) (formula_layer fs)) (around.Formula) parts

pub formula_in-or : (fs : Functions) (outside : Around) (at : ℕ) (parts : List FactForm) → formula_in fs outside (fact.Or at parts) ≡ flat_map (formula_in fs around.Formula) parts
unfolding formula_in
formula_in-or fs outside at parts =
    ap (λ t. fold-FactForm (Around → List Offence) (formula_layer fs) t outside) (sym (fact.rolls-Or at parts))
    ∙ ap (λ f. f outside) (fold-roll-FactForm (Around → List Offence) (formula_layer fs) (FactForm-F.Or at parts))
    ∙ concat-map_at (fold-FactForm (Around → List Offence) (formula_layer fs)) (around.Formula) parts

pub formula_in-not : (fs : Functions) (outside : Around) (at : ℕ) (part : FactForm) → formula_in fs outside (fact.Not at part) ≡ formula_in fs (below_not outside at) part
unfolding formula_in
formula_in-not fs outside at part =
    ap (λ t. fold-FactForm (Around → List Offence) (formula_layer fs) t outside) (sym (fact.rolls-Not at part))
    ∙ ap (λ f. f outside) (fold-roll-FactForm (Around → List Offence) (formula_layer fs) (FactForm-F.Not at part))

pub formula_in-imply : (fs : Functions) (outside : Around) (at : ℕ) (left : FactForm) (right : FactForm) → formula_in fs outside (fact.Imply at left right) ≡ formula_in fs around.Formula left ++ formula_in fs around.Formula right
unfolding formula_in
formula_in-imply fs outside at left right =
    ap (λ t. fold-FactForm (Around → List Offence) (formula_layer fs) t outside) (sym (fact.rolls-Imply at left right))
    ∙ ap (λ f. f outside) (fold-roll-FactForm (Around → List Offence) (formula_layer fs) (FactForm-F.Imply at left right))

pub formula_in-exists : (fs : Functions) (outside : Around) (at : ℕ) (groups : List Group) (body : FactForm) → formula_in fs outside (fact.Exists at groups body) ≡ typed_offences groups ++ formula_in fs around.Formula body
unfolding formula_in
formula_in-exists fs outside at groups body =
    ap (λ t. fold-FactForm (Around → List Offence) (formula_layer fs) t outside) (sym (fact.rolls-Exists at groups body))
    ∙ ap (λ f. f outside) (fold-roll-FactForm (Around → List Offence) (formula_layer fs) (FactForm-F.Exists at groups body))

pub formula_in-forall : (fs : Functions) (outside : Around) (at : ℕ) (groups : List Group) (body : FactForm) → formula_in fs outside (fact.Forall at groups body) ≡ typed_offences groups ++ formula_in fs around.Formula body
unfolding formula_in
formula_in-forall fs outside at groups body =
    ap (λ t. fold-FactForm (Around → List Offence) (formula_layer fs) t outside) (sym (fact.rolls-Forall at groups body))
    ∙ ap (λ f. f outside) (fold-roll-FactForm (Around → List Offence) (formula_layer fs) (FactForm-F.Forall at groups body))

pub formula_in-leftout : (fs : Functions) (outside : Around) (at : ℕ) → formula_in fs outside (fact.LeftOut at) ≡ offence kind.LeftOut at ∷ []
unfolding formula_in
formula_in-leftout fs outside at =
    ap (λ t. fold-FactForm (Around → List Offence) (formula_layer fs) t outside) (sym (fact.rolls-LeftOut at))
    ∙ ap (λ f. f outside) (fold-roll-FactForm (Around → List Offence) (formula_layer fs) (FactForm-F.LeftOut at))

pub constraint_offences-and : (fs : Functions) (at : ℕ) (parts : List ConForm) → constraint_offences fs (con.And at parts) ≡ flat_map (constraint_offences fs) parts
unfolding constraint_offences
constraint_offences-and fs at parts =
    ap (λ t. fold-ConForm (List Offence) (constraint_layer fs) t) (sym (con.rolls-And at parts))
    ∙ fold-roll-ConForm (List Offence) (constraint_layer fs) (ConForm-F.And at parts)
    ∙ concat-map (fold-ConForm (List Offence) (constraint_layer fs)) parts

pub constraint_offences-forall : (fs : Functions) (at : ℕ) (groups : List Group) (body : ConForm) → constraint_offences fs (con.Forall at groups body) ≡ typed_offences groups ++ constraint_offences fs body
unfolding constraint_offences
constraint_offences-forall fs at groups body =
    ap (λ t. fold-ConForm (List Offence) (constraint_layer fs) t) (sym (con.rolls-Forall at groups body))
    ∙ fold-roll-ConForm (List Offence) (constraint_layer fs) (ConForm-F.Forall at groups body)

pub constraint_offences-hard : (fs : Functions) (t : Trajectory) → constraint_offences fs (con.Hard t) ≡ trajectory_offences fs t
unfolding constraint_offences
constraint_offences-hard fs t =
    ap (λ t. fold-ConForm (List Offence) (constraint_layer fs) t) (sym (con.rolls-Hard t))
    ∙ fold-roll-ConForm (List Offence) (constraint_layer fs) (ConForm-F.Hard t)

pub constraint_offences-preference : (fs : Functions) (at : ℕ) (n : Option Name) (t : Trajectory) → constraint_offences fs (con.Preference at n t) ≡ trajectory_offences fs t
unfolding constraint_offences
constraint_offences-preference fs at n t =
    ap (λ t. fold-ConForm (List Offence) (constraint_layer fs) t) (sym (con.rolls-Preference at n t))
    ∙ fold-roll-ConForm (List Offence) (constraint_layer fs) (ConForm-F.Preference at n t)

pub ruleset formula_rules = (formula_in-empty, formula_in-atom, formula_in-equal, formula_in-and, formula_in-or, formula_in-not, formula_in-imply, formula_in-exists, formula_in-forall, formula_in-leftout, constraint_offences-and, constraint_offences-forall, constraint_offences-hard, constraint_offences-preference, least_of)
