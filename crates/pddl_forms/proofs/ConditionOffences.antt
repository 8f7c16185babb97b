-- What is wrong in conditions and bounds of durations, form by form.
use Rattle.std.proofs.Common.{◌≡◌, sym, ap, ◌∙◌, ℕ, List, [], ◌∷◌, ◌++◌, Option, Some, None}
use Rattle.std.specs.List.{flat_map}
use Rattle.pddl_terms.specs.declared.trees.CondTree.{CondTree, fold-CondTree, fold-roll-CondTree}
use Rattle.pddl_terms.specs.declared.trees.CondTree.TheOpen.{CondTree-F}
use Rattle.pddl_terms.specs.declared.trees.CondTree.TheVariants as cond
use Rattle.pddl_terms.specs.declared.trees.TimedCond.{TimedCond, fold-TimedCond, fold-roll-TimedCond}
use Rattle.pddl_terms.specs.declared.trees.TimedCond.TheOpen.{TimedCond-F}
use Rattle.pddl_terms.specs.declared.trees.TimedCond.TheVariants as timed
use Rattle.pddl_terms.specs.declared.trees.DurTree.{DurTree, fold-DurTree, fold-roll-DurTree}
use Rattle.pddl_terms.specs.declared.trees.DurTree.TheOpen.{DurTree-F}
use Rattle.pddl_terms.specs.declared.trees.DurTree.TheVariants as dur
use Rattle.pddl_terms.specs.declared.trees.ExprTree.{ExprTree}
use Rattle.pddl_terms.specs.declared.trees.Atom.{Atom}
use Rattle.pddl_terms.specs.declared.trees.Comparison.{Comparison}
use Rattle.pddl_terms.specs.declared.trees.Group.{Group}
use Rattle.pddl_terms.specs.declared.trees.Side.{Side}
use Rattle.pddl_terms.specs.declared.faults.Kind.TheVariants as kind
use Rattle.pddl_forms.specs.declared.functions.Functions.{Functions}
use Rattle.pddl_names.specs.declared.offences.Offence.{Offence}
use Rattle.pddl_forms.specs.Offences.{offence}
use Rattle.pddl_forms.specs.TypedLists.{typed_offences}
use Rattle.pddl_forms.specs.Expressions.{expression_offences}
use Rattle.pddl_forms.specs.Conditions.{negated, strict, equal_offences, condition_layer, condition_below, condition_offences, timed_condition_layer, timed_condition_offences, duration_layer, duration_offences}
use Rattle.pddl_forms.proofs.Least.{concat-map, concat-map_at, least_of}

pub condition_below-empty : (fs : Functions) (above : Option ℕ) (at : ℕ) → condition_below fs above (cond.Empty at) ≡ []
unfolding condition_below
condition_below-empty fs above at =
    ap (λ t. fold-CondTree (Option ℕ → List Offence) (condition_layer fs) t above) (sym (cond.rolls-Empty at))
    ∙ ap (λ f. f above) (fold-roll-CondTree (Option ℕ → List Offence) (condition_layer fs) (CondTree-F.Empty at))

pub condition_below-and : (fs : Functions) (above : Option ℕ) (at : ℕ) (parts : List CondTree) → condition_below fs above (cond.And at parts) ≡ flat_map (condition_below fs None) parts
unfolding condition_below
condition_below-and fs above at parts =
    ap (λ t. fold-CondTree (Option ℕ → List Offence) (condition_layer fs) t above) (sym (cond.rolls-And at parts))
    ∙ ap (λ f. f above) (fold-roll-CondTree (Option ℕ → List Offence) (condition_layer fs) (CondTree-F.And at parts))
    ∙ concat-map_at (fold-CondTree (Option ℕ → List Offence) (condition_layer fs)) (None) parts

pub condition_below-forall : (fs : Functions) (above : Option ℕ) (at : ℕ) (groups : List Group) (body : CondTree) → condition_below fs above (cond.Forall at groups body) ≡ typed_offences groups ++ condition_below fs None body
unfolding condition_below
condition_below-forall fs above at groups body =
    ap (λ t. fold-CondTree (Option ℕ → List Offence) (condition_layer fs) t above) (sym (cond.rolls-Forall at groups body))
    ∙ ap (λ f. f above) (fold-roll-CondTree (Option ℕ → List Offence) (condition_layer fs) (CondTree-F.Forall at groups body))

pub condition_below-atom : (fs : Functions) (above : Option ℕ) (a : Atom) → condition_below fs above (cond.Atom a) ≡ []
unfolding condition_below
condition_below-atom fs above a =
    ap (λ t. fold-CondTree (Option ℕ → List Offence) (condition_layer fs) t above) (sym (cond.rolls-Atom a))
    ∙ ap (λ f. f above) (fold-roll-CondTree (Option ℕ → List Offence) (condition_layer fs) (CondTree-F.Atom a))

pub condition_below-not : (fs : Functions) (above : Option ℕ) (at : ℕ) (part : CondTree) → condition_below fs above (cond.Not at part) ≡ negated above ++ condition_below fs (Some at) part
unfolding condition_below
condition_below-not fs above at part =
    ap (λ t. fold-CondTree (Option ℕ → List Offence) (condition_layer fs) t above) (sym (cond.rolls-Not at part))
    ∙ ap (λ f. f above) (fold-roll-CondTree (Option ℕ → List Offence) (condition_layer fs) (CondTree-F.Not at part))

pub condition_below-equal : (fs : Functions) (above : Option ℕ) (at : ℕ) (left : Side) (right : Side) → condition_below fs above (cond.Equal at left right) ≡ equal_offences fs above left right
unfolding condition_below
condition_below-equal fs above at left right =
    ap (λ t. fold-CondTree (Option ℕ → List Offence) (condition_layer fs) t above) (sym (cond.rolls-Equal at left right))
    ∙ ap (λ f. f above) (fold-roll-CondTree (Option ℕ → List Offence) (condition_layer fs) (CondTree-F.Equal at left right))

pub condition_below-compare : (fs : Functions) (above : Option ℕ) (at : ℕ) (c : Comparison) (left : ExprTree) (right : ExprTree) → condition_below fs above (cond.Compare at c left right) ≡ negated above ++ strict at c ++ expression_offences fs left ++ expression_offences fs right
unfolding condition_below
condition_below-compare fs above at c left right =
    ap (λ t. fold-CondTree (Option ℕ → List Offence) (condition_layer fs) t above) (sym (cond.rolls-Compare at c left right))
    ∙ ap (λ f. f above) (fold-roll-CondTree (Option ℕ → List Offence) (condition_layer fs) (CondTree-F.Compare at c left right))

pub condition_below-leftout : (fs : Functions) (above : Option ℕ) (at : ℕ) → condition_below fs above (cond.LeftOut at) ≡ offence kind.LeftOut at ∷ []
unfolding condition_below
condition_below-leftout fs above at =
    ap (λ t. fold-CondTree (Option ℕ → List Offence) (condition_layer fs) t above) (sym (cond.rolls-LeftOut at))
    ∙ ap (λ f. f above) (fold-roll-CondTree (Option ℕ → List Offence) (condition_layer fs) (CondTree-F.LeftOut at))

pub timed_condition_offences-empty : (fs : Functions) (at : ℕ) → timed_condition_offences fs (timed.Empty at) ≡ []
unfolding timed_condition_offences
timed_condition_offences-empty fs at =
    ap (λ t. fold-TimedCond (List Offence) (timed_condition_layer fs) t) (sym (timed.rolls-Empty at))
    ∙ fold-roll-TimedCond (List Offence) (timed_condition_layer fs) (TimedCond-F.Empty at)

pub timed_condition_offences-and : (fs : Functions) (at : ℕ) (parts : List TimedCond) → timed_condition_offences fs (timed.And at parts) ≡ flat_map (timed_condition_offences fs) parts
unfolding timed_condition_offences
timed_condition_offences-and fs at parts =
    ap (λ t. fold-TimedCond (List Offence) (timed_condition_layer fs) t) (sym (timed.rolls-And at parts))
    ∙ fold-roll-TimedCond (List Offence) (timed_condition_layer fs) (TimedCond-F.And at parts)
    ∙ concat-map (fold-TimedCond (List Offence) (timed_condition_layer fs)) parts

pub timed_condition_offences-atstart : (fs : Functions) (at : ℕ) (c : CondTree) → timed_condition_offences fs (timed.AtStart at c) ≡ condition_offences fs c
unfolding timed_condition_offences
timed_condition_offences-atstart fs at c =
    ap (λ t. fold-TimedCond (List Offence) (timed_condition_layer fs) t) (sym (timed.rolls-AtStart at c))
    ∙ fold-roll-TimedCond (List Offence) (timed_condition_layer fs) (TimedCond-F.AtStart at c)

pub timed_condition_offences-overall : (fs : Functions) (at : ℕ) (c : CondTree) → timed_condition_offences fs (timed.OverAll at c) ≡ condition_offences fs c
unfolding timed_condition_offences
timed_condition_offences-overall fs at c =
    ap (λ t. fold-TimedCond (List Offence) (timed_condition_layer fs) t) (sym (timed.rolls-OverAll at c))
    ∙ fold-roll-TimedCond (List Offence) (timed_condition_layer fs) (TimedCond-F.OverAll at c)

pub timed_condition_offences-atend : (fs : Functions) (at : ℕ) (c : CondTree) → timed_condition_offences fs (timed.AtEnd at c) ≡ condition_offences fs c
unfolding timed_condition_offences
timed_condition_offences-atend fs at c =
    ap (λ t. fold-TimedCond (List Offence) (timed_condition_layer fs) t) (sym (timed.rolls-AtEnd at c))
    ∙ fold-roll-TimedCond (List Offence) (timed_condition_layer fs) (TimedCond-F.AtEnd at c)

pub timed_condition_offences-leftout : (fs : Functions) (at : ℕ) → timed_condition_offences fs (timed.LeftOut at) ≡ offence kind.LeftOut at ∷ []
unfolding timed_condition_offences
timed_condition_offences-leftout fs at =
    ap (λ t. fold-TimedCond (List Offence) (timed_condition_layer fs) t) (sym (timed.rolls-LeftOut at))
    ∙ fold-roll-TimedCond (List Offence) (timed_condition_layer fs) (TimedCond-F.LeftOut at)

pub duration_offences-and : (fs : Functions) (at : ℕ) (parts : List DurTree) → duration_offences fs (dur.And at parts) ≡ flat_map (duration_offences fs) parts
unfolding duration_offences
duration_offences-and fs at parts =
    ap (λ t. fold-DurTree (List Offence) (duration_layer fs) t) (sym (dur.rolls-And at parts))
    ∙ fold-roll-DurTree (List Offence) (duration_layer fs) (DurTree-F.And at parts)
    ∙ concat-map (fold-DurTree (List Offence) (duration_layer fs)) parts

pub duration_offences-atstart : (fs : Functions) (at : ℕ) (part : DurTree) → duration_offences fs (dur.AtStart at part) ≡ duration_offences fs part
unfolding duration_offences
duration_offences-atstart fs at part =
    ap (λ t. fold-DurTree (List Offence) (duration_layer fs) t) (sym (dur.rolls-AtStart at part))
    ∙ fold-roll-DurTree (List Offence) (duration_layer fs) (DurTree-F.AtStart at part)

pub duration_offences-atend : (fs : Functions) (at : ℕ) (part : DurTree) → duration_offences fs (dur.AtEnd at part) ≡ duration_offences fs part
unfolding duration_offences
duration_offences-atend fs at part =
    ap (λ t. fold-DurTree (List Offence) (duration_layer fs) t) (sym (dur.rolls-AtEnd at part))
    ∙ fold-roll-DurTree (List Offence) (duration_layer fs) (DurTree-F.AtEnd at part)

pub duration_offences-bound : (fs : Functions) (at : ℕ) (c : Comparison) (e : ExprTree) → duration_offences fs (dur.Bound at c e) ≡ expression_offences fs e
unfolding duration_offences
duration_offences-bound fs at c e =
    ap (λ t. fold-DurTree (List Offence) (duration_layer fs) t) (sym (dur.rolls-Bound at c e))
    ∙ fold-roll-DurTree (List Offence) (duration_layer fs) (DurTree-F.Bound at c e)

pub duration_offences-leftout : (fs : Functions) (at : ℕ) → duration_offences fs (dur.LeftOut at) ≡ offence kind.LeftOut at ∷ []
unfolding duration_offences
duration_offences-leftout fs at =
    ap (λ t. fold-DurTree (List Offence) (duration_layer fs) t) (sym (dur.rolls-LeftOut at))
    ∙ fold-roll-DurTree (List Offence) (duration_layer fs) (DurTree-F.LeftOut at)

pub ruleset condition_rules = (condition_below-empty, condition_below-and, condition_below-forall, condition_below-atom, condition_below-not, condition_below-equal, condition_below-compare, condition_below-leftout, timed_condition_offences-empty, timed_condition_offences-and, timed_condition_offences-atstart, timed_condition_offences-overall, timed_condition_offences-atend, timed_condition_offences-leftout, duration_offences-and, duration_offences-atstart, duration_offences-atend, duration_offences-bound, duration_offences-leftout, least_of)
