-- What is wrong in effects, form by form.
use Rattle.std.proofs.Common.{◌≡◌, sym, ap, ◌∙◌, ℕ, List, [], ◌∷◌, ◌++◌}
use Rattle.std.specs.List.{flat_map}
use Rattle.pddl_terms.specs.declared.trees.EffTree.{EffTree, fold-EffTree, fold-roll-EffTree}
use Rattle.pddl_terms.specs.declared.trees.EffTree.TheOpen.{EffTree-F}
use Rattle.pddl_terms.specs.declared.trees.EffTree.TheVariants as eff
use Rattle.pddl_terms.specs.declared.trees.TimedEff.{TimedEff, fold-TimedEff, fold-roll-TimedEff}
use Rattle.pddl_terms.specs.declared.trees.TimedEff.TheOpen.{TimedEff-F}
use Rattle.pddl_terms.specs.declared.trees.TimedEff.TheVariants as timed
use Rattle.pddl_terms.specs.declared.trees.ExprTree.{ExprTree}
use Rattle.pddl_terms.specs.declared.trees.Atom.{Atom}
use Rattle.pddl_terms.specs.declared.trees.Call.{Call}
use Rattle.pddl_terms.specs.declared.trees.ChangeKind.{ChangeKind}
use Rattle.pddl_terms.specs.declared.trees.RateTree.{RateTree}
use Rattle.pddl_terms.specs.declared.trees.Trend.{Trend}
use Rattle.pddl_terms.specs.declared.faults.Kind.TheVariants as kind
use Rattle.pddl_forms.specs.declared.functions.Functions.{Functions}
use Rattle.pddl_names.specs.declared.offences.Offence.{Offence}
use Rattle.pddl_forms.specs.Offences.{offence}
use Rattle.pddl_forms.specs.Expressions.{expression_offences}
use Rattle.pddl_forms.specs.Effects.{call_offences, rate_offences, effect_layer, effect_offences, timed_effect_layer, timed_effect_offences}
use Rattle.pddl_forms.proofs.Least.{concat-map, concat-map_at, least_of}

pub effect_offences-empty : (fs : Functions) (at : ℕ) → effect_offences fs (eff.Empty at) ≡ []
unfolding effect_offences
effect_offences-empty fs at =
    ap (λ t. fold-EffTree (List Offence) (effect_layer fs) t) (sym (eff.rolls-Empty at))
    ∙ fold-roll-EffTree (List Offence) (effect_layer fs) (EffTree-F.Empty at)

pub effect_offences-and : (fs : Functions) (at : ℕ) (parts : List EffTree) → effect_offences fs (eff.And at parts) ≡ flat_map (effect_offences fs) parts
unfolding effect_offences
effect_offences-and fs at parts =
    ap (λ t. fold-EffTree (List Offence) (effect_layer fs) t) (sym (eff.rolls-And at parts))
    ∙ fold-roll-EffTree (List Offence) (effect_layer fs) (EffTree-F.And at parts)
    ∙ concat-map (fold-EffTree (List Offence) (effect_layer fs)) parts

pub effect_offences-add : (fs : Functions) (a : Atom) → effect_offences fs (eff.Add a) ≡ []
unfolding effect_offences
effect_offences-add fs a =
    ap (λ t. fold-EffTree (List Offence) (effect_layer fs) t) (sym (eff.rolls-Add a))
    ∙ fold-roll-EffTree (List Offence) (effect_layer fs) (EffTree-F.Add a)

pub effect_offences-delete : (fs : Functions) (at : ℕ) (fact : Call) → effect_offences fs (eff.Delete at fact) ≡ call_offences fact
unfolding effect_offences
effect_offences-delete fs at fact =
    ap (λ t. fold-EffTree (List Offence) (effect_layer fs) t) (sym (eff.rolls-Delete at fact))
    ∙ fold-roll-EffTree (List Offence) (effect_layer fs) (EffTree-F.Delete at fact)

pub effect_offences-change : (fs : Functions) (at : ℕ) (how : ChangeKind) (fluent : Call) (amount : ExprTree) → effect_offences fs (eff.Change at how fluent amount) ≡ call_offences fluent ++ expression_offences fs amount
unfolding effect_offences
effect_offences-change fs at how fluent amount =
    ap (λ t. fold-EffTree (List Offence) (effect_layer fs) t) (sym (eff.rolls-Change at how fluent amount))
    ∙ fold-roll-EffTree (List Offence) (effect_layer fs) (EffTree-F.Change at how fluent amount)

pub effect_offences-leftout : (fs : Functions) (at : ℕ) → effect_offences fs (eff.LeftOut at) ≡ offence kind.LeftOut at ∷ []
unfolding effect_offences
effect_offences-leftout fs at =
    ap (λ t. fold-EffTree (List Offence) (effect_layer fs) t) (sym (eff.rolls-LeftOut at))
    ∙ fold-roll-EffTree (List Offence) (effect_layer fs) (EffTree-F.LeftOut at)

pub timed_effect_offences-empty : (fs : Functions) (at : ℕ) → timed_effect_offences fs (timed.Empty at) ≡ []
unfolding timed_effect_offences
timed_effect_offences-empty fs at =
    ap (λ t. fold-TimedEff (List Offence) (timed_effect_layer fs) t) (sym (timed.rolls-Empty at))
    ∙ fold-roll-TimedEff (List Offence) (timed_effect_layer fs) (TimedEff-F.Empty at)

pub timed_effect_offences-and : (fs : Functions) (at : ℕ) (parts : List TimedEff) → timed_effect_offences fs (timed.And at parts) ≡ flat_map (timed_effect_offences fs) parts
unfolding timed_effect_offences
timed_effect_offences-and fs at parts =
    ap (λ t. fold-TimedEff (List Offence) (timed_effect_layer fs) t) (sym (timed.rolls-And at parts))
    ∙ fold-roll-TimedEff (List Offence) (timed_effect_layer fs) (TimedEff-F.And at parts)
    ∙ concat-map (fold-TimedEff (List Offence) (timed_effect_layer fs)) parts

pub timed_effect_offences-atstart : (fs : Functions) (at : ℕ) (effect : EffTree) → timed_effect_offences fs (timed.AtStart at effect) ≡ effect_offences fs effect
unfolding timed_effect_offences
timed_effect_offences-atstart fs at effect =
    ap (λ t. fold-TimedEff (List Offence) (timed_effect_layer fs) t) (sym (timed.rolls-AtStart at effect))
    ∙ fold-roll-TimedEff (List Offence) (timed_effect_layer fs) (TimedEff-F.AtStart at effect)

pub timed_effect_offences-atend : (fs : Functions) (at : ℕ) (effect : EffTree) → timed_effect_offences fs (timed.AtEnd at effect) ≡ effect_offences fs effect
unfolding timed_effect_offences
timed_effect_offences-atend fs at effect =
    ap (λ t. fold-TimedEff (List Offence) (timed_effect_layer fs) t) (sym (timed.rolls-AtEnd at effect))
    ∙ fold-roll-TimedEff (List Offence) (timed_effect_layer fs) (TimedEff-F.AtEnd at effect)

pub timed_effect_offences-rate : (fs : Functions) (at : ℕ) (trend : Trend) (fluent : Call) (speed : RateTree) → timed_effect_offences fs (timed.Rate at trend fluent speed) ≡ call_offences fluent ++ rate_offences fs speed
unfolding timed_effect_offences
timed_effect_offences-rate fs at trend fluent speed =
    ap (λ t. fold-TimedEff (List Offence) (timed_effect_layer fs) t) (sym (timed.rolls-Rate at trend fluent speed))
    ∙ fold-roll-TimedEff (List Offence) (timed_effect_layer fs) (TimedEff-F.Rate at trend fluent speed)

pub timed_effect_offences-leftout : (fs : Functions) (at : ℕ) → timed_effect_offences fs (timed.LeftOut at) ≡ offence kind.LeftOut at ∷ []
unfolding timed_effect_offences
timed_effect_offences-leftout fs at =
    ap (λ t. fold-TimedEff (List Offence) (timed_effect_layer fs) t) (sym (timed.rolls-LeftOut at))
    ∙ fold-roll-TimedEff (List Offence) (timed_effect_layer fs) (TimedEff-F.LeftOut at)

pub ruleset effect_rules = (effect_offences-empty, effect_offences-and, effect_offences-add, effect_offences-delete, effect_offences-change, effect_offences-leftout, timed_effect_offences-empty, timed_effect_offences-and, timed_effect_offences-atstart, timed_effect_offences-atend, timed_effect_offences-rate, timed_effect_offences-leftout, least_of)
