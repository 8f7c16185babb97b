-- Believed: effects, whose amounts are linear and whose rates are constants.
use Rattle.std.specs.Prelude.{List, [], ◌∷◌, ◌++◌}
use Rattle.std.specs.List.{flat_map}
use Rattle.pddl_terms.specs.declared.faults.Kind.TheVariants as kind
use Rattle.pddl_terms.specs.declared.trees.Call.{Call}
use Rattle.pddl_terms.specs.declared.trees.Call.TheVariants as call
use Rattle.pddl_terms.specs.declared.trees.EffTree.{EffTree, fold-EffTree}
use Rattle.pddl_terms.specs.declared.trees.EffTree.TheOpen.{EffTree-F}
use Rattle.pddl_terms.specs.declared.trees.RateTree.{RateTree}
use Rattle.pddl_terms.specs.declared.trees.RateTree.TheVariants as rate
use Rattle.pddl_terms.specs.declared.trees.TimedEff.{TimedEff, fold-TimedEff}
use Rattle.pddl_terms.specs.declared.trees.TimedEff.TheOpen.{TimedEff-F}
use Rattle.pddl_forms.specs.declared.functions.Functions.{Functions}
use Rattle.pddl_names.specs.declared.offences.Offence.{Offence}
use Rattle.pddl_forms.specs.Offences.{offence, unless}
use Rattle.pddl_forms.specs.Expressions.{is_constant, expression_offences}

-- an atom or a fluent
abbrev pub call_offences : Call → List Offence
call_offences (call.Named a) = []
call_offences (call.LeftOut at) = offence kind.LeftOut at ∷ []

abbrev pub effect_layer : Functions → EffTree-F (List Offence) → List Offence
effect_layer fs (EffTree-F.Empty at) = []
effect_layer fs (EffTree-F.And at parts) = flat_map (λ part. part) parts
effect_layer fs (EffTree-F.Add a) = []
effect_layer fs (EffTree-F.Delete at fact) = call_offences fact
effect_layer fs (EffTree-F.Change at how fluent amount) = call_offences fluent ++ expression_offences fs amount
effect_layer fs (EffTree-F.LeftOut at) = offence kind.LeftOut at ∷ []

unfoldable pub effect_offences : Functions → EffTree → List Offence
effect_offences fs e = fold-EffTree (List Offence) (effect_layer fs) e

-- A rate is `#t` or a product of `#t` and a constant.
abbrev pub rate_offences : Functions → RateTree → List Offence
rate_offences fs (rate.One at) = []
rate_offences fs (rate.Times at e) = expression_offences fs e ++ unless (is_constant fs e) kind.Nonlinear at
rate_offences fs (rate.LeftOut at) = offence kind.LeftOut at ∷ []

-- an effect of a durative action
abbrev pub timed_effect_layer : Functions → TimedEff-F (List Offence) → List Offence
timed_effect_layer fs (TimedEff-F.Empty at) = []
timed_effect_layer fs (TimedEff-F.And at parts) = flat_map (λ part. part) parts
timed_effect_layer fs (TimedEff-F.AtStart at effect) = effect_offences fs effect
timed_effect_layer fs (TimedEff-F.AtEnd at effect) = effect_offences fs effect
timed_effect_layer fs (TimedEff-F.Rate at trend fluent speed) = call_offences fluent ++ rate_offences fs speed
timed_effect_layer fs (TimedEff-F.LeftOut at) = offence kind.LeftOut at ∷ []

unfoldable pub timed_effect_offences : Functions → TimedEff → List Offence
timed_effect_offences fs e = fold-TimedEff (List Offence) (timed_effect_layer fs) e
