use Rattle.std.proofs.Common.{◌≡◌, take, length}
use Rattle.std.specs.List.{flat_map, filter, list_all}
use Rattle.pddl_forms.specs.Offences.{least_with}
use Rattle.pddl_forms.specs.Expressions.{is_constant, is_changing, expression_offences}
use Rattle.pddl_forms.proofs.expressions.+judgements.Given as goal

abbrev pub invariant-judge_sum-loop-part : goal.invariant-judge_sum-loop-part
invariant-judge_sum-loop-part l = (l.all.is_constant ≡ list_all (is_constant l.functions) (take l.part-index l.parts)) × (l.all.found ≡ least_with l.fn.found (flat_map (expression_offences l.functions) (take l.part-index l.parts)))

abbrev pub invariant-judge_product-loop-factor : goal.invariant-judge_product-loop-factor
invariant-judge_product-loop-factor l = (l.changing ≡ length (filter (is_changing l.functions) (take l.factor-index l.factors))) × (l.found ≡ least_with l.fn.found (flat_map (expression_offences l.functions) (take l.factor-index l.factors)))
