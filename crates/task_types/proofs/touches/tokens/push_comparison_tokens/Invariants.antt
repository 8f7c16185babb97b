use Rattle.std.proofs.Common.{◌≡◌, ◌++◌, take, map}
use Rattle.std.specs.List.{filter}
use Rattle.task_types.specs.declared.tokens.Token.TheVariants as token
use Rattle.task_types.specs.Sets.{are_several}
use Rattle.task_types.specs.Clash.{form_fluents}
use Rattle.task_types.proofs.touches.tokens.push_comparison_tokens.Given as goal

abbrev pub invariant-loop-form : goal.invariant-loop-form
invariant-loop-form l = l.out ≡ l.fn.out ++ map (λ form. token.Comparison l.id (form_fluents form)) (filter (λ form. are_several (form_fluents form)) (take l.form-index l.form-items))
