use Rattle.std.proofs.Common.{◌∙◌, ◌++◌, ap, sym, subst, map, length}
use Rattle.task_types.specs.declared.tokens.Token.TheVariants as token
use Rattle.task_types.specs.Touch.{tracked_fluents}
use Rattle.task_types.specs.Related.{IsFlags}
use Rattle.task_types.proofs.Places.{chosen_by_flags}
use Rattle.task_types.proofs.touches.tokens.push_tracked_tokens.Goals as goal

pub returns : goal.returns
returns c = c.in_ok-push_fluent_tokens.ensures
    ∙ ap (λ l. c.args.out.now ++ map token.Fluent l) (chosen_by_flags c.as_slice.result.now (length c.args.parts.now.fluents) (tracked_fluents c.args.parts.now) (subst (λ flags. IsFlags flags (length c.args.parts.now.fluents) (tracked_fluents c.args.parts.now)) (sym c.as_slice.ensures.value) c.in_ok-flags.ensures))
