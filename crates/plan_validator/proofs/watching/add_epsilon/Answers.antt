use Rattle.std.proofs.Common.{[], ◌∷◌, refl, subst}
use Rattle.exact_lin.specs.Reckonings.{Sum}
use Rattle.timed_meaning.specs.Answers.{Defined}
use Rattle.plan_validator.proofs.watching.add_epsilon.Goals as goal

pub returns-in-Ok : goal.returns-in-Ok
returns-in-Ok c = λ task plan at h. (subst (λ t. Defined (Sum t c.args.rules.now.epsilon ∷ [])) (c.time.ensures task plan at h) (c.in-Ok.ensures.0, tt), refl)
