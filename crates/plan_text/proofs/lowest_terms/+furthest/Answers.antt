use Rattle.plan_text.proofs.LowestTerms.{steps_double, steps_more}
use Rattle.plan_text.proofs.lowest_terms.+furthest.Goals as goal

pub returns-in-None-advanced-clause-steps : goal.returns-in-None-advanced-clause-steps
returns-in-None-advanced-clause-steps t c = steps_double _ _ _ _ _ _ _ _ c.in-Some.ensures.num c.in-Some.ensures.den c.furthest-far.ensures.steps

pub returns-in-Some-advanced-clause-steps : goal.returns-in-Some-advanced-clause-steps
returns-in-Some-advanced-clause-steps t c =
    steps_more _ _ _ _ _ _ _ _ (steps_double _ _ _ _ _ _ _ _ c.in-Some.ensures.num c.in-Some.ensures.den c.furthest-far.ensures.steps) c.in-Some-advanced.ensures.num c.in-Some-advanced.ensures.den
