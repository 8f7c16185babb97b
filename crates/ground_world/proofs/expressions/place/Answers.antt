use Rattle.std.proofs.Common.{sym, ap, ◌∙◌}
use Rattle.pddl_terms.specs.declared.trees.ExprTree.{ExprTree}
use Rattle.ground_world.specs.Expressions.{Reckoned, reckoned}
use Rattle.ground_world.proofs.Walks as walk
use Rattle.ground_world.proofs.Dividing.{divided-place}
use Rattle.ground_world.proofs.expressions.place.Goals as goal

pub returns-in-Number : goal.returns-in-Number
returns-in-Number c = λ w us env. sym (ap (λ (t : ExprTree). (reckoned w us env t).place) c.in-Number.is
    ∙ ap (λ (r : Reckoned). r.place) (walk.reckoned-Number w us env c.in-Number.at c.in-Number.field-1))

pub returns-in-Fluent : goal.returns-in-Fluent
returns-in-Fluent c = λ w us env. sym (ap (λ (t : ExprTree). (reckoned w us env t).place) c.in-Fluent.is
    ∙ ap (λ (r : Reckoned). r.place) (walk.reckoned-Fluent w us env c.in-Fluent.atom))

pub returns-in-Duration : goal.returns-in-Duration
returns-in-Duration c = λ w us env. sym (ap (λ (t : ExprTree). (reckoned w us env t).place) c.in-Duration.is
    ∙ ap (λ (r : Reckoned). r.place) (walk.reckoned-Duration w us env c.in-Duration.at))

pub returns-in-Sum : goal.returns-in-Sum
returns-in-Sum c = λ w us env. sym (ap (λ (t : ExprTree). (reckoned w us env t).place) c.in-Sum.is
    ∙ ap (λ (r : Reckoned). r.place) (walk.reckoned-Sum w us env c.in-Sum.at c.in-Sum.field-1))

pub returns-in-Product : goal.returns-in-Product
returns-in-Product c = λ w us env. sym (ap (λ (t : ExprTree). (reckoned w us env t).place) c.in-Product.is
    ∙ ap (λ (r : Reckoned). r.place) (walk.reckoned-Product w us env c.in-Product.at c.in-Product.field-1))

pub returns-in-Negative : goal.returns-in-Negative
returns-in-Negative c = λ w us env. sym (ap (λ (t : ExprTree). (reckoned w us env t).place) c.in-Negative.is
    ∙ ap (λ (r : Reckoned). r.place) (walk.reckoned-Negative w us env c.in-Negative.at c.in-Negative.field-1))

pub returns-in-Difference : goal.returns-in-Difference
returns-in-Difference c = λ w us env. sym (ap (λ (t : ExprTree). (reckoned w us env t).place) c.in-Difference.is
    ∙ ap (λ (r : Reckoned). r.place) (walk.reckoned-Difference w us env c.in-Difference.at c.in-Difference.field-1 c.in-Difference.field-2))

pub returns-in-Quotient : goal.returns-in-Quotient
returns-in-Quotient c = λ w us env. sym (ap (λ (t : ExprTree). (reckoned w us env t).place) c.in-Quotient.is
    ∙ ap (λ (r : Reckoned). r.place) (walk.reckoned-Quotient w us env c.in-Quotient.at c.in-Quotient.field-1 c.in-Quotient.field-2)
    ∙ divided-place c.in-Quotient.at (reckoned w us env c.in-Quotient.field-1) (reckoned w us env c.in-Quotient.field-2))

pub returns-in-LeftOut : goal.returns-in-LeftOut
returns-in-LeftOut c = λ w us env. sym (ap (λ (t : ExprTree). (reckoned w us env t).place) c.in-LeftOut.is
    ∙ ap (λ (r : Reckoned). r.place) (walk.reckoned-LeftOut w us env c.in-LeftOut.at))

pub returns-in-TotalTime : goal.returns-in-TotalTime
returns-in-TotalTime c = λ w us env. sym (ap (λ (t : ExprTree). (reckoned w us env t).place) c.in-TotalTime.is
    ∙ ap (λ (r : Reckoned). r.place) (walk.reckoned-TotalTime w us env c.in-TotalTime.at))

pub returns-in-Violated : goal.returns-in-Violated
returns-in-Violated c = λ w us env. sym (ap (λ (t : ExprTree). (reckoned w us env t).place) c.in-Violated.is
    ∙ ap (λ (r : Reckoned). r.place) (walk.reckoned-Violated w us env c.in-Violated.at c.in-Violated.field-1))

pub returns-in-TimeCost : goal.returns-in-TimeCost
returns-in-TimeCost c = λ w us env. sym (ap (λ (t : ExprTree). (reckoned w us env t).place) c.in-TimeCost.is
    ∙ ap (λ (r : Reckoned). r.place) (walk.reckoned-TimeCost w us env c.in-TimeCost.at c.in-TimeCost.field-1))
