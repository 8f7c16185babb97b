use Rattle.std.proofs.Common.{◌≡◌, ◌≤◌, refl, ap, subst, IfOk}
use Rattle.rational.specs.Rational.{zeroℚ}
use Rattle.task_types.specs.declared.constraints.Trail.{Trail}
use Rattle.task_types.specs.declared.constraints.TrailKind.TheVariants as kind
use Rattle.pddl_terms.specs.declared.trees.Trajectory.{Trajectory}
use Rattle.ground_world.specs.Counts.{trajectory_count, part_limit}
use Rattle.ground_world.specs.Shown.{env_of}
use Rattle.grounder.specs.ShownGrounding.{ground_of}
use Rattle.grounder.specs.Terms.{watched}
use Rattle.grounder.proofs.TrailSteps.{trail-one, trail-two, trail-none}
use Rattle.grounder.proofs.trails.trail.Goals as goal

pub one_formula-requires : goal.one_formula-requires
one_formula-requires c = subst (λ (x : Trajectory). trajectory_count (ground_of c.args.grounding.now).world x ≤ part_limit) c.in-Always.is c.requires

pub returns-in-Always : goal.returns-in-Always
returns-in-Always c = subst (λ (r : Trail). IfOk c.one_formula.result (λ (x : Trail). x ≡ r)) (trail-one (ground_of c.args.grounding.now) (env_of c.args.env.now) c.args.trajectory.now kind.Always c.in-Always.first zeroℚ c.of_int-zero.result (ap watched c.in-Always.is) c.of_int-zero.ensures) c.one_formula.ensures

pub one_formula-requires-in-Sometime : goal.one_formula-requires-in-Sometime
one_formula-requires-in-Sometime c = subst (λ (x : Trajectory). trajectory_count (ground_of c.args.grounding.now).world x ≤ part_limit) c.in-Sometime.is c.requires

pub returns-in-Sometime : goal.returns-in-Sometime
returns-in-Sometime c = subst (λ (r : Trail). IfOk c.one_formula-in-Sometime.result (λ (x : Trail). x ≡ r)) (trail-one (ground_of c.args.grounding.now) (env_of c.args.env.now) c.args.trajectory.now kind.Sometime c.in-Sometime.first zeroℚ c.of_int-zero.result (ap watched c.in-Sometime.is) c.of_int-zero.ensures) c.one_formula-in-Sometime.ensures

pub one_formula-requires-in-Within : goal.one_formula-requires-in-Within
one_formula-requires-in-Within c = subst (λ (x : Trajectory). trajectory_count (ground_of c.args.grounding.now).world x ≤ part_limit) c.in-Within.is c.requires

pub returns-in-Within : goal.returns-in-Within
returns-in-Within c = subst (λ (r : Trail). IfOk c.one_formula-in-Within.result (λ (x : Trail). x ≡ r)) (trail-one (ground_of c.args.grounding.now) (env_of c.args.env.now) c.args.trajectory.now kind.Within c.in-Within.first c.in-Within.moment c.in-Within.moment (ap watched c.in-Within.is) refl) c.one_formula-in-Within.ensures

pub one_formula-requires-in-AtMostOnce : goal.one_formula-requires-in-AtMostOnce
one_formula-requires-in-AtMostOnce c = subst (λ (x : Trajectory). trajectory_count (ground_of c.args.grounding.now).world x ≤ part_limit) c.in-AtMostOnce.is c.requires

pub returns-in-AtMostOnce : goal.returns-in-AtMostOnce
returns-in-AtMostOnce c = subst (λ (r : Trail). IfOk c.one_formula-in-AtMostOnce.result (λ (x : Trail). x ≡ r)) (trail-one (ground_of c.args.grounding.now) (env_of c.args.env.now) c.args.trajectory.now kind.AtMostOnce c.in-AtMostOnce.first zeroℚ c.of_int-zero.result (ap watched c.in-AtMostOnce.is) c.of_int-zero.ensures) c.one_formula-in-AtMostOnce.ensures

pub two_formulas-requires : goal.two_formulas-requires
two_formulas-requires c = subst (λ (x : Trajectory). trajectory_count (ground_of c.args.grounding.now).world x ≤ part_limit) c.in-SometimeAfter.is c.requires

pub returns-in-SometimeAfter : goal.returns-in-SometimeAfter
returns-in-SometimeAfter c = subst (λ (r : Trail). IfOk c.two_formulas.result (λ (x : Trail). x ≡ r)) (trail-two (ground_of c.args.grounding.now) (env_of c.args.env.now) c.args.trajectory.now kind.SometimeAfter c.in-SometimeAfter.first c.in-SometimeAfter.second (ap watched c.in-SometimeAfter.is)) c.two_formulas.ensures

pub two_formulas-requires-in-SometimeBefore : goal.two_formulas-requires-in-SometimeBefore
two_formulas-requires-in-SometimeBefore c = subst (λ (x : Trajectory). trajectory_count (ground_of c.args.grounding.now).world x ≤ part_limit) c.in-SometimeBefore.is c.requires

pub returns-in-SometimeBefore : goal.returns-in-SometimeBefore
returns-in-SometimeBefore c = subst (λ (r : Trail). IfOk c.two_formulas-in-SometimeBefore.result (λ (x : Trail). x ≡ r)) (trail-two (ground_of c.args.grounding.now) (env_of c.args.env.now) c.args.trajectory.now kind.SometimeBefore c.in-SometimeBefore.first c.in-SometimeBefore.second (ap watched c.in-SometimeBefore.is)) c.two_formulas-in-SometimeBefore.ensures

pub one_formula-requires-in-AtEnd : goal.one_formula-requires-in-AtEnd
one_formula-requires-in-AtEnd c = subst (λ (x : Trajectory). trajectory_count (ground_of c.args.grounding.now).world x ≤ part_limit) c.in-AtEnd.is c.requires

pub returns-in-AtEnd : goal.returns-in-AtEnd
returns-in-AtEnd c = subst (λ (r : Trail). IfOk c.one_formula-in-AtEnd.result (λ (x : Trail). x ≡ r)) (trail-one (ground_of c.args.grounding.now) (env_of c.args.env.now) c.args.trajectory.now kind.AtEnd c.in-AtEnd.first zeroℚ c.of_int-zero.result (ap watched c.in-AtEnd.is) c.of_int-zero.ensures) c.one_formula-in-AtEnd.ensures

pub returns-in-LeftOut : goal.returns-in-LeftOut
returns-in-LeftOut c = trail-none (ground_of c.args.grounding.now) (env_of c.args.env.now) c.args.trajectory.now c.of_int-zero.result c.in-LeftOut.is c.of_int-zero.ensures
