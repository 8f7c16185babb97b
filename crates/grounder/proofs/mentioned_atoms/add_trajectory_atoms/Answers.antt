use Rattle.std.proofs.Common.{◌≡◌, ◌≤◌, ap, subst, List, OnOk}
use Rattle.rational.specs.Rational.{zeroℚ}
use Rattle.task_types.specs.declared.constraints.TrailKind.TheVariants as kind
use Rattle.pddl_terms.specs.declared.trees.Trajectory.{Trajectory}
use Rattle.pddl_names.specs.Declarations.{with_new}
use Rattle.ground_world.specs.World.{GroundAtom}
use Rattle.ground_world.specs.Counts.{trajectory_count, part_limit}
use Rattle.ground_world.specs.Shown.{env_of, world_of}
use Rattle.grounder.specs.Terms.{watched}
use Rattle.grounder.proofs.ConstraintSteps.{one-mentioned, two-mentioned, none-watched}
use Rattle.grounder.proofs.mentioned_atoms.add_trajectory_atoms.Goals as goal

pub add_formula_atoms-requires : goal.add_formula_atoms-requires
add_formula_atoms-requires c = subst (λ (x : Trajectory). trajectory_count (world_of c.args.tables.now) x ≤ part_limit) c.in-Always.is c.requires

pub returns-in-Always : goal.returns-in-Always
returns-in-Always c =
    subst (λ (l : List GroundAtom). OnOk c.add_formula_atoms.result (c.add_formula_atoms.new.atoms ≡ with_new c.args.atoms.now l))
    (one-mentioned (world_of c.args.tables.now) (env_of c.args.env.now) c.args.trajectory.now kind.Always c.in-Always.formula zeroℚ (ap watched c.in-Always.is)) c.add_formula_atoms.ensures

pub add_formula_atoms-requires-in-Sometime : goal.add_formula_atoms-requires-in-Sometime
add_formula_atoms-requires-in-Sometime c = subst (λ (x : Trajectory). trajectory_count (world_of c.args.tables.now) x ≤ part_limit) c.in-Sometime.is c.requires

pub returns-in-Sometime : goal.returns-in-Sometime
returns-in-Sometime c =
    subst (λ (l : List GroundAtom). OnOk c.add_formula_atoms-in-Sometime.result (c.add_formula_atoms-in-Sometime.new.atoms ≡ with_new c.args.atoms.now l))
    (one-mentioned (world_of c.args.tables.now) (env_of c.args.env.now) c.args.trajectory.now kind.Sometime c.in-Sometime.formula zeroℚ (ap watched c.in-Sometime.is)) c.add_formula_atoms-in-Sometime.ensures

pub add_formula_atoms-requires-in-Within : goal.add_formula_atoms-requires-in-Within
add_formula_atoms-requires-in-Within c = subst (λ (x : Trajectory). trajectory_count (world_of c.args.tables.now) x ≤ part_limit) c.in-Within.is c.requires

pub returns-in-Within : goal.returns-in-Within
returns-in-Within c =
    subst (λ (l : List GroundAtom). OnOk c.add_formula_atoms-in-Within.result (c.add_formula_atoms-in-Within.new.atoms ≡ with_new c.args.atoms.now l))
    (one-mentioned (world_of c.args.tables.now) (env_of c.args.env.now) c.args.trajectory.now kind.Within c.in-Within.formula c.in-Within.field-1 (ap watched c.in-Within.is)) c.add_formula_atoms-in-Within.ensures

pub add_formula_atoms-requires-in-AtMostOnce : goal.add_formula_atoms-requires-in-AtMostOnce
add_formula_atoms-requires-in-AtMostOnce c = subst (λ (x : Trajectory). trajectory_count (world_of c.args.tables.now) x ≤ part_limit) c.in-AtMostOnce.is c.requires

pub returns-in-AtMostOnce : goal.returns-in-AtMostOnce
returns-in-AtMostOnce c =
    subst (λ (l : List GroundAtom). OnOk c.add_formula_atoms-in-AtMostOnce.result (c.add_formula_atoms-in-AtMostOnce.new.atoms ≡ with_new c.args.atoms.now l))
    (one-mentioned (world_of c.args.tables.now) (env_of c.args.env.now) c.args.trajectory.now kind.AtMostOnce c.in-AtMostOnce.formula zeroℚ (ap watched c.in-AtMostOnce.is)) c.add_formula_atoms-in-AtMostOnce.ensures

pub add_two-requires : goal.add_two-requires
add_two-requires c = subst (λ (x : Trajectory). trajectory_count (world_of c.args.tables.now) x ≤ part_limit) c.in-SometimeAfter.is c.requires

pub returns-in-SometimeAfter : goal.returns-in-SometimeAfter
returns-in-SometimeAfter c =
    subst (λ (l : List GroundAtom). OnOk c.add_two.result (c.add_two.new.atoms ≡ with_new c.args.atoms.now l))
    (two-mentioned (world_of c.args.tables.now) (env_of c.args.env.now) c.args.trajectory.now kind.SometimeAfter c.in-SometimeAfter.first c.in-SometimeAfter.second (ap watched c.in-SometimeAfter.is)) c.add_two.ensures

pub add_two-requires-in-SometimeBefore : goal.add_two-requires-in-SometimeBefore
add_two-requires-in-SometimeBefore c = subst (λ (x : Trajectory). trajectory_count (world_of c.args.tables.now) x ≤ part_limit) c.in-SometimeBefore.is c.requires

pub returns-in-SometimeBefore : goal.returns-in-SometimeBefore
returns-in-SometimeBefore c =
    subst (λ (l : List GroundAtom). OnOk c.add_two-in-SometimeBefore.result (c.add_two-in-SometimeBefore.new.atoms ≡ with_new c.args.atoms.now l))
    (two-mentioned (world_of c.args.tables.now) (env_of c.args.env.now) c.args.trajectory.now kind.SometimeBefore c.in-SometimeBefore.first c.in-SometimeBefore.second (ap watched c.in-SometimeBefore.is)) c.add_two-in-SometimeBefore.ensures

pub add_formula_atoms-requires-in-AtEnd : goal.add_formula_atoms-requires-in-AtEnd
add_formula_atoms-requires-in-AtEnd c = subst (λ (x : Trajectory). trajectory_count (world_of c.args.tables.now) x ≤ part_limit) c.in-AtEnd.is c.requires

pub returns-in-AtEnd : goal.returns-in-AtEnd
returns-in-AtEnd c =
    subst (λ (l : List GroundAtom). OnOk c.add_formula_atoms-in-AtEnd.result (c.add_formula_atoms-in-AtEnd.new.atoms ≡ with_new c.args.atoms.now l))
    (one-mentioned (world_of c.args.tables.now) (env_of c.args.env.now) c.args.trajectory.now kind.AtEnd c.in-AtEnd.formula zeroℚ (ap watched c.in-AtEnd.is)) c.add_formula_atoms-in-AtEnd.ensures

pub returns-in-LeftOut : goal.returns-in-LeftOut
returns-in-LeftOut c = ap (with_new c.args.atoms.now) (none-watched (world_of c.args.tables.now) (env_of c.args.env.now) c.args.trajectory.now c.in-LeftOut.is)
