use Rattle.std.proofs.Common.{◌≡◌, ◌≤◌, ap, subst, List, OnOk}
use Rattle.pddl_names.specs.Declarations.{with_new}
use Rattle.ground_world.specs.World.{GroundAtom}
use Rattle.ground_world.specs.Counts.{part_limit}
use Rattle.ground_world.specs.Shown.{env_of, world_of}
use Rattle.grounder.specs.declared.preferences.PreferencePart.{PreferencePart}
use Rattle.grounder.specs.ShownPreferences.{preference_of, preference_count}
use Rattle.grounder.proofs.PreferenceSteps.{mentions-Formula, mentions-SameTerms, mentions-SameValues, mentions-Numbers}
use Rattle.grounder.proofs.mentioned_atoms.add_preference_part.Goals as goal

pub add_formula_atoms-requires : goal.add_formula_atoms-requires
add_formula_atoms-requires c = subst (λ (x : PreferencePart). preference_count (world_of c.args.tables.now) (preference_of x) ≤ part_limit) c.in-Formula.is c.requires

pub returns-in-Formula : goal.returns-in-Formula
returns-in-Formula c =
    subst (λ (l : List GroundAtom). OnOk c.add_formula_atoms.result (c.add_formula_atoms.new.atoms ≡ with_new c.args.atoms.now l))
    (mentions-Formula (world_of c.args.tables.now) (env_of c.args.env.now) c.in-Formula.is) c.add_formula_atoms.ensures

pub returns-in-SameTerms : goal.returns-in-SameTerms
returns-in-SameTerms c = ap (with_new c.args.atoms.now) (mentions-SameTerms (world_of c.args.tables.now) (env_of c.args.env.now) c.in-SameTerms.is)

pub returns-in-SameValues : goal.returns-in-SameValues
returns-in-SameValues c = ap (with_new c.args.atoms.now) (mentions-SameValues (world_of c.args.tables.now) (env_of c.args.env.now) c.in-SameValues.is)

pub returns-in-Numbers : goal.returns-in-Numbers
returns-in-Numbers c = ap (with_new c.args.atoms.now) (mentions-Numbers (world_of c.args.tables.now) (env_of c.args.env.now) c.in-Numbers.is)
