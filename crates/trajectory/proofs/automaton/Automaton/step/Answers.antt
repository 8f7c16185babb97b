use Rattle.std.proofs.Common.{refl}
use Rattle.task_types.specs.Touch.{tree_facts}
use Rattle.trajectory.specs.Facts.{moment_of}
use Rattle.trajectory.proofs.Truths.{covered_first, covered_second}
use Rattle.trajectory.proofs.Verdicts.{follows_on}
use Rattle.trajectory.proofs.automaton.Automaton.step.Goals as goal

pub tree_holds-first-requires : goal.tree_holds-first-requires
tree_holds-first-requires c = covered_first (tree_facts c.args.self.now.trail.first) (tree_facts c.args.self.now.trail.second) c.args.facts.now c.requires.covered

pub tree_holds-second-requires : goal.tree_holds-second-requires
tree_holds-second-requires c = covered_second (tree_facts c.args.self.now.trail.first) (tree_facts c.args.self.now.trail.second) c.args.facts.now c.requires.covered

pub returns-clause-follows : goal.returns-clause-follows
returns-clause-follows c states time =
    follows_on c.args.self.now.trail c.args.self.now.flags c.go_on-self.result c.args.self.now.first c.keep_first-self.result c.args.self.now.taken _ (moment_of c.args.facts.now time)
    c.tree_holds-first.result c.tree_holds-second.result c.tree_holds-first.ensures c.tree_holds-second.ensures c.go_on-self.ensures c.keep_first-self.ensures refl states
