use Rattle.std.specs.Borrow.{Bor}
use Rattle.std.proofs.Common.{◌≡◌, sym, ap, subst, ◌∙◌, ℕ, List, [], ◌++◌, map, OnOk, Option}
use Rattle.std.proofs.lemmas.List.{append-nil}
use Rattle.rational.specs.Rational.{ℚ}
use Rattle.task_types.specs.declared.costs.Soft.{Soft}
use Rattle.task_types.specs.declared.costs.Soft.TheVariants as soft
use Rattle.pddl_names.specs.Declarations.{Text}
use Rattle.ground_world.specs.World.{either}
use Rattle.ground_world.specs.Leaves.{leaf_envs}
use Rattle.ground_world.specs.ShownLeaves.{text_of}
use Rattle.grounder.specs.ShownGrounding.{ground_of}
use Rattle.grounder.specs.ShownTerms.{constraint_leaf}
use Rattle.grounder.specs.Task.{trail_of, preference_weight}
use Rattle.grounder.proofs.constraint_terms.push_soft.Goals as goal

pub returns-in-Some : goal.returns-in-Some
returns-in-Some c =
    let own = λ (q : ℚ). map (λ env. soft.Trail (trail_of (ground_of c.args.grounding.now) c.args.leaf.now.trajectory.now env) q) (leaf_envs (ground_of c.args.grounding.now).world (constraint_leaf c.args.leaf.now)) in
    subst (λ (l : List Soft). OnOk c.push_preferences.result (c.push_preferences.new.out ≡ c.args.out.now ++ l))
    (ap own c.preference_weight-weight.ensures
    ∙ ap (λ (n : Option (Bor (List ℕ))). either [] (λ (m : Text). own (preference_weight (ground_of c.args.grounding.now) m)) (text_of n)) (sym c.in-Some.is)) c.push_preferences.ensures

pub returns-in-None : goal.returns-in-None
returns-in-None c =
    let own = λ (q : ℚ). map (λ env. soft.Trail (trail_of (ground_of c.args.grounding.now) c.args.leaf.now.trajectory.now env) q) (leaf_envs (ground_of c.args.grounding.now).world (constraint_leaf c.args.leaf.now)) in
    sym (append-nil c.args.out.now)
    ∙ ap (λ (n : Option (Bor (List ℕ))). c.args.out.now ++ either [] (λ (m : Text). own (preference_weight (ground_of c.args.grounding.now) m)) (text_of n)) (sym c.in-None.is)
