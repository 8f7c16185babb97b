use Rattle.std.proofs.Common.{◌≡◌, sym, ap, ap₂, ◌∙◌, List, ◌++◌, map, ℕ}
use Rattle.pddl_names.specs.Declarations.{Text}
use Rattle.ground_world.specs.Bindings.{choice_at, paired}
use Rattle.ground_world.specs.Shown.{env_of, world_of}
use Rattle.ground_world.specs.ShownBounds.{bounds_of}
use Rattle.ground_world.specs.ShownChanges.{changes_of}
use Rattle.ground_world.specs.declared.binding.Bound.{Bound}
use Rattle.grounder.specs.Answer.{least}
use Rattle.grounder.specs.Instances as instances
use Rattle.grounder.specs.Instances.{Instance, is_kept}
use Rattle.grounder.specs.Bindings.{lower, numbered}
use Rattle.grounder.specs.ShownInstances.{all_of}
use Rattle.grounder.proofs.BindingSteps.{kept-numbered, wide-numbered, objects-numbered, filter-one}
use Rattle.grounder.proofs.judging.judge_number.Goals as goal

pub returns-clause-instances : goal.returns-clause-instances
returns-clause-instances c =
    let w = world_of c.args.tables.now in
    let a = c.args.action.now in
    let k = c.args.number in
    let o = c.args.outline.now in
    let env = c.as_slice.result.now in
    let env_is : env_of env ≡ instances.env_of (numbered w a k) =
    ap env_of c.as_slice.ensures ∙ c.in_ok-env.ensures ∙ ap₂ (λ (ns : List Text) (cs : List (List ℕ)). paired ns (choice_at cs k)) c.requires.names c.requires.columns in
    let own : Instance = record { action = a; args = map (λ (b : Bound). b.object) c.as_slice-2.result.now } in
    c.in_ok-push_kept.ensures
    ∙ ap (λ (l : List Instance). all_of c.args.found.now.instances ++ l)
    (filter-one (is_kept w) c.in_ok-finding.finding.kept (numbered w a k) own
    (c.in_ok-finding.ensures.kept ∙ kept-numbered w a k (env_of env) (bounds_of o.bounds) (changes_of o.changes) env_is c.requires.bounds c.requires.changes)
    (ap (λ (os : List ℕ). record { action = a; args = os }) (objects-numbered w a k c.as_slice-2.result.now (ap env_of (c.as_slice-2.ensures ∙ sym c.as_slice.ensures) ∙ env_is))))

pub returns-clause-wide : goal.returns-clause-wide
returns-clause-wide c =
    let w = world_of c.args.tables.now in
    let a = c.args.action.now in
    let k = c.args.number in
    let o = c.args.outline.now in
    let env = c.as_slice.result.now in
    let env_is : env_of env ≡ instances.env_of (numbered w a k) =
    ap env_of c.as_slice.ensures ∙ c.in_ok-env.ensures ∙ ap₂ (λ (ns : List Text) (cs : List (List ℕ)). paired ns (choice_at cs k)) c.requires.names c.requires.columns in
    c.lower-found.ensures ∙ ap (λ p. lower c.args.found.now.wide p)
    (c.in_ok-finding.ensures.wide ∙ ap least (wide-numbered w a k (env_of env) (bounds_of o.bounds) (changes_of o.changes) env_is c.requires.bounds c.requires.changes))
