use Rattle.std.proofs.Common.{◌≤◌, sym, ap, subst, ◌∙◌, [], ◌∷◌, ◌++◌, map}
use Rattle.std.proofs.lemmas.List.{append-nil}
use Rattle.task_types.specs.declared.formulas.FactTree.{FactTree}
use Rattle.ground_world.specs.Counts.{part_limit}
use Rattle.ground_world.specs.Shown.{env_of}
use Rattle.grounder.specs.declared.preferences.PreferencePart.{PreferencePart}
use Rattle.grounder.specs.ShownGrounding.{ground_of}
use Rattle.grounder.specs.ShownPreferences.{preference_of, preference_count}
use Rattle.grounder.specs.Task.{fact_number}
use Rattle.grounder.specs.Terms.{formula, formulas_in}
use Rattle.grounder.proofs.Walks as walk
use Rattle.grounder.proofs.goal_terms.push_formula.Goals as goal

pub formula-requires : goal.formula-requires
formula-requires c =
    subst (λ (x : PreferencePart). preference_count (ground_of c.args.grounding.now).world (preference_of x) ≤ part_limit) c.in-Formula.is c.requires

pub returns-in_ok-push-in-Formula : goal.returns-in_ok-push-in-Formula
returns-in_ok-push-in-Formula c =
    let g = ground_of c.args.grounding.now in
    let f = formula g.world (fact_number g) (env_of c.args.env.now) in
    c.in_ok-push-in-Formula.ensures.ok ∙ ap (λ (t : FactTree). c.args.out.now ++ (t ∷ [])) c.in_ok-formula-in-Formula.ensures
    ∙ ap (λ (x : PreferencePart). c.args.out.now ++ map f (formulas_in (preference_of x))) (sym c.in-Formula.is)

pub returns-in_ok-push-in-SameTerms : goal.returns-in_ok-push-in-SameTerms
returns-in_ok-push-in-SameTerms c =
    let g = ground_of c.args.grounding.now in
    let f = formula g.world (fact_number g) (env_of c.args.env.now) in
    c.in_ok-push-in-SameTerms.ensures.ok
    ∙ ap (λ (t : FactTree). c.args.out.now ++ (t ∷ [])) (c.in_ok-equality_formula-in-SameTerms.ensures ∙ sym (walk.formula-Equal g.world (fact_number g) (env_of c.args.env.now) c.in-SameTerms.field-0 c.in-SameTerms.left.now c.in-SameTerms.right.now))
    ∙ ap (λ (x : PreferencePart). c.args.out.now ++ map f (formulas_in (preference_of x))) (sym c.in-SameTerms.is)

pub returns-in-SameValues : goal.returns-in-SameValues
returns-in-SameValues c =
    let g = ground_of c.args.grounding.now in
    let f = formula g.world (fact_number g) (env_of c.args.env.now) in
    sym (append-nil c.args.out.now) ∙ ap (λ (x : PreferencePart). c.args.out.now ++ map f (formulas_in (preference_of x))) (sym c.in-SameValues.is)

pub returns-in-Numbers : goal.returns-in-Numbers
returns-in-Numbers c =
    let g = ground_of c.args.grounding.now in
    let f = formula g.world (fact_number g) (env_of c.args.env.now) in
    sym (append-nil c.args.out.now) ∙ ap (λ (x : PreferencePart). c.args.out.now ++ map f (formulas_in (preference_of x))) (sym c.in-Numbers.is)
