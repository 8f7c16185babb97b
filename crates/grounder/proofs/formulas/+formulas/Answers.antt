use Rattle.std.proofs.Common.{◌≡◌, ◌≤◌, sym, ap, subst, ◌∙◌, List, [], ◌∷◌, ◌++◌, map, IfOk, arith}
use Rattle.task_types.specs.declared.formulas.FactTree.{FactTree}
use Rattle.pddl_terms.specs.declared.trees.Group.{Group}
use Rattle.pddl_terms.specs.declared.trees.FactForm.{FactForm}
use Rattle.ground_world.specs.Counts.{formula_count, together, written_out, part_limit}
use Rattle.ground_world.specs.World.{Env}
use Rattle.ground_world.specs.declared.binding.Bound.{Bound}
use Rattle.ground_world.specs.Shown.{env_of}
use Rattle.grounder.specs.ShownGrounding.{ground_of}
use Rattle.grounder.specs.Task.{fact_number}
use Rattle.grounder.specs.Terms.{formula}
use Rattle.grounder.proofs.Within.{and_within, or_within, not_within, imply_within, exists_within, forall_within, formula_within, body_within, few_enough}
use Rattle.grounder.proofs.FormulaSteps.{told-Empty, told-LeftOut, told-Atom, told-Equal, told-And, told-Or, told-Not, told-Imply, told-Exists, told-Forall}
use Rattle.grounder.proofs.OneByOne.{mapped_more, mapped_env, some_binding, envs-taken}
use Rattle.ground_world.proofs.Heights.{greatest}
use Rattle.grounder.proofs.TreeHeights.{below_greatest, form_height, form-And, form-Or, form-Not, form-Imply, form-Exists, form-Forall}
use Rattle.grounder.proofs.formulas.+formulas.Goals as goal

pub formula-formulas-requires : goal.formula-formulas-requires
formula-formulas-requires t c =
    let w = (ground_of c.args.grounding.now).world in
    let a = subst (λ (x : FactForm). formula_count w x ≤ part_limit) c.in-And.is c.requires in
    let h = ap form_height c.in-And.is ∙ form-And c.in-And.field-0 c.in-And.parts in
    let s = ap (λ (l : List FactForm). greatest (map form_height l)) c.as_slice.ensures in
    (omega (arith, h, s, c.decreases), subst (λ (fs : List FactForm). together (map (formula_count w) fs) ≤ part_limit) (sym c.as_slice.ensures) (and_within w c.in-And.field-0 c.in-And.parts a))

pub formula-formulas-requires-in-Or : goal.formula-formulas-requires-in-Or
formula-formulas-requires-in-Or t c =
    let w = (ground_of c.args.grounding.now).world in
    let a = subst (λ (x : FactForm). formula_count w x ≤ part_limit) c.in-Or.is c.requires in
    let h = ap form_height c.in-Or.is ∙ form-Or c.in-Or.field-0 c.in-Or.parts in
    let s = ap (λ (l : List FactForm). greatest (map form_height l)) c.as_slice-in-Or.ensures in
    (omega (arith, h, s, c.decreases), subst (λ (fs : List FactForm). together (map (formula_count w) fs) ≤ part_limit) (sym c.as_slice-in-Or.ensures) (or_within w c.in-Or.field-0 c.in-Or.parts a))

pub formula-formula-requires : goal.formula-formula-requires
formula-formula-requires t c =
    let w = (ground_of c.args.grounding.now).world in
    let a = subst (λ (x : FactForm). formula_count w x ≤ part_limit) c.in-Not.is c.requires in
    let h = ap form_height c.in-Not.is ∙ form-Not c.in-Not.field-0 c.in-Not.part in
    let s = ap form_height c.get.ensures in
    (omega (arith, h, s, c.decreases), subst (λ (f : FactForm). formula_count w f ≤ part_limit) (sym c.get.ensures) (not_within w c.in-Not.field-0 c.in-Not.part a))

pub formula-formula-requires-in-Imply : goal.formula-formula-requires-in-Imply
formula-formula-requires-in-Imply t c =
    let w = (ground_of c.args.grounding.now).world in
    let a = subst (λ (x : FactForm). formula_count w x ≤ part_limit) c.in-Imply.is c.requires in
    let b = imply_within w c.in-Imply.field-0 c.in-Imply.premise c.in-Imply.conclusion a in
    let h = ap form_height c.in-Imply.is ∙ form-Imply c.in-Imply.field-0 c.in-Imply.premise c.in-Imply.conclusion in
    let s = ap form_height c.get-in-Imply.ensures in
    (omega (arith, h, s, c.decreases), subst (λ (f : FactForm). formula_count w f ≤ part_limit) (sym c.get-in-Imply.ensures) b.0)

pub formula-formula-requires-in-Imply-2 : goal.formula-formula-requires-in-Imply-2
formula-formula-requires-in-Imply-2 t c =
    let w = (ground_of c.args.grounding.now).world in
    let a = subst (λ (x : FactForm). formula_count w x ≤ part_limit) c.in-Imply.is c.requires in
    let b = imply_within w c.in-Imply.field-0 c.in-Imply.premise c.in-Imply.conclusion a in
    let h = ap form_height c.in-Imply.is ∙ form-Imply c.in-Imply.field-0 c.in-Imply.premise c.in-Imply.conclusion in
    let s = ap form_height c.get-in-Imply-2.ensures in
    (omega (arith, h, s, c.decreases), subst (λ (f : FactForm). formula_count w f ≤ part_limit) (sym c.get-in-Imply-2.ensures) b.1)

pub formula-instances-requires : goal.formula-instances-requires
formula-instances-requires t c =
    let w = (ground_of c.args.grounding.now).world in
    let a = subst (λ (x : FactForm). formula_count w x ≤ part_limit) c.in-Exists.is c.requires in
    let b = subst (λ (gs : List Group). written_out w gs (formula_count w c.in-Exists.body) ≤ part_limit) (sym c.as_slice-in-Exists.ensures) (exists_within w c.in-Exists.field-0 c.in-Exists.groups c.in-Exists.body a) in
    let h = ap form_height c.in-Exists.is ∙ form-Exists c.in-Exists.field-0 c.in-Exists.groups c.in-Exists.body in
    let s = ap form_height c.get-in-Exists.ensures in
    (omega (arith, h, s, c.decreases), subst (λ (f : FactForm). written_out w c.as_slice-in-Exists.result.now (formula_count w f) ≤ part_limit) (sym c.get-in-Exists.ensures) b)

pub formula-instances-requires-in-Forall : goal.formula-instances-requires-in-Forall
formula-instances-requires-in-Forall t c =
    let w = (ground_of c.args.grounding.now).world in
    let a = subst (λ (x : FactForm). formula_count w x ≤ part_limit) c.in-Forall.is c.requires in
    let b = subst (λ (gs : List Group). written_out w gs (formula_count w c.in-Forall.body) ≤ part_limit) (sym c.as_slice-in-Forall.ensures) (forall_within w c.in-Forall.field-0 c.in-Forall.groups c.in-Forall.body a) in
    let h = ap form_height c.in-Forall.is ∙ form-Forall c.in-Forall.field-0 c.in-Forall.groups c.in-Forall.body in
    let s = ap form_height c.get-in-Forall.ensures in
    (omega (arith, h, s, c.decreases), subst (λ (f : FactForm). written_out w c.as_slice-in-Forall.result.now (formula_count w f) ≤ part_limit) (sym c.get-in-Forall.ensures) b)

pub formula-returns-in-Empty : goal.formula-returns-in-Empty
formula-returns-in-Empty t c = told-Empty (ground_of c.args.grounding.now).world (fact_number (ground_of c.args.grounding.now)) (env_of c.args.env.now) c.in-Empty.is

pub formula-returns-in-LeftOut : goal.formula-returns-in-LeftOut
formula-returns-in-LeftOut t c = told-LeftOut (ground_of c.args.grounding.now).world (fact_number (ground_of c.args.grounding.now)) (env_of c.args.env.now) c.in-LeftOut.is

pub formula-returns-in-Atom : goal.formula-returns-in-Atom
formula-returns-in-Atom t c =
    subst (λ (r : FactTree). IfOk c.atom_formula.result (λ (x : FactTree). x ≡ r))
    (told-Atom (ground_of c.args.grounding.now).world (fact_number (ground_of c.args.grounding.now)) (env_of c.args.env.now) c.in-Atom.is) c.atom_formula.ensures

pub formula-returns-in-Equal : goal.formula-returns-in-Equal
formula-returns-in-Equal t c =
    subst (λ (r : FactTree). IfOk c.equality_formula.result (λ (x : FactTree). x ≡ r))
    (told-Equal (ground_of c.args.grounding.now).world (fact_number (ground_of c.args.grounding.now)) (env_of c.args.env.now) c.in-Equal.is) c.equality_formula.ensures

pub formula-returns-in_ok-formulas-in-And : goal.formula-returns-in_ok-formulas-in-And
formula-returns-in_ok-formulas-in-And t c =
    told-And (ground_of c.args.grounding.now).world (fact_number (ground_of c.args.grounding.now)) (env_of c.args.env.now) c.in-And.is c.as_slice.ensures c.in_ok-formulas-in-And.ensures

pub formula-returns-in_ok-formulas-in-Or : goal.formula-returns-in_ok-formulas-in-Or
formula-returns-in_ok-formulas-in-Or t c =
    told-Or (ground_of c.args.grounding.now).world (fact_number (ground_of c.args.grounding.now)) (env_of c.args.env.now) c.in-Or.is c.as_slice-in-Or.ensures c.in_ok-formulas-in-Or.ensures

pub formula-returns-in_ok-part-in-Not : goal.formula-returns-in_ok-part-in-Not
formula-returns-in_ok-part-in-Not t c =
    subst (λ (r : FactTree). IfOk c.negation.result (λ (x : FactTree). x ≡ r))
    (told-Not (ground_of c.args.grounding.now).world (fact_number (ground_of c.args.grounding.now)) (env_of c.args.env.now) c.in-Not.is c.get.ensures c.in_ok-part-in-Not.ensures) c.negation.ensures

pub formula-returns-in_ok-conclusion-in-Imply : goal.formula-returns-in_ok-conclusion-in-Imply
formula-returns-in_ok-conclusion-in-Imply t c =
    subst (λ (r : FactTree). IfOk c.implication.result (λ (x : FactTree). x ≡ r))
    (told-Imply (ground_of c.args.grounding.now).world (fact_number (ground_of c.args.grounding.now)) (env_of c.args.env.now) c.in-Imply.is c.get-in-Imply.ensures c.get-in-Imply-2.ensures c.in_ok-premise-in-Imply.ensures c.in_ok-conclusion-in-Imply.ensures)
    c.implication.ensures

pub formula-returns-in_ok-instances-in-Exists : goal.formula-returns-in_ok-instances-in-Exists
formula-returns-in_ok-instances-in-Exists t c =
    told-Exists (ground_of c.args.grounding.now).world (fact_number (ground_of c.args.grounding.now)) (env_of c.args.env.now) c.in-Exists.is c.as_slice-in-Exists.ensures c.get-in-Exists.ensures c.in_ok-instances-in-Exists.ensures

pub formula-returns-in_ok-instances-in-Forall : goal.formula-returns-in_ok-instances-in-Forall
formula-returns-in_ok-instances-in-Forall t c =
    told-Forall (ground_of c.args.grounding.now).world (fact_number (ground_of c.args.grounding.now)) (env_of c.args.env.now) c.in-Forall.is c.as_slice-in-Forall.ensures c.get-in-Forall.ensures c.in_ok-instances-in-Forall.ensures

pub formulas-formula-requires : goal.formulas-formula-requires
formulas-formula-requires t c =
    let below = below_greatest form_height c.args.trees.now c.loop-tree.tree-index c.tree-item.result c.loop-tree-test.true c.tree-item.is in
    (omega (arith, below, c.decreases), formula_within (ground_of c.args.grounding.now).world c.args.trees.now c.loop-tree.tree-index c.tree-item.result c.loop-tree-test.true c.tree-item.is c.requires)

pub instances-formula-requires : goal.instances-formula-requires
instances-formula-requires t c =
    let w = (ground_of c.args.grounding.now).world in
    let p = some_binding w c.in_ok-quantified.quantified (env_of c.args.env.now) c.args.groups.now (c.in_ok-quantified.ensures (env_of c.args.env.now)) c.loop-number.number c.loop-number-test.true in
    (omega (arith, c.decreases), body_within w c.args.groups.now (formula_count w c.args.body.now) part_limit p c.requires)

pub instances-quantified-requires : goal.instances-quantified-requires
instances-quantified-requires t c =
    let w = (ground_of c.args.grounding.now).world in
    few_enough w c.args.groups.now (formula_count w c.args.body.now) c.requires

pub formulas-loop-tree-preserved : goal.formulas-loop-tree-preserved
formulas-loop-tree-preserved t c =
    let g = ground_of c.args.grounding.now in
    mapped_more c.args.trees.now c.loop-tree.tree-index c.tree-item.result c.loop-tree-test.true c.tree-item.is
    (formula g.world (fact_number g) (env_of c.args.env.now)) c.loop-tree.out _ c.loop-tree.invariant
    (c.in_ok-push.ensures.ok ∙ ap (λ (x : FactTree). c.loop-tree.out ++ (x ∷ [])) c.in_ok-formula.ensures)

pub instances-loop-number-preserved : goal.instances-loop-number-preserved
instances-loop-number-preserved t c =
    let g = ground_of c.args.grounding.now in
    let b = c.args.body.now in
    mapped_env c.in_ok-quantified.quantified (env_of c.args.env.now) (env_of c.in_ok-inner.inner) c.loop-number.number c.loop-number-test.true c.in_ok-inner.ensures
    (λ e. formula g.world (fact_number g) e b) _ c.loop-number.out _ c.loop-number.invariant
    (c.in_ok-formula.ensures ∙ ap (λ (l : List Bound). formula g.world (fact_number g) (env_of l) b) c.as_slice.ensures) c.in_ok-push.ensures.ok

pub instances-returns : goal.instances-returns
instances-returns t c =
    let g = ground_of c.args.grounding.now in
    c.loop-number.invariant
    ∙ ap (λ (es : List Env). map (λ e. formula g.world (fact_number g) e c.args.body.now) es)
    (envs-taken g.world c.in_ok-quantified.quantified (env_of c.args.env.now) c.args.groups.now (c.in_ok-quantified.ensures (env_of c.args.env.now)) c.loop-number.number c.loop-number-test.false)
