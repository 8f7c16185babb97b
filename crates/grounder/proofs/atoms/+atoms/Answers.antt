use Rattle.std.proofs.Common.{◌≡◌, ◌≤◌, sym, ap, subst, ◌∙◌, List, map, OnOk, arith}
use Rattle.std.specs.List.{flat_map}
use Rattle.pddl_terms.specs.declared.trees.Group.{Group}
use Rattle.pddl_terms.specs.declared.trees.FactForm.{FactForm}
use Rattle.pddl_names.specs.Declarations.{with_new}
use Rattle.pddl_names.proofs.Doubling.{with_new-append}
use Rattle.ground_world.specs.World.{Env, GroundAtom}
use Rattle.ground_world.specs.declared.binding.Bound.{Bound}
use Rattle.ground_world.specs.Counts.{formula_count, together, written_out, part_limit}
use Rattle.ground_world.specs.Shown.{env_of, world_of}
use Rattle.grounder.specs.Terms.{formula_atoms}
use Rattle.grounder.proofs.Within.{and_within, or_within, not_within, imply_within, exists_within, forall_within, formula_within, body_within, few_enough}
use Rattle.grounder.proofs.FormulaSteps.{atoms-Empty, atoms-LeftOut, atoms-Atom, atoms-Equal, atoms-And, atoms-Or, atoms-Not, atoms-Imply, atoms-Exists, atoms-Forall}
use Rattle.grounder.proofs.OneByOne.{added_more, added_env, some_binding, envs-taken}
use Rattle.ground_world.proofs.Heights.{greatest}
use Rattle.grounder.proofs.TreeHeights.{below_greatest, form_height, form-And, form-Or, form-Not, form-Imply, form-Exists, form-Forall}
use Rattle.grounder.proofs.atoms.+atoms.Goals as goal

pub add_formula_atoms-add_all_atoms-requires : goal.add_formula_atoms-add_all_atoms-requires
add_formula_atoms-add_all_atoms-requires t c =
    let w = world_of c.args.tables.now in
    let a = subst (λ (x : FactForm). formula_count w x ≤ part_limit) c.in-And.is c.requires in
    let h = ap form_height c.in-And.is ∙ form-And c.in-And.field-0 c.in-And.parts in
    let s = ap (λ (l : List FactForm). greatest (map form_height l)) c.as_slice.ensures in
    (omega (arith, h, s, c.decreases), subst (λ (fs : List FactForm). together (map (formula_count w) fs) ≤ part_limit) (sym c.as_slice.ensures) (and_within w c.in-And.field-0 c.in-And.parts a))

pub add_formula_atoms-add_all_atoms-requires-in-Or : goal.add_formula_atoms-add_all_atoms-requires-in-Or
add_formula_atoms-add_all_atoms-requires-in-Or t c =
    let w = world_of c.args.tables.now in
    let a = subst (λ (x : FactForm). formula_count w x ≤ part_limit) c.in-Or.is c.requires in
    let h = ap form_height c.in-Or.is ∙ form-Or c.in-Or.field-0 c.in-Or.parts in
    let s = ap (λ (l : List FactForm). greatest (map form_height l)) c.as_slice-in-Or.ensures in
    (omega (arith, h, s, c.decreases), subst (λ (fs : List FactForm). together (map (formula_count w) fs) ≤ part_limit) (sym c.as_slice-in-Or.ensures) (or_within w c.in-Or.field-0 c.in-Or.parts a))

pub add_formula_atoms-add_formula_atoms-requires : goal.add_formula_atoms-add_formula_atoms-requires
add_formula_atoms-add_formula_atoms-requires t c =
    let w = world_of c.args.tables.now in
    let a = subst (λ (x : FactForm). formula_count w x ≤ part_limit) c.in-Not.is c.requires in
    let h = ap form_height c.in-Not.is ∙ form-Not c.in-Not.field-0 c.in-Not.part in
    let s = ap form_height c.get.ensures in
    (omega (arith, h, s, c.decreases), subst (λ (f : FactForm). formula_count w f ≤ part_limit) (sym c.get.ensures) (not_within w c.in-Not.field-0 c.in-Not.part a))

pub add_formula_atoms-add_formula_atoms-requires-in-Imply : goal.add_formula_atoms-add_formula_atoms-requires-in-Imply
add_formula_atoms-add_formula_atoms-requires-in-Imply t c =
    let w = world_of c.args.tables.now in
    let a = subst (λ (x : FactForm). formula_count w x ≤ part_limit) c.in-Imply.is c.requires in
    let b = imply_within w c.in-Imply.field-0 c.in-Imply.premise c.in-Imply.conclusion a in
    let h = ap form_height c.in-Imply.is ∙ form-Imply c.in-Imply.field-0 c.in-Imply.premise c.in-Imply.conclusion in
    let s = ap form_height c.get-in-Imply.ensures in
    (omega (arith, h, s, c.decreases), subst (λ (f : FactForm). formula_count w f ≤ part_limit) (sym c.get-in-Imply.ensures) b.0)

pub add_formula_atoms-add_formula_atoms-requires-in-Imply-2 : goal.add_formula_atoms-add_formula_atoms-requires-in-Imply-2
add_formula_atoms-add_formula_atoms-requires-in-Imply-2 t c =
    let w = world_of c.args.tables.now in
    let a = subst (λ (x : FactForm). formula_count w x ≤ part_limit) c.in-Imply.is c.requires in
    let b = imply_within w c.in-Imply.field-0 c.in-Imply.premise c.in-Imply.conclusion a in
    let h = ap form_height c.in-Imply.is ∙ form-Imply c.in-Imply.field-0 c.in-Imply.premise c.in-Imply.conclusion in
    let s = ap form_height c.get-in-Imply-2.ensures in
    (omega (arith, h, s, c.decreases), subst (λ (f : FactForm). formula_count w f ≤ part_limit) (sym c.get-in-Imply-2.ensures) b.1)

pub add_formula_atoms-add_instance_atoms-requires : goal.add_formula_atoms-add_instance_atoms-requires
add_formula_atoms-add_instance_atoms-requires t c =
    let w = world_of c.args.tables.now in
    let a = subst (λ (x : FactForm). formula_count w x ≤ part_limit) c.in-Exists.is c.requires in
    let b = subst (λ (gs : List Group). written_out w gs (formula_count w c.in-Exists.body) ≤ part_limit) (sym c.as_slice-in-Exists.ensures) (exists_within w c.in-Exists.field-0 c.in-Exists.groups c.in-Exists.body a) in
    let h = ap form_height c.in-Exists.is ∙ form-Exists c.in-Exists.field-0 c.in-Exists.groups c.in-Exists.body in
    let s = ap form_height c.get-in-Exists.ensures in
    (omega (arith, h, s, c.decreases), subst (λ (f : FactForm). written_out w c.as_slice-in-Exists.result.now (formula_count w f) ≤ part_limit) (sym c.get-in-Exists.ensures) b)

pub add_formula_atoms-add_instance_atoms-requires-in-Forall : goal.add_formula_atoms-add_instance_atoms-requires-in-Forall
add_formula_atoms-add_instance_atoms-requires-in-Forall t c =
    let w = world_of c.args.tables.now in
    let a = subst (λ (x : FactForm). formula_count w x ≤ part_limit) c.in-Forall.is c.requires in
    let b = subst (λ (gs : List Group). written_out w gs (formula_count w c.in-Forall.body) ≤ part_limit) (sym c.as_slice-in-Forall.ensures) (forall_within w c.in-Forall.field-0 c.in-Forall.groups c.in-Forall.body a) in
    let h = ap form_height c.in-Forall.is ∙ form-Forall c.in-Forall.field-0 c.in-Forall.groups c.in-Forall.body in
    let s = ap form_height c.get-in-Forall.ensures in
    (omega (arith, h, s, c.decreases), subst (λ (f : FactForm). written_out w c.as_slice-in-Forall.result.now (formula_count w f) ≤ part_limit) (sym c.get-in-Forall.ensures) b)

pub add_formula_atoms-returns-in-Empty : goal.add_formula_atoms-returns-in-Empty
add_formula_atoms-returns-in-Empty t c = ap (with_new c.args.atoms.now) (atoms-Empty (world_of c.args.tables.now) (env_of c.args.env.now) c.in-Empty.is)

pub add_formula_atoms-returns-in-Equal : goal.add_formula_atoms-returns-in-Equal
add_formula_atoms-returns-in-Equal t c = ap (with_new c.args.atoms.now) (atoms-Equal (world_of c.args.tables.now) (env_of c.args.env.now) c.in-Equal.is)

pub add_formula_atoms-returns-in-LeftOut : goal.add_formula_atoms-returns-in-LeftOut
add_formula_atoms-returns-in-LeftOut t c = ap (with_new c.args.atoms.now) (atoms-LeftOut (world_of c.args.tables.now) (env_of c.args.env.now) c.in-LeftOut.is)

pub add_formula_atoms-returns-in-Atom : goal.add_formula_atoms-returns-in-Atom
add_formula_atoms-returns-in-Atom t c =
    subst (λ (l : List GroundAtom). OnOk c.add_atom.result (c.add_atom.new.atoms ≡ with_new c.args.atoms.now l))
    (atoms-Atom (world_of c.args.tables.now) (env_of c.args.env.now) c.in-Atom.is) c.add_atom.ensures

pub add_formula_atoms-returns-in-And : goal.add_formula_atoms-returns-in-And
add_formula_atoms-returns-in-And t c =
    subst (λ (l : List GroundAtom). OnOk c.add_all_atoms.result (c.add_all_atoms.new.atoms ≡ with_new c.args.atoms.now l))
    (atoms-And (world_of c.args.tables.now) (env_of c.args.env.now) c.in-And.is c.as_slice.ensures) c.add_all_atoms.ensures

pub add_formula_atoms-returns-in-Or : goal.add_formula_atoms-returns-in-Or
add_formula_atoms-returns-in-Or t c =
    subst (λ (l : List GroundAtom). OnOk c.add_all_atoms-in-Or.result (c.add_all_atoms-in-Or.new.atoms ≡ with_new c.args.atoms.now l))
    (atoms-Or (world_of c.args.tables.now) (env_of c.args.env.now) c.in-Or.is c.as_slice-in-Or.ensures) c.add_all_atoms-in-Or.ensures

pub add_formula_atoms-returns-in-Not : goal.add_formula_atoms-returns-in-Not
add_formula_atoms-returns-in-Not t c =
    subst (λ (l : List GroundAtom). OnOk c.add_formula_atoms.result (c.add_formula_atoms.new.atoms ≡ with_new c.args.atoms.now l))
    (atoms-Not (world_of c.args.tables.now) (env_of c.args.env.now) c.in-Not.is c.get.ensures) c.add_formula_atoms.ensures

pub add_formula_atoms-returns-in_ok-add_formula_atoms-in-Imply : goal.add_formula_atoms-returns-in_ok-add_formula_atoms-in-Imply
add_formula_atoms-returns-in_ok-add_formula_atoms-in-Imply t c =
    let f = formula_atoms (world_of c.args.tables.now) (env_of c.args.env.now) in
    subst (λ (l : List GroundAtom). OnOk c.add_formula_atoms-in-Imply-2.result (c.add_formula_atoms-in-Imply-2.new.atoms ≡ l))
    (ap (λ (l : List GroundAtom). with_new l (f c.get-in-Imply-2.result.now)) c.in_ok-add_formula_atoms-in-Imply.ensures
    ∙ sym (with_new-append c.args.atoms.now (f c.get-in-Imply.result.now) (f c.get-in-Imply-2.result.now))
    ∙ ap (with_new c.args.atoms.now) (atoms-Imply (world_of c.args.tables.now) (env_of c.args.env.now) c.in-Imply.is c.get-in-Imply.ensures c.get-in-Imply-2.ensures))
    c.add_formula_atoms-in-Imply-2.ensures

pub add_formula_atoms-returns-in-Exists : goal.add_formula_atoms-returns-in-Exists
add_formula_atoms-returns-in-Exists t c =
    subst (λ (l : List GroundAtom). OnOk c.add_instance_atoms.result (c.add_instance_atoms.new.atoms ≡ with_new c.args.atoms.now l))
    (atoms-Exists (world_of c.args.tables.now) (env_of c.args.env.now) c.in-Exists.is c.as_slice-in-Exists.ensures c.get-in-Exists.ensures) c.add_instance_atoms.ensures

pub add_formula_atoms-returns-in-Forall : goal.add_formula_atoms-returns-in-Forall
add_formula_atoms-returns-in-Forall t c =
    subst (λ (l : List GroundAtom). OnOk c.add_instance_atoms-in-Forall.result (c.add_instance_atoms-in-Forall.new.atoms ≡ with_new c.args.atoms.now l))
    (atoms-Forall (world_of c.args.tables.now) (env_of c.args.env.now) c.in-Forall.is c.as_slice-in-Forall.ensures c.get-in-Forall.ensures) c.add_instance_atoms-in-Forall.ensures

pub add_all_atoms-add_formula_atoms-requires : goal.add_all_atoms-add_formula_atoms-requires
add_all_atoms-add_formula_atoms-requires t c =
    let below = below_greatest form_height c.args.trees.now c.loop-tree.tree-index c.tree-item.result c.loop-tree-test.true c.tree-item.is in
    (omega (arith, below, c.decreases), formula_within (world_of c.args.tables.now) c.args.trees.now c.loop-tree.tree-index c.tree-item.result c.loop-tree-test.true c.tree-item.is c.requires)

pub add_all_atoms-loop-tree-preserved : goal.add_all_atoms-loop-tree-preserved
add_all_atoms-loop-tree-preserved t c =
    added_more c.args.trees.now c.loop-tree.tree-index c.tree-item.result c.loop-tree-test.true c.tree-item.is
    (formula_atoms (world_of c.args.tables.now) (env_of c.args.env.now)) c.args.atoms.now c.loop-tree.atoms c.add_formula_atoms.new.atoms c.loop-tree.invariant c.in_ok-add_formula_atoms.ensures

pub add_instance_atoms-add_formula_atoms-requires : goal.add_instance_atoms-add_formula_atoms-requires
add_instance_atoms-add_formula_atoms-requires t c =
    let w = world_of c.args.tables.now in
    let p = some_binding w c.in_ok-quantified.quantified (env_of c.args.env.now) c.args.groups.now (c.in_ok-quantified.ensures (env_of c.args.env.now)) c.loop-number.number c.loop-number-test.true in
    (omega (arith, c.decreases), body_within w c.args.groups.now (formula_count w c.args.body.now) part_limit p c.requires)

pub add_instance_atoms-quantified-requires : goal.add_instance_atoms-quantified-requires
add_instance_atoms-quantified-requires t c =
    let w = world_of c.args.tables.now in
    few_enough w c.args.groups.now (formula_count w c.args.body.now) c.requires

pub add_instance_atoms-loop-number-preserved : goal.add_instance_atoms-loop-number-preserved
add_instance_atoms-loop-number-preserved t c =
    let w = world_of c.args.tables.now in
    let b = c.args.body.now in
    added_env c.in_ok-quantified.quantified (env_of c.args.env.now) (env_of c.in_ok-inner.inner) c.loop-number.number c.loop-number-test.true c.in_ok-inner.ensures
    (λ e. formula_atoms w e b) (formula_atoms w (env_of c.as_slice.result.now) b) c.args.atoms.now c.loop-number.atoms c.add_formula_atoms.new.atoms c.loop-number.invariant
    (ap (λ (l : List Bound). formula_atoms w (env_of l) b) c.as_slice.ensures) c.in_ok-add_formula_atoms.ensures

pub add_instance_atoms-returns : goal.add_instance_atoms-returns
add_instance_atoms-returns t c =
    let w = world_of c.args.tables.now in
    c.loop-number.invariant
    ∙ ap (λ (es : List Env). with_new c.args.atoms.now (flat_map (λ e. formula_atoms w e c.args.body.now) es))
    (envs-taken w c.in_ok-quantified.quantified (env_of c.args.env.now) c.args.groups.now (c.in_ok-quantified.ensures (env_of c.args.env.now)) c.loop-number.number c.loop-number-test.false)
