use Rattle.std.proofs.Common.{OnOk, ◌≡◌, sym, ap, ◌∙◌, subst, ◌≤◌, ◌<◌, ◌++◌, map, take, min, ℕ, not, true, List, [], ◌∷◌, arith}
use Rattle.std.specs.List.{flat_map}
use Rattle.std.proofs.lemmas.List.{append-nil, map-append, take_all}
use Rattle.pddl_terms.specs.declared.trees.CondTree.{CondTree}
use Rattle.pddl_terms.specs.declared.trees.CondTree.TheVariants as tree
use Rattle.pddl_names.specs.Declarations.{Text}
use Rattle.ground_world.specs.World.{Env, columns, variable_names, ground_atom}
use Rattle.ground_world.specs.Bindings.{numbers, choice_count, choice_at, paired}
use Rattle.ground_world.specs.Conditions.{Part, Lit, condition_parts}
use Rattle.ground_world.specs.Counts.{condition_count, part_limit}
use Rattle.ground_world.specs.Shown.{env_of, world_of, names_of, columns_of}
use Rattle.ground_world.specs.Shown.{part_of, parts_of, turned}
use Rattle.ground_world.proofs.Walks.{condition_parts-Empty, condition_parts-LeftOut, condition_parts-Atom, condition_parts-Equal, condition_parts-Compare, condition_parts-Not}
use Rattle.ground_world.proofs.PartSteps.{child_within, negated_within, choices_fit, body_within, more, more_numbers, forall-by_number, turned-twice, all_choices, parts-and}
use Rattle.ground_world.proofs.Steps.{taken}
use Rattle.ground_world.proofs.Weights.{weight, lighter_in_and, lighter_in_forall, lighter_in_not}
use Rattle.ground_world.proofs.conditions.+push_parts.Goals as goal

pub loop-part-init : goal.loop-part-init
loop-part-init t c = sym (append-nil _)

pub push_parts-requires : goal.push_parts-requires
push_parts-requires t c =
    let w = world_of c.args.tables.now in
    let a = subst (λ (x : CondTree). condition_count w x ≤ part_limit) c.in-And.is c.requires in
    let b = subst (λ (cs : List CondTree). condition_count w (tree.And c.in-And.field-0 cs) ≤ part_limit) (sym c.as_slice-part-items.ensures) a in
    ((let lower = subst (λ (cs : List CondTree). weight c.part-item.result < weight (tree.And c.in-And.field-0 cs)) c.as_slice-part-items.ensures (lighter_in_and c.in-And.field-0 c.as_slice-part-items.result.now c.loop-part.part-index c.part-item.result c.loop-part-test.true c.part-item.is) in let same = ap weight c.in-And.is in omega (arith, lower, same, c.decreases)), child_within w c.in-And.field-0 c.as_slice-part-items.result.now c.loop-part.part-index c.part-item.result c.loop-part-test.true c.part-item.is b)

pub loop-part-preserved : goal.loop-part-preserved
loop-part-preserved t c =
    let f = condition_parts (world_of c.args.tables.now) (env_of c.args.env.now) in
    let xs = c.as_slice-part-items.result.now in
    more c.args.opposite f (parts_of c.args.out.now) (parts_of c.loop-part.out) (parts_of c.push_parts.new.out) (take c.loop-part.part-index xs) c.part-item.result c.loop-part.invariant c.in_ok-push_parts-in-And.ensures
    ∙ ap (λ (l : List CondTree). parts_of c.args.out.now ++ map (turned c.args.opposite) (flat_map f l)) (sym (taken xs c.loop-part.part-index c.part-item.result c.loop-part-test.true c.part-item.is))

pub loop-number-init : goal.loop-number-init
loop-number-init t c = sym (append-nil _)

pub bound-requires-clause-count : goal.bound-requires-clause-count
bound-requires-clause-count t c =
    let w = world_of c.args.tables.now in
    let a = subst (λ (x : CondTree). condition_count w x ≤ part_limit) c.in-Forall.is c.requires in
    let cols = ap columns_of c.as_slice-slots.ensures ∙ c.in_ok-variables-in-Forall.ensures.columns ∙ ap (columns w) c.as_slice.ensures in
    let b = subst (λ (l : List (List ℕ)). choice_count l ≤ part_limit) (sym cols) (choices_fit w c.in-Forall.field-0 c.in-Forall.groups c.in-Forall.body a) in
    c.choices_within-count.ensures ∙ all_choices (choice_count (columns_of c.as_slice-slots.result.now)) b

pub push_parts-requires-in-loop-number : goal.push_parts-requires-in-loop-number
push_parts-requires-in-loop-number t c =
    let w = world_of c.args.tables.now in
    let a = subst (λ (x : CondTree). condition_count w x ≤ part_limit) c.in-Forall.is c.requires in
    let cols = ap columns_of c.as_slice-slots.ensures ∙ c.in_ok-variables-in-Forall.ensures.columns ∙ ap (columns w) c.as_slice.ensures in
    let fits = choices_fit w c.in-Forall.field-0 c.in-Forall.groups c.in-Forall.body a in
    let count = c.choices_within-count.ensures ∙ ap (λ (l : List (List ℕ)). min 65536 (choice_count l)) cols ∙ all_choices (choice_count (columns w c.in-Forall.groups)) fits in
    let k = subst (λ n. c.loop-number.number < n) count c.loop-number-test.true in
    let h = body_within w c.in-Forall.field-0 c.in-Forall.groups c.in-Forall.body c.loop-number.number k a in
    ((let lower = lighter_in_forall c.in-Forall.field-0 c.in-Forall.groups c.in-Forall.body in let same = ap weight c.in-Forall.is in let here = ap weight c.get.ensures in omega (arith, lower, same, here, c.decreases)), subst (λ (x : CondTree). condition_count w x ≤ part_limit) (sym c.get.ensures) h)

pub loop-number-preserved : goal.loop-number-preserved
loop-number-preserved t c =
    let w = world_of c.args.tables.now in
    let f : ℕ → List Part = λ k. condition_parts w (env_of c.args.env.now ++ paired (names_of c.as_slice-slots.result.now) (choice_at (columns_of c.as_slice-slots.result.now) k)) c.in-Forall.body in
    let here = ap (λ (e : Env). condition_parts w e c.get.result.now) (ap env_of c.as_slice-in-loop-number.ensures ∙ c.in_ok-inner-in-Forall.ensures) ∙ ap (λ (x : CondTree). condition_parts w (env_of c.args.env.now ++ paired (names_of c.as_slice-slots.result.now) (choice_at (columns_of c.as_slice-slots.result.now) c.loop-number.number)) x) c.get.ensures in
    more_numbers c.args.opposite f (parts_of c.args.out.now) (parts_of c.loop-number.out) (parts_of c.push_parts-in-loop-number.new.out) c.loop-number.number c.loop-number.invariant
    (c.in_ok-push_parts-in-Forall.ensures ∙ ap (λ (ps : List Part). parts_of c.loop-number.out ++ map (turned c.args.opposite) ps) here)

pub push_parts-requires-in-Not : goal.push_parts-requires-in-Not
push_parts-requires-in-Not t c =
    let w = world_of c.args.tables.now in
    let a = subst (λ (x : CondTree). condition_count w x ≤ part_limit) c.in-Not.is c.requires in
    ((let lower = lighter_in_not c.in-Not.field-0 c.in-Not.inner in let same = ap weight c.in-Not.is in let here = ap weight c.get-in-Not.ensures in omega (arith, lower, same, here, c.decreases)), subst (λ (x : CondTree). condition_count w x ≤ part_limit) (sym c.get-in-Not.ensures) (negated_within w c.in-Not.field-0 c.in-Not.inner a))

pub returns-in-Empty : goal.returns-in-Empty
returns-in-Empty t c =
    let p : condition_parts (world_of c.args.tables.now) (env_of c.args.env.now) c.args.condition.now ≡ [] = ap (condition_parts (world_of c.args.tables.now) (env_of c.args.env.now)) c.in-Empty.is ∙ condition_parts-Empty _ _ _ in
    sym (ap (λ (ps : List Part). parts_of c.args.out.now ++ map (turned c.args.opposite) ps) p ∙ append-nil _)

pub returns-after-loop-part : goal.returns-after-loop-part
returns-after-loop-part t c =
    let w = world_of c.args.tables.now in
    let e = env_of c.args.env.now in
    let whole = ap (λ (l : List CondTree). flat_map (condition_parts w e) l) (take_all c.loop-part.part-index c.as_slice-part-items.result.now c.loop-part-test.false ∙ c.as_slice-part-items.ensures)
    ∙ sym (parts-and w e c.in-And.field-0 c.in-And.parts) ∙ ap (condition_parts w e) (sym c.in-And.is) in
    c.loop-part.invariant ∙ ap (λ (ps : List Part). parts_of c.args.out.now ++ map (turned c.args.opposite) ps) whole

pub returns-after-loop-number : goal.returns-after-loop-number
returns-after-loop-number t c =
    let w = world_of c.args.tables.now in
    let e = env_of c.args.env.now in
    let names = ap names_of c.as_slice-slots.ensures ∙ c.in_ok-variables-in-Forall.ensures.names ∙ ap variable_names c.as_slice.ensures in
    let cols = ap columns_of c.as_slice-slots.ensures ∙ c.in_ok-variables-in-Forall.ensures.columns ∙ ap (columns w) c.as_slice.ensures in
    let a = subst (λ (x : CondTree). condition_count w x ≤ part_limit) c.in-Forall.is c.requires in
    let fits = choices_fit w c.in-Forall.field-0 c.in-Forall.groups c.in-Forall.body a in
    let count = c.choices_within-count.ensures ∙ ap (λ (l : List (List ℕ)). min 65536 (choice_count l)) cols ∙ all_choices (choice_count (columns w c.in-Forall.groups)) fits in
    let end : c.loop-number.number ≡ c.choices_within-count.result = omega arith in
    let whole = ap (λ n. flat_map (λ k. condition_parts w (e ++ paired (names_of c.as_slice-slots.result.now) (choice_at (columns_of c.as_slice-slots.result.now) k)) c.in-Forall.body) (numbers n)) (end ∙ count)
    ∙ ap (λ (ns : List Text). flat_map (λ k. condition_parts w (e ++ paired ns (choice_at (columns_of c.as_slice-slots.result.now) k)) c.in-Forall.body) (numbers (choice_count (columns w c.in-Forall.groups)))) names
    ∙ ap (λ (cs : List (List ℕ)). flat_map (λ k. condition_parts w (e ++ paired (variable_names c.in-Forall.groups) (choice_at cs k)) c.in-Forall.body) (numbers (choice_count (columns w c.in-Forall.groups)))) cols
    ∙ sym (forall-by_number w e c.in-Forall.field-0 c.in-Forall.groups c.in-Forall.body) ∙ ap (condition_parts w e) (sym c.in-Forall.is) in
    c.loop-number.invariant ∙ ap (λ (ps : List Part). parts_of c.args.out.now ++ map (turned c.args.opposite) ps) whole

pub returns-in_ok-push-in-Atom : goal.returns-in_ok-push-in-Atom
returns-in_ok-push-in-Atom t c =
    let w = world_of c.args.tables.now in
    let e = env_of c.args.env.now in
    let here : condition_parts w e c.args.condition.now ≡ Lit (ground_atom w e c.in-Atom.atom) true ∷ [] = ap (condition_parts w e) c.in-Atom.is ∙ condition_parts-Atom w e c.in-Atom.atom in
    ap parts_of c.in_ok-push-in-Atom.ensures.ok ∙ map-append part_of c.args.out.now (c.turned.result ∷ [])
    ∙ ap (λ (p : Part). parts_of c.args.out.now ++ (p ∷ [])) (c.turned.ensures ∙ ap (λ (a : List ℕ). turned c.args.opposite (Lit a true)) c.in_ok-atom-in-Atom.ensures)
    ∙ ap (λ (ps : List Part). parts_of c.args.out.now ++ map (turned c.args.opposite) ps) (sym here)

pub returns-in-Not : goal.returns-in-Not
returns-in-Not t c =
    let w = world_of c.args.tables.now in
    let e = env_of c.args.env.now in
    let whole = ap (λ (x : CondTree). map (turned (not c.args.opposite)) (condition_parts w e x)) c.get-in-Not.ensures
    ∙ sym (turned-twice c.args.opposite (condition_parts w e c.in-Not.inner))
    ∙ ap (map (turned c.args.opposite)) (sym (condition_parts-Not w e c.in-Not.field-0 c.in-Not.inner) ∙ ap (condition_parts w e) (sym c.in-Not.is)) in
    subst (λ (ps : List Part). OnOk c.push_parts-in-Not.result (parts_of c.push_parts-in-Not.new.out ≡ parts_of c.args.out.now ++ ps)) whole c.push_parts-in-Not.ensures

pub returns-in_ok-push-in-Equal : goal.returns-in_ok-push-in-Equal
returns-in_ok-push-in-Equal t c =
    let w = world_of c.args.tables.now in
    let e = env_of c.args.env.now in
    let here = ap (condition_parts w e) c.in-Equal.is ∙ condition_parts-Equal w e c.in-Equal.place c.in-Equal.left c.in-Equal.right in
    ap parts_of c.in_ok-push-in-Equal.ensures.ok ∙ map-append part_of c.args.out.now (c.turned-in-Equal.result ∷ [])
    ∙ ap (λ (p : Part). parts_of c.args.out.now ++ (p ∷ [])) (c.turned-in-Equal.ensures ∙ ap (turned c.args.opposite) c.in_ok-part-in-Equal.ensures)
    ∙ ap (λ (ps : List Part). parts_of c.args.out.now ++ map (turned c.args.opposite) ps) (sym here)

pub returns-in_ok-push-in-Compare : goal.returns-in_ok-push-in-Compare
returns-in_ok-push-in-Compare t c =
    let w = world_of c.args.tables.now in
    let e = env_of c.args.env.now in
    let here = ap (condition_parts w e) c.in-Compare.is ∙ condition_parts-Compare w e c.in-Compare.place c.in-Compare.order c.in-Compare.left c.in-Compare.right in
    ap parts_of c.in_ok-push-in-Compare.ensures.ok ∙ map-append part_of c.args.out.now (c.turned-in-Compare.result ∷ [])
    ∙ ap (λ (p : Part). parts_of c.args.out.now ++ (p ∷ [])) (c.turned-in-Compare.ensures ∙ ap (turned c.args.opposite) c.in_ok-part-in-Compare.ensures)
    ∙ ap (λ (ps : List Part). parts_of c.args.out.now ++ map (turned c.args.opposite) ps) (sym here)

pub returns-in-LeftOut : goal.returns-in-LeftOut
returns-in-LeftOut t c =
    let p : condition_parts (world_of c.args.tables.now) (env_of c.args.env.now) c.args.condition.now ≡ [] = ap (condition_parts (world_of c.args.tables.now) (env_of c.args.env.now)) c.in-LeftOut.is ∙ condition_parts-LeftOut _ _ _ in
    sym (ap (λ (ps : List Part). parts_of c.args.out.now ++ map (turned c.args.opposite) ps) p ∙ append-nil _)
