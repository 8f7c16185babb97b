use Rattle.std.proofs.Common.{◌≡◌, sym, ap, subst, ◌∙◌, ℕ, min, arith, List, map, IfOk}
use Rattle.std.proofs.lemmas.Result.{IfOk-weaker}
use Rattle.pddl_terms.specs.declared.trees.Group.{Group}
use Rattle.pddl_terms.specs.declared.trees.FactForm.{FactForm}
use Rattle.ground_world.specs.Counts.{formula_count, sum_or_one, written_out}
use Rattle.ground_world.specs.Shown.{world_of}
use Rattle.ground_world.proofs.Walks as walk
use Rattle.ground_world.proofs.Capped.{sum-more, plus-capped}
use Rattle.ground_world.proofs.formula_counts.+formulas.Goals as goal

pub formula_count-returns-in-Empty : goal.formula_count-returns-in-Empty
formula_count-returns-in-Empty t c =
    let w = world_of c.args.tables.now in
    let e : formula_count w c.args.formula.now ≡ 1 = ap (formula_count w) c.in-Empty.is ∙ walk.formula_count-Empty w c.in-Empty.field-0 in omega arith

pub formula_count-returns-in-Atom : goal.formula_count-returns-in-Atom
formula_count-returns-in-Atom t c =
    let w = world_of c.args.tables.now in
    let e : formula_count w c.args.formula.now ≡ 1 = ap (formula_count w) c.in-Atom.is ∙ walk.formula_count-Atom w c.in-Atom.field-0 in omega arith

pub formula_count-returns-in-Equal : goal.formula_count-returns-in-Equal
formula_count-returns-in-Equal t c =
    let w = world_of c.args.tables.now in
    let e : formula_count w c.args.formula.now ≡ 1 = ap (formula_count w) c.in-Equal.is ∙ walk.formula_count-Equal w c.in-Equal.field-0 c.in-Equal.field-1 c.in-Equal.field-2 in omega arith

pub formula_count-returns-in-LeftOut : goal.formula_count-returns-in-LeftOut
formula_count-returns-in-LeftOut t c =
    let w = world_of c.args.tables.now in
    let e : formula_count w c.args.formula.now ≡ 1 = ap (formula_count w) c.in-LeftOut.is ∙ walk.formula_count-LeftOut w c.in-LeftOut.field-0 in omega arith

pub formula_count-returns-in-And : goal.formula_count-returns-in-And
formula_count-returns-in-And t c =
    let w = world_of c.args.tables.now in
    subst (λ n. IfOk c.formula_counts.result (λ count. count ≡ min 65537 n))
    (ap (λ (cs : List FactForm). sum_or_one (map (formula_count w) cs)) c.as_slice.ensures ∙ sym (ap (formula_count w) c.in-And.is ∙ walk.formula_count-And w c.in-And.field-0 c.in-And.parts)) c.formula_counts.ensures

pub formula_count-returns-in-Or : goal.formula_count-returns-in-Or
formula_count-returns-in-Or t c =
    let w = world_of c.args.tables.now in
    subst (λ n. IfOk c.formula_counts-in-Or.result (λ count. count ≡ min 65537 n))
    (ap (λ (cs : List FactForm). sum_or_one (map (formula_count w) cs)) c.as_slice-in-Or.ensures ∙ sym (ap (formula_count w) c.in-Or.is ∙ walk.formula_count-Or w c.in-Or.field-0 c.in-Or.parts)) c.formula_counts-in-Or.ensures

pub formula_count-returns-in-Not : goal.formula_count-returns-in-Not
formula_count-returns-in-Not t c =
    let w = world_of c.args.tables.now in
    subst (λ n. IfOk c.formula_count.result (λ count. count ≡ min 65537 n))
    (ap (formula_count w) c.get.ensures ∙ sym (ap (formula_count w) c.in-Not.is ∙ walk.formula_count-Not w c.in-Not.field-0 c.in-Not.inner)) c.formula_count.ensures

pub formula_count-returns-in_ok-second-in-Imply : goal.formula_count-returns-in_ok-second-in-Imply
formula_count-returns-in_ok-second-in-Imply t c =
    let w = world_of c.args.tables.now in
    c.min.ensures
    ∙ plus-capped c.in_ok-first-in-Imply.first c.in_ok-second-in-Imply.second (formula_count w c.in-Imply.premise) (formula_count w c.in-Imply.conclusion)
    (c.in_ok-first-in-Imply.ensures ∙ ap (λ (f : FactForm). min 65537 (formula_count w f)) c.get-given.ensures)
    (c.in_ok-second-in-Imply.ensures ∙ ap (λ (f : FactForm). min 65537 (formula_count w f)) c.get-wanted.ensures)
    ∙ ap (min 65537) (sym (ap (formula_count w) c.in-Imply.is ∙ walk.formula_count-Imply w c.in-Imply.field-0 c.in-Imply.premise c.in-Imply.conclusion))

pub formula_count-returns-in_ok-parts-in-Exists : goal.formula_count-returns-in_ok-parts-in-Exists
formula_count-returns-in_ok-parts-in-Exists t c =
    let w = world_of c.args.tables.now in
    let n = formula_count w c.in-Exists.body in
    IfOk-weaker c.written_out.result
    (λ count. (k : ℕ) → c.in_ok-parts-in-Exists.parts ≡ min 65537 k → count ≡ min 65537 (written_out w c.as_slice-in-Exists.result.now k))
    (λ count. count ≡ min 65537 (formula_count w c.args.formula.now))
    (λ count h. h n (c.in_ok-parts-in-Exists.ensures ∙ ap (λ (b : FactForm). min 65537 (formula_count w b)) c.get-in-Exists.ensures)
    ∙ ap (λ (gs : List Group). min 65537 (written_out w gs n)) c.as_slice-in-Exists.ensures
    ∙ ap (min 65537) (sym (ap (formula_count w) c.in-Exists.is ∙ walk.formula_count-Exists w c.in-Exists.field-0 c.in-Exists.groups c.in-Exists.body)))
    c.written_out.ensures

pub formula_count-returns-in_ok-parts-in-Forall : goal.formula_count-returns-in_ok-parts-in-Forall
formula_count-returns-in_ok-parts-in-Forall t c =
    let w = world_of c.args.tables.now in
    let n = formula_count w c.in-Forall.body in
    IfOk-weaker c.written_out-in-Forall.result
    (λ count. (k : ℕ) → c.in_ok-parts-in-Forall.parts ≡ min 65537 k → count ≡ min 65537 (written_out w c.as_slice-in-Forall.result.now k))
    (λ count. count ≡ min 65537 (formula_count w c.args.formula.now))
    (λ count h. h n (c.in_ok-parts-in-Forall.ensures ∙ ap (λ (b : FactForm). min 65537 (formula_count w b)) c.get-in-Forall.ensures)
    ∙ ap (λ (gs : List Group). min 65537 (written_out w gs n)) c.as_slice-in-Forall.ensures
    ∙ ap (min 65537) (sym (ap (formula_count w) c.in-Forall.is ∙ walk.formula_count-Forall w c.in-Forall.field-0 c.in-Forall.groups c.in-Forall.body)))
    c.written_out-in-Forall.ensures

pub formula_counts-loop-formula-preserved : goal.formula_counts-loop-formula-preserved
formula_counts-loop-formula-preserved t c =
    let f = formula_count (world_of c.args.tables.now) in
    c.min-sum.ensures ∙ sum-more f c.args.formulas.now c.loop-formula.formula-index c.formula-item.result c.loop-formula.sum c.in_ok-count.count
    c.loop-formula-test.true c.formula-item.is c.loop-formula.invariant c.in_ok-count.ensures
