use Rattle.std.proofs.Common.{◌≡◌, ◌<◌, ◌+◌, List, length, subst, sym, ap, ◌∙◌, arith}
use Rattle.rational.specs.Rational.{ℚ, zeroℚ}
use Rattle.exact_lin.proofs.Edits.{IsErrOf-other}
use Rattle.exact_lin.specs.Forms.{Terms, coefficient}
use Rattle.lp_tableau.specs.Pivots.{solved, CanSolve, CanReplaceAll}
use Rattle.lp_sparse.specs.SparseRows.{filled, terms_of, terms_of_rows, IsSparse, IsSolved}
use Rattle.lp_sparse.specs.SparseChanges.{terms_in}
use Rattle.lp_sparse.specs.SparsePivots.{IsReckoned}
use Rattle.lp_sparse.specs.SparseTableaus.{width_of, dictionary_of}
use Rattle.lp_sparse.proofs.SolvedTerms.{solved-not_zero}
use Rattle.lp_sparse.proofs.RowReads.{terms_in-read, read-is, read-row, read-at, rows-length}
use Rattle.lp_sparse.proofs.Pivoting.{pivot-defined}
use Rattle.lp_sparse.proofs.pivot.pivot.Goals as goal

pub solve_row-requires-clause-ascends : goal.solve_row-requires-clause-ascends
solve_row-requires-clause-ascends g c =
    let t = c.args.t.now in
    let h : c.args.i < length t.rows.items = omega (arith, c.requires.row, rows-length g.S.Scalar.value t) in
    (read-is g.S.Scalar.value g.S.Scalar.limit t c.requires.rows c.args.i c.deref.result.now h (terms_in-read g.S.Scalar.value t.rows.items c.args.i c.index.result.now c.deref.result.now h c.index.ensures c.deref.ensures.value)).sparse.ascends

pub solve_row-requires-clause-pivot : goal.solve_row-requires-clause-pivot
solve_row-requires-clause-pivot g c =
    let t = c.args.t.now in
    let h : c.args.i < length t.rows.items = omega (arith, c.requires.row, rows-length g.S.Scalar.value t) in
    let read = terms_in-read g.S.Scalar.value t.rows.items c.args.i c.index.result.now c.deref.result.now h c.index.ensures c.deref.ensures.value in
    λ e. c.requires.pivot (sym (read-at g.S.Scalar.value g.S.Scalar.limit t c.requires.rows c.args.i c.deref.result.now h read c.args.j (omega (arith, c.requires.column))) ∙ e)

pub reckon-requires-clause-solution : goal.reckon-requires-clause-solution
reckon-requires-clause-solution g c =
    let value = g.S.Scalar.value in
    let t = c.args.t.now in
    let n = width_of t in
    let h : c.args.i < length t.rows.items = omega (arith, c.requires.row, rows-length value t) in
    let j_in : c.args.j < length t.nonbasic.items + 1 = omega (arith, c.requires.column) in
    let read = terms_in-read value t.rows.items c.args.i c.index.result.now c.deref.result.now h c.index.ensures c.deref.ensures.value in
    let is = read-is value g.S.Scalar.limit t c.requires.rows c.args.i c.deref.result.now h read in
    subst (λ xs. IsSparse n (terms_of value xs)) (sym c.deref-in-Ok.ensures.value) (c.in-Ok.ensures.solved n j_in is).is.sparse

pub reckon-requires-clause-pivot : goal.reckon-requires-clause-pivot
reckon-requires-clause-pivot g c =
    let value = g.S.Scalar.value in
    let t = c.args.t.now in
    let n = width_of t in
    let h : c.args.i < length t.rows.items = omega (arith, c.requires.row, rows-length value t) in
    let j_in : c.args.j < length t.nonbasic.items + 1 = omega (arith, c.requires.column) in
    let read = terms_in-read value t.rows.items c.args.i c.index.result.now c.deref.result.now h c.index.ensures c.deref.ensures.value in
    let is = read-is value g.S.Scalar.limit t c.requires.rows c.args.i c.deref.result.now h read in
    let not_zero : ¬ (coefficient (terms_of value c.deref.result.now) c.args.j ≡ zeroℚ) = λ e. c.requires.pivot (sym (read-at value g.S.Scalar.limit t c.requires.rows c.args.i c.deref.result.now h read c.args.j j_in) ∙ e) in
    λ e. solved-not_zero g.S.Scalar.limit n c.args.j (terms_of value c.deref.result.now) (terms_of value c.in-Ok.solution.items) j_in not_zero (c.in-Ok.ensures.solved n j_in is) (ap (λ xs. coefficient (terms_of value xs) c.args.j) (sym c.deref-in-Ok.ensures.value) ∙ e)

pub make-requires-clause-solved : goal.make-requires-clause-solved
make-requires-clause-solved g c =
    let value = g.S.Scalar.value in
    let t = c.args.t.now in
    let n = width_of t in
    let h : c.args.i < length t.rows.items = omega (arith, c.requires.row, rows-length value t) in
    let j_in : c.args.j < length t.nonbasic.items + 1 = omega (arith, c.requires.column) in
    let read = terms_in-read value t.rows.items c.args.i c.index.result.now c.deref.result.now h c.index.ensures c.deref.ensures.value in
    let is = read-is value g.S.Scalar.limit t c.requires.rows c.args.i c.deref.result.now h read in
    subst (λ (u : Terms). IsSolved g.S.Scalar.limit n u c.args.j (terms_of value c.in-Ok.solution.items)) (sym read) (c.in-Ok.ensures.solved n j_in is)

pub returns-in-Ok-reckon-clause-pivot : goal.returns-in-Ok-reckon-clause-pivot
returns-in-Ok-reckon-clause-pivot g c =
    let value = g.S.Scalar.value in
    let t = c.args.t.now in
    let n = width_of t in
    let h : c.args.i < length t.rows.items = omega (arith, c.requires.row, rows-length value t) in
    let j_in : c.args.j < length t.nonbasic.items + 1 = omega (arith, c.requires.column) in
    let read = terms_in-read value t.rows.items c.args.i c.index.result.now c.deref.result.now h c.index.ensures c.deref.ensures.value in
    let is = read-is value g.S.Scalar.limit t c.requires.rows c.args.i c.deref.result.now h read in
    let solved_row = subst (λ (u : Terms). IsSolved g.S.Scalar.limit n u c.args.j (terms_of value c.in-Ok.solution.items)) (sym read) (c.in-Ok.ensures.solved n j_in is) in
    let reckoned = subst (λ xs. IsReckoned value g.S.Scalar.limit t (terms_of value xs) c.args.i c.args.j c.in-Ok-reckon.reckoned) c.deref-in-Ok.ensures.value c.in-Ok-reckon.ensures.reckoned in
    (pivot-defined value g.S.Scalar.limit t c.requires.rows c.args.i c.args.j (terms_of value c.in-Ok.solution.items) h solved_row c.in-Ok-reckon.reckoned reckoned, c.make.ensures.pivot)

pub returns-in-Err-reckon-clause-wide : goal.returns-in-Err-reckon-clause-wide
returns-in-Err-reckon-clause-wide g c =
    let value = g.S.Scalar.value in
    let t = c.args.t.now in
    let n = width_of t in
    let h : c.args.i < length t.rows.items = omega (arith, c.requires.row, rows-length value t) in
    let j_in : c.args.j < length t.nonbasic.items + 1 = omega (arith, c.requires.column) in
    let read = terms_in-read value t.rows.items c.args.i c.index.result.now c.deref.result.now h c.index.ensures c.deref.ensures.value in
    let is = read-is value g.S.Scalar.limit t c.requires.rows c.args.i c.deref.result.now h read in
    let solution_is = ap (λ xs. filled n (terms_of value xs)) c.deref-in-Ok.ensures.value ∙ (c.in-Ok.ensures.solved n j_in is).gives ∙ ap (λ (u : List ℚ). solved u c.args.j) (sym (read-row value g.S.Scalar.limit t c.requires.rows c.args.i c.deref.result.now h read)) in
    λ w can. c.in-Err-reckon.ensures.wide (IsErrOf-other _ _ w) (subst (λ (u : List ℚ). CanReplaceAll g.S.Scalar.limit (dictionary_of value t) u c.args.i c.args.j) (sym solution_is) can.all)

pub returns-in-Err-clause-wide : goal.returns-in-Err-clause-wide
returns-in-Err-clause-wide g c =
    let value = g.S.Scalar.value in
    let t = c.args.t.now in
    let n = width_of t in
    let h : c.args.i < length t.rows.items = omega (arith, c.requires.row, rows-length value t) in
    let j_in : c.args.j < length t.nonbasic.items + 1 = omega (arith, c.requires.column) in
    let read = terms_in-read value t.rows.items c.args.i c.index.result.now c.deref.result.now h c.index.ensures c.deref.ensures.value in
    let is = read-is value g.S.Scalar.limit t c.requires.rows c.args.i c.deref.result.now h read in
    λ w can. c.in-Err.ensures.wide (IsErrOf-other _ _ w) n j_in is (subst (λ (u : List ℚ). CanSolve g.S.Scalar.limit u c.args.j) (read-row value g.S.Scalar.limit t c.requires.rows c.args.i c.deref.result.now h read) can.leaving)
