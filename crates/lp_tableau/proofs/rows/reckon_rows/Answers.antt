use Rattle.std.proofs.Common.{◌≡◌, ◌-◌, ◌∙◌, sym, ap, subst, get_or, length, map, arith}
use Rattle.std.proofs.lemmas.List.{length-set}
use Rattle.lp_tableau.specs.RowLists.{RowFits, shown_rows}
use Rattle.lp_tableau.proofs.RowLists.{HaveWidth-put, Reckoned-write, Reckoned-all, Reckoned-fails, row_in-read, shown-length, written-items}
use Rattle.lp_tableau.proofs.rows.reckon_rows.Goals as goal
use Rattle.lp_tableau.proofs.rows.reckon_rows.Given.{Over}

row_length : (g : Over) (c : goal.In-Ok g) → length c.reckon_row.new.out ≡ length c.args.solution.now
row_length g c = c.in-Ok.ensures.length ∙ ap length c.deref.ensures.value ∙ ap (λ v. length v.items) c.index-rows-k.is ∙ c.requires.even c.loop-k.k c.index-rows-k.result (omega arith)

spare_length : (g : Over) (c : goal.In-Ok g) → length (get_or c.loop-k.spare c.spare_for-place.result c.index-spare-place.result).items ≡ length c.args.solution.now
spare_length g c = c.loop-k.invariant.even c.spare_for-place.result c.index-spare-place.result (omega (arith, c.spare_for-place.ensures, c.loop-k.invariant.place, c.loop-k.invariant.count, c.requires.some))

pub reckon_row-requires-clause-fits : goal.reckon_row-requires-clause-fits
reckon_row-requires-clause-fits g c = subst (RowFits g.S.Scalar.limit) (row_in-read g.S.Scalar.value c.args.rows.now c.loop-k.k c.index-rows-k.result c.deref.result.now (omega arith) c.index-rows-k.is c.deref.ensures.value)
    (c.requires.fits c.loop-k.k (omega (arith, shown-length g.S.Scalar.value (map g.S.Scalar.value c.args.solution.now) c.args.i c.args.j c.args.rows.now)))

pub loop-k-preserved : goal.loop-k-preserved
loop-k-preserved g c = record {
  count = length-set c.loop-k.spare c.spare_for-place.result _ ∙ c.loop-k.invariant.count;
  place = c.loop-k.invariant.place ∙ sym (length-set c.loop-k.spare c.spare_for-place.result _);
  even = HaveWidth-put g.S.Scalar.value (length c.args.solution.now) c.loop-k.spare c.spare_for-place.result _ (ap length (written-items g.S.Scalar.value (get_or c.loop-k.spare c.spare_for-place.result c.index-spare-place.result) c.reckon_row.new.out (row_length g c ∙ sym (spare_length g c))) ∙ row_length g c) c.loop-k.invariant.even;
  reckoned = Reckoned-write g.S.Scalar.value (map g.S.Scalar.value c.args.solution.now) c.args.i c.args.j g.S.Scalar.limit c.args.rows.now c.loop-k.spare c.loop-k.k c.spare_for-place.result (length c.args.spare.now - 1) c.index-rows-k.result (get_or c.loop-k.spare c.spare_for-place.result c.index-spare-place.result) c.deref.result.now c.reckon_row.new.out
      (omega arith) c.index-rows-k.is c.deref.ensures.value c.loop-k.invariant.place c.spare_for-place.ensures (row_length g c ∙ sym (spare_length g c)) c.in-Ok.ensures.cases c.loop-k.invariant.reckoned;
}

pub returns-clause-cases : goal.returns-clause-cases
returns-clause-cases g c = Reckoned-all g.S.Scalar.limit (map g.S.Scalar.value c.args.solution.now) c.args.i c.args.j (shown_rows g.S.Scalar.value c.args.rows.now) (shown_rows g.S.Scalar.value c.loop-k.spare) c.loop-k.k
    (omega (arith, shown-length g.S.Scalar.value (map g.S.Scalar.value c.args.solution.now) c.args.i c.args.j c.args.rows.now)) c.loop-k.invariant.reckoned

pub returns-in-Err-clause-cases : goal.returns-in-Err-clause-cases
returns-in-Err-clause-cases g c = Reckoned-fails g.S.Scalar.limit (map g.S.Scalar.value c.args.solution.now) c.args.i c.args.j (shown_rows g.S.Scalar.value c.args.rows.now) c.loop-k.k (map g.S.Scalar.value c.deref.result.now)
    (omega (arith, shown-length g.S.Scalar.value (map g.S.Scalar.value c.args.solution.now) c.args.i c.args.j c.args.rows.now)) (row_in-read g.S.Scalar.value c.args.rows.now c.loop-k.k c.index-rows-k.result c.deref.result.now (omega arith) c.index-rows-k.is c.deref.ensures.value) c.in-Err.ensures.cases
