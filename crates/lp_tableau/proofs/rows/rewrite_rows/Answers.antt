use Rattle.std.proofs.Common.{◌-◌, ◌∙◌, sym, length, map, arith}
use Rattle.std.proofs.lemmas.List.{length-set}
use Rattle.lp_tableau.specs.RowLists.{shown_rows}
use Rattle.lp_tableau.proofs.RowLists.{HaveWidth-put, Rewritten-write, Rewritten-all, Rewritten-ready, Rewritten-defined, shown-length, shown-at}
use Rattle.lp_tableau.proofs.rows.rewrite_rows.Goals as goal

pub rewrite_row-requires-clause-defined : goal.rewrite_row-requires-clause-defined
rewrite_row-requires-clause-defined g c = Rewritten-defined (map g.S.Scalar.value c.args.solution.now) c.args.i c.args.j (shown_rows g.S.Scalar.value c.args.rows.now) (shown_rows g.S.Scalar.value c.args.spare.now) g.S.Scalar.limit (shown_rows g.S.Scalar.value c.loop-k.rows) (shown_rows g.S.Scalar.value c.loop-k.spare) c.loop-k.k _
    (omega (arith, shown-length g.S.Scalar.value (map g.S.Scalar.value c.args.solution.now) c.args.i c.args.j c.args.rows.now)) (shown-at g.S.Scalar.value (map g.S.Scalar.value c.args.solution.now) c.args.i c.args.j c.loop-k.rows c.loop-k.k c.index-rows-k.result (omega (arith, c.loop-k.invariant.count))) c.loop-k.invariant.rewritten c.requires.defined

pub rewrite_row-requires-clause-ready : goal.rewrite_row-requires-clause-ready
rewrite_row-requires-clause-ready g c = Rewritten-ready (map g.S.Scalar.value c.args.solution.now) c.args.i c.args.j (shown_rows g.S.Scalar.value c.args.rows.now) (shown_rows g.S.Scalar.value c.args.spare.now) (shown_rows g.S.Scalar.value c.loop-k.rows) (shown_rows g.S.Scalar.value c.loop-k.spare) c.loop-k.k c.spare_for-place.result (length c.args.spare.now - 1) _ _
    (omega (arith, shown-length g.S.Scalar.value (map g.S.Scalar.value c.args.solution.now) c.args.i c.args.j c.args.rows.now)) (omega (arith, c.requires.some, shown-length g.S.Scalar.value (map g.S.Scalar.value c.args.solution.now) c.args.i c.args.j c.args.spare.now)) c.spare_for-place.ensures
    (shown-at g.S.Scalar.value (map g.S.Scalar.value c.args.solution.now) c.args.i c.args.j c.loop-k.rows c.loop-k.k c.index-rows-k.result (omega (arith, c.loop-k.invariant.count)))
    (shown-at g.S.Scalar.value (map g.S.Scalar.value c.args.solution.now) c.args.i c.args.j c.loop-k.spare c.spare_for-place.result c.index-spare-place.result (omega (arith, c.spare_for-place.ensures, c.loop-k.invariant.place, c.loop-k.invariant.spare_count, c.requires.some)))
    c.loop-k.invariant.rewritten c.requires.ready

pub loop-k-preserved : goal.loop-k-preserved
loop-k-preserved g c = record {
  count = length-set c.loop-k.rows c.loop-k.k _ ∙ c.loop-k.invariant.count;
  spare_count = length-set c.loop-k.spare c.spare_for-place.result _ ∙ c.loop-k.invariant.spare_count;
  place = c.loop-k.invariant.place ∙ sym (length-set c.loop-k.spare c.spare_for-place.result _);
  even = HaveWidth-put g.S.Scalar.value (length c.args.solution.now) c.loop-k.rows c.loop-k.k _ c.rewrite_row.ensures.length c.loop-k.invariant.even;
  spare_even = HaveWidth-put g.S.Scalar.value (length c.args.solution.now) c.loop-k.spare c.spare_for-place.result _ c.rewrite_row.ensures.spare_length c.loop-k.invariant.spare_even;
  rewritten = Rewritten-write g.S.Scalar.value (map g.S.Scalar.value c.args.solution.now) c.args.i c.args.j (shown_rows g.S.Scalar.value c.args.rows.now) (shown_rows g.S.Scalar.value c.args.spare.now) c.loop-k.rows c.loop-k.spare c.loop-k.k c.spare_for-place.result (length c.args.spare.now - 1) c.index-rows-k.result c.rewrite_row.new.row c.rewrite_row.new.spare
      (omega (arith, c.loop-k.invariant.count)) (omega (arith, c.requires.some, shown-length g.S.Scalar.value (map g.S.Scalar.value c.args.solution.now) c.args.i c.args.j c.args.spare.now)) c.spare_for-place.ensures c.rewrite_row.ensures.row c.loop-k.invariant.rewritten;
}

pub returns-clause-rows : goal.returns-clause-rows
returns-clause-rows g c = Rewritten-all (map g.S.Scalar.value c.args.solution.now) c.args.i c.args.j (shown_rows g.S.Scalar.value c.args.rows.now) (shown_rows g.S.Scalar.value c.args.spare.now) (shown_rows g.S.Scalar.value c.loop-k.rows) (shown_rows g.S.Scalar.value c.loop-k.spare) c.loop-k.k
    (omega (arith, shown-length g.S.Scalar.value (map g.S.Scalar.value c.args.solution.now) c.args.i c.args.j c.args.rows.now)) c.loop-k.invariant.rewritten
