use Rattle.std.proofs.Common.{subst, sym, ap, ◌≡◌, ℕ, Err, refl, arith}
use Rattle.exact_lin.specs.declared.faults.FormFault.{FormFault}
use Rattle.lp_tableau.specs.Chains.{Leads}
use Rattle.lp_tableau.specs.Meanings.{IsDictionary}
use Rattle.lp_tableau.proofs.Rays.{IsDictionary-limited}
use Rattle.lp_tableau.proofs.Choices.{Chooses-row, Chooses-column, Chooses-not_zero}
use Rattle.lp_tableau.proofs.Keeping.{IsDictionary-pivoted}
use Rattle.lp_tableau.proofs.Turning.{Leads-next, goes_on}
use Rattle.lp_sparse.specs.SparseTableaus.{dictionary_of}
use Rattle.lp_sparse.proofs.Walking.{not_made, stopped}
use Rattle.lp_sparse.proofs.walk.walk.Goals as goal

pub next_turn-requires-clause-limited : goal.next_turn-requires-clause-limited
next_turn-requires-clause-limited g c = IsDictionary-limited (dictionary_of g.S.Scalar.value c.loop-made.t) c.loop-made.invariant.0.dictionary

pub next_turn-requires-2-clause-limited : goal.next_turn-requires-2-clause-limited
next_turn-requires-2-clause-limited g c = IsDictionary-limited (dictionary_of g.S.Scalar.value c.loop-made.t) c.loop-made.invariant.0.dictionary

pub pivot-requires-clause-row : goal.pivot-requires-clause-row
pivot-requires-clause-row g c = Chooses-row g.S.Scalar.limit _ _ _ (c.in-Pivot.ensures {u = tt})

pub pivot-requires-clause-column : goal.pivot-requires-clause-column
pivot-requires-clause-column g c = Chooses-column g.S.Scalar.limit (dictionary_of g.S.Scalar.value c.loop-made.t) _ _ (c.in-Pivot.ensures {u = tt})

pub pivot-requires-clause-pivot : goal.pivot-requires-clause-pivot
pivot-requires-clause-pivot g c = Chooses-not_zero g.S.Scalar.limit _ _ _ (c.in-Pivot.ensures {u = tt})

pub loop-made-preserved : goal.loop-made-preserved
loop-made-preserved g c = (
  record {
    rows = c.pivot.ensures.rows;
    dictionary = subst IsDictionary (sym c.in-Ok.ensures.pivot.1) (IsDictionary-pivoted (dictionary_of g.S.Scalar.value c.loop-made.t) c.in-Pivot.i c.in-Pivot.j c.loop-made.invariant.0.dictionary (Chooses-row g.S.Scalar.limit _ _ _ (c.in-Pivot.ensures {u = tt})) (Chooses-column g.S.Scalar.limit _ _ _ (c.in-Pivot.ensures {u = tt})) (Chooses-not_zero g.S.Scalar.limit _ _ _ (c.in-Pivot.ensures {u = tt})));
  },
  Leads-next g.S.Scalar.limit _ c.loop-made.made (dictionary_of g.S.Scalar.value c.loop-made.t) (dictionary_of g.S.Scalar.value c.pivot.new.t) c.in-Pivot.i c.in-Pivot.j c.loop-made.invariant.1 (c.in-Pivot.ensures {u = tt}) c.in-Ok.ensures.pivot.0 c.in-Ok.ensures.pivot.1,
)

pub returns-in-Err-Wide-clause-outcome : goal.returns-in-Err-Wide-clause-outcome
returns-in-Err-Wide-clause-outcome g c = not_made g.S.Scalar.limit _ (dictionary_of g.S.Scalar.value c.loop-made.t) (dictionary_of g.S.Scalar.value c.pivot.new.t) c.args.budget c.loop-made.made c.in-Pivot.i c.in-Pivot.j c.loop-made-test.true c.loop-made.invariant.1 (c.in-Pivot.ensures {u = tt})
    (ap (dictionary_of g.S.Scalar.value) c.in-Err-Wide.ensures.err) (c.in-Err-Wide.ensures.wide (ap (λ (fault : FormFault). Err fault) c.in-Err-Wide.field-0-is))

pub returns-in-Err-Memory-clause-memory : goal.returns-in-Err-Memory-clause-memory
returns-in-Err-Memory-clause-memory g c = stopped g.S.Scalar.limit _ (dictionary_of g.S.Scalar.value c.loop-made.t) (dictionary_of g.S.Scalar.value c.pivot.new.t) c.args.budget c.loop-made.made c.in-Pivot.i c.in-Pivot.j c.loop-made-test.true c.loop-made.invariant.1 (c.in-Pivot.ensures {u = tt})
    (ap (dictionary_of g.S.Scalar.value) c.in-Err-Memory.ensures.err) c.loop-made.invariant.0.dictionary

pub returns-in-Pivot-next_turn-clause-outcome : goal.returns-in-Pivot-next_turn-clause-outcome
returns-in-Pivot-next_turn-clause-outcome g c = (
  refl,
  subst (λ (n : ℕ). Leads g.S.Scalar.limit (dictionary_of g.S.Scalar.value c.args.t.now) n (dictionary_of g.S.Scalar.value c.loop-made.t)) (let h : c.loop-made.made ≡ c.args.budget = omega arith in h) c.loop-made.invariant.1,
  goes_on g.S.Scalar.limit _ c.next_turn-2.result c.loop-made.invariant.0.dictionary c.next_turn-2.ensures c.in-Pivot-next_turn.is,
)
