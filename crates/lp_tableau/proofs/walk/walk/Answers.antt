use Rattle.std.proofs.Common.{subst, sym, ◌≡◌, ℕ, refl, arith}
use Rattle.lp_tableau.specs.Chains.{Leads}
use Rattle.lp_tableau.specs.Tableaus.{dictionary_of}
use Rattle.lp_tableau.specs.Meanings.{IsDictionary}
use Rattle.lp_tableau.proofs.Rays.{IsDictionary-limited}
use Rattle.lp_tableau.proofs.Choices.{Chooses-row, Chooses-column, Chooses-not_zero}
use Rattle.lp_tableau.specs.Dictionaries.{Dictionary}
use Rattle.lp_tableau.specs.RowLists.{RowsFit}
use Rattle.lp_tableau.proofs.FittingRows.{RowsFit-pivoted}
use Rattle.lp_tableau.proofs.Keeping.{IsDictionary-pivoted}
use Rattle.lp_tableau.proofs.Turning.{Leads-next, goes_on, failed}
use Rattle.lp_tableau.proofs.walk.walk.Goals as goal

pub next_turn-requires-clause-limited : goal.next_turn-requires-clause-limited
next_turn-requires-clause-limited g c = IsDictionary-limited (dictionary_of g.S.Scalar.value c.loop-made.t) c.loop-made.invariant.3

pub returns-in-Err-clause-outcome : goal.returns-in-Err-clause-outcome
returns-in-Err-clause-outcome g c = failed g.S.Scalar.value g.S.Scalar.limit _ c.args.budget c.loop-made.made c.loop-made.t c.pivot.new.t c.in-Pivot.i c.in-Pivot.j c.loop-made-test.true c.loop-made.invariant.4 (c.in-Pivot.ensures {u = tt}) c.in-Err.ensures.cases

pub loop-made-preserved : goal.loop-made-preserved
loop-made-preserved g c = (
  c.pivot.ensures.even,
  subst (λ (d : Dictionary). RowsFit g.S.Scalar.limit d.rows) (sym c.in-Ok.ensures.cases.1) (RowsFit-pivoted g.S.Scalar.limit (dictionary_of g.S.Scalar.value c.loop-made.t) c.in-Pivot.i c.in-Pivot.j c.loop-made.invariant.3.even (Chooses-row g.S.Scalar.limit _ _ _ (c.in-Pivot.ensures {u = tt})) (Chooses-column g.S.Scalar.limit _ _ _ (c.in-Pivot.ensures {u = tt})) (Chooses-not_zero g.S.Scalar.limit _ _ _ (c.in-Pivot.ensures {u = tt})) c.in-Ok.ensures.cases.0 c.loop-made.invariant.1),
  c.pivot.ensures.room,
  subst IsDictionary (sym c.in-Ok.ensures.cases.1) (IsDictionary-pivoted (dictionary_of g.S.Scalar.value c.loop-made.t) c.in-Pivot.i c.in-Pivot.j c.loop-made.invariant.3 (Chooses-row g.S.Scalar.limit _ _ _ (c.in-Pivot.ensures {u = tt})) (Chooses-column g.S.Scalar.limit _ _ _ (c.in-Pivot.ensures {u = tt})) (Chooses-not_zero g.S.Scalar.limit _ _ _ (c.in-Pivot.ensures {u = tt}))),
  Leads-next g.S.Scalar.limit _ c.loop-made.made (dictionary_of g.S.Scalar.value c.loop-made.t) (dictionary_of g.S.Scalar.value c.pivot.new.t) c.in-Pivot.i c.in-Pivot.j c.loop-made.invariant.4 (c.in-Pivot.ensures {u = tt}) c.in-Ok.ensures.cases.0 c.in-Ok.ensures.cases.1,
)

pub next_turn-requires-2-clause-limited : goal.next_turn-requires-2-clause-limited
next_turn-requires-2-clause-limited g c = IsDictionary-limited (dictionary_of g.S.Scalar.value c.loop-made.t) c.loop-made.invariant.3

pub returns-in-Pivot-next_turn-clause-outcome : goal.returns-in-Pivot-next_turn-clause-outcome
returns-in-Pivot-next_turn-clause-outcome g c = (
  refl,
  subst (λ (n : ℕ). Leads g.S.Scalar.limit (dictionary_of g.S.Scalar.value c.args.t.now) n (dictionary_of g.S.Scalar.value c.loop-made.t)) (let h : c.loop-made.made ≡ c.args.budget = omega arith in h) c.loop-made.invariant.4,
  goes_on g.S.Scalar.limit _ c.next_turn-2.result c.loop-made.invariant.3 c.next_turn-2.ensures c.in-Pivot-next_turn.is,
)
