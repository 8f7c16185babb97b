use Rattle.std.proofs.Common.{◌≡◌, ◌∙◌, ◌++◌, [], ◌∷◌, sym, ap, subst, length}
use Rattle.std.specs.List.{flat_map}
use Rattle.std.proofs.lemmas.List.{length-replicate}
use Rattle.rational.specs.Rational.{zeroℚ, ◌+ℚ◌}
use Rattle.exact_lin.specs.Reckonings.{Sum}
use Rattle.timed_meaning.specs.Told.{Defined, raised, raised_reckoned}
use Rattle.timed_meaning.specs.Moves.{rates_on}
use Rattle.timed_meaning.specs.Owned.{lines_of}
use Rattle.timed_meaning.proofs.Amounts.{part-fault}
use Rattle.timed_meaning.proofs.Writes.{Below}
use Rattle.timed_meaning.proofs.Advancing.{below-flat, moves, move-elapsed}
use Rattle.timed_meaning.proofs.Fitting.{fits-shifted}
use Rattle.timed_meaning.proofs.moving.advance.Goals as goal

pub shift-requires-clause-value : goal.shift-requires-clause-value
shift-requires-clause-value c =
    let entries_are : c.as_slice.result.now ≡ flat_map (rates_on c.args.parts.now) (lines_of c.args.running.now) = c.as_slice.ensures.value ∙ c.in-Ok.ensures.1 ∙ ap (λ l. l ++ flat_map (rates_on c.args.parts.now) (lines_of c.args.running.now)) c.clear.ensures.items in
    subst (λ l. Below (length c.args.values.now) l) (sym entries_are) (subst (λ k. Below k (flat_map (rates_on c.args.parts.now) (lines_of c.args.running.now))) (sym c.requires.values) (below-flat c.args.parts.now c.requires.well_made (lines_of c.args.running.now)))

pub shift-requires-clause-rate : goal.shift-requires-clause-rate
shift-requires-clause-rate c =
    let entries_are : c.as_slice.result.now ≡ flat_map (rates_on c.args.parts.now) (lines_of c.args.running.now) = c.as_slice.ensures.value ∙ c.in-Ok.ensures.1 ∙ ap (λ l. l ++ flat_map (rates_on c.args.parts.now) (lines_of c.args.running.now)) c.clear.ensures.items in
    subst (λ l. Below (length c.args.rates.now) l) (sym entries_are) (subst (λ k. Below k (flat_map (rates_on c.args.parts.now) (lines_of c.args.running.now))) (sym (ap length c.requires.rates ∙ length-replicate (length c.args.parts.now.fluents) zeroℚ)) (below-flat c.args.parts.now c.requires.well_made (lines_of c.args.running.now)))

pub returns-in-Ok-sum-clause-state : goal.returns-in-Ok-sum-clause-state
returns-in-Ok-sum-clause-state c =
    let entries_are : c.as_slice.result.now ≡ flat_map (rates_on c.args.parts.now) (lines_of c.args.running.now) = c.as_slice.ensures.value ∙ c.in-Ok.ensures.1 ∙ ap (λ l. l ++ flat_map (rates_on c.args.parts.now) (lines_of c.args.running.now)) c.clear.ensures.items in
    λ facts plan q. moves c.args.parts.now c.requires.well_made plan c.args.from c.args.to facts c.args.values.now c.requires.values c.requires.fits c.shift.result c.in-Ok-sum.elapsed c.args.rates.now c.shift.new.values c.shift.new.rates c.as_slice.result.now
    (subst (λ m. Defined (Sum c.args.to m ∷ [])) c.neg.ensures c.in-Ok-sum.ensures.0) (c.in-Ok-sum.ensures.1 ∙ ap (λ m. c.args.to +ℚ m) c.neg.ensures) c.requires.rates (entries_are ∙ ap (flat_map (rates_on c.args.parts.now)) q) c.shift.ensures

pub returns-in-Err-sum-clause-state : goal.returns-in-Err-sum-clause-state
returns-in-Err-sum-clause-state c = λ facts plan q. part-fault c.in-Err-sum.fault _ _ _ _
    (λ d. subst (λ m. Defined (Sum c.args.to m ∷ [])) (sym c.neg.ensures) (move-elapsed c.args.parts.now c.requires.well_made plan c.args.from c.args.to facts c.args.values.now c.requires.values c.requires.fits c.requires.some d)) c.in-Err-sum.ensures

pub returns-in-Ok-sum-clause-fits : goal.returns-in-Ok-sum-clause-fits
returns-in-Ok-sum-clause-fits c = fits-shifted c.shift.result (raised_reckoned c.args.rates.now c.as_slice.result.now) c.in-Ok-sum.elapsed (record { values = c.args.values.now; rates = raised c.args.rates.now c.as_slice.result.now }) c.as_slice.result.now c.shift.new.values c.shift.new.rates c.requires.fits c.shift.ensures
