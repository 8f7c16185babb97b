use Rattle.std.proofs.Common.{◌%◌, sym, ap, ◌∙◌, arith, eq-eqb, ne_eqb, pow-suc, add-one, refl, ◌*◌}
use Rattle.plan_text.proofs.Printing.{places_start, places_found, places_on, places_none, ten_le}
use Rattle.plan_text.proofs.print.places.Goals as goal

pub loop-places-init : goal.loop-places-init
loop-places-init c = record { power = refl; left = places_start _ }

pub returns-then-power-den-eq0-clause-places : goal.returns-then-power-den-eq0-clause-places
returns-then-power-den-eq0-clause-places c =
    let loop = c.loop-places.invariant in
    places_found _ _ c.loop-places-test.true loop.left (eq-eqb _ _ (ap (λ p. p % c.args.den) (sym loop.power) ∙ c.if-power-den-eq0.true))

pub returns-then-power-den-eq0-clause-few : goal.returns-then-power-den-eq0-clause-few
returns-then-power-den-eq0-clause-few c =
    let most = ten_le c.loop-places.places 18 (omega (arith, c.loop-places-test.true)) in
    omega (arith, c.loop-places.invariant.power)

pub loop-places-preserved : goal.loop-places-preserved
loop-places-preserved c =
    let loop = c.loop-places.invariant in
    simp add-one (record {
      power = ap (λ p. p * 10) loop.power ∙ sym (pow-suc 10 c.loop-places.places);
      left = places_on _ _ c.loop-places-test.true loop.left (ne_eqb _ _ (λ e. c.if-power-den-eq0.false (ap (λ p. p % c.args.den) loop.power ∙ e)));
    })

pub returns-clause-none : goal.returns-clause-none
returns-clause-none c = places_none _ _ (omega (arith, c.loop-places-test.false)) c.loop-places.invariant.left
