use Rattle.std.proofs.Common.{◌+◌, ◌++◌, take, drop, sym, subst, ap, ◌∙◌}
use Rattle.rational.specs.Rational.{ℚ}
use Rattle.exact_lin.specs.Reckoning.{CanAdd}
use Rattle.exact_lin.specs.Forms.{shown, Terms, IsGap, IsTerm, with_term}
use Rattle.exact_lin.proofs.Edits.{OnOk-always, OnOk-equal}
use Rattle.exact_lin.proofs.Results.{CanAdd-zero}
use Rattle.exact_lin.proofs.terms.add_to_terms.Goals as goal

pub returns-in-None-clause-defined : goal.returns-in-None-clause-defined
returns-in-None-clause-defined g c = let number = g.V.Id.number_of in let value = g.S.Scalar.value in
    let gap = subst (λ (ts : Terms). IsGap ts (number c.args.v) c.place_of-place.result) (ap (shown number value) c.as_slice-2.ensures.value) c.in-None.ensures in
    OnOk-always _ _ (subst (λ (q : ℚ). CanAdd g.S.Scalar.limit q (value c.args.c)) (sym gap.nothing) (CanAdd-zero g.S.Scalar.limit (value c.args.c) c.insert_term.ensures.fits))

pub returns-in-None-clause-terms : goal.returns-in-None-clause-terms
returns-in-None-clause-terms g c = let number = g.V.Id.number_of in let value = g.S.Scalar.value in
    let gap = subst (λ (ts : Terms). IsGap ts (number c.args.v) c.place_of-place.result) (ap (shown number value) c.as_slice-2.ensures.value) c.in-None.ensures in
    OnOk-equal c.insert_term.result (shown number value c.insert_term.new.terms.items) _ _ (sym (gap.increased_there (value c.args.c))) c.insert_term.ensures.terms

pub returns-in_ok-sum-in-Some-clause-terms : goal.returns-in_ok-sum-in-Some-clause-terms
returns-in_ok-sum-in-Some-clause-terms g c = let number = g.V.Id.number_of in let value = g.S.Scalar.value in let place = c.place_of-place.result in
    let ts : Terms = shown number value c.args.terms.now.items in
    let term = subst (λ (us : Terms). IsTerm us (number c.args.v) place (value c.in-Some.old)) (ap (shown number value) c.as_slice-2.ensures.value) c.in-Some.ensures in
    c.set_term.ensures ∙ ap (λ (q : ℚ). take place ts ++ with_term (number c.args.v) q (drop (place + 1) ts)) c.in_ok-sum-in-Some.ensures.1 ∙ sym (term.increased_there (value c.args.c))

pub returns-in_ok-sum-in-Some-clause-defined : goal.returns-in_ok-sum-in-Some-clause-defined
returns-in_ok-sum-in-Some-clause-defined g c = let number = g.V.Id.number_of in let value = g.S.Scalar.value in
    let term = subst (λ (us : Terms). IsTerm us (number c.args.v) c.place_of-place.result (value c.in-Some.old)) (ap (shown number value) c.as_slice-2.ensures.value) c.in-Some.ensures in
    subst (λ (q : ℚ). CanAdd g.S.Scalar.limit q (value c.args.c)) (sym term.found) c.in_ok-sum-in-Some.ensures.0

pub returns-in_err-sum-in-Some-clause-wide : goal.returns-in_err-sum-in-Some-clause-wide
returns-in_err-sum-in-Some-clause-wide g c = let number = g.V.Id.number_of in let value = g.S.Scalar.value in
    let term = subst (λ (us : Terms). IsTerm us (number c.args.v) c.place_of-place.result (value c.in-Some.old)) (ap (shown number value) c.as_slice-2.ensures.value) c.in-Some.ensures in
    λ _ h. c.in_err-sum-in-Some.ensures (subst (λ (q : ℚ). CanAdd g.S.Scalar.limit q (value c.args.c)) term.found h)
