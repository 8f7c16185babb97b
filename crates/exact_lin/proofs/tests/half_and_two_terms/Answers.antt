use Rattle.std.proofs.Common.{subst, sym, arith}
use Rattle.exact_lin.specs.Forms.{LinearForm, Covers}
use Rattle.exact_lin.proofs.FormLaws.{Covers-plus_term}
use Rattle.exact_lin.proofs.tests.half_and_two_terms.Goals as goal

pub returns-in-Ok : goal.returns-in-Ok
returns-in-Ok g c = subst (λ (f : LinearForm). Covers 4 f.terms) (sym c.in-Ok.ensures.form)
    (Covers-plus_term 4 _ _ _ _ c.in_ok-add_term-4.ensures.form (omega (arith, c.of-4.ensures))
    (Covers-plus_term 4 _ _ _ _ c.in_ok-add_term-3.ensures.form (omega (arith, c.of-3.ensures))
    (Covers-plus_term 4 _ _ _ _ c.in_ok-add_term-2.ensures.form (omega (arith, c.of-2.ensures))
    (Covers-plus_term 4 _ _ _ _ c.in_ok-add_term.ensures.form (omega (arith, c.of.ensures))
    (subst (λ (f : LinearForm). Covers 4 f.terms) (sym c.zero-form.ensures) tt)))))
