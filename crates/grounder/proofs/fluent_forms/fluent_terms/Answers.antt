use Rattle.std.proofs.Common.{◌≡◌, sym, ap₂, subst, ◌∙◌, ℕ, nat_lt}
use Rattle.std.specs.List.{filter}
use Rattle.std.proofs.lemmas.List.{map-id, take_all}
use Rattle.rational.specs.Rational.{zeroℚ}
use Rattle.exact_lin.specs.Forms.{AscendFrom, LinearForm, Terms}
use Rattle.grounder.proofs.FluentTerms.{below-more}
use Rattle.grounder.proofs.fluent_forms.fluent_terms.Goals as goal

-- the terms whose unknowns are below a number
kept_below : ℕ → Terms → LinearForm
kept_below n us = record { constant = zeroℚ; terms = filter (λ u. nat_lt u.0 n) us }

pub loop-term-preserved : goal.loop-term-preserved
loop-term-preserved c =
    let ts = c.terms-term-items.result.now in
    let same : ts ≡ c.args.form.now.terms = sym (map-id ts) ∙ c.terms-term-items.ensures.value in
    below-more c.len-own.result ts (subst (AscendFrom 0) (sym same) c.terms-term-items.ensures.form) c.loop-term.term-index c.term-item.result c.loop-term-test.true c.term-item.is
    zeroℚ c.loop-term.kept c.add_term_below.new.form c.loop-term.invariant c.in_ok-add_term_below.ensures

pub returns : goal.returns
unfolding kept_below
returns c =
    let ts = c.terms-term-items.result.now in
    let same : ts ≡ c.args.form.now.terms = sym (map-id ts) ∙ c.terms-term-items.ensures.value in
    c.loop-term.invariant ∙ ap₂ kept_below c.len-own.ensures (take_all c.loop-term.term-index ts c.loop-term-test.false ∙ same)
