-- The terms of a metric, form by form.
use Rattle.std.proofs.Common.{◌≡◌, sym, ap, ◌∙◌, ℕ, List, [], ◌++◌}
use Rattle.std.specs.List.{flat_map}
use Rattle.rational.specs.Rational.{ℚ}
use Rattle.exact_lin.specs.Forms.{LinearForm}
use Rattle.pddl_terms.specs.declared.trees.Atom.{Atom}
use Rattle.pddl_terms.specs.declared.trees.Name.{Name}
use Rattle.pddl_terms.specs.declared.trees.ExprTree.{ExprTree, fold-ExprTree, fold-roll-ExprTree}
use Rattle.pddl_terms.specs.declared.trees.ExprTree.TheOpen.{ExprTree-F}
use Rattle.pddl_terms.specs.declared.trees.ExprTree.TheVariants as expr
use Rattle.pddl_names.specs.declared.offences.Offence.{Offence}
use Rattle.pddl_forms.proofs.Least.{concat-map, least_of}
use Rattle.ground_world.specs.World.{World}
use Rattle.ground_world.specs.Expressions.{Unknowns, own_unknown, preference_unknown, cost_unknown}
use Rattle.metric_sign.specs.Signs.{sign_offences, term_layer, term_offences}

pub terms-number : (w : World) (us : Unknowns) (f : LinearForm) (at : ℕ) (q : ℚ) → term_offences w us f (expr.Number at q) ≡ []
unfolding term_offences
terms-number w us f at q =
    ap (λ t. fold-ExprTree (List Offence) (term_layer w us f) t) (sym (expr.rolls-Number at q))
    ∙ fold-roll-ExprTree (List Offence) (term_layer w us f) (ExprTree-F.Number at q)

pub terms-fluent : (w : World) (us : Unknowns) (f : LinearForm) (a : Atom) → term_offences w us f (expr.Fluent a) ≡ []
unfolding term_offences
terms-fluent w us f a =
    ap (λ t. fold-ExprTree (List Offence) (term_layer w us f) t) (sym (expr.rolls-Fluent a))
    ∙ fold-roll-ExprTree (List Offence) (term_layer w us f) (ExprTree-F.Fluent a)

pub terms-duration : (w : World) (us : Unknowns) (f : LinearForm) (at : ℕ) → term_offences w us f (expr.Duration at) ≡ []
unfolding term_offences
terms-duration w us f at =
    ap (λ t. fold-ExprTree (List Offence) (term_layer w us f) t) (sym (expr.rolls-Duration at))
    ∙ fold-roll-ExprTree (List Offence) (term_layer w us f) (ExprTree-F.Duration at)

pub terms-sum : (w : World) (us : Unknowns) (f : LinearForm) (at : ℕ) (parts : List ExprTree) → term_offences w us f (expr.Sum at parts) ≡ flat_map (term_offences w us f) parts
unfolding term_offences
terms-sum w us f at parts =
    ap (λ t. fold-ExprTree (List Offence) (term_layer w us f) t) (sym (expr.rolls-Sum at parts))
    ∙ fold-roll-ExprTree (List Offence) (term_layer w us f) (ExprTree-F.Sum at parts)
    ∙ concat-map (fold-ExprTree (List Offence) (term_layer w us f)) parts

pub terms-product : (w : World) (us : Unknowns) (f : LinearForm) (at : ℕ) (parts : List ExprTree) → term_offences w us f (expr.Product at parts) ≡ flat_map (term_offences w us f) parts
unfolding term_offences
terms-product w us f at parts =
    ap (λ t. fold-ExprTree (List Offence) (term_layer w us f) t) (sym (expr.rolls-Product at parts))
    ∙ fold-roll-ExprTree (List Offence) (term_layer w us f) (ExprTree-F.Product at parts)
    ∙ concat-map (fold-ExprTree (List Offence) (term_layer w us f)) parts

pub terms-negative : (w : World) (us : Unknowns) (f : LinearForm) (at : ℕ) (part : ExprTree) → term_offences w us f (expr.Negative at part) ≡ term_offences w us f part
unfolding term_offences
terms-negative w us f at part =
    ap (λ t. fold-ExprTree (List Offence) (term_layer w us f) t) (sym (expr.rolls-Negative at part))
    ∙ fold-roll-ExprTree (List Offence) (term_layer w us f) (ExprTree-F.Negative at part)

pub terms-difference : (w : World) (us : Unknowns) (f : LinearForm) (at : ℕ) (left right : ExprTree) → term_offences w us f (expr.Difference at left right) ≡ term_offences w us f left ++ term_offences w us f right
unfolding term_offences
terms-difference w us f at left right =
    ap (λ t. fold-ExprTree (List Offence) (term_layer w us f) t) (sym (expr.rolls-Difference at left right))
    ∙ fold-roll-ExprTree (List Offence) (term_layer w us f) (ExprTree-F.Difference at left right)

pub terms-quotient : (w : World) (us : Unknowns) (f : LinearForm) (at : ℕ) (left right : ExprTree) → term_offences w us f (expr.Quotient at left right) ≡ term_offences w us f left ++ term_offences w us f right
unfolding term_offences
terms-quotient w us f at left right =
    ap (λ t. fold-ExprTree (List Offence) (term_layer w us f) t) (sym (expr.rolls-Quotient at left right))
    ∙ fold-roll-ExprTree (List Offence) (term_layer w us f) (ExprTree-F.Quotient at left right)

pub terms-left_out : (w : World) (us : Unknowns) (f : LinearForm) (at : ℕ) → term_offences w us f (expr.LeftOut at) ≡ []
unfolding term_offences
terms-left_out w us f at =
    ap (λ t. fold-ExprTree (List Offence) (term_layer w us f) t) (sym (expr.rolls-LeftOut at))
    ∙ fold-roll-ExprTree (List Offence) (term_layer w us f) (ExprTree-F.LeftOut at)

pub terms-total_time : (w : World) (us : Unknowns) (f : LinearForm) (at : ℕ) → term_offences w us f (expr.TotalTime at) ≡ sign_offences f (own_unknown w) at
unfolding term_offences
terms-total_time w us f at =
    ap (λ t. fold-ExprTree (List Offence) (term_layer w us f) t) (sym (expr.rolls-TotalTime at))
    ∙ fold-roll-ExprTree (List Offence) (term_layer w us f) (ExprTree-F.TotalTime at)

pub terms-violated : (w : World) (us : Unknowns) (f : LinearForm) (at : ℕ) (n : Name) → term_offences w us f (expr.Violated at n) ≡ sign_offences f (preference_unknown w us n.bytes) at
unfolding term_offences
terms-violated w us f at n =
    ap (λ t. fold-ExprTree (List Offence) (term_layer w us f) t) (sym (expr.rolls-Violated at n))
    ∙ fold-roll-ExprTree (List Offence) (term_layer w us f) (ExprTree-F.Violated at n)

pub terms-time_cost : (w : World) (us : Unknowns) (f : LinearForm) (at : ℕ) (n : Name) → term_offences w us f (expr.TimeCost at n) ≡ sign_offences f (cost_unknown w us n.bytes) at
unfolding term_offences
terms-time_cost w us f at n =
    ap (λ t. fold-ExprTree (List Offence) (term_layer w us f) t) (sym (expr.rolls-TimeCost at n))
    ∙ fold-roll-ExprTree (List Offence) (term_layer w us f) (ExprTree-F.TimeCost at n)

pub ruleset term_rules = (terms-number, terms-fluent, terms-duration, terms-sum, terms-product, terms-negative, terms-difference, terms-quotient, terms-left_out, terms-total_time, terms-violated, terms-time_cost, least_of)
