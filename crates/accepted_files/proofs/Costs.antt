-- The time costs of a problem that its reader accepts rise, and those in pieces have some and not too many.
use Rattle.std.proofs.Common.{◌≡◌, refl, sym, ap, subst, ◌∙◌, ℕ, zero, suc, ◌-◌, ◌<◌, ◌≤◌, Bool, true, false, not, ◌&&◌, List, [], ◌∷◌, length, Option, Some, None, arith}
use Rattle.std.specs.Prelude.{slice_get}
use Rattle.std.specs.List.{AllByRecursion as Each, flat_map, list_all}
use Rattle.std.specs.Ordering.{is_lt}
use Rattle.std.specs.declared.cmp.Ordering.{Ordering}
use Rattle.std.specs.declared.cmp.Ordering.TheVariants.{Less, Equal, Greater}
use lib.Chars.{codes}
use Rattle.basics.proofs.Bools.{and_in}
use Rattle.basics.proofs.Naturals.{lt_in, le_in}
use Rattle.basics.proofs.Lists.{all_in, nothing_left, nothing_right, nothing_each}
use Rattle.rational.specs.Rational.{ℚ, zeroℚ, cmp_ℚ}
use Rattle.task_types.specs.Tests.{is_less, ◌<?◌, ◌≤?◌}
use Rattle.task_types.specs.WellMade.{pieces_rise}
use Rattle.pddl_terms.specs.declared.faults.Kind.TheVariants as kind
use Rattle.pddl_terms.specs.declared.files.CostCurve.{CostCurve}
use Rattle.pddl_terms.specs.declared.files.CostCurve.TheVariants as curve
use Rattle.pddl_terms.specs.declared.files.Domain.{Domain}
use Rattle.pddl_terms.specs.declared.files.PieceDef.{PieceDef}
use Rattle.pddl_terms.specs.declared.files.PieceDef.TheVariants as piece
use Rattle.pddl_terms.specs.declared.files.Problem.{Problem}
use Rattle.pddl_terms.specs.declared.files.TimeCost.{TimeCost}
use Rattle.pddl_terms.specs.declared.files.TimeCost.TheVariants as cost
use Rattle.pddl_terms.specs.Content.{Lexeme, Content, End, Word, Inner, behind, content_at}
use Rattle.pddl_terms.specs.Files.{lexed}
use Rattle.pddl_terms.specs.Sections.{section}
use Rattle.pddl_terms.specs.Words.{is_left_out}
use Rattle.pddl_forms.specs.declared.functions.Functions.{Functions}
use Rattle.pddl_forms.specs.Formulas.{formula_offences}
use Rattle.pddl_forms.specs.Functions.{functions_of}
use Rattle.pddl_forms.specs.Limits.{objects_limit, names_in, at_most, past_piece, piece_place, curve_limits, time_cost_limits, problem_limits}
use Rattle.pddl_forms.specs.Offences.{offence, unless}
use Rattle.pddl_forms.specs.TimeCosts.{is_below, is_at_most, is_rise, goes_on, pieces_from, curve_offences, time_cost_offences}
use Rattle.pddl_forms.proofs.Accepting.{is_right}
use Rattle.pddl_problem.specs.Problems.{problem_of, problem_tree}
use Rattle.pddl_problem.specs.Readings.{IsProblem}
use Rattle.pddl_problem.specs.TimeCosts.{pieces, cost_curve, cost_by, cost_list, costs, costs_of}
use Rattle.ground_world.specs.Leaves.{Cost, cost_of}
use Rattle.ground_world.specs.Leaves as leaves
use Rattle.grounder.specs.Accepted.{curve_fits}
use Rattle.grounder.specs.Task.{piece_of}
use Rattle.grounder.proofs.Each.{each_flat_map}

-- ---- a cost in pieces has some

abbrev HasPieces : CostCurve → Type 0
HasPieces (curve.Three soft hard top) = Unit {0}
HasPieces (curve.Pieces ps) = 0 < length ps

abbrev MayHavePieces : TimeCost → Type 0
MayHavePieces (cost.Named at n t c) = HasPieces c
MayHavePieces (cost.LeftOut at) = Unit {0}

curve-pieces : (x : Content) → HasPieces (cost_curve x)
unfolding cost_curve pieces
curve-pieces (End close) = tt
curve-pieces (Word w more) = tt
curve-pieces (Inner at inner more) = omega arith

cost-pieces : (left : Bool) (at : ℕ) (w : Lexeme) (x : Content) → MayHavePieces (cost_by left at w x)
cost-pieces true at w x = tt
cost-pieces false at w x = curve-pieces (behind x)

costs-pieces : (x : Content) → Each MayHavePieces (costs x)
unfolding costs
costs-pieces (End close) = tt
costs-pieces (Word w more) = costs-pieces more
costs-pieces (Inner at inner more) = (by inner, costs-pieces more)
  where
    by : (y : Content) → MayHavePieces (cost_list at y)
    by (End close) = tt
    by (Word w z) = cost-pieces (is_left_out w.bytes) at w z
    by (Inner place y z) = tt

found-pieces : (o : Option Content) → Each MayHavePieces (costs_of o)
found-pieces None = tt
found-pieces (Some x) = costs-pieces x

problem-pieces : (x : Content) → Each MayHavePieces (problem_tree x).time_costs
unfolding problem_tree problem_of
problem-pieces (Inner at inner more) = found-pieces (section (codes ":time-costs") (behind inner))
problem-pieces (End close) = found-pieces (section (codes ":time-costs") (End close))
problem-pieces (Word w more) = found-pieces (section (codes ":time-costs") more)

-- ---- the same tests in two forms

less-is : (o : Ordering) → is_less o ≡ is_lt o
less-is Less = refl
less-is Equal = refl
less-is Greater = refl

lt-is : (q r : ℚ) → (q <? r) ≡ is_below q r
lt-is q r = less-is (cmp_ℚ q r)

pub le-is : (q r : ℚ) → (q ≤? r) ≡ is_at_most q r
le-is q r = ap not (less-is (cmp_ℚ r q))

three-are : (a b c x y z : Bool) → a ≡ x → b ≡ y → c ≡ z → (a && b && c) ≡ (x && y && z)
three-are a b c x y z e f g = cc

-- ---- curves

-- pieces in which nothing is wrong rise, and none of them is left out
record Rises (moment low : ℚ) (ps : List PieceDef) : Type 0 where
  rise : pieces_rise moment low (flat_map piece_of ps) ≡ true
  many : length (flat_map piece_of ps) ≡ length ps

rises : (moment low : ℚ) (ps : List PieceDef) → pieces_from moment low ps ≡ [] → Rises moment low ps
unfolding pieces_from
rises moment low [] e = record { rise = refl; many = refl }
rises moment low (piece.Piece at until from to ∷ ps) e =
    let here = is_right (goes_on moment low until from to) kind.Nonlinear at (nothing_left (unless (goes_on moment low until from to) kind.Nonlinear at) (pieces_from until to ps) e) in
    let rest = rises until to ps (nothing_right (unless (goes_on moment low until from to) kind.Nonlinear at) (pieces_from until to ps) e) in
    let many = rest.many in
    record {
      rise = and_in _ _ (three-are (moment <? until) (low ≤? from) (from ≤? to) _ _ _ (lt-is moment until) (le-is low from) (le-is from to) ∙ here) rest.rise;
      many = omega (arith, many);
    }
rises moment low (piece.LeftOut at ∷ ps) e = let t : offence kind.LeftOut at ∷ pieces_from moment low ps ≡ [] = e in absurd cc

few : (ps : List PieceDef) (n : ℕ) → past_piece (slice_get ps n) ≡ [] → length ps ≤ n
few [] n e = omega arith
few (p ∷ ps) zero e = let t : offence kind.Limit (piece_place p) ∷ [] ≡ [] = e in absurd cc
few (p ∷ ps) (suc n) e = let r = few ps n e in omega (arith, r)

curve-fits : (at : ℕ) (c : CostCurve) → HasPieces c → curve_offences at c ≡ [] → curve_limits c ≡ [] → curve_fits c ≡ true
curve-fits at (curve.Three soft hard top) some e l =
    three-are (zeroℚ ≤? soft) (soft <? hard) (zeroℚ ≤? top) _ _ _ (le-is zeroℚ soft) (lt-is soft hard) (le-is zeroℚ top)
    ∙ is_right (is_rise soft hard top) kind.Nonlinear at e
curve-fits at (curve.Pieces ps) some e l =
    let r = rises zeroℚ zeroℚ ps e in
    let many = r.many in
    let most = few ps 16 l in
    and_in _ _ (and_in _ _ (lt_in 0 (length (flat_map piece_of ps)) (omega (arith, many, some))) (le_in (length (flat_map piece_of ps)) 16 (omega (arith, many, most)))) r.rise

abbrev Fits : Cost → Type 0
Fits c = curve_fits c.curve ≡ true

cost-fits : (fs : Functions) (c : TimeCost) → MayHavePieces c → time_cost_offences fs c ≡ [] → time_cost_limits c ≡ [] → Each Fits (cost_of c)
cost-fits fs (cost.Named at n t c) some e l = (curve-fits at c some (nothing_right (formula_offences fs t) (curve_offences at c) e) l, tt)
cost-fits fs (cost.LeftOut at) some e l = tt

each-fits : (fs : Functions) (cs : List TimeCost) → Each MayHavePieces cs → Each (λ c. time_cost_offences fs c ≡ []) cs → Each (λ c. time_cost_limits c ≡ []) cs → Each (λ c. Each Fits (cost_of c)) cs
each-fits fs [] some e l = tt
each-fits fs (c ∷ cs) some e l = (cost-fits fs c some.0 e.0 l.0, each-fits fs cs some.1 e.1 l.1)

costs-limits : (d : Domain) (p : Problem) → problem_limits d p ≡ [] → Each (λ c. time_cost_limits c ≡ []) p.time_costs
unfolding problem_limits
costs-limits d p e = nothing_each time_cost_limits p.time_costs (nothing_right (at_most (objects_limit - length (names_in d.constants)) p.objects) (flat_map time_cost_limits p.time_costs) e)

pub costs-fit : (d : Domain) (text : List ℕ) (p : Problem) → IsProblem d text p → Each (λ c. time_cost_offences (functions_of d) c ≡ []) p.time_costs → problem_limits d p ≡ []
    → list_all (λ c. curve_fits c.curve) (leaves.costs p) ≡ true
costs-fit d text p f e l =
    let some : Each MayHavePieces p.time_costs = subst (λ (t : Problem). Each MayHavePieces t.time_costs) (sym f.tree_is) (problem-pieces (content_at (lexed text f.tokens) 0)) in
    all_in (λ c. curve_fits c.curve) (leaves.costs p) (each_flat_map Fits cost_of p.time_costs (each-fits (functions_of d) p.time_costs some e (costs-limits d p l)))
