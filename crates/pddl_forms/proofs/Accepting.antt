-- What follows where nothing is wrong.
use Rattle.std.proofs.Common.{◌≡◌, refl, sym, ap, ◌∙◌, ℕ, zero, suc, ◌+◌, ◌-◌, ◌≤◌, Bool, true, false, not, List, [], ◌∷◌, ◌++◌, length, append-nil, append_assoc, arith}
use Rattle.std.specs.Prelude.{slice_get}
use Rattle.std.specs.List.{flat_map, list_any, AllByRecursion}
use Rattle.std.specs.Ordering.{MatchOrdering, is_lt}
use Rattle.std.specs.declared.cmp.Ordering.{Ordering}
use Rattle.std.specs.declared.cmp.Ordering.TheVariants.{Less, Equal, Greater}
use Rattle.basics.proofs.Bools.{not_true}
use Rattle.basics.proofs.Lists.{nothing_left, nothing_right, nothing_each}
use Rattle.rational.specs.Rational.{ℚ, zeroℚ, ◌<ℚ◌, cmp_ℚ}
use Rattle.rational.proofs.Comparisons.{cmp_ranks}
use Rattle.pddl_terms.specs.declared.faults.Kind.{Kind}
use Rattle.pddl_terms.specs.declared.faults.Kind.TheVariants as kind
use Rattle.pddl_terms.specs.declared.files.ActionDef.{ActionDef}
use Rattle.pddl_terms.specs.declared.files.Domain.{Domain}
use Rattle.pddl_terms.specs.declared.files.InitEntry.{InitEntry}
use Rattle.pddl_terms.specs.declared.files.InitEntry.TheVariants as entry
use Rattle.pddl_terms.specs.declared.files.Problem.{Problem}
use Rattle.pddl_terms.specs.declared.files.TimedLiteral.{TimedLiteral}
use Rattle.pddl_terms.specs.declared.trees.Name.{Name}
use Rattle.pddl_forms.specs.Offences.{offence, unless}
use Rattle.pddl_forms.specs.TimeCosts.{is_below}
use Rattle.pddl_forms.specs.TimedLiterals.{timed_literals, contradict, clashes_behind, entry_offences, init_offences}
use Rattle.pddl_forms.specs.Requirements.{requirements_offences}
use Rattle.pddl_forms.specs.TypedLists.{typed_offences}
use Rattle.pddl_forms.specs.Functions.{functions_of}
use Rattle.pddl_forms.specs.Forms.{facts_offences, wishes_offences, sections_offences, problem_forms_with, problem_forms}
use Rattle.pddl_forms.specs.Limits.{objects_limit, parameters_limit, names_in, past, at_most, predicate_limits, action_limits, time_cost_limits, domain_limits, problem_limits}

-- ---- where a list is empty, so are its parts

pub is_right : (right : Bool) (k : Kind) (at : ℕ) → unless right k at ≡ [] → right ≡ true
is_right true k at e = refl
is_right false k at e = let t : offence k at ∷ [] ≡ [] = e in cc

-- ---- timed literals
below : (q r : ℚ) → is_below q r ≡ true → q <ℚ r
below q r e = by (cmp_ℚ q r) (cmp_ranks q r) e
  where
    by : (o : Ordering) → MatchOrdering o (q <ℚ r) (q ≡ r) (r <ℚ q) → is_lt o ≡ true → q <ℚ r
    by Less m t = m
    by Equal m t = let f : false ≡ true = t in cc
    by Greater m t = let f : false ≡ true = t in cc

moments : (es : List InitEntry) → AllByRecursion (λ e. entry_offences e ≡ []) es → AllByRecursion (λ l. zeroℚ <ℚ l.moment) (timed_literals es)
moments [] a = tt
moments (e ∷ es) a = by e a.0 (moments es a.1)
  where
    by : (e : InitEntry) → entry_offences e ≡ [] → AllByRecursion (λ l. zeroℚ <ℚ l.moment) (timed_literals es) → AllByRecursion (λ l. zeroℚ <ℚ l.moment) (timed_literals (e ∷ es))
    by (entry.Holds a) h r = r
    by (entry.Not at fact) h r = r
    by (entry.Value at fluent value) h r = r
    by (entry.Timed l) h r = (below zeroℚ l.moment (is_right (is_below zeroℚ l.moment) kind.TilClash l.moment_at (nothing_left _ _ h)), r)
    by (entry.LeftOut at) h r = r

init_right : (d : Domain) (p : Problem) → problem_forms d p ≡ [] → init_offences p.init ≡ []
unfolding problem_forms_with
init_right d p e = nothing_right (requirements_offences p.requirements ++ typed_offences p.objects) (init_offences p.init)
    (nothing_left (facts_offences p) (wishes_offences (functions_of d) p ++ sections_offences p.left_out) e)

pub moments_lie_above : (d : Domain) (p : Problem) → problem_forms d p ≡ [] → AllByRecursion (λ l. zeroℚ <ℚ l.moment) (timed_literals p.init)
moments_lie_above d p e = moments p.init (nothing_each entry_offences p.init (nothing_left (flat_map entry_offences p.init) (clashes_behind [] (timed_literals p.init)) (init_right d p e)))

agrees : (so_far before behind : List TimedLiteral) (l : TimedLiteral) → clashes_behind so_far (before ++ l ∷ behind) ≡ [] → list_any (contradict l) (so_far ++ before) ≡ false
unfolding clashes_behind
agrees so_far [] behind l e =
    ap (list_any (contradict l)) (append-nil so_far)
    ∙ not_true (list_any (contradict l) so_far) (is_right (not (list_any (contradict l) so_far)) kind.TilClash l.at (nothing_left (unless (not (list_any (contradict l) so_far)) kind.TilClash l.at) (clashes_behind (so_far ++ l ∷ []) behind) e))
agrees so_far (m ∷ before) behind l e =
    ap (list_any (contradict l)) (sym (append_assoc so_far (m ∷ []) before))
    ∙ agrees (so_far ++ m ∷ []) before behind l (nothing_right (unless (not (list_any (contradict m) so_far)) kind.TilClash m.at) (clashes_behind (so_far ++ m ∷ []) (before ++ l ∷ behind)) e)

pub literals_agree : (d : Domain) (p : Problem) → problem_forms d p ≡ [] → (before behind : List TimedLiteral) (l : TimedLiteral) → timed_literals p.init ≡ before ++ l ∷ behind → list_any (contradict l) before ≡ false
literals_agree d p e before behind l s =
    agrees [] before behind l (sym (ap (clashes_behind []) s) ∙ nothing_right (flat_map entry_offences p.init) (clashes_behind [] (timed_literals p.init)) (init_right d p e))

-- ---- limits
few : (xs : List Name) (n : ℕ) → past (slice_get xs n) ≡ [] → length xs ≤ n
few [] n e = omega arith
few (x ∷ xs) zero e = let t : offence kind.Limit x.at ∷ [] ≡ [] = e in cc
few (x ∷ xs) (suc n) e = let r = few xs n e in omega (arith, r)

few_each : (xs : List ActionDef) → AllByRecursion (λ a. action_limits a ≡ []) xs → AllByRecursion (λ a. length (names_in a.parameters) ≤ parameters_limit) xs
few_each [] e = tt
few_each (x ∷ xs) e = (few (names_in x.parameters) parameters_limit e.0, few_each xs e.1)

pub parameters_are_few : (d : Domain) → domain_limits d ≡ [] → AllByRecursion (λ a. length (names_in a.parameters) ≤ parameters_limit) d.actions
unfolding domain_limits
parameters_are_few d e = few_each d.actions (nothing_each action_limits d.actions (nothing_right (at_most objects_limit d.constants ++ flat_map predicate_limits d.predicates) (flat_map action_limits d.actions) e))

constants_few : (d : Domain) → domain_limits d ≡ [] → length (names_in d.constants) ≤ objects_limit
unfolding domain_limits
constants_few d e = few (names_in d.constants) objects_limit
    (nothing_left (at_most objects_limit d.constants) (flat_map predicate_limits d.predicates)
    (nothing_left (at_most objects_limit d.constants ++ flat_map predicate_limits d.predicates) (flat_map action_limits d.actions) e))

objects_fit : (d : Domain) (p : Problem) → problem_limits d p ≡ [] → length (names_in p.objects) ≤ objects_limit - length (names_in d.constants)
unfolding problem_limits
objects_fit d p e = few (names_in p.objects) (objects_limit - length (names_in d.constants))
    (nothing_left (at_most (objects_limit - length (names_in d.constants)) p.objects) (flat_map time_cost_limits p.time_costs) e)

pub objects_are_few : (d : Domain) (p : Problem) → domain_limits d ≡ [] → problem_limits d p ≡ [] → length (names_in d.constants) + length (names_in p.objects) ≤ objects_limit
objects_are_few d p e f = let c = constants_few d e in let o = objects_fit d p f in omega (arith, c, o)
