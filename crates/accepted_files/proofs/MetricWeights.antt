-- No weight of a metric that its reader accepts is below 0, where the metric has a value.
use Rattle.std.proofs.Common.{◌≡◌, refl, sym, ap, subst, ◌∙◌, ℕ, ◌+◌, ◌≤◌, Bool, true, false, not, ◌||◌, cond, nat_lt, List, [], ◌∷◌, ◌++◌, map, Option, Some, None, is_none, if◌then◌else◌, pos, arith}
use Rattle.std.specs.List.{AllByRecursion as Each, flat_map, filter, enumerate_from}
use Rattle.std.proofs.lemmas.Int.{ints}
use Rattle.std.proofs.lemmas.Option.{same_Some}
use Rattle.basics.proofs.Bools.{or_left, or_right}
use Rattle.basics.proofs.Lists.{all_in, each_left, each_right, nothing_left, nothing_right, nothing_each}
use Rattle.rational.specs.Rational.{zeroℚ, whole}
use Rattle.rational.proofs.Inequalities.{whole_le}
use Rattle.exact_lin.specs.Forms.{LinearForm, Terms, AscendFrom, IsForm, coefficient, constant_form}
use Rattle.exact_lin.proofs.MergeTerms.{coefficient-here, coefficient-later}
use Rattle.task_types.specs.Tests.{◌≤?◌}
use Rattle.task_types.proofs.Comparisons.{not_lt_in}
use Rattle.pddl_terms.specs.declared.faults.Kind.TheVariants as kind
use Rattle.pddl_terms.specs.declared.files.Aim.{Aim}
use Rattle.pddl_terms.specs.declared.files.Aim.TheVariants.{Minimize, Maximize}
use Rattle.pddl_terms.specs.declared.files.Domain.{Domain}
use Rattle.pddl_terms.specs.declared.files.Metric.{Metric}
use Rattle.pddl_terms.specs.declared.files.Problem.{Problem}
use Rattle.pddl_terms.specs.declared.trees.Atom.{Atom}
use Rattle.pddl_terms.specs.declared.trees.ExprTree.{ExprTree, fold-ExprTree, fold-roll-ExprTree}
use Rattle.pddl_terms.specs.declared.trees.ExprTree.TheOpen.{ExprTree-F}
use Rattle.pddl_terms.specs.declared.trees.ExprTree.TheVariants as expr
use Rattle.pddl_names.specs.declared.declarations.Tables.{Tables}
use Rattle.pddl_names.specs.declared.offences.Offence.{Offence}
use Rattle.pddl_names.specs.declared.offences.Phase.{Phase}
use Rattle.pddl_names.specs.declared.offences.Phase.TheVariants.{Names, Types}
use Rattle.pddl_names.specs.Calls.{fluent_offences}
use Rattle.pddl_names.specs.Files.{problem_tables, metric_offences}
use Rattle.pddl_names.specs.Offences.{offence, least}
use Rattle.pddl_names.specs.Walks.{expression_layer, expression_offences}
use Rattle.pddl_forms.specs.Forms.{some_offences}
use Rattle.pddl_forms.specs.TimeCosts.{is_below}
use Rattle.pddl_forms.proofs.Least.{concat-map}
use Rattle.pddl_domain.specs.Readings.{IsDomain}
use Rattle.pddl_problem.specs.Readings.{IsProblem}
use Rattle.ground_world.specs.World.{World, either, GroundAtom, ground_fluent, number_in, symbol}
use Rattle.ground_world.specs.Expressions.{reckoned, mentioned, own_unknown, preference_unknown, cost_unknown, unknown, fluent_form}
use Rattle.ground_world.specs.FirstState.{world, signatures_of, all_atoms, has_value, unvalued_places, no_places}
use Rattle.ground_world.specs.Leaves.{unknowns, toward, metric_value, minimised_value}
use Rattle.ground_world.proofs.Walks as walks
use Rattle.grounder.specs.Accepted.{is_binding, weighs_right}
use Rattle.grounder.proofs.Columns.{bound-passes}
use Rattle.grounder.proofs.Each.{each_weaker, each_both, flat_map_each}
use Rattle.grounder.proofs.FormFacts.{IfForm, reckoned-ascends, negative-ascends}
use Rattle.grounder.proofs.Placing.{number-within, filter-has}
use Rattle.metric_sign.specs.Signs.{sign_offences, term_offences, valued_offences, metric_sign_offences}
use Rattle.metric_sign.proofs.Terms as signs
use Rattle.accepted_files.specs.Clean.{IsClean, TypesAreNamed}
use Rattle.accepted_files.proofs.Atoms.{problem-knows, binds-nothing, fluent-binds}
use Rattle.accepted_files.proofs.Cleaning.{files_clean, signs_right}
use Rattle.accepted_files.proofs.Costs.{le-is}
use Rattle.accepted_files.proofs.FileNames.{file_names, types_named}
use Rattle.accepted_files.proofs.Files.{metric_forms, metric_names, metric_types}
use Rattle.accepted_files.proofs.MetricParts.{metric_parts}
use Rattle.accepted_files.proofs.NamedUnknowns.{Within, IfWithin, Told, negative-within, told-number, told-fluent, told-sum, told-product, told-negative, told-difference, told-quotient, told-left_out, told-total_time, told-violated, told-time_cost}

-- ---- what is wrong with names or types in an expression, form by form

module _ (p : Phase) (w : Tables) where
  expression-fluent : (a : Atom) → expression_offences p w [] (expr.Fluent a) ≡ fluent_offences p w [] a
  unfolding expression_offences
  expression-fluent a = ap (λ t. fold-ExprTree (List Offence) (expression_layer p w []) t) (sym (expr.rolls-Fluent a)) ∙ fold-roll-ExprTree (List Offence) (expression_layer p w []) (ExprTree-F.Fluent a)

  expression-sum : (a : ℕ) (b : List ExprTree) → expression_offences p w [] (expr.Sum a b) ≡ flat_map (expression_offences p w []) b
  unfolding expression_offences
  expression-sum a b = ap (λ t. fold-ExprTree (List Offence) (expression_layer p w []) t) (sym (expr.rolls-Sum a b)) ∙ fold-roll-ExprTree (List Offence) (expression_layer p w []) (ExprTree-F.Sum a b)
      ∙ concat-map (fold-ExprTree (List Offence) (expression_layer p w [])) b

  expression-product : (a : ℕ) (b : List ExprTree) → expression_offences p w [] (expr.Product a b) ≡ flat_map (expression_offences p w []) b
  unfolding expression_offences
  expression-product a b = ap (λ t. fold-ExprTree (List Offence) (expression_layer p w []) t) (sym (expr.rolls-Product a b)) ∙ fold-roll-ExprTree (List Offence) (expression_layer p w []) (ExprTree-F.Product a b)
      ∙ concat-map (fold-ExprTree (List Offence) (expression_layer p w [])) b

  expression-negative : (a : ℕ) (b : ExprTree) → expression_offences p w [] (expr.Negative a b) ≡ expression_offences p w [] b
  unfolding expression_offences
  expression-negative a b = ap (λ t. fold-ExprTree (List Offence) (expression_layer p w []) t) (sym (expr.rolls-Negative a b)) ∙ fold-roll-ExprTree (List Offence) (expression_layer p w []) (ExprTree-F.Negative a b)

  expression-difference : (a : ℕ) (b c : ExprTree) → expression_offences p w [] (expr.Difference a b c) ≡ expression_offences p w [] b ++ expression_offences p w [] c
  unfolding expression_offences
  expression-difference a b c = ap (λ t. fold-ExprTree (List Offence) (expression_layer p w []) t) (sym (expr.rolls-Difference a b c)) ∙ fold-roll-ExprTree (List Offence) (expression_layer p w []) (ExprTree-F.Difference a b c)

  expression-quotient : (a : ℕ) (b c : ExprTree) → expression_offences p w [] (expr.Quotient a b c) ≡ expression_offences p w [] b ++ expression_offences p w [] c
  unfolding expression_offences
  expression-quotient a b c = ap (λ t. fold-ExprTree (List Offence) (expression_layer p w []) t) (sym (expr.rolls-Quotient a b c)) ∙ fold-roll-ExprTree (List Offence) (expression_layer p w []) (ExprTree-F.Quotient a b c)

-- ---- small facts

valued-each : (w : World) (fs : List (ℕ × GroundAtom)) → no_places (unvalued_places w fs) ≡ true → Each (λ f. has_value w f.1 ≡ true) fs
valued-each w [] e = tt
valued-each w (f ∷ fs) e = by (has_value w f.1) refl e (valued-each w fs)
  where
    rest : List (ℕ × GroundAtom)
    rest = filter (λ g. not (has_value w g.1)) fs

    by : (b : Bool) → has_value w f.1 ≡ b → no_places (map (λ g. g.0) (cond (not b) (f ∷ rest) rest)) ≡ true
        → (no_places (map (λ g. g.0) rest) ≡ true → Each (λ g. has_value w g.1 ≡ true) fs) → Each (λ g. has_value w g.1 ≡ true) (f ∷ fs)
    by true h k others = (h, others k)
    by false h k others = let c : false ≡ true = k in absurd cc

sign-right : (f : LinearForm) (v at : ℕ) → sign_offences f v at ≡ [] → not (is_below (coefficient f.terms v) zeroℚ) ≡ true
sign-right f v at e = by (is_below (coefficient f.terms v) zeroℚ) e
  where
    by : (b : Bool) → (if b then offence kind.MetricSign at ∷ [] else []) ≡ [] → not b ≡ true
    by true h = let c : offence kind.MetricSign at ∷ [] ≡ [] = h in absurd cc
    by false h = refl

ascending-above : (low : ℕ) (ts : Terms) → AscendFrom low ts → Each (λ u. low ≤ u.0) ts
ascending-above low [] a = tt
ascending-above low (t ∷ ts) a =
    let here : low ≤ t.0 = a.0 in
    (here, each_weaker (λ u. t.0 + 1 ≤ u.0) (λ u. low ≤ u.0) (λ u h. omega (arith, here, h)) ts (ascending-above (t.0 + 1) ts a.2))

-- the coefficient of a term's id is the term's
coefficients-own : (low : ℕ) (ts : Terms) → AscendFrom low ts → Each (λ u. coefficient ts u.0 ≡ u.1) ts
coefficients-own low [] a = tt
coefficients-own low (t ∷ ts) a = (
  coefficient-here t.0 t ts refl,
  each_weaker (λ u. (t.0 + 1 ≤ u.0) × (coefficient ts u.0 ≡ u.1)) (λ u. coefficient (t ∷ ts) u.0 ≡ u.1)
      (λ u h. let l = h.0 in coefficient-later u.0 t ts (omega (arith, l)) ∙ h.1) ts
      (each_both (λ u. t.0 + 1 ≤ u.0) (λ u. coefficient ts u.0 ≡ u.1) ts (ascending-above (t.0 + 1) ts a.2) (coefficients-own (t.0 + 1) ts a.2)),
)

module _ (d : Domain) (p : Problem) (named : TypesAreNamed d) (f : LinearForm) where
  -- an unknown is a fluent, or its coefficient isn't below 0
  abbrev IsRight : ℕ → Type 0
  IsRight v = (nat_lt v (own_unknown (world d p)) || not (is_below (coefficient f.terms v) zeroℚ)) ≡ true

  abbrev HaveValues : List (ℕ × GroundAtom) → Type 0
  HaveValues gs = Each (λ g. has_value (world d p) g.1 ≡ true) gs

  -- nothing is wrong with the expression, and its fluents have values
  record IsAsked (e : ExprTree) : Type 0 where
    signs : term_offences (world d p) (unknowns d p) f e ≡ []
    names : expression_offences Names (problem_tables d p) [] e ≡ []
    types : expression_offences Types (problem_tables d p) [] e ≡ []
    valued : HaveValues (mentioned (world d p) [] e)

  abbrev AreValued : ExprTree → Type 0
  AreValued e = HaveValues (mentioned (world d p) [] e)

  abbrev Holds : ExprTree → Type 0
  Holds e = Told IsRight (world d p) (unknowns d p) [] IsAsked e

  each-asked : (es : List ExprTree) → Each (λ e. term_offences (world d p) (unknowns d p) f e ≡ []) es → Each (λ e. expression_offences Names (problem_tables d p) [] e ≡ []) es
      → Each (λ e. expression_offences Types (problem_tables d p) [] e ≡ []) es → Each AreValued es → Each IsAsked es
  each-asked [] s n t v = tt
  each-asked (e ∷ es) s n t v = (record { signs = s.0; names = n.0; types = t.0; valued = v.0 }, each-asked es s.1 n.1 t.1 v.1)

  sum-asked : (a : ℕ) (b : List ExprTree) → IsAsked (expr.Sum a b) → Each IsAsked b
  sum-asked a b t = each-asked b
      (nothing_each (term_offences (world d p) (unknowns d p) f) b (sym (signs.terms-sum (world d p) (unknowns d p) f a b) ∙ t.signs))
      (nothing_each (expression_offences Names (problem_tables d p) []) b (sym (expression-sum Names (problem_tables d p) a b) ∙ t.names))
      (nothing_each (expression_offences Types (problem_tables d p) []) b (sym (expression-sum Types (problem_tables d p) a b) ∙ t.types))
      (flat_map_each (λ g. has_value (world d p) g.1 ≡ true) (mentioned (world d p) []) b
      (subst HaveValues (walks.mentioned-Sum (world d p) [] a b ∙ concat-map (mentioned (world d p) []) b) t.valued))

  product-asked : (a : ℕ) (b : List ExprTree) → IsAsked (expr.Product a b) → Each IsAsked b
  product-asked a b t = each-asked b
      (nothing_each (term_offences (world d p) (unknowns d p) f) b (sym (signs.terms-product (world d p) (unknowns d p) f a b) ∙ t.signs))
      (nothing_each (expression_offences Names (problem_tables d p) []) b (sym (expression-product Names (problem_tables d p) a b) ∙ t.names))
      (nothing_each (expression_offences Types (problem_tables d p) []) b (sym (expression-product Types (problem_tables d p) a b) ∙ t.types))
      (flat_map_each (λ g. has_value (world d p) g.1 ≡ true) (mentioned (world d p) []) b
      (subst HaveValues (walks.mentioned-Product (world d p) [] a b ∙ concat-map (mentioned (world d p) []) b) t.valued))

  negative-asked : (a : ℕ) (b : ExprTree) → IsAsked (expr.Negative a b) → IsAsked b
  negative-asked a b t = record {
    signs = sym (signs.terms-negative (world d p) (unknowns d p) f a b) ∙ t.signs;
    names = sym (expression-negative Names (problem_tables d p) a b) ∙ t.names;
    types = sym (expression-negative Types (problem_tables d p) a b) ∙ t.types;
    valued = subst HaveValues (walks.mentioned-Negative (world d p) [] a b) t.valued;
  }

  -- two expressions of which nothing together is wrong
  two-asked : (b c : ExprTree) → term_offences (world d p) (unknowns d p) f b ++ term_offences (world d p) (unknowns d p) f c ≡ []
      → expression_offences Names (problem_tables d p) [] b ++ expression_offences Names (problem_tables d p) [] c ≡ []
      → expression_offences Types (problem_tables d p) [] b ++ expression_offences Types (problem_tables d p) [] c ≡ []
      → HaveValues (mentioned (world d p) [] b ++ mentioned (world d p) [] c) → IsAsked b × IsAsked c
  two-asked b c s n t v = (
    record {
      signs = nothing_left (term_offences (world d p) (unknowns d p) f b) (term_offences (world d p) (unknowns d p) f c) s;
      names = nothing_left (expression_offences Names (problem_tables d p) [] b) (expression_offences Names (problem_tables d p) [] c) n;
      types = nothing_left (expression_offences Types (problem_tables d p) [] b) (expression_offences Types (problem_tables d p) [] c) t;
      valued = each_left (λ g. has_value (world d p) g.1 ≡ true) (mentioned (world d p) [] b) (mentioned (world d p) [] c) v;
    },
    record {
      signs = nothing_right (term_offences (world d p) (unknowns d p) f b) (term_offences (world d p) (unknowns d p) f c) s;
      names = nothing_right (expression_offences Names (problem_tables d p) [] b) (expression_offences Names (problem_tables d p) [] c) n;
      types = nothing_right (expression_offences Types (problem_tables d p) [] b) (expression_offences Types (problem_tables d p) [] c) t;
      valued = each_right (λ g. has_value (world d p) g.1 ≡ true) (mentioned (world d p) [] b) (mentioned (world d p) [] c) v;
    },
  )

  difference-asked : (a : ℕ) (b c : ExprTree) → IsAsked (expr.Difference a b c) → IsAsked b × IsAsked c
  difference-asked a b c t = two-asked b c
      (sym (signs.terms-difference (world d p) (unknowns d p) f a b c) ∙ t.signs)
      (sym (expression-difference Names (problem_tables d p) a b c) ∙ t.names)
      (sym (expression-difference Types (problem_tables d p) a b c) ∙ t.types)
      (subst HaveValues (walks.mentioned-Difference (world d p) [] a b c) t.valued)

  quotient-asked : (a : ℕ) (b c : ExprTree) → IsAsked (expr.Quotient a b c) → IsAsked b × IsAsked c
  quotient-asked a b c t = two-asked b c
      (sym (signs.terms-quotient (world d p) (unknowns d p) f a b c) ∙ t.signs)
      (sym (expression-quotient Names (problem_tables d p) a b c) ∙ t.names)
      (sym (expression-quotient Types (problem_tables d p) a b c) ∙ t.types)
      (subst HaveValues (walks.mentioned-Quotient (world d p) [] a b c) t.valued)

  -- a fluent with a value, of a function that changes, is one of the fluents
  fluent-below : (g : GroundAtom) → is_binding (world d p) d.functions g ≡ true → has_value (world d p) g ≡ true → (world d p).is_static_function (symbol g) ≡ false
      → nat_lt (number_in (world d p).fluents g) (own_unknown (world d p)) ≡ true
  unfolding world
  fluent-below g b h s = number-within (world d p).fluents g (filter-has (λ x. has_value (world d p) x) (all_atoms (world d p) (λ x. not ((world d p).is_static_function x)) d.functions) g h
      (bound-passes (world d p) (λ x. not ((world d p).is_static_function x)) (enumerate_from 0 (signatures_of d.functions)) g (ap not s) b))

  fluent-right : (a : Atom) → IsAsked (expr.Fluent a) → Within IsRight (fluent_form (world d p) (ground_fluent (world d p) [] a))
  fluent-right a t = by ((world d p).is_static_function (symbol (ground_fluent (world d p) [] a))) refl
    where
      binding : is_binding (world d p) d.functions (ground_fluent (world d p) [] a) ≡ true
      binding = fluent-binds d p named (problem_tables d p) (problem-knows d p) [] [] (binds-nothing d p named (problem_tables d p) (problem-knows d p)) a
          (sym (expression-fluent Names (problem_tables d p) a) ∙ t.names) (sym (expression-fluent Types (problem_tables d p) a) ∙ t.types)

      has : HaveValues ((a.at, ground_fluent (world d p) [] a) ∷ [])
      has = subst HaveValues (walks.mentioned-Fluent (world d p) [] a) t.valued

      by : (b : Bool) → (world d p).is_static_function (symbol (ground_fluent (world d p) [] a)) ≡ b
          → Within IsRight (if b then constant_form (either zeroℚ (λ q. q) ((world d p).value_of (ground_fluent (world d p) [] a))) else unknown (number_in (world d p).fluents (ground_fluent (world d p) [] a)))
      by true s = tt
      by false s = (or_left _ _ (fluent-below (ground_fluent (world d p) [] a) binding has.0 s), tt)

  unknown-right : (v at : ℕ) → sign_offences f v at ≡ [] → IsRight v
  unknown-right v at e = or_right (nat_lt v (own_unknown (world d p))) (not (is_below (coefficient f.terms v) zeroℚ)) (sign-right f v at e)

  abbrev MetricHolds : Option Metric → Type 0
  MetricHolds None = Unit {0}
  MetricHolds (Some m) = Holds m.expression

  metric-right : (text : List ℕ) → IsProblem d text p → MetricHolds p.metric
  metric-right text g = metric_parts Holds
      (told-number IsRight (world d p) (unknowns d p) [] IsAsked)
      (λ a. told-fluent IsRight (world d p) (unknowns d p) [] IsAsked a (fluent-right a))
      (λ a b. told-sum IsRight (world d p) (unknowns d p) [] IsAsked a b (sum-asked a b))
      (λ a b. told-product IsRight (world d p) (unknowns d p) [] IsAsked a b (product-asked a b))
      (λ a b. told-negative IsRight (world d p) (unknowns d p) [] IsAsked a b (negative-asked a b))
      (λ a b c. told-difference IsRight (world d p) (unknowns d p) [] IsAsked a b c (difference-asked a b c))
      (λ a b c. told-quotient IsRight (world d p) (unknowns d p) [] IsAsked a b c (quotient-asked a b c))
      (told-left_out IsRight (world d p) (unknowns d p) [] IsAsked)
      (λ a. told-total_time IsRight (world d p) (unknowns d p) [] IsAsked a (λ t. unknown-right (own_unknown (world d p)) a (sym (signs.terms-total_time (world d p) (unknowns d p) f a) ∙ t.signs)))
      (λ a n. told-violated IsRight (world d p) (unknowns d p) [] IsAsked a n (λ t. unknown-right (preference_unknown (world d p) (unknowns d p) n.bytes) a (sym (signs.terms-violated (world d p) (unknowns d p) f a n) ∙ t.signs)))
      (λ a n. told-time_cost IsRight (world d p) (unknowns d p) [] IsAsked a n (λ t. unknown-right (cost_unknown (world d p) (unknowns d p) n.bytes) a (sym (signs.terms-time_cost (world d p) (unknowns d p) f a n) ∙ t.signs)))
      d text p g

  toward-within : (aim : Aim) (g : LinearForm) → Within IsRight g → Within IsRight (toward aim g)
  toward-within Minimize g h = h
  toward-within Maximize g h = negative-within IsRight g h

  abbrev Weighs : LinearForm → Type 0
  Weighs g = weighs_right (world d p) g ≡ true

  all-weigh : IsForm f → Within IsRight f → Weighs f
  all-weigh a h = all_in (λ t. nat_lt t.0 (own_unknown (world d p)) || (zeroℚ ≤? t.1)) f.terms
      (each_weaker (λ t. IsRight t.0 × (coefficient f.terms t.0 ≡ t.1)) (λ t. (nat_lt t.0 (own_unknown (world d p)) || (zeroℚ ≤? t.1)) ≡ true)
      (λ t k. ap (λ b. nat_lt t.0 (own_unknown (world d p)) || b) (le-is zeroℚ t.1 ∙ ap (λ q. not (is_below q zeroℚ)) (sym k.1)) ∙ k.0) f.terms
      (each_both (λ t. IsRight t.0) (λ t. coefficient f.terms t.0 ≡ t.1) f.terms h (coefficients-own 0 f.terms a)))

toward-ascends : (aim : Aim) (g : LinearForm) → IsForm g → IsForm (toward aim g)
toward-ascends Minimize g h = h
toward-ascends Maximize g h = negative-ascends g

own-weighs : (d : Domain) (p : Problem) → weighs_right (world d p) (unknown (own_unknown (world d p))) ≡ true
own-weighs d p = all_in (λ t. nat_lt t.0 (own_unknown (world d p)) || (zeroℚ ≤? t.1)) (unknown (own_unknown (world d p))).terms
    (or_right (nat_lt (own_unknown (world d p)) (own_unknown (world d p))) (zeroℚ ≤? whole (pos 1)) (ap not (not_lt_in (whole (pos 1)) zeroℚ (whole_le (pos 0) (pos 1) (omega (arith, ints))))), tt)

module _ (d : Domain) (text : List ℕ) (p : Problem) (named : TypesAreNamed d) (clean : IsClean d p) (g : IsProblem d text p) (signless : metric_sign_offences d p ≡ []) where
  offended : some_offences (valued_offences (world d p) (unknowns d p)) p.metric ≡ []
  unfolding metric_sign_offences
  offended = ap (λ os. if is_none (least os) then some_offences (valued_offences (world d p) (unknowns d p)) p.metric else []) (sym (metric_forms d p clean named)) ∙ signless

  -- the metric has a value, which is minimised
  valued-weighs : (m : Metric) (f : LinearForm) → p.metric ≡ Some m → metric_value (world d p) (unknowns d p) [] m ≡ Some f → Weighs d p named f f
  valued-weighs m f is v = by (no_places (unvalued_places (world d p) (mentioned (world d p) [] m.expression))) refl (reckoned (world d p) (unknowns d p) [] m.expression).value refl v
    where
      no_signs : term_offences (world d p) (unknowns d p) f m.expression ≡ []
      no_signs = sym (ap (λ (o : Option LinearForm). either [] (λ h. term_offences (world d p) (unknowns d p) h m.expression) o) v)
          ∙ ap (some_offences (valued_offences (world d p) (unknowns d p))) (sym is) ∙ offended

      no_names : expression_offences Names (problem_tables d p) [] m.expression ≡ []
      no_names = ap (metric_offences Names (problem_tables d p)) (sym is) ∙ metric_names d p clean named

      no_types : expression_offences Types (problem_tables d p) [] m.expression ≡ []
      no_types = ap (metric_offences Types (problem_tables d p)) (sym is) ∙ metric_types d p clean named

      holds : Holds d p named f m.expression
      holds = subst (λ (o : Option Metric). MetricHolds d p named f o) is (metric-right d p named f text g)

      by : (b : Bool) → no_places (unvalued_places (world d p) (mentioned (world d p) [] m.expression)) ≡ b
          → (o : Option LinearForm) → (reckoned (world d p) (unknowns d p) [] m.expression).value ≡ o
          → (if b then either None (λ h. Some (toward m.aim h)) o else None) ≡ Some f → Weighs d p named f f
      by false e o r k = absurd cc
      by true e None r k = absurd cc
      by true e (Some h) r k =
          let same : toward m.aim h ≡ f = same_Some (toward m.aim h) f k in
          let asked : IsAsked d p named f m.expression = record { signs = no_signs; names = no_names; types = no_types; valued = valued-each (world d p) (mentioned (world d p) [] m.expression) e } in
          let within : Within (IsRight d p named f) h = subst (IfWithin (IsRight d p named f)) r (holds asked) in
          let ascends : IsForm h = subst IfForm r (reckoned-ascends (world d p) (unknowns d p) [] m.expression) in
          all-weigh d p named f (subst IsForm same (toward-ascends m.aim h ascends)) (subst (Within (IsRight d p named f)) same (toward-within d p named f m.aim h within))

  weights-right : (f : LinearForm) → minimised_value (world d p) (unknowns d p) p.metric ≡ Some f
      → weighs_right (world d p) f ≡ true
  weights-right f v = by p.metric refl v
    where
      by : (o : Option Metric) → p.metric ≡ o → minimised_value (world d p) (unknowns d p) o ≡ Some f → weighs_right (world d p) f ≡ true
      by None e k = subst (λ (h : LinearForm). weighs_right (world d p) h ≡ true) (same_Some (unknown (own_unknown (world d p))) f k) (own-weighs d p)
      by (Some m) e k = valued-weighs m f e k

-- no weight of an accepted metric is below 0, where it has a value
pub weights_not_negative : (domain problem : List ℕ) (d : Domain) (p : Problem) → IsDomain domain d → IsProblem d problem p
    → either true (weighs_right (world d p)) (minimised_value (world d p) (unknowns d p) p.metric) ≡ true
weights_not_negative domain problem d p f g = by (minimised_value (world d p) (unknowns d p) p.metric) refl
  where
    named : TypesAreNamed d
    named = types_named d p (file_names domain problem d p f g)

    by : (o : Option LinearForm) → minimised_value (world d p) (unknowns d p) p.metric ≡ o → either true (weighs_right (world d p)) o ≡ true
    by None e = refl
    by (Some h) e = weights-right d problem p named (files_clean domain problem d p f g) g (signs_right d problem p g) h e
