-- A tree whose leaves prove their parts bounds the cost of every solution under every complete list of decisions.
use Rattle.std.proofs.Common.{◌≡◌, ℕ, ◌+◌, ◌<◌, ◌≤◌, refl, subst, Bool, true, false, Option, Some, None, List, [], ◌∷◌, length, map, arith, ◌⊎◌, inl, inr, ⊎_elim, if◌then◌else◌, ◌&&◌, nat_lt, nat_eq}
use Rattle.std.specs.List.{AllByRecursion}
use Rattle.std.proofs.lemmas.List.{length-map}
use Rattle.std.proofs.lemmas.Bool.Decides.{nat_tests}
use Rattle.rational.specs.Rational.{ℚ, ◌≤ℚ◌}
use Rattle.rational.specs.Lists.{dot}
use Rattle.rational.proofs.Inequalities.{le_trans, le_refl, add_le}
use Rattle.cert_core.specs.declared.claim.Claim.{Claim}
use Rattle.cert_core.specs.declared.claim.Claim.TheVariants.{Empty, AtLeast}
use Rattle.cert_core.specs.declared.tree.DualTree.{DualTree}
use Rattle.cert_core.specs.declared.tree.DualTree.TheVariants as tree
use Rattle.cert_core.specs.Programs.{Solves, cost_at}
use Rattle.cert_core.specs.Soft.{Decisions, SoftProgram, ways_of, decision_of, AreDecisions, decide, program_under, IsMore, IsComplete, IsLawful, AlwaysCosts}
use Rattle.cert_core.specs.Checks.{Proves}
use Rattle.cert_core.specs.Trees.{Above, Leaf, is_undecided, is_fit, child_leaves, leaves_of, LeafProves, ProvesTree, top}
use Rattle.cert_core.proofs.Meaning.{ProvesEmpty-no_solution, ProvesCost-costs}
use Rattle.cert_core.proofs.Deciding.{decide-AreDecisions, decide-IsMore, Solves-fewer}
use Rattle.basics.proofs.Lists.{each_left, each_right}
use Rattle.cert_core.proofs.Leaves.{leaves_of-split, leaves_of-none, leaves_of-at_least, each_tree}

-- where a split above can't be made, no leaf proves anything
misfit-child : (p : SoftProgram) (s : ℕ) (made : Decisions) (t w : ℕ) (c : Above → List Leaf) (cs : List (Above → List Leaf))
    → ((made : Decisions) → ¬ ProvesTree p (c (record { misfit = Some s; made = made }))) → ¬ ProvesTree p (child_leaves (Some s) made t w (c ∷ cs))
misfit-child p s made t w c cs f h = f (decide made t w) (each_left (λ leaf. LeafProves p leaf) (c (record { misfit = Some s; made = decide made t w })) (child_leaves (Some s) made t (w + 1) cs) h)

module _ {T R S : Type 0} (term : T → ℕ) (row : R → ℕ) (value : S → ℚ) (p : SoftProgram) (q : ℚ) where
  abbrev leaves : DualTree T R S → Above → List Leaf
  leaves t above = leaves_of term row value p q t above

  abbrev FailsUnderMisfit : DualTree T R S → Type 0
  FailsUnderMisfit t = (s : ℕ) (made : Decisions) → ¬ ProvesTree p (leaves t (record { misfit = Some s; made = made }))

  fails_split : (t : T) (children : List (DualTree T R S)) → AllByRecursion FailsUnderMisfit children → FailsUnderMisfit (tree.Split t children)
  fails_split t [] a s made h = (subst (λ (f : Above → List Leaf). ProvesTree p (f (record { misfit = Some s; made = made }))) (leaves_of-split term row value p q t []) h).0
  fails_split t (c ∷ cs) a s made h = misfit-child p s made (term t) 0 (leaves_of term row value p q c) (map (leaves_of term row value p q) cs) (a.0 s)
      (subst (λ (f : Above → List Leaf). ProvesTree p (f (record { misfit = Some s; made = made }))) (leaves_of-split term row value p q t (c ∷ cs)) h)

  fails_misfit : (t : DualTree T R S) → FailsUnderMisfit t
  fails_misfit = each_tree FailsUnderMisfit fails_split
      (λ pairs s made h. (subst (λ (f : Above → List Leaf). ProvesTree p (f (record { misfit = Some s; made = made }))) (leaves_of-none term row value p q pairs) h).0)
      (λ pairs s made h. (subst (λ (f : Above → List Leaf). ProvesTree p (f (record { misfit = Some s; made = made }))) (leaves_of-at_least term row value p q pairs) h).0)

  -- under every complete list of decisions that agrees with those above, every solution costs at least q
  abbrev Bounds : DualTree T R S → Type 0
  Bounds t = (made : Decisions) → AreDecisions p made → ProvesTree p (leaves t (top made)) → (full : Decisions) → AreDecisions p full → IsComplete p full → IsMore made full
      → (x : List ℚ) → Solves (program_under p full) x → q ≤ℚ cost_at (program_under p full) x

  -- the child of the way that was taken bounds the cost
  bounds_child : (full : Decisions) → AreDecisions p full → IsComplete p full → (x : List ℚ) → Solves (program_under p full) x → (made : Decisions) (t w : ℕ) → AreDecisions p (decide made t w) → IsMore (decide made t w) full
      → (cs : List (DualTree T R S)) → AllByRecursion Bounds cs → (v : ℕ) → v ≤ w → w < v + length cs → ProvesTree p (child_leaves None made t v (map (leaves_of term row value p q) cs)) → q ≤ℚ cost_at (program_under p full) x
  bounds_child full d k x s made t w e m [] a v h l proof = absurd (omega arith)
  bounds_child full d k x s made t w e m (c ∷ cs) a v h l proof = ⊎_elim
      (λ (here : v ≡ w). a.0 (decide made t w) e (subst (λ (y : ℕ). ProvesTree p (leaves c (top (decide made t y)))) here (each_left (λ leaf. LeafProves p leaf) (leaves c (top (decide made t v))) (child_leaves None made t (v + 1) (map (leaves_of term row value p q) cs)) proof)) full d k m x s)
      (λ (later : v + 1 ≤ w). bounds_child full d k x s made t w e m cs a.1 (v + 1) later (omega arith) (each_right (λ leaf. LeafProves p leaf) (leaves c (top (decide made t v))) (child_leaves None made t (v + 1) (map (leaves_of term row value p q) cs)) proof))
      (here_or_later v w h)
    where
      here_or_later : (v w : ℕ) → v ≤ w → (v ≡ w) ⊎ (v + 1 ≤ w)
      here_or_later v w k = grind arith

  fit_out : (made : Decisions) (t n : ℕ) → is_fit p made t n ≡ true → (t < length p.ways) × (n ≡ ways_of p t)
  fit_out made t n e = go (is_undecided (decision_of made t)) e
    where
      go : (b : Bool) → (nat_lt t (length p.ways) && (b && nat_eq n (ways_of p t))) ≡ true → (t < length p.ways) × (n ≡ ways_of p t)
      go true e = grind (arith, nat_tests)
      go false e = grind (arith, nat_tests)

  bounds_children : (made : Decisions) → AreDecisions p made → (t : ℕ) (c : DualTree T R S) (cs : List (DualTree T R S)) → AllByRecursion Bounds (c ∷ cs) → (b : Bool) → is_fit p made t (length (map (leaves_of term row value p q) (c ∷ cs))) ≡ b
      → ProvesTree p (child_leaves (if b then None else Some t) made t 0 (map (leaves_of term row value p q) (c ∷ cs)))
      → (full : Decisions) → AreDecisions p full → IsComplete p full → IsMore made full → (x : List ℚ) → Solves (program_under p full) x → q ≤ℚ cost_at (program_under p full) x
  bounds_children made d t c cs a false e proof full f k m x s = absurd (misfit-child p t made t 0 (leaves_of term row value p q c) (map (leaves_of term row value p q) cs) (fails_misfit c t) proof)
  bounds_children made d t c cs a true e proof full f k m x s =
      let fit = fit_out made t (length (map (leaves_of term row value p q) (c ∷ cs))) e in
      let taken = k t fit.0 in
      let below : taken.0 < ways_of p t = f.in_range t taken.0 taken.1 in
      bounds_child full f k x s made t taken.0 (decide-AreDecisions p made t taken.0 d fit.0 below) (decide-IsMore made full t taken.0 (omega (arith, d.one_each, fit.0)) m taken.1)
      (c ∷ cs) a 0 (omega arith) (omega (arith, length-map (c ∷ cs) (leaves_of term row value p q), fit.1, below)) proof

  bounds_split : IsLawful p → (t : T) (children : List (DualTree T R S)) → AllByRecursion Bounds children → Bounds (tree.Split t children)
  bounds_split l t [] a made d proof full f k m x s = absurd (subst (λ (g : Above → List Leaf). ProvesTree p (g (top made))) (leaves_of-split term row value p q t []) proof).0
  bounds_split l t (c ∷ cs) a made d proof full f k m x s = bounds_children made d (term t) c cs a (is_fit p made (term t) (length (map (leaves_of term row value p q) (c ∷ cs)))) refl
      (subst (λ (g : Above → List Leaf). ProvesTree p (g (top made))) (leaves_of-split term row value p q t (c ∷ cs)) proof) full f k m x s

  bounds_leaf : IsLawful p → (made : Decisions) → AreDecisions p made → (claim : Claim ℚ) (ys : List (ℕ × ℚ)) → (claim ≡ Empty) ⊎ (claim ≡ AtLeast q) → Proves (program_under p made) claim ys
      → (full : Decisions) → AreDecisions p full → IsMore made full → (x : List ℚ) → Solves (program_under p full) x → q ≤ℚ cost_at (program_under p full) x
  bounds_leaf l made d Empty ys c proof full f m x s = absurd (ProvesEmpty-no_solution (program_under p made) ys proof x (Solves-fewer p made full x l d f m s))
  bounds_leaf l made d (AtLeast r) ys c proof full f m x s = le_trans _ _ _
      (subst (λ z. z ≤ℚ cost_at (program_under p made) x) (claimed c) (ProvesCost-costs (program_under p made) ys r proof x (Solves-fewer p made full x l d f m s)))
      (add_le _ _ _ _ (l.base_grows made full d f m) (le_refl (dot p.costs x)))
    where
      claimed : (AtLeast r ≡ Empty) ⊎ (AtLeast r ≡ AtLeast q) → r ≡ q
      claimed (inl e) = cc
      claimed (inr e) = cc

  bounds : IsLawful p → (t : DualTree T R S) → Bounds t
  bounds l = each_tree Bounds (bounds_split l)
      (λ pairs made d proof full f k m x s. bounds_leaf l made d Empty _ (inl refl) (subst (λ (g : Above → List Leaf). ProvesTree p (g (top made))) (leaves_of-none term row value p q pairs) proof).0 full f m x s)
      (λ pairs made d proof full f k m x s. bounds_leaf l made d (AtLeast q) _ (inr refl) (subst (λ (g : Above → List Leaf). ProvesTree p (g (top made))) (leaves_of-at_least term row value p q pairs) proof).0 full f m x s)

  -- from no decision at all, every complete list is reached
  pub ProvesTree-always_costs : IsLawful p → (t : DualTree T R S) (made : Decisions) → AreDecisions p made → ((s : ℕ) → decision_of made s ≡ None) → ProvesTree p (leaves_of term row value p q t (top made)) → AlwaysCosts p q
  ProvesTree-always_costs l t made d none proof full f k x s = bounds l t made d proof full f k (λ s v e. absurd (no_some v (decision_of made s) (none s) e)) x s
    where
      no_some : (v : ℕ) (o : Option ℕ) → o ≡ None → o ≡ Some v → ⊥
      no_some v o e f = cc
