-- A walk over a tree, part by part: a leaf, a split that can't be made, the children of one that can.
use Rattle.std.proofs.Common.{◌≡◌, ℕ, zero, suc, ◌+◌, ◌<◌, ◌≤◌, min, max, refl, sym, ◌∙◌, ap, subst, ◌⊎◌, Bool, true, false, Option, Some, None, List, [], ◌∷◌, ◌++◌, length, map, drop, get_or, arith, Result, Ok, Err, inl, inr, ⊎_elim, if◌then◌else◌, ◌&&◌, nat_lt, nat_eq, append_assoc, length-append, IfOk, IfErr}
use Rattle.std.specs.List.{AllByRecursion, sum_by}
use Rattle.std.proofs.lemmas.List.{length-map, drop_all}
use Rattle.std.proofs.lemmas.List.Sums.{sum_by-cons}
use Rattle.std.proofs.lemmas.Bool.Decides.{nat_tests}
use Rattle.rational.specs.Rational.{ℚ}
use Rattle.cert_core.specs.declared.program.CertFault.{CertFault}
use Rattle.cert_core.specs.declared.program.CertFault.TheVariants.{Range}
use Rattle.cert_core.specs.declared.claim.Claim.TheVariants.{Empty, AtLeast}
use Rattle.cert_core.specs.declared.tree.TreeFault.{TreeFault}
use Rattle.cert_core.specs.declared.tree.DualTree.{DualTree}
use Rattle.cert_core.specs.declared.tree.DualTree.TheVariants as tree
use Rattle.cert_core.specs.Soft.{Decisions, SoftProgram, ways_of, decision_of, decide, IsLawful}
use Rattle.basics.specs.Duties.{Duty, AllMet, IsFirstUnmet}
use Rattle.cert_core.specs.Faults.{fault_of, tree_fault_of, multipliers_of}
use Rattle.cert_core.specs.Trees.{Above, AtLeaf, Leaf, Misfit, Shows, is_undecided, is_fit, below_split, child_leaves, leaves_of, leaf_duties, is_between, asked_duties, between_duties, at_leaf, top, leaf_count}
use Rattle.cert_core.specs.LeafWalks.{JudgesLeaves}
use Rattle.basics.proofs.Duties.{ComesDownTo, ComesDownTo-itself, ComesDownTo-part, ComesDownTo-within, AllMet-append, IsFirstUnmet-left}
use Rattle.basics.proofs.Lists.{each_append, drop_item}
use Rattle.cert_core.proofs.Leaves.{leaves_of-split, leaves_of-none, leaves_of-at_least, each_tree}
use Rattle.cert_core.proofs.Counting.{leaf_count-no_child, leaf_count-children, leaf_count-none, leaf_count-at_least}

-- ---- a leaf's duties, each named with the leaf's number
pub AllMet-at_leaf : (n : ℕ) (ds : List (Duty (CertFault ℕ ℕ))) → AllMet ds → AllMet (map (at_leaf n) ds)
AllMet-at_leaf n [] h = tt
AllMet-at_leaf n (d ∷ ds) h = (h.0, AllMet-at_leaf n ds h.1)

pub at_leaf-AllMet : (n : ℕ) (ds : List (Duty (CertFault ℕ ℕ))) → AllMet (map (at_leaf n) ds) → AllMet ds
at_leaf-AllMet n [] h = tt
at_leaf-AllMet n (d ∷ ds) h = (h.0, at_leaf-AllMet n ds h.1)

pub IsFirstUnmet-at_leaf : (n : ℕ) (ds : List (Duty (CertFault ℕ ℕ))) (f : CertFault ℕ ℕ) → IsFirstUnmet ds f → IsFirstUnmet (map (at_leaf n) ds) (record { leaf = n; fault = f })
IsFirstUnmet-at_leaf n [] f u = absurd u
IsFirstUnmet-at_leaf n (d ∷ ds) f u = ⊎_elim (λ a. inl (a.0, ap (λ (x : CertFault ℕ ℕ). record { leaf = n; fault = x }) a.1)) (λ b. inr (b.0, IsFirstUnmet-at_leaf n ds f b.1)) u

pub at_leaf-IsFirstUnmet : (n : ℕ) (ds : List (Duty (CertFault ℕ ℕ))) (f : TreeFault ℕ ℕ) → IsFirstUnmet (map (at_leaf n) ds) f → (f.leaf ≡ n) × IsFirstUnmet ds f.fault
at_leaf-IsFirstUnmet n [] f u = absurd u
at_leaf-IsFirstUnmet n (d ∷ ds) f u = ⊎_elim (λ a. (ap (λ (x : TreeFault ℕ ℕ). x.leaf) (sym a.1), inl (a.0, ap (λ (x : TreeFault ℕ ℕ). x.fault) a.1))) (λ b. let r = at_leaf-IsFirstUnmet n ds f b.1 in (r.0, inr (b.0, r.1))) u

-- ---- which leaves are asked
between-in : (from to n : ℕ) → from ≤ n → n ≤ to → is_between from to n ≡ true
between-in from to n h k = grind (arith, nat_tests)

between-below : (from to n : ℕ) → n < from → is_between from to n ≡ false
between-below from to n h = grind (arith, nat_tests)

between-above : (from to n : ℕ) → to < n → is_between from to n ≡ false
between-above from to n h = grind (arith, nat_tests)

module _ (limit : ℕ) (p : SoftProgram) (from to : ℕ) where
  -- the duties of a leaf that is asked, then those of the rest
  pub between-asked : (n : ℕ) (leaf : Leaf) (leaves : List Leaf) → from ≤ n → n ≤ to → between_duties limit p from to n (leaf ∷ leaves) ≡ map (at_leaf n) (leaf_duties limit p leaf) ++ between_duties limit p from to (n + 1) leaves
  between-asked n leaf leaves h k = ap (λ (b : Bool). asked_duties b (map (at_leaf n) (leaf_duties limit p leaf)) ++ between_duties limit p from to (n + 1) leaves) (between-in from to n h k)

  pub between-passed : (n : ℕ) (leaf : Leaf) (leaves : List Leaf) → n < from → between_duties limit p from to n (leaf ∷ leaves) ≡ between_duties limit p from to (n + 1) leaves
  between-passed n leaf leaves h = ap (λ (b : Bool). asked_duties b (map (at_leaf n) (leaf_duties limit p leaf)) ++ between_duties limit p from to (n + 1) leaves) (between-below from to n h)

  -- past the last leaf that is asked nothing is
  pub between-past : (n : ℕ) (leaves : List Leaf) → to < n → between_duties limit p from to n leaves ≡ []
  between-past n [] h = refl
  between-past n (leaf ∷ leaves) h = ap (λ (b : Bool). asked_duties b (map (at_leaf n) (leaf_duties limit p leaf)) ++ between_duties limit p from to (n + 1) leaves) (between-above from to n h) ∙ between-past (n + 1) leaves (omega arith)

  pub between-before : (n : ℕ) (leaves : List Leaf) → n + length leaves ≤ from → between_duties limit p from to n leaves ≡ []
  between-before n [] h = refl
  between-before n (leaf ∷ leaves) h = between-passed n leaf leaves (omega arith) ∙ between-before (n + 1) leaves (omega arith)

  pub between-append : (n : ℕ) (ls ms : List Leaf) → between_duties limit p from to n (ls ++ ms) ≡ between_duties limit p from to n ls ++ between_duties limit p from to (n + length ls) ms
  between-append n [] ms = ap (λ (k : ℕ). between_duties limit p from to k ms) (omega arith)
  between-append n (l ∷ ls) ms = ap (λ ds. asked_duties (is_between from to n) (map (at_leaf n) (leaf_duties limit p l)) ++ ds) (between-append (n + 1) ls ms ∙ ap (λ (k : ℕ). between_duties limit p from to (n + 1) ls ++ between_duties limit p from to k ms) (omega arith))
      ∙ sym (append_assoc (asked_duties (is_between from to n) (map (at_leaf n) (leaf_duties limit p l))) (between_duties limit p from to (n + 1) ls) (between_duties limit p from to (n + length (l ∷ ls)) ms))

  -- ---- one leaf
  pub passed-judged : (done : ℕ) (leaf : Leaf) → done + 1 < from → done < to → AllMet (between_duties limit p from to (done + 1) (leaf ∷ [])) × (done + 1 ≡ min (done + 1) to)
  passed-judged done leaf h k = (subst (λ ds. AllMet ds) (sym (between-passed (done + 1) leaf [] h)) tt, omega arith)

  pub met-judged : (done : ℕ) (leaf : Leaf) → from ≤ done + 1 → done < to → AllMet (leaf_duties limit p leaf) → AllMet (between_duties limit p from to (done + 1) (leaf ∷ [])) × (done + 1 ≡ min (done + 1) to)
  met-judged done leaf h k a = (subst (λ ds. AllMet ds) (sym (between-asked (done + 1) leaf [] h (omega arith))) (AllMet-append (map (at_leaf (done + 1)) (leaf_duties limit p leaf)) [] (AllMet-at_leaf (done + 1) (leaf_duties limit p leaf) a) tt), omega arith)

  pub unmet-judged : (done : ℕ) (leaf : Leaf) (f : CertFault ℕ ℕ) → from ≤ done + 1 → done < to → IsFirstUnmet (leaf_duties limit p leaf) f → IsFirstUnmet (between_duties limit p from to (done + 1) (leaf ∷ [])) (record { leaf = done + 1; fault = f })
  unmet-judged done leaf f h k u = subst (λ ds. IsFirstUnmet ds (record { leaf = done + 1; fault = f })) (sym (between-asked (done + 1) leaf [] h (omega arith))) (IsFirstUnmet-left (map (at_leaf (done + 1)) (leaf_duties limit p leaf)) [] _ (IsFirstUnmet-at_leaf (done + 1) (leaf_duties limit p leaf) f u))

  -- ---- where every leaf stands below a split that can't be made, the first that is asked has the fault
  misfit-first : (t m n : ℕ) (leaves : List Leaf) → AllByRecursion (λ (leaf : Leaf). leaf.here ≡ Misfit t) leaves → n ≤ m → m < n + length leaves → from ≤ m → m ≤ to → ((k : ℕ) → n ≤ k → k < m → k < from)
      → IsFirstUnmet (between_duties limit p from to n leaves) (record { leaf = m; fault = Range t })
  misfit-first t m n [] a h k l g passed = absurd (omega arith)
  misfit-first t m n (leaf ∷ leaves) a h k l g passed = ⊎_elim
      (λ (here : m ≡ n). subst (λ (x : ℕ). IsFirstUnmet (between_duties limit p from to n (leaf ∷ leaves)) (record { leaf = x; fault = Range t })) (sym here)
      (subst (λ ds. IsFirstUnmet ds (record { leaf = n; fault = Range t })) (sym (between-asked n leaf leaves (omega arith) (omega arith)))
      (IsFirstUnmet-left (map (at_leaf n) (leaf_duties limit p leaf)) (between_duties limit p from to (n + 1) leaves) _ (IsFirstUnmet-at_leaf n (leaf_duties limit p leaf) (Range t) (misfit leaf.made leaf.here a.0)))))
      (λ (later : n + 1 ≤ m). subst (λ ds. IsFirstUnmet ds (record { leaf = m; fault = Range t })) (sym (between-passed n leaf leaves (passed n (omega arith) (omega arith))))
      (misfit-first t m (n + 1) leaves a.1 later (omega arith) l g (λ k b c. passed k (omega arith) c)))
      (here_or_later m n h)
    where
      here_or_later : (m n : ℕ) → n ≤ m → (m ≡ n) ⊎ (n + 1 ≤ m)
      here_or_later m n h = grind arith

      misfit : (made : Decisions) (here : AtLeaf) → here ≡ Misfit t → IsFirstUnmet (leaf_duties limit p (record { made = made; here = here })) (Range t)
      misfit made (Misfit s) f = inl (λ k. k, ap Range (same s f))
        where
          same : (s : ℕ) → Misfit s ≡ Misfit t → s ≡ t
          same s f = cc
      misfit made (Shows claim ys) f = cc

module _ {T R S : Type 0} (term : T → ℕ) (row : R → ℕ) (value : S → ℚ) (p : SoftProgram) (q : ℚ) where
  -- ---- the children of a split that can be made
  fit-below : (made : Decisions) (t n : ℕ) → is_fit p made t n ≡ true → below_split p (top made) t n ≡ None
  fit-below made t n e = ap (λ (x : Bool). if x then None else Some t) e

  pub fits-somehow : (made : Decisions) (t n : ℕ) → is_fit p made t n ≡ true → (t < length p.ways) × (decision_of made t ≡ None) × (n ≡ ways_of p t)
  fits-somehow made t n e = go (decision_of made t) e
    where
      go : (o : Option ℕ) → (nat_lt t (length p.ways) && (is_undecided o && nat_eq n (ways_of p t))) ≡ true → (t < length p.ways) × (o ≡ None) × (n ≡ ways_of p t)
      go None e = let k : (t < length p.ways) × (n ≡ ways_of p t) = grind (arith, nat_tests) in (k.0, refl, k.1)
      go (Some w) e = absurd (grind (arith, nat_tests))

  ways-some : (ways : List ℕ) (t : ℕ) → AllByRecursion (λ n. 2 ≤ n) ways → t < length ways → 2 ≤ get_or ways t 0
  ways-some [] t a h = absurd (omega arith)
  ways-some (n ∷ ways) zero a h = a.0
  ways-some (n ∷ ways) (suc t) a h = ways-some ways t a.1 (omega arith)

  -- the leaves of a split that can be made are those of its children, and it has some
  pub split-leaves : IsLawful p → (made : Decisions) (t : T) (children : List (DualTree T R S)) → is_fit p made (term t) (length children) ≡ true
      → (leaves_of term row value p q (tree.Split t children) (top made) ≡ child_leaves None made (term t) 0 (map (leaves_of term row value p q) children)) × (leaf_count {T = T} {R = R} {S = S} (tree.Split t children) ≡ sum_by leaf_count children)
  split-leaves l made t [] e = let f = fits-somehow made (term t) 0 e in absurd (omega (arith, ways-some p.ways (term t) l.two_ways f.0, f.2))
  split-leaves l made t (c ∷ cs) e = (
    ap (λ (f : Above → List Leaf). f (top made)) (leaves_of-split term row value p q t (c ∷ cs))
        ∙ ap (λ (o : Option ℕ). child_leaves o made (term t) 0 (map (leaves_of term row value p q) (c ∷ cs))) (fit-below made (term t) (length (map (leaves_of term row value p q) (c ∷ cs))) (ap (λ (n : ℕ). is_fit p made (term t) n) (length-map (c ∷ cs) (leaves_of term row value p q)) ∙ e)),
    leaf_count-children T R S t c cs,
  )

  -- ---- as many leaves as are counted
  abbrev pub Counts : DualTree T R S → Type 0
  Counts t = (above : Above) → length (leaves_of term row value p q t above) ≡ leaf_count t

  length-child_leaves : (misfit : Option ℕ) (made : Decisions) (t w : ℕ) (cs : List (DualTree T R S)) → AllByRecursion Counts cs → length (child_leaves misfit made t w (map (leaves_of term row value p q) cs)) ≡ sum_by leaf_count cs
  length-child_leaves misfit made t w [] a = refl
  length-child_leaves misfit made t w (c ∷ cs) a = omega (
    arith,
    length-append (leaves_of term row value p q c (record { misfit = misfit; made = decide made t w })) (child_leaves misfit made t (w + 1) (map (leaves_of term row value p q) cs)),
    a.0 (record { misfit = misfit; made = decide made t w }),
    length-child_leaves misfit made t (w + 1) cs a.1,
    sum_by-cons leaf_count c cs,
  )

  counts-split : (t : T) (children : List (DualTree T R S)) → AllByRecursion Counts children → Counts (tree.Split t children)
  counts-split t [] a above = ap (λ (f : Above → List Leaf). length (f above)) (leaves_of-split term row value p q t []) ∙ sym (leaf_count-no_child T R S t)
  counts-split t (c ∷ cs) a above = ap (λ (f : Above → List Leaf). length (f above)) (leaves_of-split term row value p q t (c ∷ cs))
      ∙ length-child_leaves (below_split p above (term t) (length (map (leaves_of term row value p q) (c ∷ cs)))) above.made (term t) 0 (c ∷ cs) a
      ∙ sym (leaf_count-children T R S t c cs)

  pub length-leaves_of : (t : DualTree T R S) → Counts t
  length-leaves_of = each_tree Counts counts-split
      (λ pairs above. ap (λ (f : Above → List Leaf). length (f above)) (leaves_of-none term row value p q pairs) ∙ sym (leaf_count-none T R S pairs))
      (λ pairs above. ap (λ (f : Above → List Leaf). length (f above)) (leaves_of-at_least term row value p q pairs) ∙ sym (leaf_count-at_least T R S pairs))

  pub split-countable : (made : Decisions) (part : DualTree T R S) (t : T) (children given : List (DualTree T R S)) → IsLawful p → part ≡ tree.Split t children → given ≡ children → is_fit p made (term t) (length children) ≡ true → sum_by leaf_count given ≡ leaf_count part
  split-countable made part t children given l e f k = ap (sum_by leaf_count) f ∙ sym (split-leaves l made t children k).1 ∙ ap leaf_count (sym e)

  -- ---- below a split that can't be made, every leaf stands for it
  unfit-below : (made : Decisions) (t n : ℕ) (b : Bool) → is_fit p made t n ≡ b → b ≡ false → below_split p (top made) t n ≡ Some t
  unfit-below made t n true e f = cc
  unfit-below made t n false e f = ap (λ (x : Bool). if x then None else Some t) e

  abbrev AllMisfit : DualTree T R S → Type 0
  AllMisfit t = (s : ℕ) (made : Decisions) → AllByRecursion (λ (leaf : Leaf). leaf.here ≡ Misfit s) (leaves_of term row value p q t (record { misfit = Some s; made = made }))

  children-misfit : (s : ℕ) (made : Decisions) (t w : ℕ) (cs : List (DualTree T R S)) → AllByRecursion AllMisfit cs → AllByRecursion (λ (leaf : Leaf). leaf.here ≡ Misfit s) (child_leaves (Some s) made t w (map (leaves_of term row value p q) cs))
  children-misfit s made t w [] a = tt
  children-misfit s made t w (c ∷ cs) a = each_append (λ (leaf : Leaf). leaf.here ≡ Misfit s) (leaves_of term row value p q c (record { misfit = Some s; made = decide made t w })) (child_leaves (Some s) made t (w + 1) (map (leaves_of term row value p q) cs)) (a.0 s (decide made t w)) (children-misfit s made t (w + 1) cs a.1)

  all-misfit_split : (t : T) (children : List (DualTree T R S)) → AllByRecursion AllMisfit children → AllMisfit (tree.Split t children)
  all-misfit_split t [] a s made = subst (λ (f : Above → List Leaf). AllByRecursion (λ (leaf : Leaf). leaf.here ≡ Misfit s) (f (record { misfit = Some s; made = made }))) (sym (leaves_of-split term row value p q t [])) (refl, tt)
  all-misfit_split t (c ∷ cs) a s made = subst (λ (f : Above → List Leaf). AllByRecursion (λ (leaf : Leaf). leaf.here ≡ Misfit s) (f (record { misfit = Some s; made = made }))) (sym (leaves_of-split term row value p q t (c ∷ cs))) (children-misfit s made (term t) 0 (c ∷ cs) a)

  all-misfit : (t : DualTree T R S) → AllMisfit t
  all-misfit = each_tree AllMisfit all-misfit_split
      (λ pairs s made. subst (λ (f : Above → List Leaf). AllByRecursion (λ (leaf : Leaf). leaf.here ≡ Misfit s) (f (record { misfit = Some s; made = made }))) (sym (leaves_of-none term row value p q pairs)) (refl, tt))
      (λ pairs s made. subst (λ (f : Above → List Leaf). AllByRecursion (λ (leaf : Leaf). leaf.here ≡ Misfit s) (f (record { misfit = Some s; made = made }))) (sym (leaves_of-at_least term row value p q pairs)) (refl, tt))

  each-misfit : (cs : List (DualTree T R S)) → AllByRecursion AllMisfit cs
  each-misfit [] = tt
  each-misfit (c ∷ cs) = (all-misfit c, each-misfit cs)

  pub split-all_misfit : (made : Decisions) (t : T) (children : List (DualTree T R S)) → is_fit p made (term t) (length children) ≡ false → AllByRecursion (λ (leaf : Leaf). leaf.here ≡ Misfit (term t)) (leaves_of term row value p q (tree.Split t children) (top made))
  split-all_misfit made t [] e = subst (λ (f : Above → List Leaf). AllByRecursion (λ (leaf : Leaf). leaf.here ≡ Misfit (term t)) (f (top made))) (sym (leaves_of-split term row value p q t [])) (refl, tt)
  split-all_misfit made t (c ∷ cs) e = subst (λ (f : Above → List Leaf). AllByRecursion (λ (leaf : Leaf). leaf.here ≡ Misfit (term t)) (f (top made))) (sym (leaves_of-split term row value p q t (c ∷ cs)))
      (subst (λ (o : Option ℕ). AllByRecursion (λ (leaf : Leaf). leaf.here ≡ Misfit (term t)) (child_leaves o made (term t) 0 (map (leaves_of term row value p q) (c ∷ cs)))) (sym (unfit-below made (term t) (length (map (leaves_of term row value p q) (c ∷ cs))) _ refl (ap (λ (n : ℕ). is_fit p made (term t) n) (length-map (c ∷ cs) (leaves_of term row value p q)) ∙ e)))
      (children-misfit (term t) made (term t) 0 (c ∷ cs) (each-misfit (c ∷ cs))))

module _ {T R S : Type 0} (term : T → ℕ) (row : R → ℕ) (value : S → ℚ) (p : SoftProgram) (q : ℚ) (limit from to : ℕ) where
  abbrev leaves : DualTree T R S → Decisions → List Leaf
  leaves t made = leaves_of term row value p q t (top made)

  -- what is still asked before child number w, after `done` leaves
  abbrev pub asked_of : ℕ → Decisions → ℕ → ℕ → List (DualTree T R S) → List (Duty (TreeFault ℕ ℕ))
  asked_of done made t w cs = between_duties limit p from to (done + 1) (child_leaves None made t w (map (leaves_of term row value p q) cs))

  asked_of-child : (done : ℕ) (made : Decisions) (t w : ℕ) (c : DualTree T R S) (cs : List (DualTree T R S))
      → asked_of done made t w (c ∷ cs) ≡ between_duties limit p from to (done + 1) (leaves c (decide made t w)) ++ asked_of (done + leaf_count c) made t (w + 1) cs
  asked_of-child done made t w c cs = between-append limit p from to (done + 1) (leaves c (decide made t w)) (child_leaves None made t (w + 1) (map (leaves_of term row value p q) cs))
      ∙ ap (λ (k : ℕ). between_duties limit p from to (done + 1) (leaves c (decide made t w)) ++ between_duties limit p from to k (child_leaves None made t (w + 1) (map (leaves_of term row value p q) cs)))
      (let l : length (leaves c (decide made t w)) ≡ leaf_count c = length-leaves_of term row value p q c (top (decide made t w)) in omega (arith, l))

  -- where the loop over the children stands: `done` leaves are passed, and child i is next
  pub record AtChild (before : ℕ) (made now : Decisions) (t : ℕ) (children : List (DualTree T R S)) (i way done : ℕ) : Type 0 where
    pub kept : now ≡ made
    pub way_is : way ≡ i
    pub inside : done < to
    pub count : done + sum_by leaf_count (drop i children) ≡ before + sum_by leaf_count children
    pub left : ComesDownTo (asked_of before made t 0 children) (asked_of done made t i (drop i children))

  pub AtChild-first : (before : ℕ) (made : Decisions) (t : ℕ) (children : List (DualTree T R S)) → before < to → AtChild before made made t children 0 0 before
  AtChild-first before made t children h = record { kept = refl; way_is = refl; inside = h; count = refl; left = ComesDownTo-itself (asked_of before made t 0 children) }

  -- the duties of child i, then those of the rest
  ComesDownTo-child : (before : ℕ) (made now : Decisions) (t : ℕ) (children : List (DualTree T R S)) (i way done : ℕ) (child : DualTree T R S)
      → AtChild before made now t children i way done → i < length children → child ≡ get_or children i child
      → ComesDownTo (asked_of before made t 0 children) (between_duties limit p from to (done + 1) (leaves child (decide now t way)) ++ asked_of (done + leaf_count child) made t (i + 1) (drop (i + 1) children))
  ComesDownTo-child before made now t children i way done child a h e =
      subst (λ (m : Decisions). ComesDownTo (asked_of before made t 0 children) (between_duties limit p from to (done + 1) (leaves child (decide m t way)) ++ asked_of (done + leaf_count child) made t (i + 1) (drop (i + 1) children))) (sym a.kept)
      (subst (λ (w : ℕ). ComesDownTo (asked_of before made t 0 children) (between_duties limit p from to (done + 1) (leaves child (decide made t w)) ++ asked_of (done + leaf_count child) made t (i + 1) (drop (i + 1) children))) (sym a.way_is)
      (subst (λ ds. ComesDownTo (asked_of before made t 0 children) ds) (asked_of-child done made t i child (drop (i + 1) children))
      (subst (λ (cs : List (DualTree T R S)). ComesDownTo (asked_of before made t 0 children) (asked_of done made t i cs)) (drop_item children i child h e) a.left)))

  -- what child i leaves to ask
  ComesDownTo-rest : (before : ℕ) (made now : Decisions) (t : ℕ) (children : List (DualTree T R S)) (i way done : ℕ) (child : DualTree T R S)
      → AtChild before made now t children i way done → i < length children → child ≡ get_or children i child
      → AllMet (between_duties limit p from to (done + 1) (leaves child (decide now t way)))
      → ComesDownTo (asked_of before made t 0 children) (asked_of (done + leaf_count child) made t (i + 1) (drop (i + 1) children))
  ComesDownTo-rest before made now t children i way done child a h e j = ComesDownTo-part (asked_of before made t 0 children) (between_duties limit p from to (done + 1) (leaves child (decide now t way))) (asked_of (done + leaf_count child) made t (i + 1) (drop (i + 1) children))
      (ComesDownTo-child before made now t children i way done child a h e) j

  pub AtChild-next : (before : ℕ) (made now after : Decisions) (t : ℕ) (children : List (DualTree T R S)) (i way done : ℕ) (child : DualTree T R S) (end : ℕ)
      → AtChild before made now t children i way done → i < length children → child ≡ get_or children i child → after ≡ now → end < to
      → AllMet (between_duties limit p from to (done + 1) (leaves child (decide now t way))) × (end ≡ min (done + leaf_count child) to)
      → AtChild before made after t children (i + 1) (way + 1) end
  AtChild-next before made now after t children i way done child end a h e s b j = let same : done + leaf_count child ≡ end = omega (arith, j.1) in record {
    kept = s ∙ a.kept;
    way_is = omega (arith, a.way_is);
    inside = b;
    count = omega (arith, a.count, same, ap (sum_by leaf_count) (drop_item children i child h e), sum_by-cons leaf_count child (drop (i + 1) children));
    left = subst (λ (n : ℕ). ComesDownTo (asked_of before made t 0 children) (asked_of n made t (i + 1) (drop (i + 1) children))) same (ComesDownTo-rest before made now t children i way done child a h e j.0);
  }

  pub AtChild-stop : (before : ℕ) (made now : Decisions) (t : ℕ) (children : List (DualTree T R S)) (i way done : ℕ) (child : DualTree T R S) (f : TreeFault ℕ ℕ)
      → AtChild before made now t children i way done → i < length children → child ≡ get_or children i child
      → IsFirstUnmet (between_duties limit p from to (done + 1) (leaves child (decide now t way))) f → IsFirstUnmet (asked_of before made t 0 children) f
  AtChild-stop before made now t children i way done child f a h e u = ComesDownTo-within (asked_of before made t 0 children) (between_duties limit p from to (done + 1) (leaves child (decide now t way))) (asked_of (done + leaf_count child) made t (i + 1) (drop (i + 1) children)) f
      (ComesDownTo-child before made now t children i way done child a h e) u

  -- the last leaf that is asked is passed
  pub AtChild-enough : (before : ℕ) (made now : Decisions) (t : ℕ) (children : List (DualTree T R S)) (i way done : ℕ) (child : DualTree T R S) (end : ℕ)
      → AtChild before made now t children i way done → i < length children → child ≡ get_or children i child → to ≤ end
      → AllMet (between_duties limit p from to (done + 1) (leaves child (decide now t way))) × (end ≡ min (done + leaf_count child) to)
      → AllMet (asked_of before made t 0 children) × (end ≡ min (before + sum_by leaf_count children) to)
  AtChild-enough before made now t children i way done child end a h e b j = (
    (ComesDownTo-rest before made now t children i way done child a h e j.0).met (subst (λ ds. AllMet ds) (sym (between-past limit p from to (done + leaf_count child + 1) (child_leaves None made t (i + 1) (map (leaves_of term row value p q) (drop (i + 1) children))) (omega (arith, j.1)))) tt),
    omega (arith, a.count, j.1, ap (sum_by leaf_count) (drop_item children i child h e), sum_by-cons leaf_count child (drop (i + 1) children)),
  )

  pub AtChild-last : (before : ℕ) (made now : Decisions) (t : ℕ) (children : List (DualTree T R S)) (i way done : ℕ) → AtChild before made now t children i way done → length children ≤ i → AllMet (asked_of before made t 0 children) × (done ≡ min (before + sum_by leaf_count children) to)
  AtChild-last before made now t children i way done a h = (
    a.left.met (subst (λ (cs : List (DualTree T R S)). AllMet (asked_of done made t i cs)) (sym (drop_all i children h)) tt),
    omega (arith, a.count, a.inside, ap (sum_by leaf_count) (drop_all i children h)),
  )

  -- the next child's way is one of the term's, and its leaves are countable
  pub AtChild-way : (before : ℕ) (made now : Decisions) (t : ℕ) (children : List (DualTree T R S)) (i way done : ℕ) (child : DualTree T R S) → AtChild before made now t children i way done → i < length children → child ≡ get_or children i child
      → is_fit p made t (length children) ≡ true → before + sum_by leaf_count children < 4294967296
      → (t < length p.ways) × (decision_of now t ≡ None) × (way < ways_of p t) × (done + leaf_count child < 4294967296)
  AtChild-way before made now t children i way done child a h e f b = let g = fits-somehow term row value p q made t (length children) f in (
    g.0,
    subst (λ (m : Decisions). decision_of m t ≡ None) (sym a.kept) g.1,
    omega (arith, a.way_is, g.2),
    omega (arith, a.count, ap (sum_by leaf_count) (drop_item children i child h e), sum_by-cons leaf_count child (drop (i + 1) children)),
  )

  -- ---- each form of a tree, judged
  abbrev JudgesPart : {E : Type 0} → Result ℕ E → (E → TreeFault ℕ ℕ) → ℕ → DualTree T R S → Decisions → Type 0
  JudgesPart result named done part made = JudgesLeaves result named limit p from to done (leaf_count part) (leaves part made)

  one-judged : {E : Type 0} (result : Result ℕ E) (named : E → TreeFault ℕ ℕ) (done : ℕ) (part : DualTree T R S) (made : Decisions) (leaf : Leaf) → leaves part made ≡ leaf ∷ [] → leaf_count part ≡ 1
      → JudgesLeaves result named limit p from to done 1 (leaf ∷ []) → JudgesPart result named done part made
  one-judged result named done part made leaf e f j = subst (λ (n : ℕ). JudgesLeaves result named limit p from to done n (leaves part made)) (sym f) (subst (λ (ls : List Leaf). JudgesLeaves result named limit p from to done 1 ls) (sym e) j)

  pub none-judged : {E : Type 0} (result : Result ℕ E) (named : E → TreeFault ℕ ℕ) (done : ℕ) (part : DualTree T R S) (made : Decisions) (pairs given : List (R × S)) → part ≡ tree.None pairs → given ≡ pairs
      → JudgesLeaves result named limit p from to done 1 (record { made = made; here = Shows Empty (multipliers_of row value given) } ∷ []) → JudgesPart result named done part made
  none-judged result named done part made pairs given e f j = one-judged result named done part made (record { made = made; here = Shows Empty (multipliers_of row value given) })
      (ap (λ (x : DualTree T R S). leaves x made) e ∙ ap (λ (g : Above → List Leaf). g (top made)) (leaves_of-none term row value p q pairs) ∙ ap (λ (ys : List (R × S)). record { made = made; here = Shows Empty (multipliers_of row value ys) } ∷ []) (sym f))
      (ap leaf_count e ∙ leaf_count-none T R S pairs) j

  pub at_least-judged : {E : Type 0} (result : Result ℕ E) (named : E → TreeFault ℕ ℕ) (done : ℕ) (part : DualTree T R S) (made : Decisions) (pairs given : List (R × S)) → part ≡ tree.AtLeast pairs → given ≡ pairs
      → JudgesLeaves result named limit p from to done 1 (record { made = made; here = Shows (AtLeast q) (multipliers_of row value given) } ∷ []) → JudgesPart result named done part made
  at_least-judged result named done part made pairs given e f j = one-judged result named done part made (record { made = made; here = Shows (AtLeast q) (multipliers_of row value given) })
      (ap (λ (x : DualTree T R S). leaves x made) e ∙ ap (λ (g : Above → List Leaf). g (top made)) (leaves_of-at_least term row value p q pairs) ∙ ap (λ (ys : List (R × S)). record { made = made; here = Shows (AtLeast q) (multipliers_of row value ys) } ∷ []) (sym f))
      (ap leaf_count e ∙ leaf_count-at_least T R S pairs) j

  pub split-judged : {E : Type 0} (result : Result ℕ E) (named : E → TreeFault ℕ ℕ) (done : ℕ) (part : DualTree T R S) (made : Decisions) (t : T) (children given : List (DualTree T R S))
      → IsLawful p → part ≡ tree.Split t children → given ≡ children → is_fit p made (term t) (length children) ≡ true
      → JudgesLeaves result named limit p from to done (sum_by leaf_count given) (child_leaves None made (term t) 0 (map (leaves_of term row value p q) given)) → JudgesPart result named done part made
  split-judged result named done part made t children given l e f k j = let s = split-leaves term row value p q l made t children k in
      subst (λ (x : DualTree T R S). JudgesPart result named done x made) (sym e)
      (subst (λ (n : ℕ). JudgesLeaves result named limit p from to done n (leaves (tree.Split t children) made)) (sym s.1)
      (subst (λ (ls : List Leaf). JudgesLeaves result named limit p from to done (sum_by leaf_count children) ls) (sym s.0)
      (subst (λ (cs : List (DualTree T R S)). JudgesLeaves result named limit p from to done (sum_by leaf_count cs) (child_leaves None made (term t) 0 (map (leaves_of term row value p q) cs))) f j)))

  pub refused-judged : {V : Type 0} (variable : V → ℕ) (result : Result ℕ (TreeFault R V)) (done : ℕ) (part : DualTree T R S) (made : Decisions) (t : T) (children : List (DualTree T R S)) (n : ℕ)
      → part ≡ tree.Split t children → n ≡ length children → is_fit p made (term t) n ≡ false → from ≤ to → done < to
      → IfOk result (λ end. (end ≡ done + leaf_count part) × (end < from))
      → IfErr result (λ f. (f.fault ≡ Range (term t)) × (f.leaf ≡ max from (done + 1)) × (f.leaf ≤ done + leaf_count part))
      → JudgesPart result (tree_fault_of row variable) done part made
  refused-judged variable (Ok end) done part made t children n e f k h g passed refused = (
    subst (λ ds. AllMet ds) (sym (between-before limit p from to (done + 1) (leaves part made) (omega (arith, passed.0, passed.1, length-leaves_of term row value p q part (top made))))) tt,
    omega (arith, passed.0, passed.1),
  )
  refused-judged variable (Err fault) done part made t children n e f k h g passed refused =
      let all = subst (λ (x : DualTree T R S). AllByRecursion (λ (leaf : Leaf). leaf.here ≡ Misfit (term t)) (leaves x made)) (sym e) (split-all_misfit term row value p q made t children (ap (λ (m : ℕ). is_fit p made (term t) m) (sym f) ∙ k)) in
      subst (λ x. IsFirstUnmet (between_duties limit p from to (done + 1) (leaves part made)) (record { leaf = fault.leaf; fault = fault_of row variable x })) (sym refused.0)
      (misfit-first limit p from to (term t) fault.leaf (done + 1) (leaves part made) all (omega (arith, refused.1)) (omega (arith, refused.2, length-leaves_of term row value p q part (top made))) (omega (arith, refused.1)) (omega (arith, refused.1)) (λ k b c. omega (arith, refused.1)))
