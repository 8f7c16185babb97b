-- A tree's check asks exactly that each leaf proves its part by defined sums.
use Rattle.std.proofs.Common.{◌≡◌, ℕ, ◌+◌, ◌<◌, refl, sym, subst, Bool, true, false, Option, Some, None, List, [], ◌∷◌, length, map, arith, if◌then◌else◌}
use Rattle.std.specs.List.{AllByRecursion}
use Rattle.std.proofs.lemmas.List.{length-map}
use Rattle.rational.specs.Rational.{ℚ}
use Rattle.cert_core.specs.declared.tree.DualTree.{DualTree}
use Rattle.cert_core.specs.declared.tree.DualTree.TheVariants as tree
use Rattle.cert_core.specs.Soft.{Decisions, SoftProgram, decision_of, AreDecisions, AreUndecided, decide, program_under, IsLawful}
use Rattle.basics.specs.Duties.{AllMet}
use Rattle.cert_core.specs.Trees.{Above, Leaf, AtLeaf, Misfit, Shows, leaf_under, is_fit, below_split, child_leaves, leaves_of, LeafProves, IsLeafReckoned, AreLeavesReckoned, ProvesTree, leaf_duties, leaves_duties, at_leaf}
use Rattle.cert_core.proofs.Exactness.{duties-exact, exact-duties}
use Rattle.basics.proofs.Duties.{AllMet-append, AllMet-left, AllMet-right}
use Rattle.cert_core.proofs.Deciding.{decide-AreDecisions}
use Rattle.basics.proofs.Lists.{each_append}
use Rattle.cert_core.proofs.Leaves.{leaves_of-split, leaves_of-none, leaves_of-at_least, each_tree}
use Rattle.cert_core.proofs.TreeParts.{fits-somehow, AllMet-at_leaf, at_leaf-AllMet}

-- the decisions above a leaf that shows something are in range
abbrev pub IsGrounded : SoftProgram → Leaf → Type 0
IsGrounded p leaf = elim leaf.here [ Misfit t ↦ Unit {0} | Shows claim ys ↦ AreDecisions p leaf.made ]

abbrev pub IsGroundedAbove : SoftProgram → Above → Type 0
IsGroundedAbove p above = above.misfit ≡ None → AreDecisions p above.made

grounded_under : (p : SoftProgram) (misfit : Option ℕ) (made : Decisions) (here : AtLeaf) → (misfit ≡ None → AreDecisions p made) → IsGrounded p (leaf_under (record { misfit = misfit; made = made }) here)
grounded_under p (Some t) made here g = tt
grounded_under p None made (Misfit t) g = tt
grounded_under p None made (Shows claim ys) g = g refl

abbrev settle : ℕ → Option ℕ → Bool → Option ℕ
settle t o b = elim o [ Some s ↦ Some s | None ↦ if b then None else Some t ]

settled : (t : ℕ) (o : Option ℕ) (b : Bool) → settle t o b ≡ None → (o ≡ None) × (b ≡ true)
settled t (Some s) b e = cc
settled t None true e = (refl, refl)
settled t None false e = cc

module _ {T R S : Type 0} (term : T → ℕ) (row : R → ℕ) (value : S → ℚ) (p : SoftProgram) (q : ℚ) where
  abbrev GroundsLeaves : DualTree T R S → Type 0
  GroundsLeaves t = (above : Above) → IsGroundedAbove p above → AllByRecursion (λ leaf. IsGrounded p leaf) (leaves_of term row value p q t above)

  grounded_children : (misfit : Option ℕ) (made : Decisions) (t w n : ℕ) → ((v : ℕ) → v < n → misfit ≡ None → AreDecisions p (decide made t v)) → (cs : List (DualTree T R S)) → w + length cs ≡ n → AllByRecursion GroundsLeaves cs
      → AllByRecursion (λ leaf. IsGrounded p leaf) (child_leaves misfit made t w (map (leaves_of term row value p q) cs))
  grounded_children misfit made t w n f [] e a = tt
  grounded_children misfit made t w n f (c ∷ cs) e a = each_append (λ leaf. IsGrounded p leaf) (leaves_of term row value p q c (record { misfit = misfit; made = decide made t w })) (child_leaves misfit made t (w + 1) (map (leaves_of term row value p q) cs))
      (a.0 (record { misfit = misfit; made = decide made t w }) (f w (omega arith))) (grounded_children misfit made t (w + 1) n f cs (omega arith) a.1)

  below_none : (above : Above) (t n : ℕ) → below_split p above t n ≡ None → (above.misfit ≡ None) × (is_fit p above.made t n ≡ true)
  below_none above t n e = settled t above.misfit (is_fit p above.made t n) e

  grounded_split : (t : T) (children : List (DualTree T R S)) → AllByRecursion GroundsLeaves children → GroundsLeaves (tree.Split t children)
  grounded_split t [] a above g = subst (λ (f : Above → List Leaf). AllByRecursion (λ leaf. IsGrounded p leaf) (f above)) (sym (leaves_of-split term row value p q t [])) (grounded_under p above.misfit above.made (Misfit (term t)) g, tt)
  grounded_split t (c ∷ cs) a above g = subst (λ (f : Above → List Leaf). AllByRecursion (λ leaf. IsGrounded p leaf) (f above)) (sym (leaves_of-split term row value p q t (c ∷ cs)))
      (grounded_children (below_split p above (term t) (length (map (leaves_of term row value p q) (c ∷ cs)))) above.made (term t) 0 (length (c ∷ cs))
      (λ v h e. let b = below_none above (term t) (length (map (leaves_of term row value p q) (c ∷ cs))) e in
      let f = fits-somehow term row value p q above.made (term t) (length (map (leaves_of term row value p q) (c ∷ cs))) b.1 in
      decide-AreDecisions p above.made (term t) v (g b.0) f.0 (omega (arith, h, f.2, length-map (c ∷ cs) (leaves_of term row value p q))))
      (c ∷ cs) (omega arith) a)

  pub leaves-grounded : (t : DualTree T R S) → GroundsLeaves t
  leaves-grounded = each_tree GroundsLeaves grounded_split
      (λ pairs above g. subst (λ (f : Above → List Leaf). AllByRecursion (λ leaf. IsGrounded p leaf) (f above)) (sym (leaves_of-none term row value p q pairs)) (grounded_under p above.misfit above.made _ g, tt))
      (λ pairs above g. subst (λ (f : Above → List Leaf). AllByRecursion (λ leaf. IsGrounded p leaf) (f above)) (sym (leaves_of-at_least term row value p q pairs)) (grounded_under p above.misfit above.made _ g, tt))

-- ---- a leaf's check is exact
leaf-exact : (limit : ℕ) (p : SoftProgram) (made : Decisions) (here : AtLeaf) → IsLawful p → IsGrounded p (record { made = made; here = here }) → AllMet (leaf_duties limit p (record { made = made; here = here })) → LeafProves p (record { made = made; here = here }) × IsLeafReckoned limit p (record { made = made; here = here })
leaf-exact limit p made (Misfit t) l g h = absurd h.0
leaf-exact limit p made (Shows claim ys) l g h = let e = duties-exact limit (program_under p made) claim ys (l.even made g) h.1 in (e.0, (h.0, e.1))

exact-leaf : (limit : ℕ) (p : SoftProgram) (made : Decisions) (here : AtLeaf) → LeafProves p (record { made = made; here = here }) → IsLeafReckoned limit p (record { made = made; here = here }) → AllMet (leaf_duties limit p (record { made = made; here = here }))
exact-leaf limit p made (Misfit t) h r = absurd h
exact-leaf limit p made (Shows claim ys) h r = (r.0, exact-duties limit (program_under p made) claim ys h r.1)

pub leaves-exact : (limit n : ℕ) (p : SoftProgram) (leaves : List Leaf) → IsLawful p → AllByRecursion (λ leaf. IsGrounded p leaf) leaves → AllMet (leaves_duties limit p n leaves) → ProvesTree p leaves × AreLeavesReckoned limit p leaves
leaves-exact limit n p [] l g h = (tt, tt)
leaves-exact limit n p (leaf ∷ leaves) l g h =
    let first = leaf-exact limit p leaf.made leaf.here l g.0 (at_leaf-AllMet n (leaf_duties limit p leaf) (AllMet-left (map (at_leaf n) (leaf_duties limit p leaf)) (leaves_duties limit p (n + 1) leaves) h)) in
    let rest = leaves-exact limit (n + 1) p leaves l g.1 (AllMet-right (map (at_leaf n) (leaf_duties limit p leaf)) (leaves_duties limit p (n + 1) leaves) h) in
    ((first.0, rest.0), (first.1, rest.1))

pub exact-leaves : (limit n : ℕ) (p : SoftProgram) (leaves : List Leaf) → ProvesTree p leaves → AreLeavesReckoned limit p leaves → AllMet (leaves_duties limit p n leaves)
exact-leaves limit n p [] h r = tt
exact-leaves limit n p (leaf ∷ leaves) h r = AllMet-append (map (at_leaf n) (leaf_duties limit p leaf)) (leaves_duties limit p (n + 1) leaves)
    (AllMet-at_leaf n (leaf_duties limit p leaf) (exact-leaf limit p leaf.made leaf.here h.0 r.0)) (exact-leaves limit (n + 1) p leaves h.1 r.1)

pub undecided-AreDecisions : (p : SoftProgram) (made : Decisions) → AreUndecided p made → AreDecisions p made
undecided-AreDecisions p made u = record { one_each = u.one_each; in_range = λ t w e. absurd (none_some w (decision_of made t) (u.none t) e) }
  where
    none_some : (w : ℕ) (o : Option ℕ) → o ≡ None → o ≡ Some w → ⊥
    none_some w o e f = cc
