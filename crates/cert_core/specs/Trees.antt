-- Believed: trees of decisions, read as the list of their leaves, what they prove, and what their check asks.
use Rattle.std.specs.Prelude.{ℕ, ◌+◌, ◌-◌, slice_index_or, Bool, true, false, ◌&&◌, nat_eq, nat_lt, nat_le, Option, Some, None, List, [], ◌∷◌, ◌++◌, length, map, sum, if◌then◌else◌}
use Rattle.std.specs.List.{AllByRecursion}
use Rattle.rational.specs.Rational.{ℚ}
use Rattle.cert_core.specs.declared.program.CertFault.{CertFault}
use Rattle.cert_core.specs.declared.program.CertFault.TheVariants.{Range, Wide}
use Rattle.cert_core.specs.declared.claim.Claim.{Claim}
use Rattle.cert_core.specs.declared.claim.Claim.TheVariants.{Empty, AtLeast}
use Rattle.cert_core.specs.declared.tree.TreeFault.{TreeFault}
use Rattle.cert_core.specs.declared.tree.DualTree.{DualTree, fold-DualTree}
use Rattle.cert_core.specs.declared.tree.DualTree.TheOpen.{DualTree-F}
use Rattle.cert_core.specs.Soft.{SoftProgram, Decisions, ways_of, decision_of, decide, program_under}
use Rattle.basics.specs.Duties.{Duty}
use Rattle.cert_core.specs.Checks.{Proves, AreReckoned, duties}
use Rattle.cert_core.specs.Faults.{multipliers_of}

-- what stands at a leaf: the term of a split above it that can't be made, or multipliers with the claim that they are for
pub data AtLeaf : Type 0 where
  Misfit : (term : ℕ) → AtLeaf
  Shows : (claim : Claim ℚ) (row : List (ℕ × ℚ)) → AtLeaf

-- a leaf, with the decisions above it
pub record Leaf : Type 0 where
  pub made : Decisions
  pub here : AtLeaf

-- what stands above a part of a tree: the term of the first split that can't be made, and the decisions
pub record Above : Type 0 where
  pub misfit : Option ℕ
  pub made : Decisions

-- below a split that can't be made nothing else counts
abbrev pub leaf_under : Above → AtLeaf → Leaf
leaf_under above here = record { made = above.made; here = elim above.misfit [ None ↦ here | Some t ↦ Misfit t ] }

abbrev pub is_undecided : Option ℕ → Bool
is_undecided None = true
is_undecided (Some w) = false

-- a split can be made where it names a term that is still undecided and has one child for each way of it
abbrev pub is_fit : SoftProgram → Decisions → ℕ → ℕ → Bool
is_fit p made t children = nat_lt t (length p.ways) && (is_undecided (decision_of made t) && nat_eq children (ways_of p t))

-- what stands above the children of a split
abbrev pub below_split : SoftProgram → Above → ℕ → ℕ → Option ℕ
below_split p above t children = elim above.misfit [ Some s ↦ Some s | None ↦ if is_fit p above.made t children then None else Some t ]

-- the leaves of the children, one way after another
abbrev pub child_leaves : Option ℕ → Decisions → ℕ → ℕ → List (Above → List Leaf) → List Leaf
child_leaves misfit made t w [] = []
child_leaves misfit made t w (c ∷ cs) = c (record { misfit = misfit; made = decide made t w }) ++ child_leaves misfit made t (w + 1) cs

-- a split without children counts as one leaf
abbrev pub split_leaves : SoftProgram → Above → ℕ → List (Above → List Leaf) → List Leaf
split_leaves p above t [] = leaf_under above (Misfit t) ∷ []
split_leaves p above t (c ∷ cs) = child_leaves (below_split p above t (length (c ∷ cs))) above.made t 0 (c ∷ cs)

-- the leaves of one layer, from those of its children
abbrev pub layer_leaves : {T R S : Type 0} → (T → ℕ) → (R → ℕ) → (S → ℚ) → SoftProgram → ℚ → DualTree-F T R S (Above → List Leaf) → Above → List Leaf
layer_leaves term row value p q (DualTree-F.Split t children) above = split_leaves p above (term t) children
layer_leaves term row value p q (DualTree-F.None pairs) above = leaf_under above (Shows Empty (multipliers_of row value pairs)) ∷ []
layer_leaves term row value p q (DualTree-F.AtLeast pairs) above = leaf_under above (Shows (AtLeast q) (multipliers_of row value pairs)) ∷ []

-- the leaves of a tree that claims the cost q, in order
unfoldable pub leaves_of : {T R S : Type 0} → (T → ℕ) → (R → ℕ) → (S → ℚ) → SoftProgram → ℚ → DualTree T R S → Above → List Leaf
leaves_of {T} {R} {S} term row value p q tree = fold-DualTree T R S (Above → List Leaf) (layer_leaves term row value p q) tree

-- a leaf proves its program, under the decisions above it, to be as it claims
abbrev pub LeafProves : SoftProgram → Leaf → Type 0
LeafProves p leaf = elim leaf.here [ Misfit t ↦ ⊥ | Shows claim ys ↦ Proves (program_under p leaf.made) claim ys ]

-- each sum that its check reckons, the base among them, is defined
abbrev pub IsLeafReckoned : ℕ → SoftProgram → Leaf → Type 0
IsLeafReckoned limit p leaf = elim leaf.here [ Misfit t ↦ Unit {0} | Shows claim ys ↦ p.CanReckonBase leaf.made × AreReckoned limit (program_under p leaf.made) claim ys ]

-- what the check of a leaf asks: the splits above it, the base, then the multipliers
abbrev pub leaf_duties : ℕ → SoftProgram → Leaf → List (Duty (CertFault ℕ ℕ))
leaf_duties limit p leaf = elim leaf.here [
  | Misfit t ↦ record { fault = Range t; Met = ⊥ } ∷ []
  | Shows claim ys ↦ record { fault = Wide; Met = p.CanReckonBase leaf.made } ∷ duties limit (program_under p leaf.made) claim ys
]

abbrev pub at_leaf : ℕ → Duty (CertFault ℕ ℕ) → Duty (TreeFault ℕ ℕ)
at_leaf n d = record { fault = record { leaf = n; fault = d.fault }; Met = d.Met }

-- what the check of a tree asks: its leaves one after another, counted from n
abbrev pub leaves_duties : ℕ → SoftProgram → ℕ → List Leaf → List (Duty (TreeFault ℕ ℕ))
leaves_duties limit p n [] = []
leaves_duties limit p n (leaf ∷ leaves) = map (at_leaf n) (leaf_duties limit p leaf) ++ leaves_duties limit p (n + 1) leaves

-- the number is one of those from `from` to `to`
abbrev pub is_between : ℕ → ℕ → ℕ → Bool
is_between from to n = nat_le from n && nat_le n to

-- the duties, where they are asked
abbrev pub asked_duties : {F : Type 0} → Bool → List (Duty F) → List (Duty F)
asked_duties true ds = ds
asked_duties false ds = []

-- what the check of the leaves with the numbers from `from` to `to` asks, where the leaves count from n
abbrev pub between_duties : ℕ → SoftProgram → ℕ → ℕ → ℕ → List Leaf → List (Duty (TreeFault ℕ ℕ))
between_duties limit p from to n [] = []
between_duties limit p from to n (leaf ∷ leaves) = asked_duties (is_between from to n) (map (at_leaf n) (leaf_duties limit p leaf)) ++ between_duties limit p from to (n + 1) leaves

-- nothing stands above a tree but these decisions
abbrev pub top : Decisions → Above
top made = record { misfit = None; made = made }

-- the tree proves the cost q: each of its leaves proves its part
abbrev pub ProvesTree : SoftProgram → List Leaf → Type 0
ProvesTree p leaves = AllByRecursion (λ leaf. LeafProves p leaf) leaves

-- the number of leaves of one layer, from those of its children
abbrev pub layer_count : {T R S : Type 0} → DualTree-F T R S ℕ → ℕ
layer_count (DualTree-F.Split t children) = elim children [ [] ↦ 1 | c ∷ cs ↦ sum (c ∷ cs) ]
layer_count (DualTree-F.None pairs) = 1
layer_count (DualTree-F.AtLeast pairs) = 1

-- the number of leaves of a tree
unfoldable pub leaf_count : {T R S : Type 0} → DualTree T R S → ℕ
leaf_count {T} {R} {S} tree = fold-DualTree T R S ℕ layer_count tree

-- each sum that the check of these leaves reckons is defined
abbrev pub AreLeavesReckoned : ℕ → SoftProgram → List Leaf → Type 0
AreLeavesReckoned limit p leaves = AllByRecursion (λ leaf. IsLeafReckoned limit p leaf) leaves

-- the leaf with a number, counted from 1
abbrev pub leaf_at : List Leaf → ℕ → Leaf
leaf_at leaves n = slice_index_or leaves (n - 1) (record { made = []; here = Misfit 0 })

-- what the check of the leaf with a number asks
abbrev pub numbered_duties : ℕ → SoftProgram → List Leaf → ℕ → List (Duty (CertFault ℕ ℕ))
numbered_duties limit p leaves n = leaf_duties limit p (leaf_at leaves n)
