-- Believed: what is claimed of the checks of trees.
use Rattle.std.specs.Prelude.{◌↔◌, ℕ, ◌<◌, ◌≤◌, List, length}
use Rattle.rational.specs.Rational.{ℚ}
use Rattle.basics.specs.Duties.{AllMet, IsFirstUnmet}
use Rattle.cert_core.specs.declared.tree.TreeFault.{TreeFault}
use Rattle.cert_core.specs.declared.tree.DualTree.{DualTree}
use Rattle.cert_core.specs.Soft.{Decisions, SoftProgram, AreUndecided}
use Rattle.cert_core.specs.Trees.{Leaf, leaves_of, top, leaves_duties, numbered_duties, ProvesTree, AreLeavesReckoned}

-- The check of a tree fails exactly at the least leaf whose own check fails, with that leaf's fault.
abbrev pub FailsAtFirstLeaf : ℕ → SoftProgram → Type 0
FailsAtFirstLeaf limit p = (leaves : List Leaf) (f : TreeFault ℕ ℕ) → IsFirstUnmet (leaves_duties limit p 1 leaves) f
    ↔ ((1 ≤ f.leaf) × (f.leaf ≤ length leaves) × IsFirstUnmet (numbered_duties limit p leaves f.leaf) f.fault × ((n : ℕ) → 1 ≤ n → n < f.leaf → AllMet (numbered_duties limit p leaves n)))

-- each leaf passes its own check
abbrev pub EachLeafPasses : ℕ → SoftProgram → List Leaf → Type 0
EachLeafPasses limit p leaves = (n : ℕ) → 1 ≤ n → n ≤ length leaves → AllMet (numbered_duties limit p leaves n)

-- Each leaf passes its own check exactly where the tree proves its cost and each sum that its check reckons is defined.
abbrev pub PassesWithItsLeaves : {T R S : Type 0} → (T → ℕ) → (R → ℕ) → (S → ℚ) → ℕ → SoftProgram → DualTree T R S → Type 0
PassesWithItsLeaves term row value limit p tree = (q : ℚ) (made : Decisions) → AreUndecided p made
    → EachLeafPasses limit p (leaves_of term row value p q tree (top made))
    ↔ (ProvesTree p (leaves_of term row value p q tree (top made)) × AreLeavesReckoned limit p (leaves_of term row value p q tree (top made)))
