-- The first wrong place is the least.
use Rattle.std.proofs.Common.{ℕ, suc, ◌≤◌, Bool, true, false, List, [], ◌∷◌, ◌++◌, Option, Some, None, if◌then◌else◌, sym, subst, arith}
use Rattle.pddl_terms.specs.declared.grammar.Rest.{Rest}
use Rattle.pddl_terms.specs.Content.{Content, End, Word, Inner}
use Rattle.pddl_terms.specs.Shape.{wrong, takes, enters, leaves, or_here, kind_ahead, word_ahead, may_end, IsFirst}
use Rattle.pddl_terms.specs.Order.{close_of, Ascends, IsLeast}

-- the places ascend and lie between these two
AreFrom : ℕ → ℕ → List ℕ → Type 0
AreFrom low high [] = Unit {0}
AreFrom low high (p ∷ ps) = (low ≤ p) × (p ≤ high) × AreFrom p high ps

from-lower : (low lower high : ℕ) (ps : List ℕ) → lower ≤ low → AreFrom low high ps → AreFrom lower high ps
unfolding AreFrom
from-lower low lower high [] h f = tt
from-lower low lower high (p ∷ ps) h f = (omega (arith, f.0), f.1, f.2)

from-append : (low mid high : ℕ) (ps qs : List ℕ) → low ≤ suc mid → mid ≤ high → AreFrom low mid ps → AreFrom (suc mid) high qs → AreFrom low high (ps ++ qs)
unfolding AreFrom
from-append low mid high [] qs h k f g = from-lower (suc mid) low high qs h g
from-append low mid high (p ∷ ps) qs h k f g = (f.0, omega (arith, f.1), from-append p mid high ps qs (omega (arith, f.1)) k f.2 g)

from-here : (low high place : ℕ) (o : Option Rest) (go : Rest → List ℕ) → low ≤ place → place ≤ high → ((s : Rest) → AreFrom low high (go s)) → AreFrom low high (or_here place o go)
unfolding AreFrom
from-here low high place None go h k f = (h, k, tt)
from-here low high place (Some s) go h k f = f s

from-end : (low close : ℕ) (b : Bool) → low ≤ close → AreFrom low close (if b then [] else close ∷ [])
unfolding AreFrom
from-end low close true h = tt
from-end low close false h = (h, omega arith, tt)

pub ascends-close : (low : ℕ) (x : Content) → Ascends low x → low ≤ close_of x
ascends-close low (End close) a = a
ascends-close low (Word w more) a = let later = ascends-close (suc w.at) more a.1 in omega (arith, a.0)
ascends-close low (Inner at inner more) a =
    let within = ascends-close (suc at) inner a.1 in
    let later = ascends-close (suc (close_of inner)) more a.2 in
    omega (arith, a.0)

wrong-from : (r : Rest) (low : ℕ) (x : Content) → Ascends low x → AreFrom low (close_of x) (wrong r x)
unfolding wrong
wrong-from r low (End close) a = from-end low close (may_end r) a
wrong-from r low (Word w more) a =
    let later = ascends-close (suc w.at) more a.1 in
    from-here low (close_of more) w.at (takes r (w.bytes) w.kind (kind_ahead more)) (λ s. wrong s more) a.0 (omega arith)
    (λ s. from-lower (suc w.at) low (close_of more) (wrong s more) (omega (arith, a.0)) (wrong-from s (suc w.at) more a.1))
wrong-from r low (Inner at inner more) a =
    let within = ascends-close (suc at) inner a.1 in
    let later = ascends-close (suc (close_of inner)) more a.2 in
    from-here low (close_of more) at (enters r (word_ahead inner)) (λ s. wrong s inner ++ wrong (leaves r (word_ahead inner)) more) a.0 (omega arith)
    (λ s. from-append low (close_of inner) (close_of more) (wrong s inner) (wrong (leaves r (word_ahead inner)) more) (omega (arith, a.0)) (omega arith)
    (from-lower (suc at) low (close_of inner) (wrong s inner) (omega (arith, a.0)) (wrong-from s (suc at) inner a.1))
    (wrong-from (leaves r (word_ahead inner)) (suc (close_of inner)) more a.2))

from-least : (low place high : ℕ) (ps : List ℕ) → place ≤ low → AreFrom low high ps → IsLeast place ps
unfolding AreFrom
from-least low place high [] h f = tt
from-least low place high (p ∷ ps) h f = (omega (arith, f.0), from-least p place high ps (omega (arith, f.0)) f.2)

-- the first wrong place of a list whose tokens ascend is the least
pub first_is_least : (low : ℕ) (x : Content) (r : Rest) (place : ℕ) → Ascends low x → IsFirst place (wrong r x) → IsLeast place (wrong r x)
unfolding AreFrom
first_is_least low x r place a first =
    let all : AreFrom low (close_of x) (place ∷ first.0) = subst (AreFrom low (close_of x)) first.1 (wrong-from r low x a) in
    subst (IsLeast place) (sym first.1) (omega arith, from-least place place (close_of x) first.0 (omega arith) all.2)

-- and it lies in the list
pub first-within : (low : ℕ) (x : Content) (r : Rest) (place : ℕ) → Ascends low x → IsFirst place (wrong r x) → (low ≤ place) × (place ≤ close_of x)
unfolding AreFrom
first-within low x r place a first =
    let all : AreFrom low (close_of x) (place ∷ first.0) = subst (AreFrom low (close_of x)) first.1 (wrong-from r low x a) in
    (all.0, all.1)
