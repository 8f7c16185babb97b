-- Ways up from a type to another: no way needs more steps than there are types, also where the types form a ring.
use Rattle.std.proofs.Common.{◌≡◌, refl, sym, ap, subst, ◌∙◌, ℕ, zero, suc, ◌+◌, ◌≤◌, Bool, true, false, true≢false, ◌||◌, ◌⊎◌, inl, inr, List, [], ◌∷◌, length, Option, None, Some, if◌then◌else◌, arith}
use Rattle.std.specs.Str.{bytes_eq}
use Rattle.std.specs.Option.{option_map_or}
use Rattle.std.proofs.lemmas.Slice.Eq.{bytes_eq-Decides}
use Rattle.basics.proofs.Bools.{or_true, or_false}
use Rattle.pddl_names.specs.Declarations.{Text, Typed, object_word, value_of, among}
use Rattle.pddl_names.specs.Fitting.{above, chain}

pub same_text : (a b : Text) → bytes_eq a b ≡ true → a ≡ b
same_text a b h = (bytes_eq-Decides a b).0 h

pub text_itself : (a : Text) → bytes_eq a a ≡ true
text_itself a = (bytes_eq-Decides a a).1 refl

pub other_text : (a b : Text) → bytes_eq a b ≡ false → bytes_eq b a ≡ false
other_text a b h = by (bytes_eq b a) refl
  where
    by : (c : Bool) → bytes_eq b a ≡ c → c ≡ false
    by false k = refl
    by true k = absurd (true≢false (sym (text_itself a) ∙ ap (λ x. bytes_eq a x) (sym (same_text b a k)) ∙ h))

-- so many steps up lead from one type to the other
abbrev pub Way : List Typed → ℕ → Text → Text → Type 0
Way types zero t u = t ≡ u
Way types (suc n) t u = (s : Text) × ((above types t ≡ Some s) × Way types n s u)

-- ---- without one type

abbrev without : List Typed → Text → List Typed
without [] t = []
without (e ∷ es) t = if bytes_eq t e.0 then without es t else e ∷ without es t

own_by : (es : List Typed) (t : Text) (e : Typed) (b : Bool) → bytes_eq t e.0 ≡ b → ◌≡◌ {A = Option Text} (value_of (without es t) t) None
    → ◌≡◌ {A = Option Text} (value_of (if b then without es t else e ∷ without es t) t) None
own_by es t e true h k = k
own_by es t e false h k = ap (λ c. if c then Some e.1 else value_of (without es t) t) h ∙ k

value_of-own : (es : List Typed) (t : Text) → ◌≡◌ {A = Option Text} (value_of (without es t) t) None
value_of-own [] t = refl
value_of-own (e ∷ es) t = own_by es t e (bytes_eq t e.0) refl (value_of-own es t)

other_by : (es : List Typed) (t x : Text) (e : Typed) (b : Bool) → bytes_eq t e.0 ≡ b → bytes_eq t x ≡ false → value_of (without es t) x ≡ value_of es x
    → value_of (if b then without es t else e ∷ without es t) x ≡ (if bytes_eq x e.0 then Some e.1 else value_of es x)
other_by es t x e true h n k =
    let apart : bytes_eq x e.0 ≡ false = ap (bytes_eq x) (sym (same_text t e.0 h)) ∙ other_text t x n in
    k ∙ sym (ap (λ c. if c then Some e.1 else value_of es x) apart)
other_by es t x e false h n k = ap (λ o. if bytes_eq x e.0 then Some e.1 else o) k

value_of-other : (es : List Typed) (t x : Text) → bytes_eq t x ≡ false → value_of (without es t) x ≡ value_of es x
value_of-other [] t x n = refl
value_of-other (e ∷ es) t x n = other_by es t x e (bytes_eq t e.0) refl n (value_of-other es t x n)

fewer_by : (es : List Typed) (t : Text) (e : Typed) (b : Bool) → length (without es t) ≤ length es → length (if b then without es t else e ∷ without es t) ≤ suc (length es)
fewer_by es t e true h = omega arith
fewer_by es t e false h = omega arith

without-fewer : (es : List Typed) (t : Text) → length (without es t) ≤ length es
without-fewer [] t = omega arith
without-fewer (e ∷ es) t = fewer_by es t e (bytes_eq t e.0) (without-fewer es t)

less_by : (es : List Typed) (t s : Text) (e : Typed) (b : Bool) → (if b then Some e.1 else value_of es t) ≡ Some s → (value_of es t ≡ Some s → suc (length (without es t)) ≤ length es)
    → suc (length (if b then without es t else e ∷ without es t)) ≤ suc (length es)
less_by es t s e true h later = let k = without-fewer es t in omega arith
less_by es t s e false h later = let k = later h in omega arith

-- a declared type makes its list longer
without-less : (es : List Typed) (t s : Text) → value_of es t ≡ Some s → suc (length (without es t)) ≤ length es
without-less [] t s h = absurd (cc)
without-less (e ∷ es) t s h = less_by es t s e (bytes_eq t e.0) h (without-less es t s)

-- ---- steps

declared_by : (types : List Typed) (t s : Text) (b : Bool) → (if b then None else value_of types t) ≡ Some s → value_of types t ≡ Some s
declared_by types t s true h = absurd (cc)
declared_by types t s false h = h

step_declared : (types : List Typed) (t s : Text) → above types t ≡ Some s → value_of types t ≡ Some s
step_declared types t s h = declared_by types t s (bytes_eq t object_word) h

step_with : (types : List Typed) (t x s : Text) → above (without types t) x ≡ Some s → above types x ≡ Some s
step_with types t x s h = by (bytes_eq t x) refl
  where
    by : (b : Bool) → bytes_eq t x ≡ b → above types x ≡ Some s
    by false n = ap (λ o. if bytes_eq x object_word then None else o) (sym (value_of-other types t x n)) ∙ h
    by true n =
        let e : value_of (without types t) x ≡ Some s = step_declared (without types t) x s h in
        let none : ◌≡◌ {A = Option Text} (value_of (without types t) x) None = ap (value_of (without types t)) (sym (same_text t x n)) ∙ value_of-own types t in
        let clash : Some s ≡ None = sym e ∙ none in
        absurd (cc)

step_without : (types : List Typed) (t x s : Text) → bytes_eq t x ≡ false → above types x ≡ Some s → above (without types t) x ≡ Some s
step_without types t x s n h = ap (λ o. if bytes_eq x object_word then None else o) (value_of-other types t x n) ∙ h

way_with : (types : List Typed) (t : Text) (n : ℕ) (x u : Text) → Way (without types t) n x u → Way types n x u
way_with types t zero x u w = w
way_with types t (suc n) x u w = (w.0, (step_with types t x w.0 w.1.0, way_with types t n w.0 u w.1.1))

abbrev Passes : List Typed → Text → ℕ → Text → Text → Type 0
Passes types t n x u = Way (without types t) n x u ⊎ ((j : ℕ) × ((j ≤ n) × Way types j t u))

passes_by : (types : List Typed) (t : Text) (n : ℕ) (x u : Text) (b : Bool) → bytes_eq t x ≡ b → (w : Way types (suc n) x u) → Passes types t n w.0 u → Passes types t (suc n) x u
passes_by types t n x u true h w later = inr (suc n, (omega arith, subst (λ y. Way types (suc n) y u) (sym (same_text t x h)) w))
passes_by types t n x u false h w (inl v) = inl (w.0, (step_without types t x w.0 h w.1.0, v))
passes_by types t n x u false h w (inr v) = let k : v.0 ≤ suc n = omega (arith, v.1.0) in inr (v.0, (k, v.1.1))

-- a way goes past a type, or its end can be reached from there in no more steps
way_passes : (types : List Typed) (t : Text) (n : ℕ) (x u : Text) → Way types n x u → Passes types t n x u
way_passes types t zero x u w = inl w
way_passes types t (suc n) x u w = passes_by types t n x u (bytes_eq t x) refl w (way_passes types t n w.0 u w.1.1)

abbrev pub Short : List Typed → ℕ → Text → Text → Type 0
Short types most t u = (k : ℕ) × ((k ≤ most) × Way types k t u)

shorten : (most : ℕ) (types : List Typed) → length types ≤ most → (fuel n : ℕ) → n ≤ fuel → (t u : Text) → Way types n t u → Short types most t u
shorten most types few fuel zero h t u w = (0, (omega arith, w))
shorten most types few zero (suc n) h t u w = absurd (omega arith)
shorten zero types few (suc fuel) (suc n) h t u w = let k = without-less types t w.0 (step_declared types t w.0 w.1.0) in absurd (omega arith)
shorten (suc most) types few (suc fuel) (suc n) h t u w =
    let less = without-less types t w.0 (step_declared types t w.0 w.1.0) in
    elim (way_passes types t n w.0 u w.1.1) [
      | inl v ↦
          let rest = shorten most (without types t) (omega arith) n n (omega arith) w.0 u v in
          (suc rest.0, (omega (arith, rest.1.0), (w.0, (w.1.0, way_with types t rest.0 w.0 u rest.1.1))))
      | inr v ↦ shorten (suc most) types few fuel v.0 (omega (arith, v.1.0)) t u v.1.1
    ]

-- no way needs more steps than there are types
pub short_way : (types : List Typed) (n : ℕ) (t u : Text) → Way types n t u → Short types (length types) t u
short_way types n t u w = shorten (length types) types (omega arith) n n (omega arith) t u w

pub joined_ways : (types : List Typed) (m n : ℕ) (a b c : Text) → Way types m a b → Way types n b c → Way types (m + n) a c
joined_ways types zero n a b c v w = let e : n ≡ 0 + n = omega arith in subst (λ k. Way types k a c) e (subst (λ x. Way types n x c) (sym v) w)
joined_ways types (suc m) n a b c v w =
    let e : suc (m + n) ≡ suc m + n = omega arith in
    let longer : Way types (suc (m + n)) a c = (v.0, (v.1.0, joined_ways types m n v.0 b c v.1.1 w)) in
    subst (λ k. Way types k a c) e longer

-- ---- the chain

chain_way_by : (types : List Typed) (n : ℕ) (t u : Text) (b : Bool) → bytes_eq u t ≡ b → (o : Option Text) → above types t ≡ o
    → ((s : Text) → among (chain types n s) u ≡ true → Short types n s u) → (b || among (option_map_or (chain types n) o []) u) ≡ true → Short types (suc n) t u
chain_way_by types n t u true e o a later h = (0, (omega arith, sym (same_text u t e)))
chain_way_by types n t u false e None a later h = absurd (true≢false (sym h))
chain_way_by types n t u false e (Some s) a later h = let w = later s h in (suc w.0, (omega (arith, w.1.0), (s, (a, w.1.1))))

-- what stands in the chain is reached
pub chain-way : (types : List Typed) (n : ℕ) (t u : Text) → among (chain types n t) u ≡ true → Short types n t u
unfolding chain
chain-way types zero t u h = (0, (omega arith, sym (same_text u t (sym (or_false (bytes_eq u t)) ∙ h))))
chain-way types (suc n) t u h = chain_way_by types n t u (bytes_eq u t) refl (above types t) refl (λ s k. chain-way types n s u k) h

-- and what is reached stands in it
pub way-chain : (types : List Typed) (n k : ℕ) (t u : Text) → k ≤ n → Way types k t u → among (chain types n t) u ≡ true
unfolding chain
way-chain types zero zero t u h w = ap (λ x. bytes_eq u x || false) w ∙ ap (λ b. b || false) (text_itself u)
way-chain types (suc n) zero t u h w = ap (λ x. bytes_eq u x || among (option_map_or (chain types n) (above types t) []) u) w ∙ ap (λ b. b || among (option_map_or (chain types n) (above types t) []) u) (text_itself u)
way-chain types zero (suc k) t u h w = absurd (omega arith)
way-chain types (suc n) (suc k) t u h w =
    ap (λ o. bytes_eq u t || among (option_map_or (chain types n) o []) u) w.1.0 ∙ ap (λ b. bytes_eq u t || b) (way-chain types n k w.0 u (omega arith) w.1.1) ∙ or_true (bytes_eq u t)
