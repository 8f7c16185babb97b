-- The ways to choose, by their numbers.
use Rattle.std.proofs.Common.{◌≡◌, refl, sym, ap, ap₂, ◌∙◌, ℕ, zero, suc, ◌+◌, ◌*◌, ◌/◌, ◌%◌, ◌<◌, arith, List, [], ◌∷◌, ◌++◌, map, length, get_or, slice_index_or}
use Rattle.std.specs.List.{flat_map, range_with_len}
use Rattle.std.proofs.Math.Nat.{zero-mul, suc-mul}
use Rattle.std.proofs.lemmas.List.{map-append}
use Rattle.std.proofs.lemmas.Nat.{div-mul-add, mod-mul-add}
use Rattle.ground_world.specs.Bindings.{numbers, choices, choice_count, choice_at}

shifted : {X : Type 0} (f g : ℕ → X) (a b n : ℕ) → ((j : ℕ) → j < n → f (a + j) ≡ g (b + j)) → map f (range_with_len a n) ≡ map g (range_with_len b n)
shifted f g a b zero h = refl
shifted f g a b (suc n) h =
    let first : f a ≡ g b = let x : a + 0 ≡ a = omega arith in let y : b + 0 ≡ b = omega arith in ap f (sym x) ∙ h 0 (omega arith) ∙ ap g y in
    ap₂ (λ x l. x ∷ l) first (shifted f g (a + 1) (b + 1) n (λ j l.
    let x : a + 1 + j ≡ a + (j + 1) = omega arith in
    let y : b + (j + 1) ≡ b + 1 + j = omega arith in
    ap f x ∙ h (j + 1) (omega arith) ∙ ap g y))

range-split : (a x y : ℕ) → range_with_len a (x + y) ≡ range_with_len a x ++ range_with_len (a + x) y
range-split a zero y =
    let e : 0 + y ≡ y = omega arith in
    let f : a ≡ a + 0 = omega arith in
    ap (range_with_len a) e ∙ ap (λ b. range_with_len b y) f
range-split a (suc x) y =
    let e : suc x + y ≡ suc (x + y) = omega arith in
    let f : a + 1 + x ≡ a + suc x = omega arith in
    ap (range_with_len a) e ∙ ap (λ l. a ∷ l) (range-split (a + 1) x y ∙ ap (λ b. range_with_len (a + 1) x ++ range_with_len b y) f)

map-twice : (o : ℕ) (d : ℕ → List ℕ) (ks : List ℕ) → map (λ rest. o ∷ rest) (map d ks) ≡ map (λ k. o ∷ d k) ks
map-twice o d [] = refl
map-twice o d (k ∷ ks) = ap (λ l. (o ∷ d k) ∷ l) (map-twice o d ks)

blocks : (n : ℕ) (d : ℕ → List ℕ) (at : ℕ → ℕ) (i : ℕ) (c : List ℕ) → ((j : ℕ) → j < length c → at (i + j) ≡ get_or c j 0)
    → flat_map (λ o. map (λ rest. o ∷ rest) (map d (range_with_len 0 n))) c ≡ map (λ k. at (k / n) ∷ d (k % n)) (range_with_len (i * n) (length c * n))
blocks n d at i [] h = ap (λ m. map (λ k. at (k / n) ∷ d (k % n)) (range_with_len (i * n) m)) (sym (zero-mul n))
blocks n d at i (o ∷ c) h =
    let f : ℕ → List ℕ = λ k. at (k / n) ∷ d (k % n) in
    let here : at i ≡ o = let x : i ≡ i + 0 = omega arith in ap at x ∙ h 0 (omega arith) in
    let first : map (λ rest. o ∷ rest) (map d (range_with_len 0 n)) ≡ map f (range_with_len (i * n) n) =
    map-twice o d (range_with_len 0 n) ∙ sym (shifted f (λ k. o ∷ d k) (i * n) 0 n (λ j l.
    let y : j ≡ 0 + j = omega arith in
    ap₂ (λ x r. x ∷ d r) (ap at (div-mul-add i n j l) ∙ here) (mod-mul-add i n j l ∙ y))) in
    let e : i * n + n ≡ (i + 1) * n = let x : i + 1 ≡ suc i = omega arith in sym (ap (λ k. k * n) x ∙ suc-mul i n) in
    let s : suc (length c) * n ≡ n + length c * n = let x : suc (length c) * n ≡ length c * n + n = suc-mul (length c) n in omega arith in
    ap₂ (λ l m. l ++ m) first (blocks n d at (i + 1) c (λ j l. let x : i + 1 + j ≡ i + suc j = omega arith in ap at x ∙ h (suc j) (omega arith)))
    ∙ ap (λ b. map f (range_with_len (i * n) n) ++ map f (range_with_len b (length c * n))) (sym e)
    ∙ sym (map-append f (range_with_len (i * n) n) (range_with_len (i * n + n) (length c * n)))
    ∙ ap (map f) (sym (range-split (i * n) n (length c * n)))
    ∙ ap (λ m. map f (range_with_len (i * n) m)) (sym s)

-- The ways are those of number 0, 1, 2 ..
pub choices-by_number : (cs : List (List ℕ)) → choices cs ≡ map (choice_at cs) (numbers (choice_count cs))
choices-by_number [] = refl
choices-by_number (c ∷ cs) =
    let z : 0 ≡ 0 * choice_count cs = sym (zero-mul (choice_count cs)) in
    ap (λ l. flat_map (λ o. map (λ rest. o ∷ rest) l) c) (choices-by_number cs)
    ∙ blocks (choice_count cs) (choice_at cs) (λ j. slice_index_or c j 0) 0 c (λ j l. let x : 0 + j ≡ j = omega arith in ap (λ k. get_or c k 0) x)
    ∙ ap (λ a. map (choice_at (c ∷ cs)) (range_with_len a (length c * choice_count cs))) (sym z)
