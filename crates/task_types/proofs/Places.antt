-- Numbered lists that grow by one place.
use Rattle.std.proofs.Common.{◌≡◌, refl, sym, ap, ◌∙◌, ℕ, zero, suc, ◌+◌, ◌<◌, Bool, true, false, cond, List, [], ◌∷◌, ◌++◌, length, map, take, arith, append_assoc}
use Rattle.std.specs.Prelude.{slice_index_or, if◌then◌else◌}
use Rattle.std.specs.List.{filter, flat_map, range_with_len, enumerate_from}
use Rattle.std.proofs.lemmas.List.{append-nil, map-append, map-id, take_more}
use Rattle.std.proofs.lemmas.List.FromFn.{map-range_with_len_more}
use Rattle.std.proofs.lemmas.List.Concat.{flat_map-append}
use Rattle.basics.proofs.Lists.{map-filter-append}
use Rattle.task_types.specs.Sets.{numbers, is_in}
use Rattle.task_types.specs.Related.{IsFlags}

pub numbers-more : (i : ℕ) → numbers (i + 1) ≡ numbers i ++ i ∷ []
numbers-more i = sym (map-id (numbers (i + 1))) ∙ map-range_with_len_more (λ k. k) 0 i i (omega arith) ∙ ap (λ l. l ++ i ∷ []) (map-id (numbers i))

module _ {X : Type 0} where
  enumerate_from-more : (a : ℕ) (xs : List X) (i : ℕ) (x : X) → i < length xs → x ≡ slice_index_or xs i x → enumerate_from a (take (i + 1) xs) ≡ enumerate_from a (take i xs) ++ (a + i, x) ∷ []
  enumerate_from-more a [] i x h e = absurd (omega arith)
  enumerate_from-more a (y ∷ ys) zero x h e = let z : a + 0 ≡ a = omega arith in rw z (ap (λ v. (a, v) ∷ []) (sym e))
  enumerate_from-more a (y ∷ ys) (suc i) x h e =
      let s : suc i + 1 ≡ suc (i + 1) = omega arith in
      let t : a + 1 + i ≡ a + suc i = omega arith in
      rw s (ap (λ l. (a, y) ∷ l) (enumerate_from-more (a + 1) ys i x (omega arith) e ∙ ap (λ k. enumerate_from (a + 1) (take i ys) ++ (k, x) ∷ []) t))

  pub enumerate-more : (xs : List X) (i : ℕ) (x : X) → i < length xs → x ≡ slice_index_or xs i x → enumerate_from 0 (take (i + 1) xs) ≡ enumerate_from 0 (take i xs) ++ (i, x) ∷ []
  enumerate-more xs i x h e = let z : 0 + i ≡ i = omega arith in enumerate_from-more 0 xs i x h e ∙ ap (λ k. enumerate_from 0 (take i xs) ++ (k, x) ∷ []) z

-- what is made of each element, one more element
pub flat_map-take-more : {X Y : Type 0} (f : X → List Y) (xs : List X) (i : ℕ) (x : X) → i < length xs → x ≡ slice_index_or xs i x → flat_map f (take (i + 1) xs) ≡ flat_map f (take i xs) ++ f x
flat_map-take-more f xs i x h e = ap (flat_map f) (take_more xs i x h ∙ ap (λ y. take i xs ++ y ∷ []) (sym e)) ∙ flat_map-append f (take i xs) (x ∷ []) ∙ ap (λ l. flat_map f (take i xs) ++ l) (append-nil (f x))

-- what is made of each place, one more place
pub flat_map-enumerate-more : {X Y : Type 0} (f : ℕ × X → List Y) (xs : List X) (i : ℕ) (x : X) → i < length xs → x ≡ slice_index_or xs i x → flat_map f (enumerate_from 0 (take (i + 1) xs)) ≡ flat_map f (enumerate_from 0 (take i xs)) ++ f (i, x)
flat_map-enumerate-more f xs i x h e = ap (flat_map f) (enumerate-more xs i x h e) ∙ flat_map-append f (enumerate_from 0 (take i xs)) ((i, x) ∷ []) ∙ ap (λ l. flat_map f (enumerate_from 0 (take i xs)) ++ l) (append-nil (f (i, x)))

map-filter-one : {X Y : Type 0} (f : X → Y) (p : X → Bool) (x : X) → map f (filter p (x ∷ [])) ≡ (if p x then f x ∷ [] else [])
map-filter-one f p x = go (p x)
  where
    go : (b : Bool) → map f (cond b (x ∷ []) []) ≡ (if b then f x ∷ [] else [])
    go true = refl
    go false = refl

pub map-filter-enumerate-more : {X Y : Type 0} (f : ℕ × X → Y) (p : ℕ × X → Bool) (xs : List X) (i : ℕ) (x : X) → i < length xs → x ≡ slice_index_or xs i x
    → map f (filter p (enumerate_from 0 (take (i + 1) xs))) ≡ map f (filter p (enumerate_from 0 (take i xs))) ++ (if p (i, x) then f (i, x) ∷ [] else [])
map-filter-enumerate-more f p xs i x h e = ap (λ l. map f (filter p l)) (enumerate-more xs i x h e) ∙ map-filter-append f p (enumerate_from 0 (take i xs)) ((i, x) ∷ []) ∙ ap (λ l. map f (filter p (enumerate_from 0 (take i xs))) ++ l) (map-filter-one f p (i, x))

pub map-filter-numbers-more : {Y : Type 0} (f : ℕ → Y) (p : ℕ → Bool) (i : ℕ) → map f (filter p (numbers (i + 1))) ≡ map f (filter p (numbers i)) ++ (if p i then f i ∷ [] else [])
map-filter-numbers-more f p i = ap (λ l. map f (filter p l)) (numbers-more i) ∙ map-filter-append f p (numbers i) (i ∷ []) ∙ ap (λ l. map f (filter p (numbers i)) ++ l) (map-filter-one f p i)

pub map-numbers-more : {Y : Type 0} (f : ℕ → Y) (i : ℕ) → map f (numbers (i + 1)) ≡ map f (numbers i) ++ f i ∷ []
map-numbers-more f i = ap (map f) (numbers-more i) ∙ map-append f (numbers i) (i ∷ [])

range-below : (p q : ℕ → Bool) (a n : ℕ) → ((k : ℕ) → k < a + n → p k ≡ q k) → filter p (range_with_len a n) ≡ filter q (range_with_len a n)
range-below p q a zero h = refl
range-below p q a (suc n) h = rw (h a (omega arith), range-below p q (a + 1) n (λ k l. h k (omega arith))) refl

pub filter-numbers-below : (p q : ℕ → Bool) (n : ℕ) → ((k : ℕ) → k < n → p k ≡ q k) → filter p (numbers n) ≡ filter q (numbers n)
filter-numbers-below p q n h = range-below p q 0 n (λ k l. h k (omega arith))

-- six lists put at the end of one after the other, the fourth and fifth of which make up one
pub six_put : {X : Type 0} (out first second third fourth fifth last a b c d e f both : List X) → first ≡ out ++ a → second ≡ first ++ b → third ≡ second ++ c → fourth ≡ third ++ d → fifth ≡ fourth ++ e → last ≡ fifth ++ f
    → both ≡ d ++ e → last ≡ out ++ (a ++ b ++ c ++ both ++ f)
six_put out first second third fourth fifth last a b c d e f both h1 h2 h3 h4 h5 h6 h = rw (h6, h5, h4, h3, h2, h1, h) (simp append_assoc)

-- four lists put at the end of one after the other
pub four_put : {X : Type 0} (out first second third last a b c d : List X) → first ≡ out ++ a → second ≡ first ++ b → third ≡ second ++ c → last ≡ third ++ d → last ≡ out ++ (a ++ b ++ c ++ d)
four_put out first second third last a b c d h1 h2 h3 h4 = rw (h4, h3, h2, h1) (simp append_assoc)

-- choosing by flags is choosing by the list
pub chosen_by_flags : (flags : List Bool) (count : ℕ) (chosen : List ℕ) → IsFlags flags count chosen → filter (λ f. slice_index_or flags f false) (numbers (length flags)) ≡ filter (λ f. is_in f chosen) (numbers count)
chosen_by_flags flags count chosen h = ap (λ n. filter (λ f. slice_index_or flags f false) (numbers n)) h.long ∙ filter-numbers-below (λ f. slice_index_or flags f false) (λ f. is_in f chosen) count h.each
