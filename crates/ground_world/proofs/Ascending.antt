-- Lists of lists in ascending order: that of their first items, and where these agree that of the rest.
use Rattle.std.proofs.Common.{◌≡◌, refl, sym, ap, ap₂, ◌∙◌, ℕ, ◌+◌, ◌<◌, arith, Bool, true, false, ◌||◌, List, [], ◌∷◌, ◌++◌, map, get_or, Vec, nat_eq}
use Rattle.std.specs.List.{AllByRecursion, IsDistinct, flat_map, list_any, enumerate_from}
use Rattle.std.specs.List.Sorted.{IsStrictlySortedBy, IsSorted}
use Rattle.std.specs.Str.{bytes_eq}
use Rattle.std.specs.Ordering.{nat_cmp, is_eq, is_lt, ordering_then}
use Rattle.std.specs.Cmp.{IsTotalOrder}
use Rattle.std.specs.Cmp.Lexicographic.{slice_cmp, pointwise, same_text}
use Rattle.std.specs.declared.alloc.Global.{Global}
use Rattle.std.specs.declared.cmp.Ordering.{Ordering}
use Rattle.std.specs.declared.cmp.Ordering.TheVariants.{Less, Equal, Greater}
use Rattle.std.proofs.lemmas.Cmp.{nat_cmp_total, nat_list_cmp_total, tied_itself}
use Rattle.std.proofs.lemmas.Map.Text.{is_eq-slice_cmp}
use Rattle.std.proofs.lemmas.Map.Keys.{sorted_from_all_adjacent, apart_from_distinct}
use Rattle.pddl_names.proofs.Numbered.{contents}
use Rattle.exact_lin.proofs.Merge.{lt-less}

-- ---- any order

module _ {X : Type 0} (R : X → X → Ordering) where
  -- all of a list stands behind x
  abbrev pub Leads : X → List X → Type 0
  Leads x xs = AllByRecursion (λ y. R x y ≡ Less) xs

  pub leads-append : (x : X) (ys zs : List X) → Leads x ys → Leads x zs → Leads x (ys ++ zs)
  leads-append x [] zs h k = k
  leads-append x (y ∷ ys) zs h k = (h.0, leads-append x ys zs h.1 k)

  pub sorted-append : (xs ys : List X) → IsStrictlySortedBy R xs → IsStrictlySortedBy R ys → AllByRecursion (λ x. Leads x ys) xs
      → IsStrictlySortedBy R (xs ++ ys)
  unfolding IsStrictlySortedBy
  sorted-append [] ys h k l = k
  sorted-append (x ∷ xs) ys h k l = (leads-append x xs ys h.0 l.0, sorted-append xs ys h.1 k l.1)

module _ {X Y : Type 0} (R : X → X → Ordering) (S : Y → Y → Ordering) (f : X → Y) where
  pub leads-map : ((x y : X) → R x y ≡ Less → S (f x) (f y) ≡ Less) → (x : X) (xs : List X) → Leads R x xs → Leads S (f x) (map f xs)
  leads-map keeps x [] h = tt
  leads-map keeps x (y ∷ ys) h = (keeps x y h.0, leads-map keeps x ys h.1)

  pub sorted-map : ((x y : X) → R x y ≡ Less → S (f x) (f y) ≡ Less) → (xs : List X) → IsStrictlySortedBy R xs
      → IsStrictlySortedBy S (map f xs)
  unfolding IsStrictlySortedBy
  sorted-map keeps [] h = tt
  sorted-map keeps (x ∷ xs) h = (leads-map keeps x xs h.0, sorted-map keeps xs h.1)

-- ---- lists of numbers

abbrev pub list_cmp : List ℕ → List ℕ → Ordering
list_cmp = slice_cmp nat_cmp

pub same_first : (n : ℕ) (r s : List ℕ) → list_cmp r s ≡ Less → list_cmp (n ∷ r) (n ∷ s) ≡ Less
same_first n r s h = ap (λ o. ordering_then o (list_cmp r s)) (tied_itself nat_cmp_total n) ∙ h

pub less_first : (m n : ℕ) (r s : List ℕ) → nat_cmp m n ≡ Less → list_cmp (m ∷ r) (n ∷ s) ≡ Less
less_first m n r s h = ap (λ o. ordering_then o (list_cmp r s)) h

behind_all : (m n : ℕ) (r : List ℕ) (ss : List (List ℕ)) → nat_cmp m n ≡ Less → Leads list_cmp (m ∷ r) (map (λ s. n ∷ s) ss)
behind_all m n r [] h = tt
behind_all m n r (s ∷ ss) h = (less_first m n r s h, behind_all m n r ss h)

-- Lists in blocks of one first number each are in order where these numbers are and each block is.
module _ {X : Type 0} (f : X → ℕ) (t : X → List (List ℕ)) where
  abbrev pub blocks : List X → List (List ℕ)
  blocks xs = flat_map (λ x. map (λ r. f x ∷ r) (t x)) xs

  before_blocks : (m : ℕ) (r : List ℕ) (xs : List X) → AllByRecursion (λ y. nat_cmp m (f y) ≡ Less) xs → Leads list_cmp (m ∷ r) (blocks xs)
  before_blocks m r [] h = tt
  before_blocks m r (x ∷ xs) h = leads-append list_cmp (m ∷ r) (map (λ s. f x ∷ s) (t x)) (blocks xs) (behind_all m (f x) r (t x) h.0) (before_blocks m r xs h.1)

  each_before : (m : ℕ) (rs : List (List ℕ)) (xs : List X) → AllByRecursion (λ y. nat_cmp m (f y) ≡ Less) xs
      → AllByRecursion (λ r. Leads list_cmp r (blocks xs)) (map (λ r. m ∷ r) rs)
  each_before m [] xs h = tt
  each_before m (r ∷ rs) xs h = (before_blocks m r xs h, each_before m rs xs h)

  pub sorted-blocks : (xs : List X) → IsStrictlySortedBy (λ x y. nat_cmp (f x) (f y)) xs → ((x : X) → IsStrictlySortedBy list_cmp (t x))
      → IsStrictlySortedBy list_cmp (blocks xs)
  unfolding IsStrictlySortedBy
  sorted-blocks [] h k = tt
  sorted-blocks (x ∷ xs) h k =
      sorted-append list_cmp (map (λ r. f x ∷ r) (t x)) (blocks xs)
      (sorted-map list_cmp list_cmp (λ r. f x ∷ r) (λ r s l. same_first (f x) r s l) (t x) (k x))
      (sorted-blocks xs h.1 k)
      (each_before (f x) (t x) xs h.0)

-- ---- numbered lists

behind_number : {X : Type 0} (m : ℕ) (xs : List X) (n : ℕ) → m < n → AllByRecursion (λ y. nat_cmp m y.0 ≡ Less) (enumerate_from n xs)
behind_number m [] n h = tt
behind_number m (x ∷ xs) n h = (lt-less m n h, behind_number m xs (n + 1) (omega arith))

pub sorted-enumerate : {X : Type 0} (xs : List X) (n : ℕ) → IsStrictlySortedBy (λ x y. nat_cmp x.0 y.0) (enumerate_from n xs)
unfolding IsStrictlySortedBy
sorted-enumerate [] n = tt
sorted-enumerate (x ∷ xs) n = (behind_number n xs (n + 1) (omega arith), sorted-enumerate xs (n + 1))

-- ---- lists in order that have the same members are the same

abbrev pub has : List (List ℕ) → List ℕ → Bool
has xs a = list_any (bytes_eq a) xs

pub less_differs : (x y : List ℕ) → list_cmp x y ≡ Less → bytes_eq x y ≡ false
less_differs x y h = sym (is_eq-slice_cmp x y) ∙ ap is_eq h

pub leads-absent : (x : List ℕ) (xs : List (List ℕ)) → Leads list_cmp x xs → has xs x ≡ false
leads-absent x [] h = refl
leads-absent x (y ∷ ys) h = ap₂ (λ a b. a || b) (less_differs x y h.0) (leads-absent x ys h.1)

leads-before : (x y : List ℕ) (ys : List (List ℕ)) → list_cmp x y ≡ Less → Leads list_cmp y ys → Leads list_cmp x ys
leads-before x y [] h k = tt
leads-before x y (z ∷ zs) h k = (nat_list_cmp_total.trans x y z h k.0, leads-before x y zs h k.1)

itself : (x : List ℕ) → bytes_eq x x ≡ true
itself x = sym (is_eq-slice_cmp x x) ∙ ap is_eq (tied_itself nat_list_cmp_total x)

first_has : (x : List ℕ) (xs : List (List ℕ)) → has (x ∷ xs) x ≡ true
first_has x xs = ap (λ b. b || has xs x) (itself x)

pub same-sorted : (xs ys : List (List ℕ)) → IsStrictlySortedBy list_cmp xs → IsStrictlySortedBy list_cmp ys
    → ((a : List ℕ) → has xs a ≡ has ys a) → xs ≡ ys
unfolding IsStrictlySortedBy
same-sorted [] [] h k same = refl
same-sorted [] (y ∷ ys) h k same = let e : false ≡ true = same y ∙ first_has y ys in cc
same-sorted (x ∷ xs) [] h k same = let e : true ≡ false = sym (first_has x xs) ∙ same x in cc
same-sorted (x ∷ xs) (y ∷ ys) h k same = by (list_cmp x y) refl (λ rest. same-sorted xs ys h.1 k.1 rest)
  where
    absent_first : (u v : List ℕ) (vs : List (List ℕ)) → list_cmp u v ≡ Less → Leads list_cmp v vs → has (v ∷ vs) u ≡ false
    absent_first u v vs less leads = ap₂ (λ a b. a || b) (less_differs u v less) (leads-absent u vs (leads-before u v vs less leads))

    tails : x ≡ y → (a : List ℕ) → has xs a ≡ has ys a
    tails e a = at (bytes_eq a x) refl
      where
        at : (b : Bool) → bytes_eq a x ≡ b → has xs a ≡ has ys a
        at true t =
            let is : a ≡ x = same_text a x (sym t) in
            ap (has xs) is ∙ leads-absent x xs h.0
            ∙ sym (ap (has ys) (is ∙ e) ∙ leads-absent y ys k.0)
        at false t =
            sym (ap (λ b. b || has xs a) t) ∙ same a ∙ ap (λ b. b || has ys a) (ap (bytes_eq a) (sym e) ∙ t)

    by : (o : Ordering) → list_cmp x y ≡ o → (((a : List ℕ) → has xs a ≡ has ys a) → xs ≡ ys) → (x ∷ xs) ≡ (y ∷ ys)
    by Less less later = let e : true ≡ false = sym (first_has x xs) ∙ same x ∙ absent_first x y ys less k.0 in cc
    by Greater more later =
        let back : list_cmp y x ≡ Less = nat_list_cmp_total.antisymm y x ∙ ap (λ o. elim o [ Less ↦ Greater | Equal ↦ Equal | Greater ↦ Less ]) more in
        let e : false ≡ true = sym (absent_first y x xs back h.0) ∙ same y ∙ first_has y ys in cc
    by Equal tie later =
        let e : x ≡ y = same_text x y (sym (sym (is_eq-slice_cmp x y) ∙ ap is_eq tie)) in
        ap₂ (λ a l. a ∷ l) e (later (tails e))

-- ---- a sorted set of vectors

module _ (ks : List (Vec ℕ Global)) where
  abbrev vec_cmp : Vec ℕ Global → Vec ℕ Global → Ordering
  vec_cmp x y = list_cmp x.items y.items

  vec_total : IsTotalOrder vec_cmp
  vec_total = record {
    antisymm = λ x y. nat_list_cmp_total.antisymm x.items y.items;
    trans = λ x y z. nat_list_cmp_total.trans x.items y.items z.items;
    congr = λ x y z. nat_list_cmp_total.congr x.items y.items z.items;
  }

  rises : (x y : List ℕ) → is_lt (list_cmp y x) ≡ false → bytes_eq x y ≡ false → list_cmp x y ≡ Less
  rises x y h k = by (list_cmp x y) refl
    where
      by : (o : Ordering) → list_cmp x y ≡ o → o ≡ Less
      by Less e = refl
      by Equal e = let f : true ≡ false = sym (ap is_eq e) ∙ is_eq-slice_cmp x y ∙ k in cc
      by Greater e =
          let back : list_cmp y x ≡ Less = nat_list_cmp_total.antisymm y x ∙ ap (λ o. elim o [ Less ↦ Greater | Equal ↦ Equal | Greater ↦ Less ]) e in
          let f : true ≡ false = sym (ap is_lt back) ∙ h in cc

  none_sorted : IsStrictlySortedBy vec_cmp []
  unfolding IsStrictlySortedBy
  none_sorted = tt

  pub sorted-contents : IsSorted vec_cmp ks → IsDistinct (λ x y. pointwise nat_eq x.items y.items) ks → IsStrictlySortedBy list_cmp (contents ks)
  sorted-contents h d = sorted-map vec_cmp list_cmp (λ k. k.items) (λ x y e. e) ks (by ks h d)
    where
      by : (ls : List (Vec ℕ Global)) → IsSorted vec_cmp ls → IsDistinct (λ x y. pointwise nat_eq x.items y.items) ls → IsStrictlySortedBy vec_cmp ls
      by [] h d = none_sorted
      by (k ∷ ls) h d = sorted_from_all_adjacent vec_total (k ∷ ls) k (λ i lt. rises ((get_or (k ∷ ls) i k).items) ((get_or (k ∷ ls) (i + 1) k).items) (h i k (omega arith) lt) (apart_from_distinct (λ x y. pointwise nat_eq x.items y.items) (k ∷ ls) i (i + 1) k d (omega arith) lt))
