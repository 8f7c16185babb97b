-- Rows of comparisons pushed part by part.
use Rattle.std.proofs.Common.{◌≡◌, refl, sym, ap, ap₂, subst, ◌∙◌, ℕ, zero, suc, ◌+◌, ◌<◌, List, [], ◌∷◌, ◌++◌, map, length, take, append_assoc, arith}
use Rattle.std.specs.Prelude.{slice_index_or}
use Rattle.std.specs.List.{flat_map, enumerate_from}
use Rattle.std.proofs.lemmas.List.{append-nil, map-append}
use Rattle.basics.proofs.Lists.{each_append, each_left, each_right, each_at}
use Rattle.task_types.proofs.Everyone.{all_of_flat_map}
use Rattle.rate_ledger.specs.Sums.{CanMake}
use Rattle.lp_rows.specs.declared.rows.OriginRow.{OriginRow}
use Rattle.lp_rows.specs.StepRows.{Compared, compared_row}
use Rattle.lp_rows.specs.Comparing.{CanCompare}

-- the rows of some comparisons stand behind others
pub record ArePushed (old : List OriginRow) (cs : List Compared) (now : List OriginRow) : Type 0 where
  pub can : CanCompare cs
  pub are : now ≡ old ++ map compared_row cs

pub ArePushed-none : (old : List OriginRow) → ArePushed old [] old
ArePushed-none old = record { can = tt; are = sym (append-nil old) }

pub ArePushed-more : (old : List OriginRow) (cs ds : List Compared) (now more : List OriginRow) → ArePushed old cs now → CanCompare ds × (more ≡ now ++ map compared_row ds) → ArePushed old (cs ++ ds) more
ArePushed-more old cs ds now more p d = record {
  can = each_append (λ c. CanMake c.sum) cs ds p.can d.0;
  are = d.1 ∙ ap (λ l. l ++ map compared_row ds) p.are ∙ append_assoc old (map compared_row cs) (map compared_row ds) ∙ ap (λ l. old ++ l) (sym (map-append compared_row cs ds));
}

-- ---- comparisons of numbered things

module _ {X : Type 0} (g : ℕ × X → List Compared) where
  abbrev pub numbered : ℕ → List X → List Compared
  numbered b xs = flat_map g (enumerate_from b xs)

  pub numbered-more : (b : ℕ) (xs : List X) (i : ℕ) (x : X) → i < length xs → x ≡ slice_index_or xs i x → numbered b (take (i + 1) xs) ≡ numbered b (take i xs) ++ g (b + i, x)
  numbered-more b [] i x l e = absurd (omega (arith, l))
  numbered-more b (y ∷ ys) zero x l e = let z : b ≡ b + 0 = omega arith in append-nil (g (b, y)) ∙ ap₂ (λ (k : ℕ) (w : X). g (k, w)) z (sym e)
  numbered-more b (y ∷ ys) (suc i) x l e = let s : suc i + 1 ≡ suc (i + 1) = omega arith in let t : b + 1 + i ≡ b + suc i = omega arith in
      rw s (ap (λ l. g (b, y) ++ l) (numbered-more (b + 1) ys i x (omega (arith, l)) e ∙ ap (λ k. numbered (b + 1) (take i ys) ++ g (k, x)) t) ∙ sym (append_assoc (g (b, y)) (numbered (b + 1) (take i ys)) (g (b + suc i, x))))

  pub number_needed : (b : ℕ) (xs : List X) (i : ℕ) (x : X) → i < length xs → x ≡ slice_index_or xs i x → CanCompare (numbered b xs) → CanCompare (g (b + i, x))
  number_needed b [] i x l e c = absurd (omega (arith, l))
  number_needed b (y ∷ ys) zero x l e c = let z : b ≡ b + 0 = omega arith in subst (λ k. CanCompare (g (k, x))) z (subst (λ w. CanCompare (g (b, w))) (sym e) (each_left (λ c. CanMake c.sum) (g (b, y)) (numbered (b + 1) ys) c))
  number_needed b (y ∷ ys) (suc i) x l e c = let t : b + 1 + i ≡ b + suc i = omega arith in
      subst (λ k. CanCompare (g (k, x))) t (number_needed (b + 1) ys i x (omega (arith, l)) e (each_right (λ c. CanMake c.sum) (g (b, y)) (numbered (b + 1) ys) c))

-- one comparison of each
pub one_each : {X : Type 0} (f : X → Compared) (xs : List X) → flat_map (λ x. f x ∷ []) xs ≡ map f xs
one_each f [] = refl
one_each f (x ∷ xs) = ap (λ l. f x ∷ l) (one_each f xs)

-- the comparisons of one of the parts
pub part_needed : {X : Type 0} (g : X → List Compared) (xs : List X) (i : ℕ) (x : X) → i < length xs → x ≡ slice_index_or xs i x → CanCompare (flat_map g xs) → CanCompare (g x)
part_needed g xs i x l e c = subst (λ y. CanCompare (g y)) (sym e) (each_at (λ y. CanCompare (g y)) xs i x l (all_of_flat_map (λ c. CanMake c.sum) g xs c))
