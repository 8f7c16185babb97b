-- Rows that place a step, one after another.
use Rattle.std.proofs.Common.{◌≡◌, refl, sym, ap, ap₂, ◌∙◌, ℕ, Bool, true, false, ◌==◌, ◌&&◌, ◌||◌, cond, ◌+◌, append_assoc, List, [], ◌∷◌, ◌++◌, map}
use Rattle.std.specs.List.{list_any, filter, flat_map}
use Rattle.std.proofs.lemmas.List.{append-nil}
use Rattle.std.proofs.lemmas.Grind.{flat_map-append}
use Rattle.basics.proofs.Lists.{map-filter-append}
use Rattle.rational.specs.Rational.{ℚ}
use Rattle.task_types.specs.Sets.{is_in, numbers}
use Rattle.task_types.specs.declared.parts.Rules.{Rules}
use Rattle.task_types.specs.declared.parts.TaskParts.{TaskParts}
use Rattle.task_types.specs.Order.{Order}
use Rattle.task_types.proofs.Places.{numbers-more}
use Rattle.lp_rows.specs.declared.rows.OriginRow.{OriginRow}
use Rattle.lp_rows.specs.StepRows.{moment_rows, link_row}
use Rattle.lp_rows.specs.Comparing.{pair_row}

pub moments_append : (j s : ℕ) (xs ys : List (ℚ × ℕ)) → flat_map (moment_rows j) (map (λ m. m.0) (filter (λ m. m.1 == s) (xs ++ ys))) ≡ flat_map (moment_rows j) (map (λ m. m.0) (filter (λ m. m.1 == s) xs)) ++ flat_map (moment_rows j) (map (λ m. m.0) (filter (λ m. m.1 == s) ys))
moments_append j s xs ys = ap (flat_map (moment_rows j)) (map-filter-append (λ m. m.0) (λ m. m.1 == s) xs ys) ∙ flat_map-append (moment_rows j) (map (λ m. m.0) (filter (λ m. m.1 == s) xs)) (map (λ m. m.0) (filter (λ m. m.1 == s) ys))

-- a pair is among those of its second step
pub extra_among : (i j : ℕ) (ps : List (ℕ × ℕ)) → is_in i (map (λ p. p.0) (filter (λ p. p.1 == j) ps)) ≡ list_any (λ p. (p.0 == i) && (p.1 == j)) ps
extra_among i j [] = refl
extra_among i j (p ∷ ps) = go (p.1 == j) (extra_among i j ps)
  where
    with_true : (c : Bool) → (c && true) ≡ c
    with_true true = refl
    with_true false = refl

    with_false : (c : Bool) → (c && false) ≡ false
    with_false true = refl
    with_false false = refl

    go : (b : Bool) → is_in i (map (λ p. p.0) (filter (λ p. p.1 == j) ps)) ≡ list_any (λ p. (p.0 == i) && (p.1 == j)) ps
        → list_any (λ y. y == i) (map (λ p. p.0) (cond b (p ∷ filter (λ p. p.1 == j) ps) (filter (λ p. p.1 == j) ps))) ≡ (((p.0 == i) && b) || list_any (λ p. (p.0 == i) && (p.1 == j)) ps)
    go true h = ap₂ (λ (b c : Bool). b || c) (sym (with_true (p.0 == i))) h
    go false h = h ∙ ap (λ b. b || list_any (λ p. (p.0 == i) && (p.1 == j)) ps) (sym (with_false (p.0 == i)))

-- the rows of the links with the first i steps, and with one more
module _ (task : TaskParts) (rules : Rules) (o : Order) (j : ℕ) where
  abbrev pub linked : ℕ → List OriginRow
  linked i = flat_map (λ i. link_row task rules o i j) (numbers i)

  pub linked-more : (old now more : List OriginRow) (i k : ℕ) (firsts : List ℕ) (b : Bool) → k ≡ i → firsts ≡ map (λ p. p.0) (filter (λ p. p.1 == j) o.extra) → b ≡ is_in k firsts → now ≡ old ++ linked i → more ≡ now ++ pair_row task rules o.steps k j b → more ≡ old ++ linked (i + 1)
  linked-more old now more i k firsts b s f e h m = m ∙ ap₂ (λ (l : List OriginRow) (b : Bool). l ++ pair_row task rules o.steps k j b) h (e ∙ ap (is_in k) f ∙ extra_among k j o.extra)
      ∙ ap (λ k. (old ++ linked i) ++ link_row task rules o k j) s
      ∙ append_assoc old (linked i) (link_row task rules o i j)
      ∙ ap (λ l. old ++ l) (sym (ap (flat_map (λ i. link_row task rules o i j)) (numbers-more i) ∙ flat_map-append (λ i. link_row task rules o i j) (numbers i) (i ∷ []) ∙ ap (λ l. linked i ++ l) (append-nil (link_row task rules o i j))))
