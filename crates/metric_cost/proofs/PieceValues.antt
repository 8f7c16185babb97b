-- The values of time costs, in three numbers and in pieces, from what is reckoned for them.
use Rattle.std.proofs.Common.{◌≡◌, refl, sym, ap, subst, ◌∙◌, ℕ, ◌+◌, ◌<◌, Bool, true, false, not, ◌&&◌, ◌||◌, List, [], ◌∷◌, length, drop, Some}
use Rattle.std.specs.Prelude.{slice_index_or, IsTrue, if◌then◌else◌, Result, Ok, Err}
use Rattle.std.proofs.lemmas.List.{drop_more}
use Rattle.basics.proofs.Bools.{and_left, and_right}
use Rattle.rational.specs.Rational.{ℚ, zeroℚ, ◌+ℚ◌, ◌*ℚ◌, ◌-ℚ◌, neg_ℚ, inverse, ◌<ℚ◌, ◌≤ℚ◌}
use Rattle.rational.proofs.Field.{ℚ_ring}
use Rattle.rational.proofs.Ring.{law, ◌⊕◌, ◌⊗◌, ◌⊖◌, num, ◌≐◌}
use Rattle.rational.proofs.Order.{lt_le, lt_irrefl, le_antisymm}
use Rattle.exact_lin.specs.Reckonings.{Reckoning, Sum, Product}
use Rattle.exact_lin.specs.declared.scalars.Wide.{Wide}
use Rattle.task_types.specs.declared.costs.LateCost.{LateCost}
use Rattle.task_types.specs.declared.costs.Piece.{Piece}
use Rattle.task_types.specs.Tests.{◌≤?◌, ◌<?◌}
use Rattle.task_types.specs.Cost.{late_value, piece_value, piece_at, greater, last_to, pieces_value}
use Rattle.task_types.specs.Reckoned.{late_reckoned, piece_reckoned, pieces_reckoned}
use Rattle.task_types.specs.WellMade.{pieces_rise}
use Rattle.task_types.proofs.Comparisons.{lt_out, le_out, le_in, later_out}
use Rattle.timed_meaning.specs.Answers.{Defined}
use Rattle.metric_cost.specs.Answers.{Amounts}
use Rattle.metric_cost.specs.Slopes.{slope, slope_reckoned, risen_reckoned}

-- ---- in three numbers
abbrev pub rising_reckoned : LateCost → ℚ → List Reckoning
rising_reckoned c m = Sum m (neg_ℚ c.soft) ∷ Sum c.hard (neg_ℚ c.soft) ∷ Product c.top (m -ℚ c.soft) ∷ Product (c.top *ℚ (m -ℚ c.soft)) (inverse (c.hard -ℚ c.soft)) ∷ []

module _ (c : LateCost) (m : ℚ) where
  pub late-between : IsTrue (not ((m ≤? c.soft) || (c.hard ≤? m))) → late_reckoned c (Some m) ≡ rising_reckoned c m
  late-between h = go ((m ≤? c.soft) || (c.hard ≤? m)) h
    where
      go : (b : Bool) → not b ≡ true → (if b then [] else rising_reckoned c m) ≡ rising_reckoned c m
      go true e = let f : false ≡ true = e in cc
      go false e = refl

  pub value-between : IsTrue (not ((m ≤? c.soft) || (c.hard ≤? m))) → late_value c (Some m) ≡ c.top *ℚ (m -ℚ c.soft) *ℚ inverse (c.hard -ℚ c.soft)
  value-between h = go (m ≤? c.soft) (c.hard ≤? m) h
    where
      go : (a b : Bool) → not (a || b) ≡ true → (if a then zeroℚ else (if b then c.top else c.top *ℚ (m -ℚ c.soft) *ℚ inverse (c.hard -ℚ c.soft))) ≡ c.top *ℚ (m -ℚ c.soft) *ℚ inverse (c.hard -ℚ c.soft)
      go true b e = let f : false ≡ true = e in cc
      go false true e = let f : false ≡ true = e in cc
      go false false e = refl

  pub between-in : (a b : Bool) → a ≡ (m ≤? c.soft) → b ≡ (c.hard ≤? m) → a ≡ false → b ≡ false → IsTrue (not ((m ≤? c.soft) || (c.hard ≤? m)))
  between-in a b e f h k = ap not (ap (λ x. x || (c.hard ≤? m)) (sym e ∙ h) ∙ (sym f ∙ k))

  pub late-soon : (a : Bool) (q : ℚ) → a ≡ (m ≤? c.soft) → a ≡ true → q ≡ zeroℚ → Defined (late_reckoned c (Some m)) × (q ≡ late_value c (Some m))
  late-soon a q e h z = go (m ≤? c.soft) (c.hard ≤? m) (sym e ∙ h)
    where
      go : (a b : Bool) → a ≡ true → Defined (if a || b then [] else rising_reckoned c m) × (q ≡ (if a then zeroℚ else (if b then c.top else c.top *ℚ (m -ℚ c.soft) *ℚ inverse (c.hard -ℚ c.soft))))
      go true b k = (tt, z)
      go false b k = absurd (cc)

  pub late-over : (a b : Bool) → a ≡ (m ≤? c.soft) → b ≡ (c.hard ≤? m) → a ≡ false → b ≡ true → Defined (late_reckoned c (Some m)) × (c.top ≡ late_value c (Some m))
  late-over a b e f h k = go (m ≤? c.soft) (c.hard ≤? m) (sym e ∙ h) (sym f ∙ k)
    where
      go : (a b : Bool) → a ≡ false → b ≡ true → Defined (if a || b then [] else rising_reckoned c m) × (c.top ≡ (if a then zeroℚ else (if b then c.top else c.top *ℚ (m -ℚ c.soft) *ℚ inverse (c.hard -ℚ c.soft))))
      go true b h k = absurd (cc)
      go false true h k = (tt, refl)
      go false false h k = absurd (cc)

-- a number above another is not it
sub_zero : (q r : ℚ) → q -ℚ r ≡ zeroℚ → q ≡ r
sub_zero q r e = law ℚ_ring (q ∷ r ∷ []) (λ q r. q ≐ (q ⊖ r) ⊕ r) refl ∙ ap (λ d. d +ℚ r) e ∙ law ℚ_ring (r ∷ []) (λ r. num 0 ⊕ r ≐ r) refl

pub span_positive : (low high span : ℚ) → IsTrue (low <? high) → span ≡ high -ℚ low → ¬ (span ≡ zeroℚ)
span_positive low high span h e z = lt_irrefl low (subst (λ q. low <ℚ q) (sub_zero high low (sym e ∙ z)) (lt_out low high h))

-- ---- in pieces
module _ (lower last : ℚ) (p : Piece) (ps : List Piece) where
  pub rises-here : IsTrue (pieces_rise lower last (p ∷ ps)) → IsTrue (lower <? p.until)
  rises-here h = and_left _ _ (and_left _ _ (and_left _ _ h))

  pub rises-on : IsTrue (pieces_rise lower last (p ∷ ps)) → IsTrue (pieces_rise p.until p.to ps)
  rises-on h = and_right _ _ h

-- of some pieces these are left, the moment being past all before them
pub record PiecesLeft (all : List Piece) (m lower last : ℚ) (rest : List Piece) : Type 0 where
  pub value : piece_at zeroℚ zeroℚ all m ≡ piece_at lower last rest m
  pub reckoned : pieces_reckoned zeroℚ all m ≡ pieces_reckoned lower rest m
  pub rise : IsTrue (pieces_rise lower last rest)
  pub late : (m ≤? lower) ≡ false

pub pieces-begin : (all : List Piece) (m : ℚ) → IsTrue (pieces_rise zeroℚ zeroℚ all) → (m ≤? zeroℚ) ≡ false → PiecesLeft all m zeroℚ zeroℚ all
pieces-begin all m r l = record { value = refl; reckoned = refl; rise = r; late = l }

module _ (all : List Piece) (m lower last : ℚ) (p : Piece) (rest : List Piece) (l : PiecesLeft all m lower last (p ∷ rest)) where
  passed : (a b : Bool) → a ≡ false → b ≡ false → (if a then [] else (if b then piece_reckoned lower p m else pieces_reckoned p.until rest m)) ≡ pieces_reckoned p.until rest m
  passed true b e f = absurd (cc)
  passed false true e f = absurd (cc)
  passed false false e f = refl

  met : (a b : Bool) → a ≡ false → b ≡ true → (if a then [] else (if b then piece_reckoned lower p m else pieces_reckoned p.until rest m)) ≡ piece_reckoned lower p m
  met true b e f = absurd (cc)
  met false true e f = refl
  met false false e f = absurd (cc)

  pieces-past : (m ≤? p.until) ≡ false → PiecesLeft all m p.until p.to rest
  pieces-past e = record {
    value = l.value ∙ ap (λ b. if b then piece_value lower p m else piece_at p.until p.to rest m) e;
    reckoned = l.reckoned ∙ passed (m ≤? lower) (m ≤? p.until) l.late e;
    rise = rises-on lower last p rest l.rise;
    late = e;
  }

  pieces-here : (r : Result ℚ Wide) → (m ≤? p.until) ≡ true → Amounts r (piece_reckoned lower p m) (λ q. q ≡ piece_value lower p m) → Amounts r (pieces_reckoned zeroℚ all m) (λ q. q ≡ piece_at zeroℚ zeroℚ all m)
  pieces-here r e a =
      subst (λ (rs : List Reckoning). Amounts r rs (λ q. q ≡ piece_at zeroℚ zeroℚ all m)) (sym (l.reckoned ∙ met (m ≤? lower) (m ≤? p.until) l.late e))
      (subst (λ v. Amounts r (piece_reckoned lower p m) (λ q. q ≡ v)) (sym (l.value ∙ ap (λ b. if b then piece_value lower p m else piece_at p.until p.to rest m) e)) a)

module _ (all : List Piece) (m lower last : ℚ) (i : ℕ) (p : Piece) (h : i < length all) (e : p ≡ slice_index_or all i p) where
  drops : drop i all ≡ p ∷ drop (i + 1) all
  drops = drop_more all i p h ∙ ap (λ r. r ∷ drop (i + 1) all) (sym e)

  pub next-rises : PiecesLeft all m lower last (drop i all) → IsTrue (lower <? p.until)
  next-rises l = rises-here lower last p (drop (i + 1) all) (subst (λ (ps : List Piece). IsTrue (pieces_rise lower last ps)) drops l.rise)

  pub next-past : (b : Bool) → b ≡ (m ≤? p.until) → b ≡ false → PiecesLeft all m lower last (drop i all) → PiecesLeft all m p.until p.to (drop (i + 1) all)
  next-past b f g l = pieces-past all m lower last p (drop (i + 1) all) (subst (λ (ps : List Piece). PiecesLeft all m lower last ps) drops l) (sym f ∙ g)

  pub next-here : (r : Result ℚ Wide) (b : Bool) → b ≡ (m ≤? p.until) → b ≡ true → PiecesLeft all m lower last (drop i all)
      → Amounts r (piece_reckoned lower p m) (λ q. q ≡ piece_value lower p m) → Amounts r (pieces_reckoned zeroℚ all m) (λ q. q ≡ piece_at zeroℚ zeroℚ all m)
  next-here r b f g l a = pieces-here all m lower last p (drop (i + 1) all) (subst (λ (ps : List Piece). PiecesLeft all m lower last ps) drops l) r (sym f ∙ g) a

-- past them all
pub pieces-end : (all : List Piece) (m lower last : ℚ) → PiecesLeft all m lower last [] → Defined (pieces_reckoned zeroℚ all m) × (last ≡ piece_at zeroℚ zeroℚ all m)
pieces-end all m lower last l = (subst Defined (sym l.reckoned) tt, sym l.value)

-- the value of a piece as it is reckoned, by its slope
pub sloped : (lower : ℚ) (p : Piece) (m : ℚ) → p.from +ℚ (p.to -ℚ p.from) *ℚ inverse (p.until -ℚ lower) *ℚ (m -ℚ lower) ≡ piece_value lower p m
sloped lower p m = law ℚ_ring (p.from ∷ p.to ∷ m ∷ lower ∷ inverse (p.until -ℚ lower) ∷ []) (λ a b m l i. a ⊕ ((b ⊖ a) ⊗ i) ⊗ (m ⊖ l) ≐ a ⊕ ((b ⊖ a) ⊗ (m ⊖ l)) ⊗ i) refl

pub piece-told : (lower m gradient : ℚ) (p : Piece) (r : Result ℚ Wide) → Defined (slope_reckoned lower p) → gradient ≡ slope lower p
    → Amounts r (risen_reckoned p.from gradient lower m) (λ q. q ≡ p.from +ℚ gradient *ℚ (m -ℚ lower)) → Amounts r (piece_reckoned lower p m) (λ q. q ≡ piece_value lower p m)
piece-told lower m gradient p r d e a = go r (subst (λ (g : ℚ). Amounts r (risen_reckoned p.from g lower m) (λ q. q ≡ p.from +ℚ g *ℚ (m -ℚ lower))) e a)
  where
    go : (r : Result ℚ Wide) → Amounts r (risen_reckoned p.from (slope lower p) lower m) (λ q. q ≡ p.from +ℚ slope lower p *ℚ (m -ℚ lower)) → Amounts r (piece_reckoned lower p m) (λ q. q ≡ piece_value lower p m)
    go (Ok q) h = ((d.0, (d.1.0, (d.1.1.0, h.0))), h.1 ∙ sloped lower p m)
    go (Err w) h = λ all. h all.1.1.1

pub piece-stopped : (lower m : ℚ) (p : Piece) → ¬ (Defined (slope_reckoned lower p)) → ¬ (Defined (piece_reckoned lower p m))
piece-stopped lower m p n = λ all. n (all.0, (all.1.0, (all.1.1.0, tt)))

-- at 0
pub from-first : (p : Piece) (ps : List Piece) → IsTrue (pieces_rise zeroℚ zeroℚ (p ∷ ps)) → p.from ≡ piece_at zeroℚ zeroℚ (p ∷ ps) zeroℚ
from-first p ps h = law ℚ_ring (p.from ∷ p.to ∷ inverse (p.until -ℚ zeroℚ) ∷ []) (λ a b i. a ≐ a ⊕ ((b ⊖ a) ⊗ (num 0 ⊖ num 0)) ⊗ i) refl
    ∙ sym (ap (λ b. if b then piece_value zeroℚ p zeroℚ else piece_at p.until p.to ps zeroℚ) (le_in zeroℚ p.until (lt_le zeroℚ p.until (lt_out zeroℚ p.until (rises-here zeroℚ zeroℚ p ps h)))))

greater-low : (m : ℚ) → (m ≤? zeroℚ) ≡ true → greater zeroℚ m ≡ zeroℚ
greater-low m h = go (zeroℚ ≤? m) refl
  where
    go : (b : Bool) → (zeroℚ ≤? m) ≡ b → (if b then m else zeroℚ) ≡ zeroℚ
    go true e = le_antisymm m zeroℚ (le_out m zeroℚ h) (le_out zeroℚ m e)
    go false e = refl

nothing-low : (ps : List Piece) (m : ℚ) → (m ≤? zeroℚ) ≡ true → Defined (pieces_reckoned zeroℚ ps m)
nothing-low [] m h = tt
nothing-low (p ∷ ps) m h = subst (λ b. Defined (if b then [] else (if m ≤? p.until then piece_reckoned zeroℚ p m else pieces_reckoned p.until ps m))) (sym h) tt

pub at-low : (ps : List Piece) (m q : ℚ) (b : Bool) → b ≡ (m ≤? zeroℚ) → b ≡ true → q ≡ piece_at zeroℚ zeroℚ ps zeroℚ → Defined (pieces_reckoned zeroℚ ps m) × (q ≡ pieces_value ps (Some m))
at-low ps m q b e h k = (nothing-low ps m (sym e ∙ h), k ∙ sym (ap (piece_at zeroℚ zeroℚ ps) (greater-low m (sym e ∙ h))))

pub at-high : (ps : List Piece) (m : ℚ) (r : Result ℚ Wide) (b : Bool) → b ≡ (m ≤? zeroℚ) → b ≡ false → Amounts r (pieces_reckoned zeroℚ ps m) (λ q. q ≡ piece_at zeroℚ zeroℚ ps m)
    → Amounts r (pieces_reckoned zeroℚ ps m) (λ q. q ≡ pieces_value ps (Some m))
at-high ps m r b e h a = subst (λ v. Amounts r (pieces_reckoned zeroℚ ps m) (λ q. q ≡ v)) (ap (piece_at zeroℚ zeroℚ ps) (sym (greater-high (le_in zeroℚ m (lt_le zeroℚ m (later_out m zeroℚ (sym e ∙ h))))))) a
  where
    greater-high : (zeroℚ ≤? m) ≡ true → greater zeroℚ m ≡ m
    greater-high h = ap (λ b. if b then m else zeroℚ) h
