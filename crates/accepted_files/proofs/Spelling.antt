-- Each word of a text spells its kind, and is no longer than the text.
use Rattle.std.proofs.Common.{◌≡◌, refl, sym, ap, ◌∙◌, ℕ, ◌-◌, ◌≤◌, min, List, [], ◌∷◌, length, drop, Option, Some, None, Ok, if◌then◌else◌, Bool, true, false, arith}
use Rattle.std.specs.Prelude.{slice_range}
use Rattle.std.specs.List.{AllByRecursion as Each}
use Rattle.std.proofs.lemmas.List.{length-take, length-drop}
use Rattle.sexpr_text.specs.declared.token.Token.{Token}
use Rattle.sexpr_text.specs.declared.token.TokenKind.{TokenKind}
use Rattle.sexpr_text.specs.declared.token.TokenKind.TheVariants.{Open, Close}
use Rattle.sexpr_text.specs.Runs.{reading}
use Rattle.sexpr_text.specs.Token.{IsSpan, AreSpans, AreTokens}
use Rattle.pddl_terms.specs.Content.{Lexeme, Content, End, Word, Inner, top, level, levels, content_at, behind}
use Rattle.pddl_terms.specs.Files.{lexed}
use Rattle.pddl_terms.specs.Sections.{section}
use Rattle.pddl_terms.specs.Shape.{word_ahead}
use Rattle.pddl_terms.specs.Words.{same_word}

pub record Spells (n : ℕ) (w : Lexeme) : Type 0 where
  pub kind : reading w.bytes ≡ Ok w.kind
  pub within : length w.bytes ≤ n

-- each word that a list holds, and that the lists in it hold
unfoldable pub Spelt : ℕ → Content → Type 0
Spelt n (End close) = Unit {0}
Spelt n (Word w more) = Spells n w × Spelt n more
Spelt n (Inner at inner more) = Spelt n inner × Spelt n more

part-shorter : (text : List ℕ) (a b : ℕ) → length (slice_range text a b) ≤ length text
part-shorter text a b =
    let t : length (slice_range text a b) ≡ min (b - a) (length (drop a text)) = length-take (b - a) (drop a text) in
    let d = length-drop a text in
    omega (arith, t, d)

module _ (text : List ℕ) where
  abbrev Known : List Content → Type 0
  Known xs = Each (Spelt (length text)) xs

  level-spelt : (t : Token) (kind : TokenKind) → t.kind ≡ kind → IsSpan text t.at t.end kind → (outer : List Content) → Known outer → Known (level text kind t outer)
  unfolding Spelt
  level-spelt t Close e s outer h = (tt, h)
  level-spelt t Open e s [] h = ((tt, tt), tt)
  level-spelt t Open e s (x ∷ []) h = ((h.0, tt), tt)
  level-spelt t Open e s (x ∷ y ∷ xs) h = ((h.0, h.1.0), h.1.1)
  level-spelt t kind e s [] h = ((record { kind = s.1 ∙ ap Ok (sym e); within = part-shorter text t.at t.end }, tt), tt)
  level-spelt t kind e s (x ∷ xs) h = ((record { kind = s.1 ∙ ap Ok (sym e); within = part-shorter text t.at t.end }, h.0), h.1)

  levels-spelt : (from to : ℕ) (tokens : List Token) → AreSpans text from to tokens → Known (levels text tokens)
  unfolding levels
  levels-spelt from to [] s = tt
  levels-spelt from to (t ∷ ts) s = level-spelt t t.kind refl s.2 (levels text ts) (levels-spelt t.end to ts s.3)

  top-spelt : (xs : List Content) → Known xs → Spelt (length text) (top xs)
  unfolding Spelt
  top-spelt [] h = tt
  top-spelt (x ∷ xs) h = h.0

  pub text-spelt : (tokens : List Token) → AreTokens text tokens → Spelt (length text) (content_at (lexed text tokens) 0)
  unfolding content_at
  text-spelt tokens t = top-spelt (levels text tokens) (levels-spelt 0 (length text) tokens t.spans)

pub behind-spelt : (n : ℕ) (x : Content) → Spelt n x → Spelt n (behind x)
unfolding Spelt
behind-spelt n (End close) h = h
behind-spelt n (Word w more) h = h.1
behind-spelt n (Inner at inner more) h = h.1

-- the same of what a section holds, where it stands
abbrev pub SpeltIn : ℕ → Option Content → Type 0
SpeltIn n None = Unit {0}
SpeltIn n (Some x) = Spelt n x

pub section-spelt : (n : ℕ) (key : List ℕ) (x : Content) → Spelt n x → SpeltIn n (section key x)
unfolding Spelt section
section-spelt n key (End close) h = tt
section-spelt n key (Word w more) h = section-spelt n key more h.1
section-spelt n key (Inner at inner more) h = by (same_word (word_ahead inner) key) (section-spelt n key more h.1)
  where
    by : (b : Bool) → SpeltIn n (section key more) → SpeltIn n (if b then Some (behind inner) else section key more)
    by true k = behind-spelt n inner h.0
    by false k = k
