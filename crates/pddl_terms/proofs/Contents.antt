-- What a list holds from one token to the next.
use Rattle.std.proofs.Common.{◌≡◌, ℕ, zero, suc, ◌+◌, ◌≤◌, ◌<◌, List, [], ◌∷◌, ◌++◌, drop, length, refl, sym, ap, ◌∙◌, arith, add-one, Ok, append-nil, append_assoc}
use Rattle.std.specs.Prelude.{slice_index_or, slice_range}
use Rattle.std.proofs.lemmas.List.{drop_all}
use Rattle.sexpr_text.specs.declared.token.Token.{Token}
use Rattle.sexpr_text.specs.declared.token.TokenKind.{TokenKind}
use Rattle.sexpr_text.specs.declared.token.TokenKind.TheVariants.{Open, Close}
use Rattle.sexpr_text.specs.Forms.{Lexed, LieWithin, MatesAreBehind, MatesLeadBack}
use Rattle.sexpr_text.specs.Token.{AreTokens, IsSpan}
use Rattle.sexpr_text.specs.Runs.{reading}
use Rattle.sexpr_text.proofs.Joining.{get_from_read}
use Rattle.pddl_terms.specs.Content.{Content, End, Word, Inner, lexeme, top, level, levels, content_at}
use Rattle.pddl_terms.specs.Items.{IsWord}
use Rattle.pddl_terms.proofs.Mates.{Encloses, mates_enclose, spans-drop}

levels-suc : (text : List ℕ) (ts : List Token) (i : ℕ) (d : Token) → i < length ts
    → levels text (drop i ts) ≡ level text (slice_index_or ts i d).kind (slice_index_or ts i d) (levels text (drop (suc i) ts))
unfolding levels
levels-suc text [] i d h = absurd (omega arith)
levels-suc text (t ∷ ts) zero d h = refl
levels-suc text (t ∷ ts) (suc i) d h = levels-suc text ts i d (omega arith)

levels-at : (text : List ℕ) (ts : List Token) (i : ℕ) (d : Token) → i < length ts
    → levels text (drop i ts) ≡ level text (slice_index_or ts i d).kind (slice_index_or ts i d) (levels text (drop (i + 1) ts))
levels-at text ts i d h = rw (add-one) (levels-suc text ts i d h)

level-word : (text : List ℕ) (k : TokenKind) (t : Token) (outer : List Content) → (k ≡ Open → ⊥) → (k ≡ Close → ⊥)
    → level text k t outer ≡ Word (lexeme text t) (top outer) ∷ drop 1 outer
level-word text Open t outer a b = absurd (a refl)
level-word text Close t outer a b = absurd (b refl)
level-word text k t outer a b = refl

span-word : (text : List ℕ) (at end : ℕ) (k : TokenKind) → (k ≡ Open → ⊥) → (k ≡ Close → ⊥) → IsSpan text at end k
    → reading (slice_range text at end) ≡ Ok k
span-word text at end Open a b s = absurd (a refl)
span-word text at end Close a b s = absurd (b refl)
span-word text at end k a b s = s.1

-- what is said of the tokens of a text, at one of them
module _ (l : Lexed) (ts : List Token) (e : ts ≡ l.tokens) (i : ℕ) (d : Token) where
  content-is : (n : ℕ) → content_at l n ≡ top (levels l.text (drop n ts))
  unfolding content_at
  content-is n = ap (λ (xs : List Token). top (levels l.text (drop n xs))) (sym e)

  pub item-end : length ts ≤ i → content_at l i ≡ End 0
  unfolding levels
  item-end h = content-is i ∙ ap (λ (xs : List Token). top (levels l.text xs)) (drop_all i ts h)

  module _ (h : i < length ts) where
    abbrev t : Token
    t = slice_index_or ts i d

    pub item-close : t.kind ≡ Close → content_at l i ≡ End t.at
    item-close k = content-is i ∙ ap top (levels-at l.text ts i d h ∙ ap (λ (x : TokenKind). level l.text x t (levels l.text (drop (i + 1) ts))) k)

    pub item-word : (t.kind ≡ Open → ⊥) → (t.kind ≡ Close → ⊥) → content_at l i ≡ Word (lexeme l.text t) (content_at l (i + 1))
    item-word a b = content-is i ∙ ap top (levels-at l.text ts i d h ∙ level-word l.text t.kind t (levels l.text (drop (i + 1) ts)) a b)
        ∙ ap (Word (lexeme l.text t)) (sym (content-is (i + 1)))

    pub item-list : t.kind ≡ Open → Encloses l.text ts i t → content_at l i ≡ Inner t.at (content_at l (i + 1)) (content_at l (t.mate + 1))
    item-list k m = content-is i ∙ ap top (levels-at l.text ts i d h ∙ ap (λ (x : TokenKind). level l.text x t (levels l.text (drop (i + 1) ts))) k)
        ∙ ap (λ (xs : List Content). Inner t.at (top (levels l.text (drop (i + 1) ts))) (top xs)) (sym m.behind)
        ∙ ap (λ (x : Content). Inner t.at x (top (levels l.text (drop (t.mate + 1) ts)))) (sym (content-is (i + 1)))
        ∙ ap (Inner t.at (content_at l (i + 1))) (sym (content-is (t.mate + 1)))

    pub encloses : AreTokens l.text ts → MatesAreBehind ts → MatesLeadBack ts → t.kind ≡ Open → Encloses l.text ts i t
    encloses a b c k = mates_enclose l.text ts a b c i d h k

    pub word-is : AreTokens l.text ts → LieWithin l.text ts → (t.kind ≡ Open → ⊥) → (t.kind ≡ Close → ⊥) → IsWord l.text t
    word-is a w o c = record {
      some = (w i d h).0;
      within = (w i d h).1;
      spelt = span-word l.text t.at t.end t.kind o c (spans-drop l.text 0 (length l.text) ts i t a.spans (get_from_read ts i d h)).1;
    }

-- where a list stands, a parenthesis opens it, and what it holds begins at the next token
pub at-open : (l : Lexed) (i : ℕ) (d : Token) → i < length l.tokens → (v : ℕ) (inner more : Content) → content_at l i ≡ Inner v inner more
    → ((slice_index_or l.tokens i d).kind ≡ Open) × (content_at l (i + 1) ≡ inner) × ((slice_index_or l.tokens i d).at ≡ v)
unfolding content_at
at-open l i d h v inner more e = by_kind (slice_index_or l.tokens i d).kind refl (sym (ap top (levels-at l.text l.tokens i d h)) ∙ e)
  where
    t : Token
    t = slice_index_or l.tokens i d

    outer : List Content
    outer = levels l.text (drop (i + 1) l.tokens)

    by_kind : (k : TokenKind) → t.kind ≡ k → top (level l.text k t outer) ≡ Inner v inner more → (t.kind ≡ Open) × (top outer ≡ inner) × (t.at ≡ v)
    by_kind Open k f = (k, cc, cc)
    by_kind Close k f = absurd cc
    by_kind other k f = absurd cc

-- What a loop has put out and what it still has to put out are the whole.
pub pushed : {A : Type 0} (f : Content → List A) (out new all : List A) (x : A) (c later : Content) → out ++ f c ≡ all → f c ≡ x ∷ f later → new ≡ out ++ x ∷ [] → new ++ f later ≡ all
pushed f out new all x c later j e n = ap (λ l. l ++ f later) n ∙ append_assoc out (x ∷ []) (f later) ∙ ap (λ l. out ++ l) (sym e) ∙ j

pub put_out : {A : Type 0} (f : Content → List A) (out new all some : List A) (c later : Content) → out ++ f c ≡ all → f c ≡ some ++ f later → new ≡ out ++ some → new ++ f later ≡ all
put_out f out new all some c later j e n = ap (λ l. l ++ f later) n ∙ append_assoc out some (f later) ∙ ap (λ l. out ++ l) (sym e) ∙ j

pub skipped : {A : Type 0} (f : Content → List A) (out all : List A) (c later : Content) → out ++ f c ≡ all → f c ≡ f later → out ++ f later ≡ all
skipped f out all c later j e = ap (λ l. out ++ l) (sym e) ∙ j

pub ended : {A : Type 0} (f : Content → List A) (out all : List A) (c : Content) → out ++ f c ≡ all → f c ≡ [] → out ≡ all
ended f out all c j e = sym (append-nil out) ∙ ap (λ l. out ++ l) (sym e) ∙ j
