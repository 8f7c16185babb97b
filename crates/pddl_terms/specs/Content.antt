-- Believed: a text as a tree of lists and words, as the grammar sees it.
use Rattle.std.specs.Prelude.{ℕ, List, [], ◌∷◌, drop, slice_range}
use Rattle.sexpr_text.specs.declared.token.Token.{Token}
use Rattle.sexpr_text.specs.declared.token.TokenKind.{TokenKind}
use Rattle.sexpr_text.specs.declared.token.TokenKind.TheVariants.{Open, Close}
use Rattle.sexpr_text.specs.Forms.{Lexed}

-- a word: the byte at which it begins, what it is, and its bytes
pub record Lexeme : Type 0 where
  pub at : ℕ
  pub kind : TokenKind
  pub bytes : List ℕ

-- What a list holds from some place on: nothing more up to its closing parenthesis, or a word and then more, or a list
-- that opens at a place and then more.
pub data Content : Type 0 where
  End : (close : ℕ) → Content
  Word : (word : Lexeme) (more : Content) → Content
  Inner : (at : ℕ) (inner more : Content) → Content

-- the bytes of the text that the token spans
abbrev pub bytes_of : List ℕ → Token → List ℕ
bytes_of text t = slice_range text t.at t.end

-- the word that the token spells
abbrev pub lexeme : List ℕ → Token → Lexeme
lexeme text t = record { at = t.at; kind = t.kind; bytes = bytes_of text t }

-- what the innermost list holds; behind the last token the file ends, and its place is 0
abbrev pub top : List Content → Content
top [] = End 0
top (x ∷ xs) = x

-- one more token in front: what the innermost list holds, then the list around it, and so on
abbrev pub level : List ℕ → TokenKind → Token → List Content → List Content
level text Close t outer = End t.at ∷ outer
level text Open t outer = Inner t.at (top outer) (top (drop 1 outer)) ∷ drop 2 outer
level text kind t outer = Word (lexeme text t) (top outer) ∷ drop 1 outer

-- what the lists hold in which the first of these tokens stands, the innermost first
unfoldable pub levels : List ℕ → List Token → List Content
levels text [] = []
levels text (t ∷ ts) = level text t.kind t (levels text ts)

-- what the list holds in which the token with this number stands, from there on
unfoldable pub content_at : Lexed → ℕ → Content
content_at forms at = top (levels forms.text (drop at forms.tokens))

-- what stands behind the next word or list
abbrev pub behind : Content → Content
behind (End close) = End close
behind (Word w more) = more
behind (Inner at inner more) = more
