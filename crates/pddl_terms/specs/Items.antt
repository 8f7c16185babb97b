-- Believed: what stands at a token.
use Rattle.std.specs.Prelude.{◌≡◌, ℕ, ◌+◌, ◌^◌, ◌<◌, ◌≤◌, List, length, Ok}
use Rattle.sexpr_text.specs.declared.token.Token.{Token}
use Rattle.sexpr_text.specs.Forms.{Lexed}
use Rattle.sexpr_text.specs.Runs.{reading}
use Rattle.pddl_terms.specs.declared.items.Item.{Item}
use Rattle.pddl_terms.specs.declared.items.Item.TheVariants as item
use Rattle.pddl_terms.specs.declared.items.Beginning.{Beginning}
use Rattle.pddl_terms.specs.declared.items.Beginning.TheVariants as beginning
use Rattle.pddl_terms.specs.Content.{Content, End, Word, Inner, lexeme, bytes_of, content_at}

-- the token is a word of the text
pub record IsWord (text : List ℕ) (t : Token) : Type 0 where
  pub some : t.at < t.end
  pub within : t.end ≤ length text
  pub spelt : reading (bytes_of text t) ≡ Ok t.kind

-- the word stands at the token with the number
pub record HasWord (forms : Lexed) (at : ℕ) (t : Token) : Type 0 where
  pub here : content_at forms at ≡ Word (lexeme forms.text t) (content_at forms (at + 1))
  pub within : at < length forms.tokens
  pub small : at + 1 < 2 ^ 64
  pub word : IsWord forms.text t

-- the list that the parenthesis opens stands at the token with the number, and ends with the parenthesis's mate
pub record HasList (forms : Lexed) (at : ℕ) (t : Token) : Type 0 where
  pub here : content_at forms at ≡ Inner t.at (content_at forms (at + 1)) (content_at forms (t.mate + 1))
  pub later : at < t.mate
  pub within : t.mate < length forms.tokens

-- this stands at the token: the end of a list, a word or a list
abbrev pub IsItem : Lexed → ℕ → Item → Type 0
IsItem forms at (item.End close) = content_at forms at ≡ End close
IsItem forms at (item.Word t) = HasWord forms at t
IsItem forms at (item.List t) = HasList forms at t

-- no list
abbrev pub IsNoList : Content → Type 0
IsNoList (End close) = Unit {0}
IsNoList (Word w more) = Unit {0}
IsNoList (Inner at inner more) = ⊥

-- no word
abbrev pub IsNoWord : Content → Type 0
IsNoWord (End close) = Unit {0}
IsNoWord (Word w more) = ⊥
IsNoWord (Inner at inner more) = Unit {0}

-- a list that opens at the place, and that no word begins
pub record BeginsWithNoWord (forms : Lexed) (at place : ℕ) : Type 0 where
  pub inner : Content
  pub more : Content
  pub list : content_at forms at ≡ Inner place inner more
  pub no_word : IsNoWord inner

-- a list that opens at the place and that the word begins, behind which stands the token with the number
pub record BeginsWithWord (forms : Lexed) (at place : ℕ) (t : Token) (next : ℕ) : Type 0 where
  pub more : Content
  pub list : content_at forms at ≡ Inner place (Word (lexeme forms.text t) (content_at forms next)) more
  pub later : at < next
  pub within : next ≤ length forms.tokens
  pub word : IsWord forms.text t

-- how the list begins that stands at the token
abbrev pub IsBeginning : Lexed → ℕ → Beginning → Type 0
IsBeginning forms at beginning.NoList = IsNoList (content_at forms at)
IsBeginning forms at (beginning.NoWord place) = BeginsWithNoWord forms at place
IsBeginning forms at (beginning.Word place t next) = BeginsWithWord forms at place t next
