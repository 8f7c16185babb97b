-- The sections of a file, one after the other, and atoms or left-out lists.
use Rattle.std.proofs.Common.{◌≡◌, ℕ, List, [], ◌∷◌, ◌++◌, refl, sym, ap, ◌∙◌, true, false, if◌then◌else◌, Option, Some, None, Ok, Err, Result}
use Rattle.std.specs.Prelude.{IfOk}
use Rattle.pddl_terms.specs.declared.trees.Call.{Call}
use Rattle.pddl_terms.specs.declared.trees.Call.TheVariants as call
use Rattle.pddl_terms.specs.declared.trees.Name.{Name}
use Rattle.pddl_terms.specs.Content.{Content, Lexeme, End, Word, Inner, behind}
use Rattle.pddl_terms.specs.Words.{same_word, is_left_out}
use Rattle.pddl_terms.specs.Shape.{word_ahead}
use Rattle.pddl_terms.specs.Typed.{name_of, bare_atom}
use Rattle.pddl_terms.specs.Calls.{call_of, call_list, call_tree}
use Rattle.pddl_terms.specs.Sections.{section, behind_word, place_if, left_out, names, no_name, name_at, heading}

module _ (at : ℕ) (x : Content) where
  pub call_list-end : (c : ℕ) → x ≡ End c → call.LeftOut at ≡ call_list at x
  call_list-end c e = sym (ap (call_list at) e)

  pub call_list-list : (place : ℕ) (inner more : Content) → x ≡ Inner place inner more → call.LeftOut at ≡ call_list at x
  call_list-list place inner more e = sym (ap (call_list at) e)

  pub call_list-word : (w : Lexeme) (more : Content) → x ≡ Word w more → call_of (is_left_out w.bytes) at w more ≡ call_list at x
  call_list-word w more e = sym (ap (call_list at) e)

module _ (x : Content) where
  pub call_tree-end : (c : ℕ) → x ≡ End c → call.LeftOut 0 ≡ call_tree x
  unfolding call_tree
  call_tree-end c e = sym (ap call_tree e)

  pub call_tree-word : (w : Lexeme) (more : Content) → x ≡ Word w more → call.Named (bare_atom w) ≡ call_tree x
  unfolding call_tree
  call_tree-word w more e = sym (ap call_tree e)

  pub call_tree-list : (at : ℕ) (inner more : Content) → x ≡ Inner at inner more → call_list at inner ≡ call_tree x
  unfolding call_tree
  call_tree-list at inner more e = sym (ap call_tree e)

-- a list that begins with the word, or one that doesn't
module _ (key : List ℕ) (x : Content) where
  pub section-end : (c : ℕ) → x ≡ End c → section key x ≡ None
  unfolding section
  section-end c e = ap (section key) e

  pub section-word : (w : Lexeme) (more : Content) → x ≡ Word w more → section key x ≡ section key more
  unfolding section
  section-word w more e = ap (section key) e

  module _ (at : ℕ) (inner more : Content) (e : x ≡ Inner at inner more) where
    pub section-here : same_word (word_ahead inner) key ≡ true → section key x ≡ Some (behind inner)
    unfolding section
    section-here f = ap (section key) e ∙ ap (λ b. if b then Some (behind inner) else section key more) f

    pub section-other : same_word (word_ahead inner) key ≡ false → section key x ≡ section key more
    unfolding section
    section-other f = ap (section key) e ∙ ap (λ b. if b then Some (behind inner) else section key more) f

  pub behind_word-end : (c : ℕ) → x ≡ End c → behind_word key x ≡ None
  unfolding behind_word
  behind_word-end c e = ap (behind_word key) e

  pub behind_word-list : (at : ℕ) (inner more : Content) → x ≡ Inner at inner more → behind_word key x ≡ behind_word key more
  unfolding behind_word
  behind_word-list at inner more e = ap (behind_word key) e

  module _ (w : Lexeme) (more : Content) (e : x ≡ Word w more) where
    pub behind_word-here : same_word w.bytes key ≡ true → behind_word key x ≡ Some more
    unfolding behind_word
    behind_word-here f = ap (behind_word key) e ∙ ap (λ b. if b then Some more else behind_word key more) f

    pub behind_word-other : same_word w.bytes key ≡ false → behind_word key x ≡ behind_word key more
    unfolding behind_word
    behind_word-other f = ap (behind_word key) e ∙ ap (λ b. if b then Some more else behind_word key more) f

module _ (x : Content) where
  pub left_out-end : (c : ℕ) → x ≡ End c → left_out x ≡ []
  unfolding left_out
  left_out-end c e = ap left_out e

  pub left_out-word : (w : Lexeme) (more : Content) → x ≡ Word w more → left_out x ≡ left_out more
  unfolding left_out
  left_out-word w more e = ap left_out e

  pub left_out-list : (at : ℕ) (inner more : Content) → x ≡ Inner at inner more → left_out x ≡ place_if (is_left_out (word_ahead inner)) at ++ left_out more
  unfolding left_out
  left_out-list at inner more e = ap left_out e

  pub names-end : (c : ℕ) → x ≡ End c → names x ≡ []
  unfolding names
  names-end c e = ap names e

  pub names-word : (w : Lexeme) (more : Content) → x ≡ Word w more → names x ≡ name_of w ∷ names more
  unfolding names
  names-word w more e = ap names e

  pub names-list : (at : ℕ) (inner more : Content) → x ≡ Inner at inner more → names x ≡ names more
  unfolding names
  names-list at inner more e = ap names e

  pub name_at-end : (c : ℕ) → x ≡ End c → no_name ≡ name_at x
  unfolding name_at
  name_at-end c e = sym (ap name_at e)

  pub name_at-word : (w : Lexeme) (more : Content) → x ≡ Word w more → name_of w ≡ name_at x
  unfolding name_at
  name_at-word w more e = sym (ap name_at e)

  pub name_at-list : (at : ℕ) (inner more : Content) → x ≡ Inner at inner more → no_name ≡ name_at x
  unfolding name_at
  name_at-list at inner more e = sym (ap name_at e)

  pub heading-end : (c : ℕ) → x ≡ End c → no_name ≡ heading x
  unfolding heading
  heading-end c e = sym (ap heading e)

  pub heading-word : (w : Lexeme) (more : Content) → x ≡ Word w more → no_name ≡ heading x
  unfolding heading
  heading-word w more e = sym (ap heading e)

  pub heading-list : (at : ℕ) (inner more : Content) → x ≡ Inner at inner more → name_at (behind inner) ≡ heading x
  unfolding heading
  heading-list at inner more e = sym (ap heading e)

-- what is told of what was found is told of what stands there
pub of_found : {A E : Type 0} (told : Option Content → A) (r : Result A E) {o p : Option Content} → o ≡ p → IfOk r (λ x. x ≡ told o) → IfOk r (λ x. x ≡ told p)
of_found told (Ok x) e h = h ∙ ap told e
of_found told (Err x) e h = tt
