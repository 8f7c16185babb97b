-- A domain is no longer than its text.
use Rattle.std.proofs.Common.{◌≡◌, refl, sym, ap, ◌∙◌, subst, ℕ, suc, ◌+◌, ◌≤◌, Bool, true, false, List, [], ◌∷◌, ◌++◌, length, Option, Some, None, if◌then◌else◌, arith, length-append}
use Rattle.std.proofs.lemmas.List.Concat.{flat_map-append}
use lib.Chars.{codes}
use Rattle.sexpr_text.specs.declared.token.Token.{Token}
use Rattle.sexpr_text.specs.declared.token.TokenKind.{TokenKind}
use Rattle.sexpr_text.specs.declared.token.TokenKind.TheVariants.{Open, Close}
use Rattle.sexpr_text.specs.Token.{AreTokens}
use Rattle.sexpr_text.proofs.Spans.{length-spans}
use Rattle.pddl_terms.specs.declared.domain_heads.DomainHead.{DomainHead}
use Rattle.pddl_terms.specs.declared.domain_heads.DomainHead.TheVariants as head
use Rattle.pddl_terms.specs.declared.files.Domain.{Domain}
use Rattle.pddl_terms.specs.declared.grammar.Listed.{Listed}
use Rattle.pddl_terms.specs.declared.grammar.Listed.TheVariants.{Names}
use Rattle.pddl_terms.specs.declared.trees.Group.{Group}
use Rattle.pddl_terms.specs.declared.trees.Name.{Name}
use Rattle.pddl_terms.specs.declared.trees.TypeName.{TypeName}
use Rattle.pddl_terms.specs.declared.trees.TypeName.TheVariants as type
use Rattle.pddl_terms.specs.Content.{Content, End, Word, Inner, top, level, levels, content_at, behind}
use Rattle.pddl_terms.specs.Domains.{domain_head}
use Rattle.pddl_terms.specs.Files.{lexed}
use Rattle.pddl_terms.specs.Sections.{section}
use Rattle.pddl_terms.specs.Sections as sections
use Rattle.pddl_terms.specs.Shape.{word_ahead}
use Rattle.pddl_terms.specs.Typed.{name_of, is_listed, group_of, groups, groups_of}
use Rattle.pddl_terms.specs.Words.{same_word}
use Rattle.pddl_names.specs.Calls.{names_of}
use Rattle.pddl_domain.specs.Accepted.{IsNoLonger}
use Rattle.pddl_domain.specs.Actions.{as_action, actions}
use Rattle.pddl_domain.specs.Domains.{declarations, declarations_of, domain_of, domain_tree}
use Rattle.pddl_domain.specs.Readings.{IsDomain}

-- how many words and lists there are, up to the end of the list
unfoldable pub size : Content → ℕ
size (End close) = 0
size (Word w more) = suc (size more)
size (Inner at inner more) = suc (size inner + size more)

total : List Content → ℕ
total [] = 0
total (x ∷ xs) = size x + total xs

-- one more token is one more word or list, or none
level-size : (text : List ℕ) (kind : TokenKind) (t : Token) (outer : List Content) → total (level text kind t outer) ≤ suc (total outer)
unfolding size total
level-size text Close t outer = omega arith
level-size text Open t [] = omega arith
level-size text Open t (x ∷ []) = omega arith
level-size text Open t (x ∷ y ∷ xs) = omega arith
level-size text kind t [] = omega arith
level-size text kind t (x ∷ xs) = omega arith

levels-size : (text : List ℕ) (tokens : List Token) → total (levels text tokens) ≤ length tokens
unfolding levels total
levels-size text [] = omega arith
levels-size text (t ∷ ts) =
    let here = level-size text t.kind t (levels text ts) in
    let rest = levels-size text ts in
    omega (arith, here, rest)

top-size : (xs : List Content) → size (top xs) ≤ total xs
unfolding size total
top-size [] = omega arith
top-size (x ∷ xs) = omega arith

pub text-size : (text : List ℕ) (tokens : List Token) → AreTokens text tokens → size (content_at (lexed text tokens) 0) ≤ length text
unfolding content_at
text-size text tokens t =
    let spans = length-spans text 0 (length text) tokens t.spans in
    let here = top-size (levels text tokens) in
    let all = levels-size text tokens in
    omega (arith, spans, here, all)

pub behind-size : (x : Content) → size (behind x) ≤ size x
unfolding size
behind-size (End close) = omega arith
behind-size (Word w more) = omega arith
behind-size (Inner at inner more) = omega arith

-- ---- sections

unfoldable pub size_of : Option Content → ℕ
size_of None = 0
size_of (Some x) = size x

pub section-size : (key : List ℕ) (x : Content) → size_of (section key x) ≤ size x
unfolding size size_of section
section-size key (End close) = omega arith
section-size key (Word w more) = let rest = section-size key more in omega (arith, rest)
section-size key (Inner at inner more) = by (same_word (word_ahead inner) key) (section-size key more)
  where
    by : (b : Bool) → size_of (section key more) ≤ size more → size_of (if b then Some (behind inner) else section key more) ≤ suc (size inner + size more)
    by true rest = let here = behind-size inner in omega (arith, here)
    by false rest = omega (arith, rest)

group-size : (before : List Name) (of : TypeName) → length (names_of (group_of before of)) ≡ length before
group-size [] of = refl
group-size (n ∷ ns) of = length-append (n ∷ ns) [] ∙ omega arith

names-append : (gs hs : List Group) → length (names_of (gs ++ hs)) ≡ length (names_of gs) + length (names_of hs)
names-append gs hs = ap length (flat_map-append (λ g. g.names) gs hs) ∙ length-append (names_of gs) (names_of hs)

mutual
  unfolding size groups groups_of

  pub groups-size : (of : Listed) (before : List Name) (x : Content) → length (names_of (groups of before x)) ≤ length before + size x
  groups-size of before (End close) = let all = group-size before type.Object in omega (arith, all)
  groups-size of before (Word w more) =
      let listed = groups-size of (before ++ name_of w ∷ []) more in
      let typed = typed-size of before more in
      let longer = length-append before (name_of w ∷ []) in
      by (is_listed of w.kind) (omega (arith, listed, longer)) (omega (arith, typed))
    where
      by : (b : Bool) → length (names_of (groups of (before ++ name_of w ∷ []) more)) ≤ length before + suc (size more)
          → length (names_of (groups_of of before more)) ≤ length before + suc (size more)
          → length (names_of (if b then groups of (before ++ name_of w ∷ []) more else groups_of of before more)) ≤ length before + suc (size more)
      by true l t = l
      by false l t = t
  groups-size of before (Inner at inner more) = let rest = groups-size of before more in omega (arith, rest)

  typed-size : (of : Listed) (before : List Name) (x : Content) → length (names_of (groups_of of before x)) ≤ length before + size x
  typed-size of before (End close) = let all = group-size before type.Object in omega (arith, all)
  typed-size of before (Word w more) =
      let here = group-size before (type.Named (name_of w)) in
      let rest = groups-size of [] more in
      let both = names-append (group_of before (type.Named (name_of w))) (groups of [] more) in
      omega (arith, here, rest, both)
  typed-size of before (Inner at inner more) =
      let here = group-size before (type.LeftOut at) in
      let rest = groups-size of [] more in
      let both = names-append (group_of before (type.LeftOut at)) (groups of [] more) in
      omega (arith, here, rest, both)

pub section_names-size : (x : Option Content) → length (names_of (sections.groups_of x)) ≤ size_of x
unfolding size_of
section_names-size None = omega arith
section_names-size (Some x) = let all = groups-size Names [] x in omega (arith, all)

declarations-size : (x : Content) → length (declarations x) ≤ size x
unfolding size declarations
declarations-size (End close) = omega arith
declarations-size (Word w more) = let rest = declarations-size more in omega (arith, rest)
declarations-size (Inner at inner more) = let rest = declarations-size more in omega (arith, rest)

section_declarations-size : (x : Option Content) → length (declarations_of x) ≤ size_of x
unfolding size_of
section_declarations-size None = omega arith
section_declarations-size (Some x) = declarations-size x

one_action : (h : DomainHead) (at : ℕ) (x : Content) → length (as_action h at x) ≤ 1
one_action (head.Action sort) at x = omega arith
one_action h at x = omega arith

actions-size : (x : Content) → length (actions x) ≤ size x
unfolding size actions
actions-size (End close) = omega arith
actions-size (Word w more) = let rest = actions-size more in omega (arith, rest)
actions-size (Inner at inner more) =
    let rest = actions-size more in
    let here = one_action (domain_head (word_ahead inner)) at (behind inner) in
    let both = length-append (as_action (domain_head (word_ahead inner)) at (behind inner)) (actions more) in
    omega (arith, rest, here, both)

-- ---- whole domains

module _ (x : Content) (n : ℕ) (h : size x ≤ n) where
  names-within : (key : List ℕ) → length (names_of (sections.groups_of (section key x))) ≤ n
  names-within key = let here = section_names-size (section key x) in let all = section-size key x in omega (arith, here, all, h)

  declarations-within : (key : List ℕ) → length (declarations_of (section key x)) ≤ n
  declarations-within key = let here = section_declarations-size (section key x) in let all = section-size key x in omega (arith, here, all, h)

  domain_of-size : IsNoLonger (domain_of x) n
  unfolding domain_of
  domain_of-size = record {
    types = names-within (codes ":types");
    constants = names-within (codes ":constants");
    predicates = declarations-within (codes ":predicates");
    functions = declarations-within (codes ":functions");
    actions = let all = actions-size x in omega (arith, all, h);
  }

domain_tree-size : (x : Content) (n : ℕ) → size x ≤ n → IsNoLonger (domain_tree x) n
unfolding size domain_tree
domain_tree-size (Inner at inner more) n h = let here = behind-size inner in domain_of-size (behind inner) n (omega (arith, here, h))
domain_tree-size (End close) n h = domain_of-size (End close) n h
domain_tree-size (Word w more) n h = domain_of-size more n (omega (arith, h))

pub is_no_longer : (text : List ℕ) (d : Domain) → IsDomain text d → IsNoLonger d (length text)
is_no_longer text d f = subst (λ (t : Domain). IsNoLonger t (length text)) (sym f.tree_is)
    (domain_tree-size (content_at (lexed text f.tokens) 0) (length text) (text-size text f.tokens f.lexes))
