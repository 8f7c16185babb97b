use Rattle.std.proofs.Common.{List, length, subst, sym, arith, ◌<◌, slice_index_or}
use Rattle.sexpr_text.specs.declared.token.Token.{Token}
use Rattle.sexpr_text.specs.declared.token.TokenKind.TheVariants.{Open}
use Rattle.sexpr_text.specs.Token.{AreTokens}
use Rattle.sexpr_text.specs.Forms.{LieWithin, MatesAreBehind, MatesLeadBack}
use Rattle.pddl_terms.proofs.Contents.{item-end, item-close, item-word, item-list, encloses, word-is}
use Rattle.pddl_terms.proofs.items.item_at.Goals as goal

pub returns-then-at-tokens : goal.returns-then-at-tokens
returns-then-at-tokens c = item-end c.args.forms.now c.tokens-tokens.result.now c.tokens-tokens.ensures.value c.args.at (record { kind = Open; at = 0; end = 0; mate = 0 }) c.if-at-tokens.true

pub returns-in-Close : goal.returns-in-Close
returns-in-Close c = item-close c.args.forms.now c.tokens-tokens.result.now c.tokens-tokens.ensures.value c.args.at _ c.if-at-tokens.false c.in-Close.is

pub returns-in-Open : goal.returns-in-Open
returns-in-Open c =
    let same = sym c.tokens-tokens.ensures.value in
    let mates = encloses c.args.forms.now c.tokens-tokens.result.now c.tokens-tokens.ensures.value c.args.at (record { kind = Open; at = 0; end = 0; mate = 0 }) c.if-at-tokens.false
    (subst (AreTokens c.args.forms.now.text) same c.tokens-tokens.ensures.lexed) (subst MatesAreBehind same c.tokens-tokens.ensures.behind)
    (subst MatesLeadBack same c.tokens-tokens.ensures.back) c.in-Open.is in
    record {
      here = item-list c.args.forms.now c.tokens-tokens.result.now c.tokens-tokens.ensures.value c.args.at _ c.if-at-tokens.false c.in-Open.is mates;
      later = mates.later;
      within = subst (λ (ts : List Token). (slice_index_or c.tokens-tokens.result.now c.args.at (record { kind = Open; at = 0; end = 0; mate = 0 })).mate < length ts) c.tokens-tokens.ensures.value mates.within;
    }

pub returns-in_default : goal.returns-in_default
returns-in_default c =
    let same = sym c.tokens-tokens.ensures.value in
    record {
      here = item-word c.args.forms.now c.tokens-tokens.result.now c.tokens-tokens.ensures.value c.args.at _ c.if-at-tokens.false c.in_default.not-Open c.in_default.not-Close;
      within = subst (λ (ts : List Token). c.args.at < length ts) c.tokens-tokens.ensures.value c.if-at-tokens.false;
      small = omega (arith, c.tokens-tokens.type_inv);
      word = word-is c.args.forms.now c.tokens-tokens.result.now c.tokens-tokens.ensures.value c.args.at _ c.if-at-tokens.false
          (subst (AreTokens c.args.forms.now.text) same c.tokens-tokens.ensures.lexed) (subst (LieWithin c.args.forms.now.text) same c.tokens-tokens.ensures.within) c.in_default.not-Open c.in_default.not-Close;
    }
