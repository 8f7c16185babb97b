use Rattle.std.proofs.Common.{◌≡◌, ◌∙◌, sym, ap, ℕ, List, ◌++◌, codes, decimal, append_assoc, Vec, Global}
use Rattle.reply_text.proofs.verdicts.clash_text.Goals as goal

-- four pieces in a row are one text, whichever are joined first
joined : (a b c d : List ℕ) → a ++ (b ++ (c ++ d)) ≡ a ++ b ++ c ++ d
joined a b c d = sym (append_assoc (a ++ b) c d ∙ append_assoc a b (c ++ d))

pub returns : goal.returns
returns c =
    ap (λ (v : Vec ℕ Global). v.items) c.into_bytes.ensures.value ∙ c.in_ok-format.ensures.ok
    ∙ ap (λ (l : List ℕ). codes "invalid clash lines " ++ l) (joined (decimal c.args.line) (codes " ") (decimal c.args.other) (codes "\n"))
