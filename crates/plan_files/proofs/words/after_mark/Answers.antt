use Rattle.std.proofs.Common.{List, ℕ, ◌∙◌, ap, Bor}
use Rattle.std.specs.Option.{option_map}
use Rattle.plan_files.specs.Tokens.{tokens}
use Rattle.plan_files.proofs.Scanning.{behind_mark-is, map_map}
use Rattle.plan_files.proofs.words.after_mark.Goals as goal

pub returns : goal.returns
returns c = map_map (λ (x : Bor (List ℕ)). x.now) tokens c.behind_mark.result ∙ ap (option_map tokens) c.behind_mark.ensures ∙ behind_mark-is c.args.mark c.args.line.now c.requires
