use Rattle.std.proofs.Common.{sym, ◌∙◌, add-one}
use Rattle.sexpr_text.proofs.Places.{piece_open, piece_close, piece_run, gap_blank, gap_comment, blank_no_semicolon}
use Rattle.sexpr_text.proofs.piece.piece_at.Goals as goal

pub returns-in-40 : goal.returns-in-40
returns-in-40 c = piece_open _ _ c.requires.inside c.requires.clear c.in-40.is

pub returns-in-41 : goal.returns-in-41
returns-in-41 c = piece_close _ _ c.requires.inside c.requires.clear c.in-41.is

pub returns-in-59 : goal.returns-in-59
returns-in-59 c =
    let end = c.line_end.ensures in
    gap_comment _ _ _ c.in-59.is end.after end.within end.before end.found

pub returns-in_default : goal.returns-in_default
returns-in_default c =
    let blank = sym c.is_blank.ensures ∙ c.if-is_blank.true in
    rw add-one (gap_blank _ _ c.requires.inside c.requires.clear blank (blank_no_semicolon _ blank))

pub returns-in_default-2 : goal.returns-in_default-2
returns-in_default-2 c =
    let end = c.run_end.ensures in
    piece_run _ _ _ end.after end.within c.requires.clear end.before end.found
