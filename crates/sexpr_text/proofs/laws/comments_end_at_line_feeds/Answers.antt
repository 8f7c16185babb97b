use Rattle.sexpr_text.proofs.Places.{semicolon_before, comment_from_semicolon}
use Rattle.sexpr_text.proofs.laws.comments_end_at_line_feeds.Goals as goal

pub returns : goal.returns
returns c text place = (semicolon_before text place, comment_from_semicolon text place)
