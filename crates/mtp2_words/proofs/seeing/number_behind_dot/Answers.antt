use Rattle.std.proofs.Common.{lit<, None}
use Rattle.std.proofs.lemmas.Str.Pattern.{strip_prefix_char}
use Rattle.mtp2_words.proofs.Dots.{no_dot}
use Rattle.mtp2_words.proofs.seeing.number_behind_dot.Goals as goal

pub returns-in-None : goal.returns-in-None
returns-in-None c = no_dot c.args.word.now (strip_prefix_char 46 c.args.word.now None c.in-None.ensures.cases (lit< tt))
