use Rattle.std.proofs.Common.{◌∙◌, ap₂}
use Rattle.mtp2_words.specs.Words.{warned_of}
use Rattle.mtp2_words.proofs.words.warned_by.Goals as goal

pub returns : goal.returns
returns c = c.warned_of.ensures ∙ ap₂ warned_of c.get_str.ensures c.get_str-2.ensures
