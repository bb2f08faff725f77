use Rattle.std.proofs.Common.{ℕ, ◌<◌, get_or}
use Rattle.sdl_lex.specs.declared.lexemes.Word.TheVariants.{Block}
use Rattle.sdl_lex.specs.Spelling.{SameName}
use Rattle.sdl_lex.specs.Texts.{word_text}
use Rattle.sdl_lex.proofs.words.first_spelled.Given as goal

abbrev pub invariant-loop-word : goal.invariant-loop-word
invariant-loop-word l = (k : ℕ) → k < l.word-index → SameName l.spelling (word_text (get_or l.words k Block)) → ⊥
