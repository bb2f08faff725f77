-- What a written block means, and the values of its synonyms.
use Rattle.std.specs.Prelude.{ℕ, ℤ, List, Option, None, Some, option_and_then}
use Rattle.sdl_ast.specs.Plain.{PlainBlock}
use Rattle.sdl_compile.specs.Synonyms.{Known, known_as}
use Rattle.sdl_compile.specs.Expansion.{block_known, expanded}
use Rattle.sdl_compile.specs.SynonymViews.{known_of}
use Rattle.turn_code.specs.declared.value.Value.{Value}
use Rattle.turn_code.specs.declared.value.Value.TheVariants.{Int, Bool as Truth}
use Rattle.turn_verify.specs.declared.meanings.BlockSynonyms.{BlockSynonyms}

-- the block with values in place of its synonyms
abbrev pub meaning_of : PlainBlock → PlainBlock
meaning_of b = expanded b

abbrev pub synonyms_of : BlockSynonyms → Known
synonyms_of s = known_of s.known

abbrev pub integer_of : Value → Option ℤ
integer_of (Int x) = Some x
integer_of (Truth b) = None

-- the value of the Integer synonym with a name
abbrev pub integer_known : Known → List ℕ → Option ℤ
integer_known k name = option_and_then integer_of (known_as k name)

-- that of a block
abbrev pub integer_synonym : PlainBlock → List ℕ → Option ℤ
integer_synonym b name = integer_known (block_known b) name
