-- The answer of `parse` in terms of the reading `marked_block`.
use Rattle.std.specs.Prelude.{◌≡◌, ◌-◌, List, [], ◌∷◌, Option, Some, None, length, Result, Ok, Err}
use Rattle.sdl_lex.specs.declared.lexemes.Token.{Token}
use Rattle.sdl_tree.specs.declared.fault.ParseFault.{ParseFault}
use Rattle.sdl_tree.specs.declared.fault.ParseFault.TheVariants.{Unexpected, TooDeep, NoMemory}
use Rattle.sdl_ast.specs.declared.tree.Block.{Block}
use Rattle.sdl_ast.specs.Views.{block_of}
use Rattle.sdl_productions.specs.Readings.{Reading, read, fails}
use Rattle.sdl_productions.specs.Marks.{kept, too_high}
use Rattle.sdl_productions.specs.MarkedParts.{marked_block}

-- the remaining tokens, if a reading stops before the end
abbrev pub stops_at : {A : Type 0} → Reading A → Option (List Token)
stops_at (read x []) = None
stops_at (read x (t ∷ us)) = Some (t ∷ us)
stops_at (fails us) = Some us

abbrev pub Settled : List Token → Result Block ParseFault → Type 0
Settled tokens (Ok block) = marked_block tokens ≡ read (kept (block_of block)) []
Settled tokens (Err (TooDeep at)) = marked_block tokens ≡ read (too_high at) []
Settled tokens (Err (Unexpected at)) =
    (us : List Token) × (stops_at (marked_block tokens) ≡ Some us)
    × (at ≡ length tokens - length us)
Settled tokens (Err NoMemory) = Unit {0}
