-- The coverage of a text, as it is reported for that text.
use Rattle.std.specs.Prelude.{◌≡◌, ℕ, List, Ok, map}
use Rattle.std.specs.Global.{Vec}
use Rattle.sdl_lex.specs.Lexed.{Answers}
use Rattle.sdl_lex.specs.declared.lexemes.Token.{Token}
use Rattle.sdl_ast.specs.Plain.{PlainBlock}
use Rattle.sdl_ast.specs.Views.{block_of}
use Rattle.sdl_tree.specs.Syntax.{Reads}
use Rattle.sdl_rules.specs.Expansion.{expanded}
use Rattle.sdl_tables.specs.Names.{Input, inputs_by_state, processes_of}
use Rattle.sdl_tables.specs.Rows.{rows_inputs}
use Rattle.sdl_tables.specs.declared.process_table.InputRow.{InputRow}
use Rattle.turn_machine.specs.Turn.{Turn}
use Rattle.script_covered.specs.Covered.{Covers}
use Rattle.script_covered.specs.Lcov.{lcov_text}
use Rattle.script_covered.specs.declared.text_coverage.TextCoverage.{TextCoverage}

-- the text means the block: it reads as a block whose expansion this is
pub record IsTextOf (text : List ℕ) (b : PlainBlock) : Type 0 where
  pub tokens : List Token
  pub lexed : Answers text (Ok tokens)
  pub written : PlainBlock
  pub reads : Reads tokens written
  pub means : b ≡ expanded written

abbrev pub inputs_in : Vec (Vec InputRow) → List (List Input)
inputs_in states = map rows_inputs states.items

-- the coverage of a text by the turns so far, and the inputs of its block's states
pub record IsCovering (ts : List Turn) (c : TextCoverage) : Type 0 where
  pub is_text : IsTextOf c.text.now (block_of c.block.now)
  pub covers : Covers (block_of c.block.now) ts c.coverage
  pub inputs :
      map inputs_in c.inputs.items ≡ map inputs_by_state (processes_of (block_of c.block.now))

-- the report of the text's coverage by these turns, with this file name
pub record IsLcov (name text : List ℕ) (ts : List Turn) (out : List ℕ) : Type 0 where
  pub block : PlainBlock
  pub is_block : IsTextOf text block
  pub told : out ≡ lcov_text name text block ts
