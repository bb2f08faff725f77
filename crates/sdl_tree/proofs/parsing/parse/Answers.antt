use Rattle.sdl_tree.proofs.ParseLemmas.{found_reads, answers_exactly, refuses_rightly}
use Rattle.std.specs.Prelude.{Result, Ok, Err, IfOk, IfErr, List}
use Rattle.sdl_lex.specs.declared.lexemes.Token.{Token}
use Rattle.sdl_tree.specs.declared.fault.ParseFault.{ParseFault}
use Rattle.sdl_ast.specs.declared.tree.Block.{Block}
use Rattle.sdl_tree.specs.Refusals.{Refuses}
use Rattle.sdl_tree.specs.Syntax.{Reads}
use Rattle.sdl_ast.specs.Views.{block_of}
use Rattle.sdl_tree.specs.Settled.{Settled}
use Rattle.sdl_tree.proofs.parsing.parse.Goals as goal

if_ok : (ts : List Token) (r : Result Block ParseFault) → Settled ts r → IfOk r (λ block. Reads ts (block_of block))
if_ok ts (Ok block) s = found_reads ts block s
if_ok ts (Err fault) s = tt

if_err : (ts : List Token) (r : Result Block ParseFault) → Settled ts r → IfErr r (λ fault. Refuses ts fault)
if_err ts (Ok block) s = tt
if_err ts (Err fault) s = refuses_rightly ts fault s

pub returns-clause-found : goal.returns-clause-found
returns-clause-found c = if_ok c.args.tokens.now c.read_text.result c.read_text.ensures

pub returns-clause-exact : goal.returns-clause-exact
returns-clause-exact c b h = answers_exactly c.args.tokens.now c.read_text.result b c.read_text.ensures h

pub returns-clause-refused : goal.returns-clause-refused
returns-clause-refused c = if_err c.args.tokens.now c.read_text.result c.read_text.ensures
