use Rattle.std.proofs.Common.{[], ◌∙◌, List, map, fold, ap}
use Rattle.std.specs.Borrow.{Bor}
use Rattle.sdl_ast.specs.declared.expression.Identifier.{Identifier}
use Rattle.sdl_ast.specs.declared.tree.InputPart.{InputPart}
use Rattle.sdl_ast.specs.Plain.{PlainInput}
use Rattle.sdl_ast.specs.Views.{input_of, block_of, process_of}
use Rattle.sdl_rules.specs.SenderTables.{add_input}
use Rattle.sdl_rules.proofs.sender_table.find_senders.Goals as goal

pub returns : goal.returns
returns c =
    let inputs : List PlainInput = map (λ (i : Bor InputPart). input_of i.now) c.parts.result.now in record {
      tells = c.in_ok-learn_inputs.ensures.tells (c.new-table.ensures.tells (block_of c.args.block.now) (process_of c.args.process.now));
      names =
          c.in_ok-learn_inputs.ensures.names
          ∙ ap (λ (ids : List Identifier). fold add_input ids inputs) c.new-table.ensures.names
          ∙ ap (λ (is : List PlainInput). fold add_input [] is) c.parts.ensures;
    }
