use Rattle.std.proofs.Common.{◌++◌, ◌∷◌, [], if◌then◌else◌, List, Bool, sym, ap, ◌∙◌}
use Rattle.sdl_ast.specs.Views.{block_of, process_of}
use Rattle.sdl_ast.specs.declared.expression.Identifier.{Identifier}
use Rattle.sdl_rules.proofs.SenderRows.{tells_more}
use Rattle.sdl_rules.proofs.sender_table.SenderTable.learn.Goals as goal

pub returns-clause-tells : goal.returns-clause-tells
returns-clause-tells c = λ h.
    let ids : List Identifier = c.args.self.now.names in
    tells_more (block_of c.args.block.now) (process_of c.args.process.now) c.args.self.now _ c.args.signal c.in_ok-row.row c.in_ok-row.ensures
    (c.in_ok-add.ensures.ids ∙ ap (λ (t : Bool). if t then ids else ids ++ c.args.signal ∷ []) (sym c.contains.ensures ∙ c.if-contains.false))
    c.in_ok-push.ensures.items h
