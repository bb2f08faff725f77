use Rattle.std.proofs.Common.{◌≡◌, map, take}
use Rattle.sdl_ast.specs.Views.{block_of}
use Rattle.sdl_rules.specs.SenderTables.{numbered}
use Rattle.sdl_scopes.specs.declared.sender.Sender.TheVariants.{Party}
use Rattle.sdl_rules.proofs.sender_table.number_parties.Given as goal

abbrev pub invariant-loop-party : goal.invariant-loop-party
invariant-loop-party l = l.rows.items ≡ map (λ q. Party (numbered (block_of l.block) q)) (take l.party-index l.parties)
