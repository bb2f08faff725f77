use Rattle.std.proofs.Common.{◌≡◌, ◌++◌, map, drop}
use Rattle.sdl_ast.specs.Views.{sending_of}
use Rattle.sdl_emit.specs.Scopes.{scope_in}
use Rattle.sdl_meaning.specs.Named.{NamedSendings}
use Rattle.sdl_meaning.specs.Code.{sendings_code}
use Rattle.sdl_emit.proofs.emit.emit_sendings.Given as goal

abbrev pub invariant-loop-sending : goal.invariant-loop-sending
invariant-loop-sending l = record {
  code : l.code.items ++ sendings_code (scope_in l.names) l.to (map sending_of (drop l.sending-index l.sendings)) ≡ l.initial.code.items ++ sendings_code (scope_in l.names) l.to (map sending_of l.sendings);
  named : NamedSendings (scope_in l.names) l.to (map sending_of (drop l.sending-index l.sendings));
}
