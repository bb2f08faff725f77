use Rattle.std.proofs.Common.{sym, ap}
use Rattle.sdl_meaning.specs.Code.{number_or_zero}
use Rattle.sdl_emit.specs.Scopes.{scope_in}
use Rattle.sdl_emit.proofs.names.Names.connector.Goals as goal

pub returns-in-Some : goal.returns-in-Some
returns-in-Some c = sym (ap number_or_zero (c.in-Some.ensures (scope_in c.args.self.now) c.args.self.now.used))
