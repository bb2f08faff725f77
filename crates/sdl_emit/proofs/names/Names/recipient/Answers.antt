use Rattle.std.proofs.Common.{sym, ap}
use Rattle.sdl_meaning.specs.Code.{party_or_environment}
use Rattle.sdl_emit.specs.Scopes.{scope_in}
use Rattle.sdl_emit.proofs.names.Names.recipient.Goals as goal

pub returns-in-Some : goal.returns-in-Some
returns-in-Some c = sym (ap party_or_environment (c.in-Some.ensures (scope_in c.args.self.now) c.args.self.now.used))
