use Rattle.std.proofs.Common.{ℕ, [], ◌∷◌, take, subst}
use Rattle.script_ends.specs.Hearing.{Heard}
use Rattle.line_play.proofs.link.end.hear.Goals as goal

pub returns-then-line_in-eq1 : goal.returns-then-line_in-eq1
returns-then-line_in-eq1 c =
    let P : ℕ → Type 0 = λ n. Heard c.args.terminal.now (take n (c.args.octet ∷ [])) c.line_in.new.self in
    record { middle = c.line_in.new.self; heard = subst P c.if-line_in-eq1.true c.line_in.ensures.heard; after = c.obey_clear-cleared.ensures.terminal }
