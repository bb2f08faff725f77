use Rattle.sdl_rules.proofs.known.ask.Goals as goal

pub returns-then-knows : goal.returns-then-knows
returns-then-knows c = λ os k. (k, c.all_get.ensures os k.1)

pub returns : goal.returns
returns c = λ os k.
    let brings = c.in_ok-learn.ensures k.0 in ((brings, k.1), c.all_get_by.ensures os (brings, k.1))
