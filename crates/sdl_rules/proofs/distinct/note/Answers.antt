use Rattle.std.proofs.Common.{refl, sym, ◌∙◌}
use Rattle.sdl_rules.proofs.Numbered.{noted_one}
use Rattle.sdl_rules.proofs.distinct.note.Goals as goal

pub returns-in_ok-grow-in-Some : goal.returns-in_ok-grow-in-Some
returns-in_ok-grow-in-Some c = λ xs have.
    noted_one xs c.args.marks.now.items c.grow.new.marks.items _ c.args.sender.now c.in-Some.number (sym c.number_in.ensures ∙ c.in-Some.is)
    c.in_ok-grow-in-Some.ensures.kept c.in_ok-grow-in-Some.ensures.there refl have
