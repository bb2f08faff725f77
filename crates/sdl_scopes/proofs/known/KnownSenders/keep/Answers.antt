use Rattle.std.proofs.Common.{◌∙◌, sym, subst, true, false}
use Rattle.sdl_scopes.specs.Known.{AreAlike}
use Rattle.sdl_scopes.proofs.Knowing.{alike_more}
use Rattle.sdl_scopes.proofs.known.KnownSenders.keep.Goals as goal

pub returns-in_ok-add : goal.returns-in_ok-add
returns-in_ok-add c = λ b p os k e. record {
  senders = k.senders;
  back = subst (AreAlike b p os true) (sym c.in_ok-add.ensures.ids) (alike_more b p os true c.args.self.now.back c.args.signal k.back (sym e ∙ c.if-back.true));
  lost = k.lost;
}

pub returns-in_ok-add-2 : goal.returns-in_ok-add-2
returns-in_ok-add-2 c = λ b p os k e. record {
  senders = k.senders;
  back = k.back;
  lost = subst (AreAlike b p os false) (sym c.in_ok-add-2.ensures.ids) (alike_more b p os false c.args.self.now.lost c.args.signal k.lost (sym e ∙ c.if-back.false));
}
