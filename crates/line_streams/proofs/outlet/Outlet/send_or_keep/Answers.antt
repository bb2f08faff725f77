use Rattle.std.proofs.Common.{◌∙◌, refl, sym, true≢false}
use Rattle.line_streams.proofs.Ends.{alone_goes, alone_stays, not_alone, grown_by}
use Rattle.line_streams.proofs.outlet.Outlet.send_or_keep.Goals as goal

pub returns-then-not-alone-clause-told : goal.returns-then-not-alone-clause-told
returns-then-not-alone-clause-told c =
    not_alone c.args.wait c.args.text.items c.args.self.now _ (λ none. true≢false (sym (c.is_empty-alone.ensures.1 none) ∙ c.if-not-alone.true))
    (c.put.ensures.put c.if-not-put.false) refl refl

pub returns-in-Some-clause-told : goal.returns-in-Some-clause-told
returns-in-Some-clause-told c =
    alone_goes c.args.wait c.args.text.items c.args.self.now _ _ _ (c.is_empty-alone.ensures.0 c.if-not-alone.false) (c.put.ensures.put c.if-not-put.false) refl refl
    c.in-Some.ensures.some

pub returns-in-Some-clause-count : goal.returns-in-Some-clause-count
returns-in-Some-clause-count c = grown_by _ _ _ c.in-Some.ensures.some

pub returns-in-None-clause-told : goal.returns-in-None-clause-told
returns-in-None-clause-told c =
    alone_stays c.args.wait c.args.text.items c.args.self.now _ _ (c.is_empty-alone.ensures.0 c.if-not-alone.false) (c.put.ensures.put c.if-not-put.false) refl refl
    (c.in-None.ensures.none refl)
