use Rattle.std.proofs.Common.{ℕ, ◌<◌, List, length, sym, subst}
use Rattle.line_filter.proofs.Filling.{some_octet, whole_again, stuffs_of}
use Rattle.line_filter.proofs.voice.Voice.begin.Goals as goal

pub bounds-deref-0 : goal.bounds-deref-0
bounds-deref-0 c =
    let old = c.self.invariant in
    let sent = c.put_to.ensures.sent in
    let P : List ℕ → Type 0 = λ xs. 0 < length xs in
    subst P (sym c.deref.ensures.0) (some_octet old.0 c.put_to.new.line.items old.1 sent.0 _ c.put_to.new.self old.2 (sent.3 old.0 old.1 old.2))

pub invariant_of-self : goal.invariant_of-self
invariant_of-self c =
    let old = c.self.invariant in
    let sent = c.put_to.ensures.sent in
    (_, _, sent.3 old.0 old.1 old.2)

pub returns : goal.returns
returns c =
    let old = c.self.invariant in
    let sent = c.put_to.ensures.sent in
    let some : 0 < length c.put_to.new.line.items = some_octet old.0 c.put_to.new.line.items old.1 sent.0 _ c.put_to.new.self old.2 (sent.3 old.0 old.1 old.2) in
    rw (← c.self.view_is, c.deref.ensures.0)
    (stuffs_of _ c.put_to.new.self c.args.unit.now sent.0 c.put_to.new.line.items _ (whole_again c.put_to.new.line.items some) sent.1 sent.2 sent.3)
