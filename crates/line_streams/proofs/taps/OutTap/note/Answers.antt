use Rattle.std.proofs.Common.{List, ℕ, ◌++◌, subst}
use Rattle.std.proofs.lemmas.Result.{on_ok_weaker}
use Rattle.line_streams.specs.Tapping.{HasTapped}
use Rattle.line_streams.proofs.Tapped.{same_tapped, tail_is}
use Rattle.line_streams.proofs.taps.OutTap.note.Goals as goal

pub returns-clause-tapped : goal.returns-clause-tapped
returns-clause-tapped g c =
    on_ok_weaker c.capture_all.result (λ goes before gone seen has.
    let made = goes before gone seen (same_tapped g.S.Write.contents before gone seen 0 c.args.self.now has) in
    let P : List ℕ → Type 0 = λ xs. HasTapped g.S.Write.contents before (gone ++ xs) made.0 c.capture_all.new.self in
    (made.0, subst P (tail_is c.args.octets.now c.args.self.now.ahead) made.1)) c.capture_all.ensures.tapped
