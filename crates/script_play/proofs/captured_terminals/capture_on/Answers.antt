use Rattle.std.proofs.Common.{Bool, List, map, subst}
use Rattle.script_links.specs.TermScripts.{plain_term_said, asks_told}
use Rattle.script_links.specs.declared.script.TermSaid.{TermSaid}
use Rattle.link_term.specs.Term.{Term}
use Rattle.script_seen.specs.TermRuns.{IsTermWritten, IsTermFailed}
use Rattle.script_seen.proofs.TracedRuns.{term_written, term_failed}
use Rattle.script_play.specs.Captured.{IsCaptured, IsCapturedInPart}
use Rattle.script_play.proofs.TermCaptures.{nothing_seen}
use Rattle.script_play.proofs.captured_terminals.capture_on.Goals as goal

pub returns-clause-held : goal.returns-clause-held
returns-clause-held g c zero =
    let cs = c.as_slice-commands.result.now in
    let X : Term → Type 0 = λ x. IsTermWritten (map plain_term_said cs) (g.W.Write.contents c.args.writer.now) (g.W.Write.contents c.capture_each.new.writer) x in
    let C : List TermSaid → Type 0 =
    λ xs. IsTermWritten (map plain_term_said xs) (g.W.Write.contents c.args.writer.now) (g.W.Write.contents c.capture_each.new.writer) c.args.terminal in
    subst C c.as_slice-commands.ensures.value
    (subst X c.new_player-player.ensures.terminal
    (term_written _ _ (map plain_term_said cs) _ _ c.asks_told-keeps.ensures (c.in_ok-status.ensures.held zero c.new_player-player.ensures.last)))

pub returns-clause-missed : goal.returns-clause-missed
returns-clause-missed g c one =
    let cs = c.as_slice-commands.result.now in
    let X : Term → Type 0 = λ x. IsTermFailed (map plain_term_said cs) (g.W.Write.contents c.args.writer.now) (g.W.Write.contents c.capture_each.new.writer) x in
    let C : List TermSaid → Type 0 =
    λ xs. IsTermFailed (map plain_term_said xs) (g.W.Write.contents c.args.writer.now) (g.W.Write.contents c.capture_each.new.writer) c.args.terminal in
    subst C c.as_slice-commands.ensures.value
    (subst X c.new_player-player.ensures.terminal
    (term_failed _ _ (map plain_term_said cs) _ _ c.asks_told-keeps.ensures (c.in_ok-status.ensures.missed one c.new_player-player.ensures.last)))

pub returns-clause-captured : goal.returns-clause-captured
returns-clause-captured g c zero =
    let cs = c.as_slice-commands.result.now in
    let t : Term = c.new_player-player.result.terminal in
    let K : Bool → Type 0 = λ k. IsCaptured c.args.every k t (map plain_term_said cs) (g.T.Write.contents c.args.out.now) (g.T.Write.contents c.capture_each.new.out) in
    let X : Term → Type 0 =
    λ x. IsCaptured c.args.every (asks_told (map plain_term_said cs)) x (map plain_term_said cs) (g.T.Write.contents c.args.out.now) (g.T.Write.contents c.capture_each.new.out) in
    let C : List TermSaid → Type 0 =
    λ xs. IsCaptured c.args.every (asks_told (map plain_term_said xs)) c.args.terminal (map plain_term_said xs) (g.T.Write.contents c.args.out.now)
    (g.T.Write.contents c.capture_each.new.out) in
    let begun = nothing_seen c.args.every _ _ c.new-link.result (c.new-link.ensures 0) c.in_ok-begin.ensures in
    subst C c.as_slice-commands.ensures.value
    (subst X c.new_player-player.ensures.terminal
    (subst K c.asks_told-keeps.ensures (c.in_ok-status.ensures.captured zero c.new_player-player.ensures.last c.args.every _ begun)))

pub returns-clause-in_part : goal.returns-clause-in_part
returns-clause-in_part g c one =
    let cs = c.as_slice-commands.result.now in
    let t : Term = c.new_player-player.result.terminal in
    let K : Bool → Type 0 = λ k. IsCapturedInPart c.args.every k t (map plain_term_said cs) (g.T.Write.contents c.args.out.now) (g.T.Write.contents c.capture_each.new.out) in
    let X : Term → Type 0 =
    λ x. IsCapturedInPart c.args.every (asks_told (map plain_term_said cs)) x (map plain_term_said cs) (g.T.Write.contents c.args.out.now) (g.T.Write.contents c.capture_each.new.out) in
    let C : List TermSaid → Type 0 =
    λ xs. IsCapturedInPart c.args.every (asks_told (map plain_term_said xs)) c.args.terminal (map plain_term_said xs) (g.T.Write.contents c.args.out.now)
    (g.T.Write.contents c.capture_each.new.out) in
    let begun = nothing_seen c.args.every _ _ c.new-link.result (c.new-link.ensures 0) c.in_ok-begin.ensures in
    subst C c.as_slice-commands.ensures.value
    (subst X c.new_player-player.ensures.terminal
    (subst K c.asks_told-keeps.ensures (c.in_ok-status.ensures.in_part one c.new_player-player.ensures.last c.args.every _ begun)))
