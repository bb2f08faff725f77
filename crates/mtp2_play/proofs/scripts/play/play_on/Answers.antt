use Rattle.std.proofs.Common.{ap, refl}
use Rattle.std.specs.Option.{option_map}
use Rattle.script_play.proofs.WatchedPlays.{with_lines, with_lines_in_part, with_neither, with_neither_in_part, with_file, with_file_in_part}
use Rattle.mtp2_play.proofs.Known as Known
use Rattle.mtp2_play.proofs.scripts.play.play_on.Goals as goal

pub returns-then-echo-clause-held : goal.returns-then-echo-clause-held
returns-then-echo-clause-held g c zero =
    with_lines _ _ _ _ _ _ _ _ c.if-echo.true (Known.played _ _ _ _ _ (c.play_telling.ensures.held zero))

pub returns-in-Some-clause-held : goal.returns-in-Some-clause-held
returns-in-Some-clause-held g c zero = with_file _ _ _ _ _ _ _ _ _ _ c.if-echo.false (ap (option_map g.F.Write.contents) c.in-Some.is) refl
    (Known.seen _ _ _ _ _ _ _ (c.play_seen.ensures.held zero))

pub returns-in-None-clause-held : goal.returns-in-None-clause-held
returns-in-None-clause-held g c zero =
    with_neither _ _ _ _ _ _ _ _ c.if-echo.false (ap (option_map g.F.Write.contents) c.in-None.is) (Known.played _ _ _ _ _ (c.play_telling-in-None.ensures.held zero))

pub returns-then-echo-clause-missed : goal.returns-then-echo-clause-missed
returns-then-echo-clause-missed g c one =
    with_lines_in_part _ _ _ _ _ _ _ _ c.if-echo.true (Known.in_part _ _ _ _ _ (c.play_telling.ensures.missed one))

pub returns-in-Some-clause-missed : goal.returns-in-Some-clause-missed
returns-in-Some-clause-missed g c one = with_file_in_part _ _ _ _ _ _ _ _ _ _ c.if-echo.false (ap (option_map g.F.Write.contents) c.in-Some.is) refl
    (Known.seen_in_part _ _ _ _ _ _ _ (c.play_seen.ensures.missed one))

pub returns-in-None-clause-missed : goal.returns-in-None-clause-missed
returns-in-None-clause-missed g c one =
    with_neither_in_part _ _ _ _ _ _ _ _ c.if-echo.false (ap (option_map g.F.Write.contents) c.in-None.is) (Known.in_part _ _ _ _ _ (c.play_telling-in-None.ensures.missed one))
