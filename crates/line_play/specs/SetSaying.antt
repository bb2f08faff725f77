-- The reports of a set that wait while their reader is away. The others are lost then, and counted.
use Rattle.line_filter.specs.declared.reports.Wait.{Wait}
use Rattle.line_filter.specs.declared.reports.Wait.TheVariants.{Never, Message, Other}
use Rattle.line_tending.specs.declared.told.Told.{Told}
use Rattle.line_tending.specs.declared.told.Told.TheVariants as told

-- Messages for level 3 wait; so do reports that accepted messages may be lost or late (`unsure`,
-- `down`), and that the reader was away.
abbrev pub wait_of : Told → Wait
wait_of (told.InService link) = Never
wait_of (told.Down link reason) = Other
wait_of (told.FarOut link) = Never
wait_of (told.FarBack link) = Never
wait_of (told.Message link m) = Message
wait_of (told.Started link) = Never
wait_of (told.Changeover link) = Never
wait_of (told.Says link kind by_link) = Never
wait_of (told.Hears link kind by_link) = Never
wait_of (told.Unsure link count) = Other
wait_of (told.Diverted link count) = Never
wait_of (told.Tested link) = Never
wait_of (told.Looped link) = Never
wait_of (told.Shared shared) = Never
wait_of told.ReaderAway = Other
wait_of told.ReaderBack = Other
