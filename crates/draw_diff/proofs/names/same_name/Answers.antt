use Rattle.std.proofs.Common.{map}
use Rattle.std.specs.Char.{to_ascii_lowercase}
use Rattle.draw_diff.proofs.Tests.{is_bytes_eq}
use Rattle.draw_diff.proofs.names.same_name.Goals as goal

pub returns : goal.returns
returns c =
    is_bytes_eq c.eq_ignore_ascii_case.result (map to_ascii_lowercase c.args.name.now) (map to_ascii_lowercase c.args.other.now)
    c.eq_ignore_ascii_case.ensures.test.0 c.eq_ignore_ascii_case.ensures.test.1
