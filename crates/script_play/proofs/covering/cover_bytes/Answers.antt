use Rattle.std.proofs.Common.{Some}
use Rattle.script_check.proofs.Prints.{accepted_found, of_refusal, refusal_printed}
use Rattle.script_play.specs.Played.{set_refused, script_refused}
use Rattle.script_play.proofs.Texts.{not_held, not_missed}
use Rattle.script_play.proofs.CoveredPlays.{bytes_covered, bytes_covered_in_part}
use Rattle.script_play.proofs.covering.cover_bytes.Goals as goal

pub returns-in-Ok-read-clause-accepted : goal.returns-in-Ok-read-clause-accepted
returns-in-Ok-read-clause-accepted g c done = accepted_found (Some c.args.bytes.now) c.in-Ok.found c.in-Ok.ensures.set

pub returns-in-Ok-read-clause-held : goal.returns-in-Ok-read-clause-held
returns-in-Ok-read-clause-held g c zero = record {
  found = c.in-Ok.found;
  is_set = c.in-Ok.ensures.set;
  turns = c.turns_are_as_read.ensures;
  of_script = record {
    bytes = c.in-Ok-read.ensures.bytes;
    are_known = c.in-Ok-read.ensures.are_known;
    holds =
        bytes_covered c.args.name.now c.args.bytes.now _ _ _ _ c.in-Ok.found c.in-Ok-read.ensures.bytes c.in-Ok.ensures.set
        (c.cover_set.ensures.held zero c.in-Ok-read.ensures.bytes c.in-Ok-read.ensures.keeps);
  };
}

pub returns-clause-held : goal.returns-clause-held
returns-clause-held g c zero = absurd (not_held _ c.refuse_set.ensures.status zero)

pub returns-in-Ok-read-clause-missed : goal.returns-in-Ok-read-clause-missed
returns-in-Ok-read-clause-missed g c one = record {
  found = c.in-Ok.found;
  is_set = c.in-Ok.ensures.set;
  turns = c.turns_are_as_read.ensures;
  of_script = record {
    bytes = c.in-Ok-read.ensures.bytes;
    are_known = c.in-Ok-read.ensures.are_known;
    holds =
        bytes_covered_in_part c.args.name.now c.args.bytes.now _ _ _ _ c.in-Ok.found c.in-Ok-read.ensures.bytes c.in-Ok.ensures.set
        (c.cover_set.ensures.missed one c.in-Ok-read.ensures.bytes c.in-Ok-read.ensures.keeps);
  };
}

pub returns-clause-missed : goal.returns-clause-missed
returns-clause-missed g c one = absurd (not_missed _ c.refuse_set.ensures.status one)

pub returns-in-Ok-read-clause-refused : goal.returns-in-Ok-read-clause-refused
returns-in-Ok-read-clause-refused g c two =
    script_refused (record {
      found = c.in-Ok.found;
      is_set = c.in-Ok.ensures.set;
      turns = c.turns_are_as_read.ensures;
      of_script = record {
        bytes = c.in-Ok-read.ensures.bytes;
        are_known = c.in-Ok-read.ensures.are_known;
        holds = c.cover_set.ensures.refused two c.in-Ok-read.ensures.bytes c.in-Ok-read.ensures.keeps;
      };
    })

pub returns-clause-refused : goal.returns-clause-refused
returns-clause-refused g c two =
    set_refused
    (refusal_printed _ _ _ c.in-Err.refusal.fault (c.refuse_set.ensures.refused two)
    (of_refusal _ c.in-Err.refusal (c.in-Err.ensures.fault (c.refuse_set.ensures.refused two)))
    (c.refuse_set.ensures.printed two))
