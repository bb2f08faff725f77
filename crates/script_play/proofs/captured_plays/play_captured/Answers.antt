use Rattle.script_play.specs.Played.{set_refused, script_refused}
use Rattle.script_play.proofs.Texts.{not_held, not_missed}
use Rattle.script_play.proofs.captured_plays.play_captured.Goals as goal
use Rattle.script_check.proofs.Prints.{accepted_found, of_refusal, refusal_printed}

pub returns-in-Ok-read-clause-accepted : goal.returns-in-Ok-read-clause-accepted
returns-in-Ok-read-clause-accepted g c done = accepted_found _ c.in-Ok.found c.in-Ok.ensures.set

pub returns-in-Ok-read-clause-held : goal.returns-in-Ok-read-clause-held
returns-in-Ok-read-clause-held g c zero = record {
  found = c.in-Ok.found;
  is_set = c.in-Ok.ensures.set;
  turns = c.turns_are_as_read.ensures;
  of_script = record {
    bytes = c.in-Ok-read.ensures.bytes;
    are_known = c.in-Ok-read.ensures.are_known;
    holds = c.capture_text.ensures.held zero c.in-Ok-read.ensures.bytes c.in-Ok-read.ensures.keeps;
  };
}

pub returns-clause-held : goal.returns-clause-held
returns-clause-held g c zero = absurd (not_held _ c.refuse_set.ensures.status zero)

pub returns-in-Ok-read-clause-missed : goal.returns-in-Ok-read-clause-missed
returns-in-Ok-read-clause-missed g c one = record {
  found = c.in-Ok.found;
  is_set = c.in-Ok.ensures.set;
  turns = c.turns_are_as_read.ensures;
  of_script = record {
    bytes = c.in-Ok-read.ensures.bytes;
    are_known = c.in-Ok-read.ensures.are_known;
    holds = c.capture_text.ensures.missed one c.in-Ok-read.ensures.bytes c.in-Ok-read.ensures.keeps;
  };
}

pub returns-clause-missed : goal.returns-clause-missed
returns-clause-missed g c one = absurd (not_missed _ c.refuse_set.ensures.status one)

pub returns-in-Ok-read-clause-refused : goal.returns-in-Ok-read-clause-refused
returns-in-Ok-read-clause-refused g c two =
    script_refused (record {
      found = c.in-Ok.found;
      is_set = c.in-Ok.ensures.set;
      turns = c.turns_are_as_read.ensures;
      of_script = record {
        bytes = c.in-Ok-read.ensures.bytes;
        are_known = c.in-Ok-read.ensures.are_known;
        holds = c.capture_text.ensures.refused two c.in-Ok-read.ensures.bytes c.in-Ok-read.ensures.keeps;
      };
    })

pub returns-clause-refused : goal.returns-clause-refused
returns-clause-refused g c two =
    set_refused
    (refusal_printed _ _ _ c.in-Err.refusal.fault (c.refuse_set.ensures.refused two)
    (of_refusal _ c.in-Err.refusal (c.in-Err.ensures.fault (c.refuse_set.ensures.refused two)))
    (c.refuse_set.ensures.printed two))
