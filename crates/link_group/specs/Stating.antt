-- The state of a link, as level 3 sees it.
use Rattle.std.specs.Prelude.{ℕ, ◌&&◌, not, Option, Some, None}
use Rattle.link_transceiver.specs.TransceiverState.{is_held}
use Rattle.group_changeover.specs.declared.availability.Answer.{Answer}
use Rattle.group_changeover.specs.declared.availability.Changing.{Changing}
use Rattle.link_group.specs.declared.link.Link.{Link}
use Rattle.link_group.specs.OneLink.{is_serving, hold_of, is_far_out, is_own_out, gives_messages}
use Rattle.link_group.specs.declared.state.LinkState.{LinkState}

abbrev pub waited_in : Option Changing → Option ℕ
waited_in None = None
waited_in (Some c) = Some c.waited

abbrev pub answer_in : Option Changing → Option Answer
answer_in None = None
answer_in (Some c) = c.answer

abbrev pub state_of : Link → LinkState
state_of k = record {
  in_service = is_serving k;
  failed = k.availability.failed;
  held = is_held (hold_of k);
  changeover = waited_in k.availability.changing;
  answer = answer_in k.availability.changing;
  anew = k.availability.anew;
  far_out = is_far_out k;
  own_out = is_own_out k;
  carrying = gives_messages k && not (is_held (hold_of k));
  admitted = k.availability.admitted;
}
