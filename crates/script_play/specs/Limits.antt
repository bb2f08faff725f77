-- The limits of forced retransmission of a script's terminals.
use Rattle.std.specs.Prelude.{ℕ, Option, None, Some}
use Rattle.mtp2_text.specs.TextLimits.{limits_in, wrong_in}
use Rattle.mtp2_text.specs.declared.limits.TextLimits.{TextLimits}
use Rattle.mtp2_text.specs.declared.limits.LimitName.{LimitName}
use Rattle.resend_store.specs.Messages.{usual_limits}
use Rattle.resend_store.specs.declared.messages.Mode.{Mode}
use Rattle.resend_store.specs.declared.messages.RoundLimits.{RoundLimits}
use Rattle.script_links.specs.TermScripts.{PlainAnyScript, book, terminal}
use Rattle.script_links.specs.GroupScripts.{PlainPlayScript, other, group}

abbrev pub messages_by : Option RoundLimits → Option ℕ
messages_by None = None
messages_by (Some l) = Some l.messages

abbrev pub octets_by : Option RoundLimits → Option ℕ
octets_by None = None
octets_by (Some l) = Some l.octets

-- the limits that a script's first line chooses, else those of the text; none if one that applies
-- is out of its range
abbrev pub usual_in : TextLimits → Mode → Option RoundLimits → Option RoundLimits
usual_in limits mode chosen = limits_in mode limits (messages_by chosen) (octets_by chosen)

abbrev pub usual_other : TextLimits → PlainAnyScript → Option RoundLimits
usual_other limits (book s) = Some usual_limits
usual_other limits (terminal s) = usual_in limits s.head.mode s.head.limits

abbrev pub usual_over : TextLimits → PlainPlayScript → Option RoundLimits
usual_over limits (other s) = usual_other limits s
usual_over limits (group s) = usual_in limits s.head.mode None

-- and which one that is
abbrev pub wrong_within : TextLimits → Mode → Option RoundLimits → Option LimitName
wrong_within limits mode chosen = wrong_in mode limits (messages_by chosen) (octets_by chosen)

abbrev pub wrong_other : TextLimits → PlainAnyScript → Option LimitName
wrong_other limits (book s) = None
wrong_other limits (terminal s) = wrong_within limits s.head.mode s.head.limits

abbrev pub wrong_for : TextLimits → PlainPlayScript → Option LimitName
wrong_for limits (other s) = wrong_other limits s
wrong_for limits (group s) = wrong_within limits s.head.mode None
