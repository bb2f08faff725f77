-- Changeover messages that can be encoded.
use Rattle.group_changeover.specs.declared.changeover.Changeover.{Changeover}
use Rattle.group_changeover.specs.Changeovers.{IsKind}
use Rattle.group_changeover.specs.Labels.{IsLabel}

-- Its numbers fit in their bits.
abbrev pub IsEncodable : Changeover → Type 0
IsEncodable m = IsLabel m.label × IsKind m.kind
