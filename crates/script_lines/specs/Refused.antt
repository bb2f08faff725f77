-- The lines for a link's refusals.
use Rattle.std.specs.Prelude.{ℕ, List, ◌++◌, codes}
use Rattle.actor_machine.specs.declared.reply.Refusal.{Refusal}
use Rattle.actor_machine.specs.Printed.{refusal_text}

abbrev pub refused_text : Refusal → List ℕ
refused_text r = codes "refused " ++ refusal_text r
