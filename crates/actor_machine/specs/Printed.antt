-- How the refusals of a link are printed: their codes and names.
use Rattle.std.specs.Prelude.{ℕ, List, codes}
use Rattle.actor_machine.specs.declared.reply.Refusal.{Refusal}
use Rattle.actor_machine.specs.declared.reply.Refusal.TheVariants as refusal

abbrev pub refusal_text : Refusal → List ℕ
refusal_text refusal.Full = codes "B1 Full"
refusal_text refusal.Stopped = codes "B2 Stopped"
refusal_text refusal.NoRoute = codes "B3 NoRoute"
refusal_text refusal.Busy = codes "B4 Busy"
refusal_text refusal.Nothing = codes "B5 Nothing"
refusal_text refusal.Stranger = codes "B6 Stranger"
refusal_text refusal.Empty = codes "B7 Empty"
refusal_text refusal.JournalFull = codes "B8 JournalFull"
refusal_text refusal.CountFull = codes "B9 CountFull"
refusal_text refusal.NoActor = codes "B10 NoActor"
refusal_text refusal.SkipFirst = codes "B11 SkipFirst"
refusal_text refusal.NotIgnored = codes "B12 NotIgnored"
refusal_text refusal.TooFar = codes "W1 TooFar"
refusal_text refusal.ClockFull = codes "W2 ClockFull"
