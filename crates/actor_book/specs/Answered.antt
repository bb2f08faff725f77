-- The answers of a book's calls, as the machine states them.
use Rattle.std.specs.Prelude.{Result, Ok, Err}
use Rattle.turn_machine.specs.Turn.{Turn}
use Rattle.actor_machine.specs.Step.{Answer, Says}
use Rattle.actor_machine.specs.declared.reply.Begun.{Begun as BeginsTurn}
use Rattle.actor_machine.specs.declared.reply.Refusal.{Refusal}
use Rattle.actor_machine.specs.declared.reply.Reply.{Reply}
use Rattle.actor_machine.specs.declared.reply.Reply.TheVariants.{Begun, Refused}

-- a call's answer: its refusal, or the reply for its result
abbrev pub answer_by : {A : Type 0} → (A → Reply) → Result A Refusal → Answer
answer_by f (Ok x) = Says (f x)
answer_by f (Err r) = Says (Refused r)

-- the reply for a turn that began
abbrev pub begun_of : Turn → BeginsTurn
begun_of t = record { turn = t.turn; place = t.place; number = t.input_number }

abbrev pub begun_by : Turn → Reply
begun_by t = Begun (begun_of t)
