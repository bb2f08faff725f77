-- The line printed for an event, and the actor whose turn is running.
use Rattle.std.proofs.Common.{◌≡◌, ℕ, List, Option, Some, None, refl, sym, ap, ◌∙◌}
use Rattle.turn_code.specs.declared.draft.Draft.{Draft}
use Rattle.turn_machine.specs.Turn.{Turn}
use Rattle.actor_machine.specs.Ledger.{Ledger, runs, state_of, refusal_by, asked, ask_by, ask, turn_out}
use Rattle.actor_machine.specs.Step.{Answer, Says, Stepped, step}
use Rattle.actor_machine.specs.declared.event.Event.{Event}
use Rattle.actor_machine.specs.declared.event.Event.TheVariants.{Finish}
use Rattle.actor_machine.specs.declared.reply.Refusal.{Refusal}
use Rattle.actor_machine.specs.declared.reply.Reply.{Reply}
use Rattle.actor_book.proofs.Owned.{own_actor, says}
use Rattle.script_lines.specs.declared.word.Called.{Called}
use Rattle.script_book.specs.Answers.{reply_text, answer_text, by_event}
use Rattle.script_lines.specs.Refused.{refused_text}

-- ---- lines

set_kept : (b : Ledger) (e : Event) (s : Stepped) (o : Option Refusal) → (asked b e s o).book.set ≡ b.set
set_kept b e s None = refl
set_kept b e s (Some r) = refl

same_set : (b : Ledger) (e : Event) → (ask b e).book.set ≡ b.set
unfolding ask_by
same_set b e = set_kept b e (step b.set (runs b.set) (state_of b) e) (refusal_by (runs b.set) b e)

-- The line of an answer, with the names of the set, which the book keeps.
pub line_said : (b now : Ledger) (d : Draft) (p : ℕ) (e f : Event) (r : Reply) (items : List ℕ) → e ≡ f → d ≡ now.set → now ≡ (ask b e).book
    → Says r ≡ (ask b e).answer → items ≡ reply_text d p r → items ≡ (by_event b p f).line
line_said b now d p e f r items same_event set book says line =
    let same : d ≡ b.set = set ∙ (ap (λ (x : Ledger). x.set) book ∙ same_set b e) in
    line
    ∙ (ap (λ (x : Draft). reply_text x p r) same
    ∙ (ap (λ (a : Answer). answer_text b.set p a) says ∙ ap (λ (x : Event). answer_text b.set p (ask b x).answer) same_event))

-- ---- running turns

-- Handing in the running turn of an actor.
event_is : (b : Ledger) (n : ℕ) (t u : Turn) → Some t ≡ turn_out b n → u ≡ t → Finish u.actor ≡ Finish n
event_is b n t u h k = ap Finish (ap (λ (x : Turn). x.actor) k ∙ own_actor b n t (sym h))

pub finish_book : (b now : Ledger) (x : Called) (t u : Turn) → Some t ≡ turn_out b x.number → u ≡ t → now ≡ (ask b (Finish u.actor)).book
    → now ≡ (ask b (Finish x.number)).book
finish_book b now x t u h k book = book ∙ ap (λ (e : Event). (ask b e).book) (event_is b x.number t u h k)

pub finish_line : (b now : Ledger) (d : Draft) (x : Called) (t u : Turn) (r : Reply) (items : List ℕ) → Some t ≡ turn_out b x.number → u ≡ t → d ≡ now.set
    → now ≡ (ask b (Finish u.actor)).book → (ask b (Finish u.actor)).answer ≡ Says r → items ≡ reply_text d x.name.process.0 r
    → items ≡ (by_event b x.name.process.0 (Finish x.number)).line
finish_line b now d x t u r items h k set book says line =
    line_said b now d x.name.process.0 (Finish u.actor) (Finish x.number) r items (event_is b x.number t u h k) set book (sym says) line

-- Without a running turn.
pub stranger_line : (b : Ledger) (x : Called) (r : Refusal) (items : List ℕ) → refusal_by (runs b.set) b (Finish x.number) ≡ Some r → items ≡ refused_text r
    → items ≡ (by_event b x.name.process.0 (Finish x.number)).line
stranger_line b x r items refused line = line ∙ ap (λ (a : Answer). answer_text b.set x.name.process.0 a) (sym (says b (Finish x.number) r refused))
