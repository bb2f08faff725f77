-- A list of events is a schedule without a rebase.
use Rattle.std.proofs.Common.{◌≡◌, List, [], ◌∷◌, map, refl, sym, ap, ◌∙◌}
use Rattle.turn_verify.specs.Meant.{SetLaw as BlockLaw}
use Rattle.turn_code.specs.declared.draft.Draft.{Draft}
use Rattle.actor_machine.specs.Kept.{IsKept}
use Rattle.actor_machine.specs.Laws.{KeepsLaw, SetLaw, NeverStuckLaw, IsSaid}
use Rattle.actor_machine.specs.Ledger.{Ledger, Asked, runs, ask, ask_by, after_by}
use Rattle.actor_machine.specs.Step.{Answer, Stuck, Says}
use Rattle.actor_machine.specs.declared.event.Event.{Event}
use Rattle.actor_machine.specs.declared.reply.Reply.{Reply}
use Rattle.actor_book.specs.Schedules.{scheduled_by, answers_on}
use Rattle.actor_book.specs.declared.schedule.Scheduled.TheVariants as step
use Rattle.link_whole.specs.Headline.{opened_by}
use Rattle.link_whole.specs.Laws.{ReadLaw, EventsLaw}
use Rattle.link_whole.proofs.Whole.{opened_set}

same_run : (d : Draft) (b : Ledger) (es : List Event) → scheduled_by (runs d) b (map step.Event es) ≡ after_by (runs d) b es
same_run d b [] = refl
same_run d b (e ∷ es) = same_run d (ask_by (runs d) b e).book es

reply_in : (x : Answer) → IsSaid x → (r : Reply) × (Says r ≡ x)
reply_in (Stuck t) said = absurd said
reply_in (Says r) said = (r, refl)

-- there is a reply to each event
replies_of : KeepsLaw → SetLaw → NeverStuckLaw → (d : Draft) (b : Ledger) (es : List Event) → b.set ≡ d → IsKept b
    → (rs : List Reply) × (map Says rs ≡ answers_on (runs d) b (map step.Event es))
replies_of keeps sets stuck d b [] set kept = ([], refl)
replies_of keeps sets stuck d b (e ∷ es) set kept =
    let own : ask b e ≡ ask_by (runs d) b e = ap (λ (x : Draft). ask_by (runs x) b e) set in
    let first = reply_in (ask b e).answer (stuck b e kept) in
    let rest = replies_of keeps sets stuck d (ask b e).book es (sets.asks b e ∙ set) (keeps.asks b e kept) in (
      first.0 ∷ rest.0,
      ap (λ (x : Answer). x ∷ map Says rest.0) (first.1 ∙ ap (λ (x : Asked). x.answer) own)
          ∙ ap (λ (xs : List Answer). (ask_by (runs d) b e).answer ∷ xs)
          (rest.1 ∙ ap (λ (x : Ledger). answers_on (runs d) x (map step.Event es)) (ap (λ (x : Asked). x.book) own)),
    )

pub events_law : ReadLaw → BlockLaw → KeepsLaw → SetLaw → NeverStuckLaw → EventsLaw
events_law law blocks keeps sets stuck b d l es book sound valid few is =
    let first : Ledger = opened_by d l in
    let kept : IsKept first = keeps.opens d l.port l.env l.journal valid few in
    let all = replies_of keeps sets stuck d first es (opened_set d l) kept in
    record {
      replies = all.0;
      runs = law b d l (map step.Event es) book all.0 (blocks b d sound.sound sound.matches) valid few all.1 (is ∙ sym (same_run d first es));
    }
