-- A schedule on a link opened with a block's set.
use Rattle.std.proofs.Common.{◌≡◌, ◌≤◌, ◌+◌, ℕ, List, map, refl, sym, ap, ◌∙◌, subst, arith}
use Rattle.plain_laws.specs.Limits.{MOST_JOURNAL}
use Rattle.sdl_ast.specs.Plain.{PlainBlock}
use Rattle.turn_code.specs.Outcome.{Meaning, Means}
use Rattle.turn_code.specs.Safe.{SafeLaw, RunLaw}
use Rattle.turn_code.specs.Valid.{IsValid}
use Rattle.turn_code.specs.declared.draft.Draft.{Draft}
use Rattle.turn_verify.specs.Meant.{IsSetOfBlock, meaning_of}
use Rattle.actor_book.specs.Limits.{LimitNumbers}
use Rattle.actor_book.specs.Schedules.{Used, unused, used_in, scheduled_by, answers_on, ByTextLaw, IsSameByText, EachAnswer}
use Rattle.actor_book.specs.declared.schedule.Scheduled.{Scheduled}
use Rattle.actor_book.proofs.Rooming.{used_next, along_schedule}
use Rattle.actor_machine.specs.Core.{outs}
use Rattle.actor_machine.specs.Full.{FullLaw}
use Rattle.actor_machine.specs.Step.{Says}
use Rattle.actor_machine.specs.Ledger.{Ledger, runs, state_by, state_of}
use Rattle.actor_machine.specs.Kept.{IsKept, opened, opened_book}
use Rattle.actor_machine.specs.Laws.{KeepsLaw, SetLaw, StateLaw, FitsLaw, FinishLaw, OutLaw}
use Rattle.actor_machine.specs.declared.reply.Reply.{Reply}
use Rattle.link_whole.specs.Answered.{IsAnswered}
use Rattle.link_whole.specs.Headline.{RunsBy, RunsAsRead, opened_by}
use Rattle.link_whole.specs.Laws.{ReadLaw}
use Rattle.link_whole.proofs.Ending.{is_answered}

pub opened_set : (d : Draft) (l : LimitNumbers) → (opened_by d l).set ≡ d
unfolding opened_book
opened_set d l = refl

opened_limit : (d : Draft) (l : LimitNumbers) → (opened_by d l).limit ≡ l.journal
unfolding opened_book
opened_limit d l = refl

unused_with : (n : ℕ) → n ≡ 0 → (let u : Used = record { since = 0; in_all = 0; out = n } in u) ≡ unused
unused_with n h = ap (λ (k : ℕ). let u : Used = record { since = 0; in_all = 0; out = k } in u) h

-- nothing of the journal is used, and no turn is out
opened_unused : (d : Draft) (l : LimitNumbers) → IsKept (opened_by d l) → used_in (opened_by d l) ≡ unused
unfolding opened_book opened
opened_unused d l kept =
    let all : 0 + outs (state_of (opened_by d l)).actors ≡ 0 = kept.bounded.finishes in
    unused_with (outs (state_of (opened_by d l)).actors) (omega (arith, all))

module _ (same : ByTextLaw) (d : Draft) (l : LimitNumbers) (ss : List Scheduled) (book : Ledger) (rs : List Reply) (kept : IsKept (opened_by d l))
    (answers : map Says rs ≡ answers_on (runs d) (opened_by d l) ss) (after : book ≡ scheduled_by (runs d) (opened_by d l) ss) where
  runs_by : (act : Meaning) → Means act d → RunsBy act d l ss book rs
  runs_by act means =
      let k : Ledger = opened_by d l in
      let s : IsSameByText act k ss = same act k ss kept (subst (λ (x : Draft). Means act x) (sym (opened_set d l)) means) in
      let own : answers_on act k ss ≡ answers_on (runs d) k ss = s.answers ∙ ap (λ (x : Draft). answers_on (runs x) k ss) (opened_set d l) in
      let last : scheduled_by act k ss ≡ scheduled_by (runs d) k ss = s.book ∙ ap (λ (x : Draft). scheduled_by (runs x) k ss) (opened_set d l) in
      let here : book ≡ scheduled_by act k ss = after ∙ sym last in
      record {
        answers = answers ∙ sym own;
        after = here;
        state = ap (λ (x : Ledger). state_of x) (here ∙ s.book) ∙ sym s.state ∙ ap (λ (x : Ledger). state_by act x) (sym here);
      }

pub read_law : ByTextLaw → KeepsLaw → SetLaw → StateLaw → FitsLaw → FinishLaw → FullLaw → OutLaw → SafeLaw → RunLaw → ReadLaw
read_law same keeps sets states fits finishes full outs_law safe law b d l ss book rs is_set valid few answers after =
    let k : Ledger = opened_by d l in
    let kept : IsKept k = keeps.opens d l.port l.env l.journal valid few in
    record {
      is_set = is_set;
      runs = runs_by same d l ss book rs kept answers after (meaning_of b) is_set.means;
      coded = answers;
      each = subst (λ (u : Used). EachAnswer (IsAnswered b l.journal) u k ss rs) (opened_unused d l kept)
          (along_schedule keeps sets d (IsAnswered b)
          (λ k e r set kept is. is_answered outs_law states fits finishes full safe law b k e r (subst (λ (x : Draft). IsSetOfBlock b x) (sym set) is_set) kept is)
          (λ k e r kept is. used_next outs_law finishes safe law k e r kept is) l.journal k ss rs (opened_set d l) (opened_limit d l) kept answers);
    }

-- what a run of a schedule promises of the book before it, for the opened book
pub ran_as_read : ReadLaw → (b : PlainBlock) (d : Draft) (l : LimitNumbers) (ss : List Scheduled) (old new : Ledger) (rs : List Reply) → IsSetOfBlock b d → IsValid d
    → l.journal ≤ MOST_JOURNAL → old ≡ opened_by d l → map Says rs ≡ answers_on (runs old.set) old ss → new ≡ scheduled_by (runs old.set) old ss
    → RunsAsRead b d l ss new rs
ran_as_read law b d l ss old new rs is_set valid few is answers after =
    let set : old.set ≡ d = ap (λ (x : Ledger). x.set) is ∙ opened_set d l in
    law b d l ss new rs is_set valid few
    (answers ∙ ap (λ (x : Draft). answers_on (runs x) old ss) set ∙ ap (λ (x : Ledger). answers_on (runs d) x ss) is)
    (after ∙ ap (λ (x : Draft). scheduled_by (runs x) old ss) set ∙ ap (λ (x : Ledger). scheduled_by (runs d) x ss) is)
