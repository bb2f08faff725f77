-- Schedules: step by step, and by any meaning of the set.
use Rattle.std.proofs.Common.{◌≡◌, ◌≤◌, ℕ, List, [], ◌∷◌, ◌++◌, ◌+◌, length, map, refl, sym, ap, ◌∙◌, subst, append_assoc, arith}
use Rattle.std.proofs.lemmas.List.{append-nil}
use Rattle.turn_code.specs.Outcome.{Meaning, Means}
use Rattle.turn_code.specs.declared.draft.Draft.{Draft}
use Rattle.actor_machine.specs.Core.{Core}
use Rattle.actor_machine.specs.Kept.{IsKept}
use Rattle.actor_machine.specs.Laws.{KeepsLaw, SetLaw, TextLaw, SameByText}
use Rattle.actor_machine.specs.Ledger.{Ledger, runs, ask, ask_by, state_by, state_of, next, rebased}
use Rattle.actor_machine.specs.Step.{Answer, Says}
use Rattle.actor_machine.specs.declared.event.Event.{Event}
use Rattle.actor_machine.specs.declared.reply.Reply.{Reply}
use Rattle.actor_book.specs.Midway.{IsMidway}
use Rattle.actor_book.specs.Schedules.{rebased_by, stepped_by, answer_to, scheduled_by, answers_on, IsCutShort, at_once, at_rebase, IsSameByText, ByTextLaw, KeptLaw}
use Rattle.actor_book.specs.declared.schedule.Scheduled.{Scheduled}
use Rattle.actor_book.specs.declared.schedule.Scheduled.TheVariants as step

-- ---- one step more

pub rebased_is : (b : Ledger) → rebased_by (runs b.set) b ≡ rebased b
unfolding rebased_by rebased
rebased_is b = refl

rebased_to : (m : Meaning) (b : Ledger) → rebased_by m b ≡ record b { base = state_by m b; first = next b; journal = [] }
unfolding rebased_by
rebased_to m b = refl

pub scheduled_more : (m : Meaning) (b : Ledger) (ss : List Scheduled) (s : Scheduled) → scheduled_by m b (ss ++ s ∷ []) ≡ stepped_by m (scheduled_by m b ss) s
scheduled_more m b [] s = refl
scheduled_more m b (x ∷ ss) s = scheduled_more m (stepped_by m b x) ss s

answers_more : (m : Meaning) (b : Ledger) (ss : List Scheduled) (s : Scheduled)
    → answers_on m b (ss ++ s ∷ []) ≡ answers_on m b ss ++ answer_to m (scheduled_by m b ss) s
answers_more m b [] s = append-nil (answer_to m b s)
answers_more m b (x ∷ ss) s =
    ap (λ (xs : List Answer). answer_to m b x ++ xs) (answers_more m (stepped_by m b x) ss s)
    ∙ sym (append_assoc (answer_to m b x) (answers_on m (stepped_by m b x) ss) (answer_to m (scheduled_by m (stepped_by m b x) ss) s))

-- a step changes no set
pub step_set : SetLaw → (b : Ledger) (s : Scheduled) → (stepped_by (runs b.set) b s).set ≡ b.set
step_set sets b (step.Event e) = sets.asks b e
step_set sets b step.Rebase = ap (λ (x : Ledger). x.set) (rebased_is b) ∙ sets.rebases b

-- a step keeps the invariant
pub step_keeps : KeepsLaw → (b : Ledger) (s : Scheduled) → IsKept b → IsKept (stepped_by (runs b.set) b s)
step_keeps keeps b (step.Event e) kept = keeps.asks b e kept
step_keeps keeps b step.Rebase kept = subst (λ (x : Ledger). IsKept x) (sym (rebased_is b)) (keeps.rebases b kept)

step_limit : SetLaw → (b : Ledger) (s : Scheduled) → (stepped_by (runs b.set) b s).limit ≡ b.limit
unfolding rebased_by
step_limit sets b (step.Event e) = sets.limits b (e ∷ [])
step_limit sets b step.Rebase = refl

-- the invariant, the set and the limit along a schedule
module _ (keeps : KeepsLaw) (sets : SetLaw) (d : Draft) where
  along_set : (b : Ledger) (ss : List Scheduled) → b.set ≡ d → (scheduled_by (runs d) b ss).set ≡ d
  along_set b [] same = same
  along_set b (s ∷ ss) same =
      along_set (stepped_by (runs d) b s) ss (ap (λ (x : Draft). (stepped_by (runs x) b s).set) (sym same) ∙ step_set sets b s ∙ same)

  along_limit : (b : Ledger) (ss : List Scheduled) → b.set ≡ d → (scheduled_by (runs d) b ss).limit ≡ b.limit
  along_limit b [] same = refl
  along_limit b (s ∷ ss) same =
      along_limit (stepped_by (runs d) b s) ss (ap (λ (x : Draft). (stepped_by (runs x) b s).set) (sym same) ∙ step_set sets b s ∙ same)
      ∙ ap (λ (x : Draft). (stepped_by (runs x) b s).limit) (sym same) ∙ step_limit sets b s

  along_kept : (b : Ledger) (ss : List Scheduled) → b.set ≡ d → IsKept b → IsKept (scheduled_by (runs d) b ss)
  along_kept b [] same kept = kept
  along_kept b (s ∷ ss) same kept =
      along_kept (stepped_by (runs d) b s) ss (ap (λ (x : Draft). (stepped_by (runs x) b s).set) (sym same) ∙ step_set sets b s ∙ same)
      (subst (λ (x : Draft). IsKept (stepped_by (runs x) b s)) same (step_keeps keeps b s kept))

pub kept_law : KeepsLaw → SetLaw → KeptLaw
kept_law keeps sets b ss kept = record {
  kept = along_kept keeps sets b.set b ss refl kept;
  set = along_set keeps sets b.set b ss refl;
  limit = along_limit keeps sets b.set b ss refl;
}

-- ---- the loop over the steps

pub begins_midway : (b : Ledger) (rs : List Reply) (c : ℕ) (steps : List Scheduled) → length rs + length steps ≤ c → IsMidway b b rs rs c steps steps
begins_midway b rs c steps room = record { made = []; are = refl; set = refl; book = refl; replies = sym (append-nil (map Says rs)); room = room }

module _ (first now next : Ledger) (before rs new : List Reply) (c : ℕ) (steps left : List Scheduled) (s : Scheduled)
    (way : IsMidway first now before rs c steps (s ∷ left)) where
  pub goes_midway : SetLaw → (d : ℕ) → next ≡ stepped_by (runs now.set) now s → map Says new ≡ map Says rs ++ answer_to (runs now.set) now s
      → length new ≤ length rs + 1 → c ≤ d → IsMidway first next before new d steps left
  goes_midway sets d book replies few le =
      let own : next ≡ stepped_by (runs first.set) now s = book ∙ ap (λ (x : Draft). stepped_by (runs x) now s) way.set in
      let said : map Says new ≡ map Says rs ++ answer_to (runs first.set) now s =
      replies ∙ ap (λ (x : Draft). map Says rs ++ answer_to (runs x) now s) way.set in
      let room : length rs + length (s ∷ left) ≤ c = way.room in
      record {
        made = way.made ++ s ∷ [];
        are = way.are ∙ sym (append_assoc way.made (s ∷ []) left);
        set = ap (λ (x : Ledger). x.set) book ∙ step_set sets now s ∙ way.set;
        book = own ∙ ap (λ (x : Ledger). stepped_by (runs first.set) x s) way.book ∙ sym (scheduled_more (runs first.set) first way.made s);
        replies = said ∙ ap (λ (xs : List Answer). xs ++ answer_to (runs first.set) now s) way.replies
            ∙ append_assoc (map Says before) (answers_on (runs first.set) first way.made) (answer_to (runs first.set) now s)
            ∙ ap (λ (x : Ledger). map Says before ++ (answers_on (runs first.set) first way.made ++ answer_to (runs first.set) x s)) way.book
            ∙ ap (λ (xs : List Answer). map Says before ++ xs) (sym (answers_more (runs first.set) first way.made s));
        room = omega arith;
      }

  pub cut_midway : next ≡ now → s ≡ step.Rebase → IsCutShort first steps next
  cut_midway same rebase =
      at_rebase way.made left (way.are ∙ ap (λ (x : Scheduled). way.made ++ x ∷ left) rebase) (same ∙ way.book)

  pub has_room_for : length rs + 1 ≤ c
  has_room_for = let room : length rs + length (s ∷ left) ≤ c = way.room in omega arith

module _ (first now : Ledger) (before rs : List Reply) (c : ℕ) (steps left : List Scheduled) (way : IsMidway first now before rs c steps left) (none : left ≡ []) where
  all_made : steps ≡ way.made
  all_made = way.are ∙ ap (λ (xs : List Scheduled). way.made ++ xs) none ∙ append-nil way.made

  pub ends_book : now ≡ scheduled_by (runs first.set) first steps
  ends_book = way.book ∙ ap (λ (xs : List Scheduled). scheduled_by (runs first.set) first xs) (sym all_made)

  pub ends_replies : map Says rs ≡ map Says before ++ answers_on (runs first.set) first steps
  ends_replies = way.replies ∙ ap (λ (xs : List Scheduled). map Says before ++ answers_on (runs first.set) first xs) (sym all_made)

-- ---- by any meaning of the set

module _ (text : TextLaw) (keeps : KeepsLaw) (sets : SetLaw) (act : Meaning) (d : Draft) (means : Means act d) where
  means_in : (b : Ledger) → b.set ≡ d → Means act b.set
  means_in b same = subst (λ (x : Draft). Means act x) (sym same) means

  same_state : (b : Ledger) → b.set ≡ d → IsKept b → state_by act b ≡ state_by (runs d) b
  same_state b same kept =
      let t : SameByText act b [] = text act b [] kept (means_in b same) in
      t.state ∙ ap (λ (x : Draft). state_by (runs x) b) same

  same_step : (b : Ledger) (s : Scheduled) → b.set ≡ d → IsKept b → stepped_by act b s ≡ stepped_by (runs d) b s
  same_step b (step.Event e) same kept =
      let t : SameByText act b (e ∷ []) = text act b (e ∷ []) kept (means_in b same) in
      t.book ∙ ap (λ (x : Draft). (ask_by (runs x) b e).book) same
  same_step b step.Rebase same kept =
      rebased_to act b
      ∙ ap (λ (w : Core). let x : Ledger = record b { base = w; first = next b; journal = [] } in x) (same_state b same kept)
      ∙ sym (rebased_to (runs d) b)

  first_same : (x y : Answer) (xs ys : List Answer) → x ∷ xs ≡ y ∷ ys → x ≡ y
  first_same x y xs ys h = cc

  same_answer : (b : Ledger) (s : Scheduled) → b.set ≡ d → IsKept b → answer_to act b s ≡ answer_to (runs d) b s
  same_answer b (step.Event e) same kept =
      let t : SameByText act b (e ∷ []) = text act b (e ∷ []) kept (means_in b same) in
      t.answers ∙ ap (λ (x : Draft). (ask_by (runs x) b e).answer ∷ []) same
  same_answer b step.Rebase same kept = refl

  next_set : (b : Ledger) (s : Scheduled) → b.set ≡ d → (stepped_by (runs d) b s).set ≡ d
  next_set b s same = ap (λ (x : Draft). (stepped_by (runs x) b s).set) (sym same) ∙ step_set sets b s ∙ same

  next_kept : (b : Ledger) (s : Scheduled) → b.set ≡ d → IsKept b → IsKept (stepped_by (runs d) b s)
  next_kept b s same kept = subst (λ (x : Draft). IsKept (stepped_by (runs x) b s)) same (step_keeps keeps b s kept)

  same_book : (b : Ledger) (ss : List Scheduled) → b.set ≡ d → IsKept b → scheduled_by act b ss ≡ scheduled_by (runs d) b ss
  same_book b [] same kept = refl
  same_book b (s ∷ ss) same kept =
      ap (λ (x : Ledger). scheduled_by act x ss) (same_step b s same kept)
      ∙ same_book (stepped_by (runs d) b s) ss (next_set b s same) (next_kept b s same kept)

  same_answers : (b : Ledger) (ss : List Scheduled) → b.set ≡ d → IsKept b → answers_on act b ss ≡ answers_on (runs d) b ss
  same_answers b [] same kept = refl
  same_answers b (s ∷ ss) same kept =
      ap (λ (xs : List Answer). xs ++ answers_on act (stepped_by act b s) ss) (same_answer b s same kept)
      ∙ ap (λ (x : Ledger). answer_to (runs d) b s ++ answers_on act x ss) (same_step b s same kept)
      ∙ ap (λ (xs : List Answer). answer_to (runs d) b s ++ xs)
      (same_answers (stepped_by (runs d) b s) ss (next_set b s same) (next_kept b s same kept))

  same_last : (b : Ledger) (ss : List Scheduled) → b.set ≡ d → IsKept b → state_by act (scheduled_by act b ss) ≡ state_of (scheduled_by (runs d) b ss)
  same_last b ss same kept =
      let c : Ledger = scheduled_by (runs d) b ss in
      let set : c.set ≡ d = along_set keeps sets d b ss same in
      ap (λ (x : Ledger). state_by act x) (same_book b ss same kept)
      ∙ same_state c set (along_kept keeps sets d b ss same kept)
      ∙ ap (λ (x : Draft). state_by (runs x) c) (sym set)

pub by_text_law : TextLaw → KeepsLaw → SetLaw → ByTextLaw
by_text_law text keeps sets act b ss kept means = record {
  answers = same_answers text keeps sets act b.set means b ss refl kept;
  book = same_book text keeps sets act b.set means b ss refl kept;
  state = same_last text keeps sets act b.set means b ss refl kept;
}
