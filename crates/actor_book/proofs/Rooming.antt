-- Lack of room is exact, along any schedule.
use Rattle.std.proofs.Common.{◌≡◌, ℕ, ◌+◌, ◌-◌, ◌<◌, ◌≤◌, Bool, true, false, not, if◌then◌else◌, List, [], ◌∷◌, ◌++◌, length, map, Option, Some, None, refl, sym, ap, ◌∙◌, subst, length-append, arith}
use Rattle.std.specs.Prelude.{◌↔◌, nat_lt, slice_get}
use Rattle.std.specs.List.{AllByRecursion}
use Rattle.std.proofs.lemmas.Bool.{ltb-true, lt-ltb}
use Rattle.plain_laws.proofs.Options.{row_passes}
use Rattle.turn_code.specs.Safe.{SafeLaw, RunLaw}
use Rattle.turn_code.specs.declared.draft.Draft.{Draft}
use Rattle.turn_machine.specs.Turn.{Turn}
use Rattle.input_port.specs.declared.queue.Item.{Item}
use Rattle.actor_machine.specs.Core.{Core, Ring, outs, is_out}
use Rattle.actor_machine.specs.Kept.{IsKept}
use Rattle.actor_machine.specs.Laws.{KeepsLaw, SetLaw, OutLaw, FinishLaw, FinishesWithin}
use Rattle.actor_machine.specs.Ledger.{Ledger, Asked, runs, ask, ask_by, state_of, next, room, rebased, turn_out}
use Rattle.actor_machine.specs.Looking.{looks, found_at, found_item, item_at, as_input, input_for, is_saved, trigger_of}
use Rattle.actor_machine.specs.Refusals.{refuses, first_of, of_actor, offer_rows, begin_rows, skip_rows, finish_row, advance_rows, empty_row, needs, with_room, is_nothing, is_ignored}
use Rattle.actor_machine.specs.Step.{Answer, Says, step as stepped, skip_reply, skip_reply_of, begin_reply, take_reply}
use Rattle.actor_machine.specs.declared.actor.Actor.{Actor}
use Rattle.actor_machine.specs.declared.actor.Standing.{Standing}
use Rattle.actor_machine.specs.declared.actor.Standing.TheVariants.{At, Stopped as HasStopped}
use Rattle.actor_machine.specs.declared.event.Event.{Event}
use Rattle.actor_machine.specs.declared.event.Event.TheVariants.{Offer, Begin, Skip, Finish, Advance, TakeEnv}
use Rattle.actor_machine.specs.declared.found.Found.{Found}
use Rattle.actor_machine.specs.declared.reply.Emitted.{Emitted}
use Rattle.actor_machine.specs.declared.reply.Refusal.{Refusal}
use Rattle.actor_machine.specs.declared.reply.Refusal.TheVariants.{JournalFull, Full, NoActor, Stranger, Empty}
use Rattle.actor_machine.specs.declared.reply.Reply.{Reply}
use Rattle.actor_machine.specs.declared.reply.Reply.TheVariants as reply
use Rattle.actor_machine.proofs.Bounds.{IsCounted, Moves, moves}
use Rattle.actor_machine.proofs.Replays.{with_event, state_more, fits_law}
use Rattle.actor_book.specs.Accepted.{refusal_of, Takes}
use Rattle.actor_book.specs.Schedules.{Used, out_after, taking, used_after, used_rebased, places_free, used_in, EachAnswer, LacksRoom, IsToldOfRoom, RoomLaw, stepped_by, answers_on}
use Rattle.actor_book.specs.declared.schedule.Scheduled.{Scheduled}
use Rattle.actor_book.specs.declared.schedule.Scheduled.TheVariants as step
use Rattle.actor_book.proofs.Schedulings.{rebased_is}
use Rattle.actor_book.proofs.Taking.{stays, says, grows, answers, link_takes}
use Rattle.input_port.specs.Queue.{first_unsaved}
use Rattle.turn_code.specs.declared.input.Place.TheVariants.{Start, State}

-- ---- names that a table doesn't have

abbrev HasNot : Refusal → List (Bool × Refusal) → Type 0
HasNot q rows = AllByRecursion (λ (row : Bool × Refusal). row.1 ≡ q → ⊥) rows

never_in : (q : Refusal) (rows : List (Bool × Refusal)) → HasNot q rows → first_of rows ≡ Some q → ⊥
never_in q [] none h = cc
never_in q (row ∷ rows) none h = by row.0 (never_in q rows none.1) h
  where
    by : (b : Bool) → (first_of rows ≡ Some q → ⊥) → (if b then Some row.1 else first_of rows) ≡ Some q → ⊥
    by true rest h = let same : row.1 ≡ q = cc in none.0 same
    by false rest h = rest h

never_at : (q : Refusal) (f : Actor → List (Bool × Refusal)) → (NoActor ≡ q → ⊥) → ((a : Actor) → HasNot q (f a)) → (o : Option Actor)
    → of_actor (λ a. first_of (f a)) o ≡ Some q → ⊥
never_at q f other rows None h = let same : NoActor ≡ q = cc in other same
never_at q f other rows (Some a) h = never_in q (f a) (rows a) h

never_row : (q : Refusal) → (Stranger ≡ q → ⊥) → (o : Option Actor) → finish_row o ≡ Some q → ⊥
never_row q other None h = let same : Stranger ≡ q = cc in other same
never_row q other (Some a) h = by (is_out a) h
  where
    by : (b : Bool) → (let x : Option Refusal = if b then None else Some Stranger in x) ≡ Some q → ⊥
    by true h = cc
    by false h = let same : Stranger ≡ q = cc in other same

never_empty : (q : Refusal) → (Empty ≡ q → ⊥) → (b : Bool) → (let x : Option Refusal = if b then Some Empty else None in x) ≡ Some q → ⊥
never_empty q other true h = let same : Empty ≡ q = cc in other same
never_empty q other false h = cc

-- a link never lacks room: its journal does
no_room_row : (d : Draft) (w : Core) (e : Event) → refuses d w e ≡ Some JournalFull → ⊥
unfolding refuses offer_rows begin_rows skip_rows advance_rows
no_room_row d w (Offer o) h =
    never_at JournalFull (λ a. offer_rows d o a) (λ s. cc) (λ a. ((λ s. cc), ((λ s. cc), ((λ s. cc), tt)))) (slice_get w.actors o.actor) h
no_room_row d w (Begin n) h =
    never_at JournalFull (λ a. begin_rows d w.turns a) (λ s. cc) (λ a. ((λ s. cc), ((λ s. cc), ((λ s. cc), ((λ s. cc), tt))))) (slice_get w.actors n) h
no_room_row d w (Skip n) h =
    never_at JournalFull (λ a. skip_rows d a) (λ s. cc) (λ a. ((λ s. cc), ((λ s. cc), ((λ s. cc), tt)))) (slice_get w.actors n) h
no_room_row d w (Finish n) h = never_row JournalFull (λ s. cc) (slice_get w.actors n) h
no_room_row d w (Advance k) h = never_in JournalFull (advance_rows w.timers.clock k) ((λ s. cc), ((λ s. cc), tt)) h
no_room_row d w TakeEnv h = never_empty JournalFull (λ s. cc) _ h

-- of all events, only an offer can find a port full
abbrev pub IsNoOffer : Event → Type 0
IsNoOffer (Offer o) = ⊥
IsNoOffer (Begin n) = Unit {0}
IsNoOffer (Skip n) = Unit {0}
IsNoOffer (Finish n) = Unit {0}
IsNoOffer (Advance k) = Unit {0}
IsNoOffer TakeEnv = Unit {0}

no_full_row : (d : Draft) (w : Core) (e : Event) → IsNoOffer e → refuses d w e ≡ Some Full → ⊥
unfolding refuses begin_rows skip_rows advance_rows
no_full_row d w (Offer o) other h = absurd other
no_full_row d w (Begin n) other h =
    never_at Full (λ a. begin_rows d w.turns a) (λ s. cc) (λ a. ((λ s. cc), ((λ s. cc), ((λ s. cc), ((λ s. cc), tt))))) (slice_get w.actors n) h
no_full_row d w (Skip n) other h =
    never_at Full (λ a. skip_rows d a) (λ s. cc) (λ a. ((λ s. cc), ((λ s. cc), ((λ s. cc), tt)))) (slice_get w.actors n) h
no_full_row d w (Finish n) other h = never_row Full (λ s. cc) (slice_get w.actors n) h
no_full_row d w (Advance k) other h = never_in Full (advance_rows w.timers.clock k) ((λ s. cc), ((λ s. cc), tt)) h
no_full_row d w TakeEnv other h = never_empty Full (λ s. cc) _ h

-- an event is refused by a row of its table, or for lack of room
pub by_row : (k : ℕ) (e : Event) (o : Option Refusal) (q : Refusal) → with_room k e o ≡ Some q → (JournalFull ≡ q → ⊥) → o ≡ Some q
by_row k e None q h other = absurd (by (nat_lt k (needs e)) h)
  where
    by : (t : Bool) → (let x : Option Refusal = if t then Some JournalFull else None in x) ≡ Some q → ⊥
    by true h = let same : JournalFull ≡ q = cc in other same
    by false h = cc
by_row k e (Some r) q h other = h

-- ---- an accepted event isn't answered by a refusal

begins : (d : Draft) (turns : ℕ) (o : Option Actor) (f : Actor → Option Refusal) (q : Refusal) → of_actor f o ≡ None
    → begin_reply d turns o ≡ reply.Refused q → ⊥
begins d turns None f q taken h = cc
begins d turns (Some a) f q taken h = cc

module _ (d : Draft) (q : Refusal) where
  skips_item : (n k : ℕ) (o : Option Item) → is_nothing (found_item d n k o) ≡ false → skip_reply_of o ≡ reply.Refused q → ⊥
  skips_item n k None some h = cc
  skips_item n k (Some x) some h = cc

  skips_found : (n : ℕ) (s : Standing) (xs : List Item) → is_nothing (found_at d n s xs) ≡ false → not (is_ignored (found_at d n s xs)) ≡ false
      → skip_reply_of (item_at d n s xs) ≡ reply.Refused q → ⊥
  skips_found n (At (State k)) xs some ignored h = skips_item n k.0 (first_unsaved (is_saved d n k.0) xs) some h
  skips_found n (At Start) xs some ignored h = cc
  skips_found n HasStopped xs some ignored h = cc

  skips_rows : (a : Actor) → first_of (skip_rows d a) ≡ None → skip_reply d (Some a) ≡ reply.Refused q → ⊥
  unfolding skip_rows looks
  skips_rows a taken h =
      let out = row_passes (is_out a) _ _ taken in
      let found = row_passes (is_nothing (looks d a)) _ _ out.1 in
      let heard = row_passes (not (is_ignored (looks d a))) _ _ found.1 in
      skips_found a.name.process.0 a.standing a.port.items found.0 heard.0 h

  skips : (o : Option Actor) → of_actor (λ a. first_of (skip_rows d a)) o ≡ None → skip_reply d o ≡ reply.Refused q → ⊥
  skips None taken h = cc
  skips (Some a) taken h = skips_rows a taken h

takes : (q : Refusal) (r : Ring) → empty_row r ≡ None → take_reply r.items ≡ reply.Refused q → ⊥
takes q r taken h = by r.items taken h
  where
    by : (xs : List Emitted) → empty_row (record r { items = xs }) ≡ None → take_reply xs ≡ reply.Refused q → ⊥
    by [] taken h = cc
    by (x ∷ xs) taken h = cc

said : (x y : Reply) → Says x ≡ Says y → x ≡ y
said x y h = cc

module _ (outs_law : OutLaw) (finishes : FinishLaw) (b : Ledger) (q : Refusal) (kept : IsKept b) where
  ends : (n : ℕ) (o : Option Turn) → turn_out b n ≡ o → Takes b (Finish n) → (ask b (Finish n)).answer ≡ Says (reply.Refused q) → ⊥
  ends n None out taken h =
      let refused : refusal_of b (Finish n) ≡ Some Stranger = (outs_law.stranger b n kept).0 out in
      let none : None ≡ Some Stranger = sym taken ∙ refused in
      cc
  ends n (Some t) out taken h =
      let f : FinishesWithin b n t = finishes b n t kept out in
      let other : Says (reply.Finished _) ≡ Says (reply.Refused q) = sym f.answer ∙ h in
      cc

  pub never_refused : (e : Event) → Takes b e → (ask b e).answer ≡ Says (reply.Refused q) → ⊥
  unfolding stepped refuses
  never_refused (Offer o) taken h = let other : Says reply.Offered ≡ Says (reply.Refused q) = sym (answers b (Offer o) taken) ∙ h in cc
  never_refused (Begin n) taken h =
      begins b.set (state_of b).turns (slice_get (state_of b).actors n) _ q (link_takes b (Begin n) taken) (said _ _ (sym (answers b (Begin n) taken) ∙ h))
  never_refused (Skip n) taken h =
      skips b.set q (slice_get (state_of b).actors n) (link_takes b (Skip n) taken) (said _ _ (sym (answers b (Skip n) taken) ∙ h))
  never_refused (Finish n) taken h = ends n (turn_out b n) refl taken h
  never_refused (Advance k) taken h = let other : Says (reply.Passed _) ≡ Says (reply.Refused q) = sym (answers b (Advance k) taken) ∙ h in cc
  never_refused TakeEnv taken h =
      takes q (state_of b).ring (link_takes b TakeEnv taken) (said _ _ (sym (answers b TakeEnv taken) ∙ h))

-- ---- the use of the journal

used_taken : (u : Used) (e : Event) (r : Reply) → ((q : Refusal) → r ≡ reply.Refused q → ⊥) → used_after u e r ≡ taking u e
used_taken u e reply.Offered other = refl
used_taken u e (reply.Begun x) other = refl
used_taken u e (reply.Skipped t) other = refl
used_taken u e (reply.Finished x) other = refl
used_taken u e (reply.Passed due) other = refl
used_taken u e (reply.Taken x) other = refl
used_taken u e (reply.Refused r) other = absurd (other r refl)

out_moves : (e : Event) (old new : ℕ) → new + 1 ≡ old + needs e → out_after e old ≡ new
out_moves (Offer o) old new h = omega arith
out_moves (Begin n) old new h = omega arith
out_moves (Skip n) old new h = omega arith
out_moves (Finish n) old new h = omega arith
out_moves (Advance k) old new h = omega arith
out_moves TakeEnv old new h = omega arith

same_use : (a b c x y z : ℕ) → a ≡ x → b ≡ y → c ≡ z → (let u : Used = record { since = a; in_all = b; out = c } in u) ≡ record { since = x; in_all = y; out = z }
same_use a b c x y z e f g =
    ap (λ (n : ℕ). let u : Used = record { since = n; in_all = b; out = c } in u) e
    ∙ ap (λ (n : ℕ). let u : Used = record { since = x; in_all = n; out = c } in u) f
    ∙ ap (λ (n : ℕ). let u : Used = record { since = x; in_all = y; out = n } in u) g

module _ (safe : SafeLaw) (law : RunLaw) (b : Ledger) (e : Event) (kept : IsKept b) (taken : Takes b e) where
  moved : Moves e (stepped b.set (runs b.set) (state_of b) e).to (state_of b)
  moved =
      moves safe law b.set (state_of b) e kept.stands.valid (fits_law b kept) (link_takes b e taken)
      (record { turns = kept.bounded.turns; finishes = kept.bounded.finishes; instructions = kept.bounded.instructions; clock = kept.bounded.clock })

  used_with : taking (used_in b) e ≡ used_in (with_event b e)
  used_with =
      let longer : length (b.journal ++ e ∷ []) ≡ length b.journal + 1 = length-append b.journal (e ∷ []) in
      let out : outs (stepped b.set (runs b.set) (state_of b) e).to.actors + 1 ≡ outs (state_of b).actors + needs e = moved.outs in
      same_use (length b.journal + 1) (next b + 1) (out_after e (outs (state_of b).actors)) (length (b.journal ++ e ∷ [])) (next (with_event b e))
      (outs (state_of (with_event b e)).actors) (sym longer) (let places : b.first + length b.journal + 1 ≡ b.first + length (b.journal ++ e ∷ []) = omega arith in places)
      (out_moves e (outs (state_of b).actors) (outs (stepped b.set (runs b.set) (state_of b) e).to.actors) out
      ∙ ap (λ (w : Core). outs w.actors) (sym (state_more b e)))

module _ (outs_law : OutLaw) (finishes : FinishLaw) (safe : SafeLaw) (law : RunLaw) (b : Ledger) (e : Event) (r : Reply) (kept : IsKept b)
    (is : (ask b e).answer ≡ Says r) where
  pub refused_so : (q : Refusal) → refusal_of b e ≡ Some q → r ≡ reply.Refused q
  refused_so q h = said r (reply.Refused q) (sym is ∙ says b e q h)

  not_refused : Takes b e → (q : Refusal) → r ≡ reply.Refused q → ⊥
  not_refused taken q h = never_refused outs_law finishes b q kept e taken (is ∙ ap Says h)

  pub used_next : used_after (used_in b) e r ≡ used_in (ask b e).book
  used_next = by (refusal_of b e) refl
    where
      by : (o : Option Refusal) → refusal_of b e ≡ o → used_after (used_in b) e r ≡ used_in (ask b e).book
      by None h =
          used_taken (used_in b) e r (not_refused h) ∙ used_with safe law b e kept h ∙ ap (λ (x : Ledger). used_in x) (sym (grows b e h))
      by (Some q) h = ap (used_after (used_in b) e) (refused_so q h) ∙ ap (λ (x : Ledger). used_in x) (sym (stays b e q h))

  -- ---- B8

  is_free : places_free b.limit (used_in b) ≡ room b (state_of b)
  unfolding room
  is_free = refl

  lacks : (o : Option Refusal) → with_room (room b (state_of b)) e o ≡ Some JournalFull → (o ≡ Some JournalFull → ⊥)
      → (o ≡ None) × (room b (state_of b) < needs e)
  lacks None h other = (refl, by (nat_lt (room b (state_of b)) (needs e)) refl h)
    where
      by : (t : Bool) → nat_lt (room b (state_of b)) (needs e) ≡ t → (let x : Option Refusal = if t then Some JournalFull else None in x) ≡ Some JournalFull
          → room b (state_of b) < needs e
      by true is h = ltb-true (room b (state_of b)) (needs e) is
      by false is h = cc
  lacks (Some q) h other = absurd (other h)

  told : r ≡ reply.Refused JournalFull → LacksRoom b.limit (used_in b) b e
  told h = by (refusal_of b e) refl
    where
      by : (o : Option Refusal) → refusal_of b e ≡ o → LacksRoom b.limit (used_in b) b e
      by None none = absurd (not_refused none JournalFull h)
      by (Some q) some =
          let both : reply.Refused q ≡ reply.Refused JournalFull = sym (refused_so q some) ∙ h in
          let same : q ≡ JournalFull = cc in
          let pair = lacks (refuses b.set (state_of b) e) (some ∙ ap (λ (x : Refusal). Some x) same) (no_room_row b.set (state_of b) e) in
          record { else_taken = pair.0; short = subst (λ (k : ℕ). k < needs e) (sym is_free) pair.1 }

  lacking : LacksRoom b.limit (used_in b) b e → r ≡ reply.Refused JournalFull
  lacking h =
      let short : room b (state_of b) < needs e = subst (λ (k : ℕ). k < needs e) is_free h.short in
      refused_so JournalFull
      (ap (with_room (room b (state_of b)) e) h.else_taken
      ∙ ap (λ (t : Bool). let x : Option Refusal = if t then Some JournalFull else None in x) (lt-ltb (room b (state_of b)) (needs e) short))

  -- a refusal by any name but B8 is a row of the event's table
  pub refused_by_row : (q : Refusal) → r ≡ reply.Refused q → (JournalFull ≡ q → ⊥) → refuses b.set (state_of b) e ≡ Some q
  refused_by_row q h other = by (refusal_of b e) refl
    where
      by : (o : Option Refusal) → refusal_of b e ≡ o → refuses b.set (state_of b) e ≡ Some q
      by None none = absurd (not_refused none q h)
      by (Some x) some =
          let both : reply.Refused x ≡ reply.Refused q = sym (refused_so x some) ∙ h in
          let same : x ≡ q = cc in
          by_row (room b (state_of b)) e (refuses b.set (state_of b) e) q (some ∙ ap (λ (y : Refusal). Some y) same) other

  pub never_full : IsNoOffer e → r ≡ reply.Refused Full → ⊥
  never_full other h = no_full_row b.set (state_of b) e other (refused_by_row Full h (λ s. cc))

  pub told_of_room : IsToldOfRoom b.limit (used_in b) b e r
  told_of_room = (told, lacking)

-- ---- along a schedule

rebased_limit : (b : Ledger) → (rebased b).limit ≡ b.limit
unfolding rebased
rebased_limit b = refl

rebased_use : (b : Ledger) → used_in (rebased b) ≡ used_rebased (used_in b)
unfolding rebased
rebased_use b =
    ap (λ (n : ℕ). let u : Used = record { since = 0; in_all = n; out = outs (state_of b).actors } in u) (let e : next b + 0 ≡ next b = omega arith in e)

first_said : (r : Reply) (rs : List Reply) (x : Answer) (xs : List Answer) → map Says (r ∷ rs) ≡ x ∷ [] ++ xs → (x ≡ Says r) × (map Says rs ≡ xs)
first_said r rs x xs h = (cc, cc)

module _ (keeps : KeepsLaw) (sets : SetLaw) (d : Draft) (P : ℕ → Used → Ledger → Event → Reply → Type 0)
    (each : (b : Ledger) (e : Event) (r : Reply) → b.set ≡ d → IsKept b → (ask b e).answer ≡ Says r → P b.limit (used_in b) b e r)
    (used : (b : Ledger) (e : Event) (r : Reply) → IsKept b → (ask b e).answer ≡ Says r → used_after (used_in b) e r ≡ used_in (ask b e).book) where
  -- what holds of each event and its answer holds along a schedule
  pub along_schedule : (limit : ℕ) (b : Ledger) (ss : List Scheduled) (rs : List Reply) → b.set ≡ d → b.limit ≡ limit → IsKept b
      → map Says rs ≡ answers_on (runs d) b ss → EachAnswer (P limit) (used_in b) b ss rs
  along_schedule limit b [] [] set same kept h = tt
  along_schedule limit b [] (r ∷ rs) set same kept h = cc
  along_schedule limit b (step.Event e ∷ ss) [] set same kept h = cc
  along_schedule limit b (step.Event e ∷ ss) (r ∷ rs) set same kept h =
      let parts = first_said r rs (ask_by (runs d) b e).answer (answers_on (runs d) (ask_by (runs d) b e).book ss) h in
      let own : ask b e ≡ ask_by (runs d) b e = ap (λ (x : Draft). ask_by (runs x) b e) set in
      let is : (ask b e).answer ≡ Says r = ap (λ (x : Asked). x.answer) own ∙ parts.0 in
      let book : (ask_by (runs d) b e).book ≡ (ask b e).book = ap (λ (x : Asked). x.book) (sym own) in
      let rest : map Says rs ≡ answers_on (runs d) (ask b e).book ss = parts.1 ∙ ap (λ (x : Ledger). answers_on (runs d) x ss) book in (
        subst (λ (k : ℕ). P k (used_in b) b e r) same (each b e r set kept is),
        subst (λ (u : Used). EachAnswer (P limit) u (ask b e).book ss rs) (sym (used b e r kept is))
            (along_schedule limit (ask b e).book ss rs (sets.asks b e ∙ set) (sets.limits b (e ∷ []) ∙ same) (keeps.asks b e kept) rest),
      )
  along_schedule limit b (step.Rebase ∷ ss) rs set same kept h =
      let own : stepped_by (runs d) b step.Rebase ≡ rebased b = ap (λ (x : Draft). stepped_by (runs x) b step.Rebase) (sym set) ∙ rebased_is b in
      let rest : map Says rs ≡ answers_on (runs d) (rebased b) ss = h ∙ ap (λ (x : Ledger). answers_on (runs d) x ss) own in
      subst (λ (u : Used). EachAnswer (P limit) u (rebased b) ss rs) (rebased_use b)
      (along_schedule limit (rebased b) ss rs (sets.rebases b ∙ set) (rebased_limit b ∙ same) (keeps.rebases b kept) rest)

pub room_law : KeepsLaw → SetLaw → OutLaw → FinishLaw → SafeLaw → RunLaw → RoomLaw
room_law keeps sets outs_law finishes safe law b ss rs kept h =
    along_schedule keeps sets b.set IsToldOfRoom (λ k e r set kept is. told_of_room outs_law finishes safe law k e r kept is)
    (λ k e r kept is. used_next outs_law finishes safe law k e r kept is) b.limit b ss rs refl refl kept h
