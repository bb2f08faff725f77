-- Begins and skips are as the text says.
use Rattle.std.proofs.Common.{◌≡◌, ℕ, Bool, true, false, not, List, [], ◌∷◌, Option, Some, None, refl, sym, ap, ◌∙◌, subst}
use Rattle.std.specs.Prelude.{slice_get}
use Rattle.std.proofs.lemmas.Option.{same_Some}
use Rattle.plain_laws.proofs.Options.{row_passes}
use Rattle.plain_laws.proofs.Places.{written_same}
use Rattle.sdl_ast.specs.Plain.{PlainBlock}
use Rattle.sdl_compile.specs.Blocks.{MatchesBlock}
use Rattle.turn_code.specs.Safe.{SafeLaw, RunLaw}
use Rattle.turn_code.specs.declared.draft.Draft.{Draft}
use Rattle.turn_code.specs.declared.draft.Trigger.{Trigger}
use Rattle.input_port.specs.declared.queue.Item.{Item}
use Rattle.actor_book.specs.Accepted.{refusal_of, Takes}
use Rattle.actor_book.proofs.Rooming.{refused_by_row, refused_so}
use Rattle.actor_book.proofs.Taking.{answers, link_takes}
use Rattle.actor_machine.specs.Core.{Core, is_out, change, set_at}
use Rattle.actor_machine.specs.Fits.{CoreFits}
use Rattle.actor_machine.specs.Kept.{IsKept}
use Rattle.actor_machine.specs.Laws.{StateLaw, FitsLaw, FinishLaw, OutLaw}
use Rattle.actor_machine.specs.Ledger.{Ledger, runs, ask, state_of}
use Rattle.actor_machine.specs.Looking.{looks, trigger_of, item_at, left_at, begun, skipped}
use Rattle.actor_machine.specs.Refusals.{refuses, first_of, of_actor, begin_rows, skip_rows, is_nothing, is_ignored, is_counted_out}
use Rattle.actor_machine.specs.Step.{Answer, Says, step, begin_reply, begun_now, skip_reply, skip_reply_of}
use Rattle.actor_machine.specs.declared.actor.Actor.{Actor}
use Rattle.actor_machine.specs.declared.event.Event.TheVariants.{Begin, Skip}
use Rattle.actor_machine.specs.declared.reply.Begun.{Begun}
use Rattle.actor_machine.specs.declared.reply.Refusal.{Refusal}
use Rattle.actor_machine.specs.declared.reply.Refusal.TheVariants as refusal
use Rattle.actor_machine.specs.declared.reply.Reply.{Reply}
use Rattle.actor_machine.specs.declared.reply.Reply.TheVariants as reply
use Rattle.link_whole.specs.InputAndSave.{Finds, Begins, BeginsAsRead, WaitsForNothing, MustSkip, RefusesBegin, AnswersBegin, SkipsAsRead, HasNoSkip, RefusesSkip, AnswersSkip, with_items}
use Rattle.link_whole.proofs.InputsAndSaves.{finds_nothing, finds_ignored, may_begin, begins_so}

-- ---- rows

nothing_row : (x y z w : Bool) → first_of ((x, refusal.Busy) ∷ (y, refusal.Nothing) ∷ (z, refusal.SkipFirst) ∷ (w, refusal.CountFull) ∷ []) ≡ Some refusal.Nothing → y ≡ true
nothing_row true y z w h = cc
nothing_row false true z w h = refl
nothing_row false false true w h = cc
nothing_row false false false true h = cc
nothing_row false false false false h = cc

skip_row : (x y z w : Bool) → first_of ((x, refusal.Busy) ∷ (y, refusal.Nothing) ∷ (z, refusal.SkipFirst) ∷ (w, refusal.CountFull) ∷ []) ≡ Some refusal.SkipFirst → z ≡ true
skip_row true y z w h = cc
skip_row false true z w h = cc
skip_row false false true w h = refl
skip_row false false false true h = cc
skip_row false false false false h = cc

nothing_to_skip : (x y z : Bool) → first_of ((x, refusal.Busy) ∷ (y, refusal.Nothing) ∷ (z, refusal.NotIgnored) ∷ []) ≡ Some refusal.Nothing → y ≡ true
nothing_to_skip true y z h = cc
nothing_to_skip false true z h = refl
nothing_to_skip false false true h = cc
nothing_to_skip false false false h = cc

no_skip_row : (x y z : Bool) → first_of ((x, refusal.Busy) ∷ (y, refusal.Nothing) ∷ (z, refusal.NotIgnored) ∷ []) ≡ Some refusal.NotIgnored → (y ≡ false) × (z ≡ true)
no_skip_row true y z h = cc
no_skip_row false true z h = cc
no_skip_row false false true h = (refl, refl)
no_skip_row false false false h = cc

not_so : (x : Bool) → not x ≡ true → x ≡ false
not_so true h = cc
not_so false h = refl

so : (x : Bool) → not x ≡ false → x ≡ true
so true h = refl
so false h = cc

-- ---- names of refusals that depend on the text

begin_named : (b : PlainBlock) (k : Ledger) (n : ℕ) (x : Refusal) → (x ≡ refusal.Nothing → WaitsForNothing b k n) → (x ≡ refusal.SkipFirst → MustSkip b k n)
    → RefusesBegin b k n x
begin_named b k n refusal.Nothing f g = f refl
begin_named b k n refusal.SkipFirst f g = g refl
begin_named b k n refusal.Full f g = tt
begin_named b k n refusal.Stopped f g = tt
begin_named b k n refusal.NoRoute f g = tt
begin_named b k n refusal.Busy f g = tt
begin_named b k n refusal.Stranger f g = tt
begin_named b k n refusal.Empty f g = tt
begin_named b k n refusal.JournalFull f g = tt
begin_named b k n refusal.CountFull f g = tt
begin_named b k n refusal.NoActor f g = tt
begin_named b k n refusal.NotIgnored f g = tt
begin_named b k n refusal.TooFar f g = tt
begin_named b k n refusal.ClockFull f g = tt

skip_named : (b : PlainBlock) (k : Ledger) (n : ℕ) (x : Refusal) → (x ≡ refusal.Nothing → WaitsForNothing b k n) → (x ≡ refusal.NotIgnored → HasNoSkip b k n)
    → RefusesSkip b k n x
skip_named b k n refusal.Nothing f g = f refl
skip_named b k n refusal.NotIgnored f g = g refl
skip_named b k n refusal.SkipFirst f g = tt
skip_named b k n refusal.Full f g = tt
skip_named b k n refusal.Stopped f g = tt
skip_named b k n refusal.NoRoute f g = tt
skip_named b k n refusal.Busy f g = tt
skip_named b k n refusal.Stranger f g = tt
skip_named b k n refusal.Empty f g = tt
skip_named b k n refusal.JournalFull f g = tt
skip_named b k n refusal.CountFull f g = tt
skip_named b k n refusal.NoActor f g = tt
skip_named b k n refusal.TooFar f g = tt
skip_named b k n refusal.ClockFull f g = tt

changed : (xs : List Actor) (n : ℕ) (f : Actor → Actor) (a : Actor) → slice_get xs n ≡ Some a → slice_get (change xs n f) n ≡ Some (f a)
changed xs n f a e = ap (λ (o : Option Actor). slice_get (set_at xs n f o) n) e ∙ written_same xs n a (f a) e

said : (x y : Reply) → Says x ≡ Says y → x ≡ y
said x y h = cc

module _ (outs : OutLaw) (states : StateLaw) (fits : FitsLaw) (finishes : FinishLaw) (safe : SafeLaw) (law : RunLaw) (b : PlainBlock) (k : Ledger) (r : Reply)
    (matches : MatchesBlock b k.set) (kept : IsKept k) (n : ℕ) where
  core : CoreFits k.set (state_of k)
  core = fits k kept

  -- ---- the rows of an actor

  waits_at : (o : Option Actor) → slice_get (state_of k).actors n ≡ o → of_actor (λ a. first_of (begin_rows k.set (state_of k).turns a)) o ≡ Some refusal.Nothing
      → WaitsForNothing b k n
  unfolding begin_rows
  waits_at None there h = cc
  waits_at (Some a) there h = record {
    actor = a;
    there = there;
    nothing = finds_nothing b k.set matches a (core.each n a there)
        (nothing_row (is_out a) (is_nothing (looks k.set a)) (is_ignored (looks k.set a)) (is_counted_out (state_of k).turns) h);
  }

  must_at : (o : Option Actor) → slice_get (state_of k).actors n ≡ o → of_actor (λ a. first_of (begin_rows k.set (state_of k).turns a)) o ≡ Some refusal.SkipFirst
      → MustSkip b k n
  unfolding begin_rows
  must_at None there h = cc
  must_at (Some a) there h =
      let f = finds_ignored b k.set matches a (core.each n a there)
      (skip_row (is_out a) (is_nothing (looks k.set a)) (is_ignored (looks k.set a)) (is_counted_out (state_of k).turns) h) in
      record { actor = a; there = there; item = f.0; left = left_at k.set a.name.process.0 a.standing a.port.items; finds = f.2 }

  waits_skip : (o : Option Actor) → slice_get (state_of k).actors n ≡ o → of_actor (λ a. first_of (skip_rows k.set a)) o ≡ Some refusal.Nothing → WaitsForNothing b k n
  unfolding skip_rows
  waits_skip None there h = cc
  waits_skip (Some a) there h = record {
    actor = a;
    there = there;
    nothing = finds_nothing b k.set matches a (core.each n a there) (nothing_to_skip (is_out a) (is_nothing (looks k.set a)) (not (is_ignored (looks k.set a))) h);
  }

  no_skip : (o : Option Actor) → slice_get (state_of k).actors n ≡ o → of_actor (λ a. first_of (skip_rows k.set a)) o ≡ Some refusal.NotIgnored → HasNoSkip b k n
  unfolding skip_rows
  no_skip None there h = cc
  no_skip (Some a) there h =
      let row = no_skip_row (is_out a) (is_nothing (looks k.set a)) (not (is_ignored (looks k.set a))) h in
      record { actor = a; there = there; begins = may_begin b k.set matches a (core.each n a there) row.0 (not_so (is_ignored (looks k.set a)) row.1) }

  -- ---- a begin

  module _ (is : (ask k (Begin n)).answer ≡ Says r) where
    by_refusal : (x : Refusal) → refusal_of k (Begin n) ≡ Some x → RefusesBegin b k n x
    unfolding refuses
    by_refusal x some =
        let named : r ≡ reply.Refused x = refused_so outs finishes safe law k (Begin n) r kept is x some in
        begin_named b k n x
        (λ same. waits_at (slice_get (state_of k).actors n) refl
        (refused_by_row outs finishes safe law k (Begin n) r kept is refusal.Nothing (named ∙ ap (λ (y : Refusal). reply.Refused y) same) (λ s. cc)))
        (λ same. must_at (slice_get (state_of k).actors n) refl
        (refused_by_row outs finishes safe law k (Begin n) r kept is refusal.SkipFirst (named ∙ ap (λ (y : Refusal). reply.Refused y) same) (λ s. cc)))

    turn_of_actor : Takes k (Begin n) → (a : Actor) → slice_get (state_of k).actors n ≡ Some a → first_of (begin_rows k.set (state_of k).turns a) ≡ None
        → BeginsAsRead b k n (begun_now k.set (state_of k).turns a)
    unfolding begin_rows step
    turn_of_actor taken a there rows =
        let out = row_passes (is_out a) _ _ rows in
        let found = row_passes (is_nothing (looks k.set a)) _ _ out.1 in
        let heard = row_passes (is_ignored (looks k.set a)) _ _ found.1 in
        let turns = (state_of k).turns in
        record {
          actor = a;
          there = there;
          new = begun k.set turns a;
          new_there = ap (λ (w : Core). slice_get w.actors n) (states k (Begin n) taken) ∙ changed (state_of k).actors n (begun k.set turns) a there;
          begins = begins_so b k.set matches a (core.each n a there) turns found.0 heard.0;
        }

    by_turn : Takes k (Begin n) → (o : Option Actor) → slice_get (state_of k).actors n ≡ o → of_actor (λ a. first_of (begin_rows k.set (state_of k).turns a)) o ≡ None
        → r ≡ begin_reply k.set (state_of k).turns o → AnswersBegin b k n r
    by_turn taken None there rows same = cc
    by_turn taken (Some a) there rows same = subst (λ (x : Reply). AnswersBegin b k n x) (sym same) (turn_of_actor taken a there rows)

    accepted : Takes k (Begin n) → AnswersBegin b k n r
    unfolding refuses step
    accepted taken =
        by_turn taken (slice_get (state_of k).actors n) refl (link_takes k (Begin n) taken) (said r _ (sym is ∙ answers k (Begin n) taken))

    pub begins_as_read : AnswersBegin b k n r
    begins_as_read = by (refusal_of k (Begin n)) refl
      where
        by : (o : Option Refusal) → refusal_of k (Begin n) ≡ o → AnswersBegin b k n r
        by None none = accepted none
        by (Some x) some =
            subst (λ (y : Reply). AnswersBegin b k n y) (sym (refused_so outs finishes safe law k (Begin n) r kept is x some)) (by_refusal x some)

  -- ---- a skip

  module _ (is : (ask k (Skip n)).answer ≡ Says r) where
    skip_refusal : (x : Refusal) → refusal_of k (Skip n) ≡ Some x → RefusesSkip b k n x
    unfolding refuses
    skip_refusal x some =
        let named : r ≡ reply.Refused x = refused_so outs finishes safe law k (Skip n) r kept is x some in
        skip_named b k n x
        (λ same. waits_skip (slice_get (state_of k).actors n) refl
        (refused_by_row outs finishes safe law k (Skip n) r kept is refusal.Nothing (named ∙ ap (λ (y : Refusal). reply.Refused y) same) (λ s. cc)))
        (λ same. no_skip (slice_get (state_of k).actors n) refl
        (refused_by_row outs finishes safe law k (Skip n) r kept is refusal.NotIgnored (named ∙ ap (λ (y : Refusal). reply.Refused y) same) (λ s. cc)))

    skip_of_actor : Takes k (Skip n) → (a : Actor) → slice_get (state_of k).actors n ≡ Some a → first_of (skip_rows k.set a) ≡ None
        → r ≡ skip_reply k.set (Some a) → AnswersSkip b k n r
    unfolding skip_rows step skipped
    skip_of_actor taken a there rows same =
        let out = row_passes (is_out a) _ _ rows in
        let found = row_passes (is_nothing (looks k.set a)) _ _ out.1 in
        let heard = row_passes (not (is_ignored (looks k.set a))) _ _ found.1 in
        let f = finds_ignored b k.set matches a (core.each n a there) (so (is_ignored (looks k.set a)) heard.0) in
        let told : r ≡ reply.Skipped (trigger_of f.0) = same ∙ ap (λ (o : Option Item). skip_reply_of o) f.1 in
        subst (λ (y : Reply). AnswersSkip b k n y) (sym told) (record {
          actor = a;
          there = there;
          item = f.0;
          left = left_at k.set a.name.process.0 a.standing a.port.items;
          finds = f.2;
          told = refl;
          after = ap (λ (w : Core). slice_get w.actors n) (states k (Skip n) taken) ∙ changed (state_of k).actors n (skipped k.set) a there;
        })

    by_skip : Takes k (Skip n) → (o : Option Actor) → slice_get (state_of k).actors n ≡ o → of_actor (λ a. first_of (skip_rows k.set a)) o ≡ None
        → r ≡ skip_reply k.set o → AnswersSkip b k n r
    by_skip taken None there rows same = cc
    by_skip taken (Some a) there rows same = skip_of_actor taken a there rows same

    skip_accepted : Takes k (Skip n) → AnswersSkip b k n r
    unfolding refuses step
    skip_accepted taken =
        by_skip taken (slice_get (state_of k).actors n) refl (link_takes k (Skip n) taken) (said r _ (sym is ∙ answers k (Skip n) taken))

    pub skips_as_read : AnswersSkip b k n r
    skips_as_read = by (refusal_of k (Skip n)) refl
      where
        by : (o : Option Refusal) → refusal_of k (Skip n) ≡ o → AnswersSkip b k n r
        by None none = skip_accepted none
        by (Some x) some =
            subst (λ (y : Reply). AnswersSkip b k n y) (sym (refused_so outs finishes safe law k (Skip n) r kept is x some)) (skip_refusal x some)
