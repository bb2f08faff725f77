-- The notices to a watcher about commands: one more command.
use Rattle.std.proofs.Common.{◌≡◌, ◌∙◌, ℕ, ◌+◌, ◌≤◌, true, List, [], ◌∷◌, ◌++◌, length, sym, ap, subst}
use Rattle.turn_code.specs.declared.draft.Draft.{Draft}
use Rattle.actor_machine.specs.Core.{Core}
use Rattle.actor_machine.specs.Ledger.{Ledger, runs, replay, next, state_of}
use Rattle.script_seen.specs.Following.{Agree}
use Rattle.script_seen.specs.Traced.{since, are_in_step, IsAt}
use Rattle.script_seen.specs.Watched.{Notice, noticed_in, begins, more, IsWatching, IsWatched, IsWatchedInPart}
use Rattle.script_seen.specs.WatchedKinds.{IsMoved}
use Rattle.script_seen.specs.declared.tracing.Tracer.{Tracer}

pub watching_begins : {S : Type 0} (d : Draft) (first : Core) (B : List S → Ledger → Type 0) (P : List Notice → Type 0) (t : Tracer) → IsAt d 0 first t → P []
    → IsWatching d first B [] P t
watching_begins d first B P t at p = record { place = 0; now = first; notices = []; are = begins; is_at = at; holds = p }

-- where a tracer got to from this place
record CameTo (d : Draft) (place : ℕ) (w : Core) (b : Ledger) (u : Tracer) : Type 0 where
  place_is : next u.again ≡ place + length (since place b)
  state : state_of u.again ≡ replay d (runs d) w (since place b)

came_to : (d : Draft) (place : ℕ) (w : Core) (b : Ledger) (t u : Tracer) → IsAt d place w t → IsMoved t (since (next t.again) b) u → CameTo d place w b u
came_to d place w b t u at m =
    let D : Draft → Type 0 = λ x. CameTo x (next t.again) (state_of t.again) b u in
    let N : ℕ → Type 0 = λ x. CameTo d x (state_of t.again) b u in
    let W : Core → Type 0 = λ x. CameTo d place x b u in
    subst W at.state (subst N at.place_is (subst D at.set (record { place_is = m.place; state = m.state })))

told_at : (K L : Draft → List Notice → Type 0) (d : Draft) (place : ℕ) (w : Core) (b : Ledger) (t : Tracer) → IsAt d place w t
    → ((ns : List Notice) → K t.again.set ns → L t.again.set (ns ++ noticed_in t.again.set (state_of t.again) (since (next t.again) b)))
    → (ns : List Notice) → K d ns → L d (ns ++ noticed_in d w (since place b))
told_at K L d place w b t at told =
    let D : Draft → Type 0 = λ x. (ns : List Notice) → K x ns → L x (ns ++ noticed_in x (state_of t.again) (since (next t.again) b)) in
    let N : ℕ → Type 0 = λ x. (ns : List Notice) → K d ns → L d (ns ++ noticed_in d (state_of t.again) (since x b)) in
    let W : Core → Type 0 = λ x. (ns : List Notice) → K d ns → L d (ns ++ noticed_in d x (since place b)) in
    subst W at.state (subst N at.place_is (subst D at.set told))

pub watching_more : {S : Type 0} (d : Draft) (first : Core) (B : List S → Ledger → Type 0) (commands : List S) (said : S) (K L : Draft → List Notice → Type 0)
    (b : Ledger) (t u : Tracer) → IsWatching d first B commands (K d) t → B (commands ++ said ∷ []) b → b.first ≤ next t.again
    → IsMoved t (since (next t.again) b) u → are_in_step (state_of u.again) (state_of b) ≡ true
    → ((ns : List Notice) → K t.again.set ns → L t.again.set (ns ++ noticed_in t.again.set (state_of t.again) (since (next t.again) b)))
    → IsWatching d first B (commands ++ said ∷ []) (L d) u
watching_more d first B commands said K L b t u s behind within moved in_step told =
    let came : CameTo d s.place s.now b u = came_to d s.place s.now b t u s.is_at moved in
    let es = since s.place b in
    let P : ℕ → Type 0 = λ n. b.first ≤ n in
    let W : Core → Type 0 = λ w. are_in_step w (state_of b) ≡ true in
    let agree : Agree t = s.is_at.timers ∙ ap (λ (x : Core). x.timers) (sym s.is_at.state) in
    record {
      place = s.place + length es;
      now = replay d (runs d) s.now es;
      notices = s.notices ++ noticed_in d s.now es;
      are = more said b s.are behind (subst P s.is_at.place_is within) (subst W came.state in_step);
      is_at = record {
        set = moved.set ∙ s.is_at.set;
        place_is = came.place_is;
        state = came.state;
        timers = moved.agree agree ∙ ap (λ (x : Core). x.timers) came.state;
      };
      holds = told_at K L d s.place s.now b t s.is_at told s.notices s.holds;
    }

-- all commands were obeyed
pub is_watched : {S : Type 0} (d : Draft) (first : Core) (B : List S → Ledger → Type 0) (commands : List S) (P : List Notice → Type 0) (t : Tracer)
    → IsWatching d first B commands P t → IsWatched d first B commands P
is_watched d first B commands P t s = record { place = s.place; now = s.now; notices = s.notices; are = s.are; holds = s.holds }

-- a property of the watcher, replaced by one that follows from it
pub watched_as : {S : Type 0} (d : Draft) (first : Core) (B : List S → Ledger → Type 0) (commands : List S) (P Q : List Notice → Type 0)
    → ((ns : List Notice) → P ns → Q ns) → IsWatched d first B commands P → IsWatched d first B commands Q
watched_as d first B commands P Q f w = record { place = w.place; now = w.now; notices = w.notices; are = w.are; holds = f w.notices w.holds }

pub in_part_as : {S : Type 0} (d : Draft) (first : Core) (B : List S → Ledger → Type 0) (M : List S → S → Type 0) (commands : List S) (P Q : List Notice → Type 0)
    → ((ns : List Notice) → P ns → Q ns) → IsWatchedInPart d first B M commands P → IsWatchedInPart d first B M commands Q
in_part_as d first B M commands P Q f w = record {
  before = w.before;
  said = w.said;
  after = w.after;
  stands = w.stands;
  missed = w.missed;
  watched = watched_as d first B w.before P Q f w.watched;
}
