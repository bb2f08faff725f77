-- The trace of commands: one more command.
use Rattle.std.proofs.Common.{◌≡◌, ◌∙◌, ℕ, ◌+◌, ◌≤◌, Bool, true, List, [], ◌∷◌, ◌++◌, length, Option, Result, OnOk, false, refl, sym, ap, subst}
use Rattle.std.specs.Io.KnownBytes.{Appends}
use Rattle.std.proofs.KnownBytes.{Appends-nil, Appends-trans}
use Rattle.turn_code.specs.declared.draft.Draft.{Draft}
use Rattle.tick_wheel.specs.Timers.{Timers}
use Rattle.actor_machine.specs.Core.{Core}
use Rattle.actor_machine.specs.Ledger.{Ledger, runs, replay, next, state_of}
use Rattle.script_lines.specs.Lines.{PlainLine}
use Rattle.script_seen.specs.Shown.{IsLine}
use Rattle.script_seen.specs.Traced.{since, told_text, are_in_step, IsFront, Traces, begins, more, IsAt, IsTracing, IsTraced}
use Rattle.script_seen.specs.Following.{Agree, IsFollowed}
use Rattle.script_seen.specs.declared.tracing.Tracer.{Tracer}

pub tracing_begins : {S : Type 0} (lines : List PlainLine) (line : S → ℕ) (asks : S → Bool) (d : Draft) (first : Core) (B : List S → Ledger → Type 0)
    (old : Option (List ℕ)) (t : Tracer) → IsAt d 0 first t → IsTracing lines line asks d first B [] old old t
tracing_begins lines line asks d first B old t at =
    record { place = 0; now = first; text = []; traces = begins; is_at = at; written = Appends-nil old }

-- where a tracer got to from this place
pub record CameTo (every : Bool) (d : Draft) (place : ℕ) (w : Core) (b : Ledger) (u : Tracer) (from to : Option (List ℕ)) : Type 0 where
  pub place_is : next u.again ≡ place + length (since place b)
  pub state : state_of u.again ≡ replay d (runs d) w (since place b)
  pub told : Appends from to (told_text every d w (since place b))

pub came_to : (d : Draft) (place : ℕ) (w : Core) (b : Ledger) (t u : Tracer) (from to : Option (List ℕ)) → IsAt d place w t
    → IsFollowed t (since (next t.again) b) u from to → CameTo t.every d place w b u from to
came_to d place w b t u from to at f =
    let agree : Agree t = at.timers ∙ ap (λ (x : Core). x.timers) (sym at.state) in
    let D : Draft → Type 0 = λ x. CameTo t.every x (next t.again) (state_of t.again) b u from to in
    let N : ℕ → Type 0 = λ x. CameTo t.every d x (state_of t.again) b u from to in
    let W : Core → Type 0 = λ x. CameTo t.every d place x b u from to in
    subst W at.state (subst N at.place_is (subst D at.set (record { place_is = f.place; state = f.state; told = f.told agree })))

-- one more command, whose line is written first
pub record HasFrontOf (asks : Bool) (lines : List PlainLine) (number : ℕ) (old new : Option (List ℕ)) : Type 0 where
  pub front : List ℕ
  pub is_front : IsFront asks lines number front
  pub grew : Appends old new front

pub has_front_of : (asks : Bool) (lines : List PlainLine) (number : ℕ) (old new : Option (List ℕ))
    → ((front : List ℕ) × IsFront asks lines number front × Appends old new front) → HasFrontOf asks lines number old new
has_front_of asks lines number old new f = record { front = f.0; is_front = f.1; grew = f.2 }

-- no line is written for a question; for any other command its line is
pub no_front : (asks : Bool) (lines : List PlainLine) (number : ℕ) (old : Option (List ℕ)) → asks ≡ true
    → ((front : List ℕ) × IsFront asks lines number front × Appends old old front)
no_front asks lines number old is =
    let P : Bool → Type 0 = λ a. (front : List ℕ) × IsFront a lines number front × Appends old old front in subst P (sym is) ([], refl, Appends-nil old)

pub own_front : {A E : Type 0} (asks : Bool) (lines : List PlainLine) (number : ℕ) (r : Result A E) (old new : Option (List ℕ)) → asks ≡ false
    → OnOk r ((front : List ℕ) × IsLine lines number front × Appends old new front)
    → OnOk r ((front : List ℕ) × IsFront asks lines number front × Appends old new front)
own_front asks lines number r old new is h =
    let P : Bool → Type 0 = λ a. OnOk r ((front : List ℕ) × IsFront a lines number front × Appends old new front) in subst P (sym is) h

pub tracing_more : {S : Type 0} (lines : List PlainLine) (line : S → ℕ) (asks : S → Bool) (d : Draft) (first : Core) (B : List S → Ledger → Type 0)
    (commands : List S) (said : S) (begun old mid new : Option (List ℕ)) (b : Ledger) (t u : Tracer)
    → IsTracing lines line asks d first B commands begun old t → HasFrontOf (asks said) lines (line said) old mid → B (commands ++ said ∷ []) b
    → b.first ≤ next t.again → IsFollowed t (since (next t.again) b) u mid new → are_in_step (state_of u.again) (state_of b) ≡ true
    → IsTracing lines line asks d first B (commands ++ said ∷ []) begun new u
tracing_more lines line asks d first B commands said begun old mid new b t u s f behind within followed in_step =
    let came : CameTo t.every d s.place s.now b u mid new = came_to d s.place s.now b t u mid new s.is_at followed in
    let es = since s.place b in
    let text : List ℕ = s.text ++ (f.front ++ told_text t.every d s.now es) in
    let E : Bool → Type 0 = λ e. Traces e lines line asks d first B (commands ++ said ∷ []) (s.place + length es) (replay d (runs d) s.now es) text in
    let P : ℕ → Type 0 = λ n. b.first ≤ n in
    let W : Core → Type 0 = λ w. are_in_step w (state_of b) ≡ true in
    let agree : Agree t = s.is_at.timers ∙ ap (λ (x : Core). x.timers) (sym s.is_at.state) in
    record {
      place = s.place + length es;
      now = replay d (runs d) s.now es;
      text = text;
      traces = subst E (sym followed.every) (more said f.front b s.traces f.is_front behind (subst P s.is_at.place_is within) (subst W came.state in_step));
      is_at = record {
        set = followed.set ∙ s.is_at.set;
        place_is = came.place_is;
        state = came.state;
        timers = followed.agree agree ∙ ap (λ (x : Core). x.timers) came.state;
      };
      written =
          Appends-trans begun old new s.text (f.front ++ told_text t.every d s.now es) s.written
          (Appends-trans old mid new f.front (told_text t.every d s.now es) f.grew came.told);
    }

-- all commands are traced
pub is_traced : {S : Type 0} (every : Bool) (lines : List PlainLine) (line : S → ℕ) (asks : S → Bool) (d : Draft) (first : Core) (B : List S → Ledger → Type 0)
    (commands : List S) (begun now : Option (List ℕ)) (t : Tracer) → t.every ≡ every → IsTracing lines line asks d first B commands begun now t
    → IsTraced every lines line asks d first B commands begun now
is_traced every lines line asks d first B commands begun now t same s =
    let E : Bool → Type 0 = λ e. Traces e lines line asks d first B commands s.place s.now s.text in
    record { place = s.place; now = s.now; text = s.text; traces = subst E same s.traces; written = s.written }
