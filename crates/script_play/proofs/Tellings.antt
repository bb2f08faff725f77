-- The report at the end of a run, from the watcher's state then.
use Rattle.std.proofs.Common.{◌≡◌, ◌∙◌, ℕ, List, Option, Result, Ok, Err, IfOk, inl, inr, arith, sym, subst}
use Rattle.std.specs.Prelude.{◌⊎◌}
use Rattle.std.specs.Global.{Vec}
use Rattle.std.specs.Io.KnownBytes.{Appends}
use Rattle.turn_code.specs.declared.draft.Draft.{Draft}
use Rattle.mtp2_text.specs.declared.limits.TextLimits.{TextLimits}
use Rattle.resend_store.specs.declared.messages.RoundLimits.{RoundLimits}
use Rattle.script_links.specs.TermScripts.{PlainAnyScript, book, terminal, asks_told}
use Rattle.script_links.specs.GroupScripts.{PlainPlayScript, other, group}
use Rattle.script_book.specs.Played.{first_book}
use Rattle.script_seen.specs.Watched.{Notice}
use Rattle.script_seen.proofs.WatchedRuns.{book_watched_as, book_part_as, term_watched_as, term_part_as}
use Rattle.script_play.specs.Seen.{IsOtherTold, IsOtherToldInPart, AreTold, AreToldInPart, IsPlayTold, IsPlayToldInPart, IsToldTo}

other_told_as : (usual : RoundLimits) (d : Draft) (s : PlainAnyScript) (P Q : List Notice → Type 0) → ((ns : List Notice) → P ns → Q ns)
    → IsOtherTold usual d s P → IsOtherTold usual d s Q
other_told_as usual d (book s) P Q f w = book_watched_as (first_book d s.settings) s.commands P Q f w
other_told_as usual d (terminal s) P Q f w = record {
  terminal = w.terminal;
  is_new = w.is_new;
  holds = term_watched_as (asks_told s.commands) w.terminal s.commands P Q f w.holds;
}

other_part_as : (usual : RoundLimits) (d : Draft) (s : PlainAnyScript) (P Q : List Notice → Type 0) → ((ns : List Notice) → P ns → Q ns)
    → IsOtherToldInPart usual d s P → IsOtherToldInPart usual d s Q
other_part_as usual d (book s) P Q f w = book_part_as (first_book d s.settings) s.commands P Q f w
other_part_as usual d (terminal s) P Q f w = record {
  terminal = w.terminal;
  is_new = w.is_new;
  holds = term_part_as (asks_told s.commands) w.terminal s.commands P Q f w.holds;
}

told_as : (usual : RoundLimits) (d : Draft) (s : PlainPlayScript) (P Q : List Notice → Type 0) → ((ns : List Notice) → P ns → Q ns)
    → AreTold usual d s P → AreTold usual d s Q
told_as usual d (other s) P Q f w = other_told_as usual d s P Q f w
told_as usual d (group s) P Q f w = absurd w

part_as : (usual : RoundLimits) (d : Draft) (s : PlainPlayScript) (P Q : List Notice → Type 0) → ((ns : List Notice) → P ns → Q ns)
    → AreToldInPart usual d s P → AreToldInPart usual d s Q
part_as usual d (other s) P Q f w = other_part_as usual d s P Q f w
part_as usual d (group s) P Q f w = absurd w

-- a property of the watcher, replaced by one that follows from it
pub play_told_as : (limits : TextLimits) (old new : Option (List ℕ)) (d : Draft) (bytes : List ℕ) (P Q : List Notice → Type 0)
    → ((ns : List Notice) → P ns → Q ns) → IsPlayTold limits old new P d bytes → IsPlayTold limits old new Q d bytes
play_told_as limits old new d bytes P Q f w =
    record { utf8 = w.utf8; script = w.script; reads = w.reads; usual = w.usual; is_usual = w.is_usual; run = w.run; told = told_as w.usual d w.script P Q f w.told }

pub play_part_as : (limits : TextLimits) (old new : Option (List ℕ)) (d : Draft) (bytes : List ℕ) (P Q : List Notice → Type 0)
    → ((ns : List Notice) → P ns → Q ns) → IsPlayToldInPart limits old new P d bytes → IsPlayToldInPart limits old new Q d bytes
play_part_as limits old new d bytes P Q f w =
    record { utf8 = w.utf8; script = w.script; reads = w.reads; usual = w.usual; is_usual = w.is_usual; missed = w.missed; told = part_as w.usual d w.script P Q f w.told }

-- a text that the watcher determines was written
pub told_to : {E X : Type 0} (r : Result (Vec ℕ) E) (old new : Option (List ℕ)) (C : X → Type 0) (text : X → List ℕ) → IsToldTo r old new
    → IfOk r (λ v. (x : X) → C x → v.items ≡ text x) → (x : X) → C x → Appends old new (text x)
told_to (Ok v) old new C text told is x known = let P : List ℕ → Type 0 = λ t. Appends old new t in subst P (is x known) told
told_to (Err e) old new C text told is x known = absurd told

-- the status of the run, if the report was written
pub status_was : (result status k : ℕ) → (result ≡ status) ⊎ (result ≡ 4) → result ≡ k → (k ≡ 4 → ⊥) → status ≡ k
status_was result status k (inl same) is differs = sym same ∙ is
status_was result status k (inr failed) is differs = absurd (differs (sym is ∙ failed))
