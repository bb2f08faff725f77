-- The trace of an end of a link, act by act.
use Rattle.std.specs.Prelude.{ℕ, Bool, true, false, not, ◌&&◌, ◌||◌, List, [], ◌∷◌, Option, codes}
use Rattle.std.specs.Prelude.{if◌then◌else◌}
use Rattle.std.specs.Str.{bytes_eq}
use Rattle.std.specs.Io.KnownBytes.{Appends}
use Rattle.line_filter.specs.Acts.{Act, asked, heard, passed, reported, obeyed}
use Rattle.line_play.specs.Lines.{end_acts}
use Rattle.link_term.specs.Term.{Term}
use Rattle.script_play.specs.TracedActs.{Follows, front_line}
use Rattle.script_play.specs.Words.{words_of}
use Rattle.script_play.specs.script_seen_types.tracing.Tracer.{Tracer}
use Rattle.mtp2_play.specs.declared.line.traces.TracedEnd.{TracedEnd}

-- ---- the line of an order

abbrev pub is_reset : List (List ℕ) → Bool
is_reset [] = false
is_reset (word ∷ []) = bytes_eq word (codes "reset")
is_reset (word ∷ next ∷ more) = false

-- `measure` and `measure NAME`
abbrev pub asks_measure : List ℕ → List (List ℕ) → Bool
asks_measure word words = bytes_eq word (codes "measure") && not (is_reset words)

abbrev pub is_question : List ℕ → Bool
is_question word = bytes_eq word (codes "state") || bytes_eq word (codes "value")

-- no words, or words that are only a question
abbrev pub has_no_front : List (List ℕ) → Bool
has_no_front [] = true
has_no_front (word ∷ words) = is_question word || asks_measure word words

abbrev pub front_of_words : List (List ℕ) → List ℕ
front_of_words words = if has_no_front words then [] else front_line words

-- the line of an order; nothing for a question
abbrev pub order_front : List ℕ → List ℕ
order_front order = front_of_words (words_of order)

-- ---- an end

abbrev pub terminal_of : {W : Type 0} → TracedEnd W → Term
terminal_of traced = traced.end.terminal

-- ---- the events

-- a text is traced, followed by the events of a terminal's processes since the last call
pub record FollowsBehind (front : List ℕ) (t : Term) (old new : Tracer)
    (from to : Option (List ℕ)) : Type 0 where
  pub middle : Option (List ℕ)
  pub front_is : Appends from middle front
  pub follows : Follows t.processes.book old new middle to

-- the events of an act are traced, after the line of the order if the act is one
abbrev pub IsActTraced :
    Act → Term → Tracer → Tracer → Option (List ℕ) → Option (List ℕ) → Type 0
IsActTraced (asked unit) t old new from to = Follows t.processes.book old new from to
IsActTraced (heard octet) t old new from to = Follows t.processes.book old new from to
IsActTraced passed t old new from to = Follows t.processes.book old new from to
IsActTraced (reported text) t old new from to = Follows t.processes.book old new from to
IsActTraced (obeyed order answer) t old new from to =
    FollowsBehind (order_front order) t old new from to

-- an end acts as it does without a trace, and the events of the act are traced
abbrev pub traced_acts :
    {W : Type 0} → (W → Option (List ℕ)) → TracedEnd W → Act → TracedEnd W → Type 0
traced_acts contents old act new =
    end_acts old.end act new.end
    × IsActTraced act new.end.terminal old.trace.tracer new.trace.tracer (contents old.trace.out)
    (contents new.trace.out)
