-- Lines with notes below each of them.
use Rattle.std.proofs.Common.{◌≡◌, refl, ◌∙◌, ℕ, ◌+◌, ◌<◌, ◌≤◌, ◌==◌, Bool, true, false, List, [], ◌∷◌, ◌++◌, length, drop, get_or, sym, ap, codes, append_assoc, append-nil}
use Rattle.std.specs.List.{flat_map}
use Rattle.std.proofs.lemmas.List.{at_drop_more, flat_map_more, drop_all}
use Rattle.std.proofs.lemmas.List.Concat.{flat_map-append}
use Rattle.std.proofs.lemmas.List.Elements.{All-append, All-cons, All-nil, All-push, All-same}
use Rattle.std.specs.Prelude.{All}
use Rattle.draw_sets.specs.Noting.{spaced, indented, Noted, bare_line, noted_lines, connection_lines, AreAdded, AreNoted, AreWritten, IsBegun, IsBelow, IsInLine, IsOneLine}

pub indented_more : (begins next : Bool) (lines out new all : List ℕ) (i d : ℕ) → i < length lines → next ≡ (get_or lines i d == 10) → new ≡ out ++ spaced begins (get_or lines i d)
    → out ++ indented begins (drop i lines) ≡ all → new ++ indented next (drop (i + 1) lines) ≡ all
indented_more begins next lines out new all i d within is grown h =
    let b : ℕ = get_or lines i d in
    let rest : List ℕ = drop (i + 1) lines in
    ap (λ x. x ++ indented next rest) grown
    ∙ (ap (λ x. (out ++ spaced begins b) ++ indented x rest) is
    ∙ (append_assoc out (spaced begins b) (indented (b == 10) rest)
    ∙ (ap (λ y. out ++ y) (sym (at_drop_more (indented begins) lines i d within)) ∙ h)))

-- ---- at the end of the lines: after a line end, or after a last line that lacks its end

pub indented_whole : (begins : Bool) (lines out all : List ℕ) (i : ℕ) → length lines ≤ i → begins ≡ true → out ++ indented begins (drop i lines) ≡ all → out ≡ all
indented_whole begins lines out all i past is h =
    sym (append-nil out)
    ∙ (ap (λ x. out ++ indented x []) (sym is) ∙ (ap (λ x. out ++ indented begins x) (sym (drop_all i lines past)) ∙ h))

pub indented_closed : (begins : Bool) (lines out new all : List ℕ) (i : ℕ) → length lines ≤ i → begins ≡ false → new ≡ out ++ 10 ∷ [] → out ++ indented begins (drop i lines) ≡ all → new ≡ all
indented_closed begins lines out new all i past is grown h =
    grown ∙ (ap (λ x. out ++ indented x []) (sym is) ∙ (ap (λ x. out ++ indented begins x) (sym (drop_all i lines past)) ∙ h))

-- a line, its end, and the notes below it, one after another
pub below : (old line notes one two new : List ℕ) → one ≡ old ++ line → two ≡ one ++ 10 ∷ [] → new ≡ two ++ indented true notes → IsBelow old line new
below old line notes one two new first second third = record {
  notes = notes;
  written = third
      ∙ (ap (λ x. x ++ indented true notes) (second ∙ ap (λ x. x ++ 10 ∷ []) first)
      ∙ (append_assoc (old ++ line) (10 ∷ []) (indented true notes) ∙ append_assoc old line (10 ∷ indented true notes)));
}

-- ---- bytes within one line

pub none_in_line : (line : List ℕ) → line ≡ [] → All IsInLine line
none_in_line line none = All-same IsInLine line [] none (All-nil IsInLine)

pub more_in_line : (old new : List ℕ) (b : ℕ) → new ≡ old ++ b ∷ [] → (b ≡ 10 → ⊥) → All IsInLine old → All IsInLine new
more_in_line old new b grown apart h = All-same IsInLine new (old ++ b ∷ []) grown (All-push IsInLine old b h apart)

pub same_in_line : (line shown : List ℕ) → shown ≡ line → All IsInLine line → All IsInLine shown
same_in_line line shown same h = All-same IsInLine shown line same h

-- ---- connections, one after another

pub none_added : (old : List ℕ) → AreAdded old old
none_added old = record { connections = []; named = All-nil IsOneLine; written = sym (append-nil old) }

pub one_added : (old now name new : List ℕ) → now ≡ old ++ codes "~ CONNECTION " → All IsInLine name → IsBelow now name new → AreAdded old new
one_added old now name new begun plain added =
    let n : Noted = record { line = name; notes = added.notes } in
    record {
      connections = n ∷ [];
      named = All-cons IsOneLine n [] plain (All-nil IsOneLine);
      written = added.written
          ∙ (ap (λ x. x ++ noted_lines n) begun
          ∙ (append_assoc old (codes "~ CONNECTION ") (noted_lines n) ∙ ap (λ x. old ++ x) (sym (append-nil (connection_lines n)))));
    }

pub more_added : (old now new : List ℕ) → AreAdded old now → AreAdded now new → AreAdded old new
more_added old now new one other = record {
  connections = one.connections ++ other.connections;
  named = All-append IsOneLine one.connections other.connections one.named other.named;
  written = other.written
      ∙ (ap (λ x. x ++ flat_map connection_lines other.connections) one.written
      ∙ (append_assoc old (flat_map connection_lines one.connections) (flat_map connection_lines other.connections)
      ∙ ap (λ x. old ++ x) (sym (flat_map-append connection_lines one.connections other.connections))));
}

-- ---- lines, one after another

pub begun : (all line text : List ℕ) → line ≡ [] → text ≡ [] → IsBegun all all line text
begun all line text unbegun unwritten = record { noted = []; given = ap (λ x. x ++ all) (sym unbegun); written = unwritten }

pub turn : (all line text : List ℕ) (i d : ℕ) → i < length all → IsBegun all (drop i all) line text → IsBegun all (get_or all i d ∷ drop (i + 1) all) line text
turn all line text i d within h = record {
  noted = h.noted;
  given = h.given ∙ ap (λ x. flat_map bare_line h.noted ++ (line ++ x)) (at_drop_more (λ x. x) all i d within);
  written = h.written;
}

pub byte_more : (all rest line after text : List ℕ) (b : ℕ) → after ≡ line ++ b ∷ [] → IsBegun all (b ∷ rest) line text → IsBegun all rest after text
byte_more all rest line after text b grown h = record {
  noted = h.noted;
  given = h.given
      ∙ (ap (λ x. flat_map bare_line h.noted ++ x) (sym (append_assoc line (b ∷ []) rest))
      ∙ ap (λ x. flat_map bare_line h.noted ++ (x ++ rest)) (sym grown));
  written = h.written;
}

pub line_more : (all rest line shown after text new : List ℕ) (b : ℕ) → b ≡ 10 → shown ≡ line → after ≡ [] → IsBelow text shown new → IsBegun all (b ∷ rest) line text
    → IsBegun all rest after new
line_more all rest line shown after text new b feed same none said h =
    let n : Noted = record { line = line; notes = said.notes } in
    let before : List ℕ = flat_map bare_line h.noted in
    record {
      noted = h.noted ++ n ∷ [];
      given = h.given
          ∙ (ap (λ x. before ++ (line ++ x ∷ rest)) feed
          ∙ (ap (λ x. before ++ x) (sym (append_assoc line (10 ∷ []) rest))
          ∙ (sym (append_assoc before (line ++ 10 ∷ []) rest)
          ∙ (ap (λ x. x ++ rest) (flat_map_more bare_line [] h.noted n)
          ∙ ap (λ x. flat_map bare_line (h.noted ++ n ∷ []) ++ (x ++ rest)) (sym none)))));
      written = said.written
          ∙ (ap (λ x. text ++ (x ++ 10 ∷ indented true said.notes)) same
          ∙ (ap (λ x. x ++ (line ++ 10 ∷ indented true said.notes)) h.written ∙ flat_map_more noted_lines [] h.noted n));
    }

pub ended : (all rest line shown text new : List ℕ) → rest ≡ [] → shown ≡ line → IsBegun all rest line text → new ≡ text ++ shown → AreWritten all new
ended all rest line shown text new done same h is = record {
  noted = h.noted;
  rest = line;
  given = h.given ∙ ap (λ x. flat_map bare_line h.noted ++ x) (ap (λ x. line ++ x) done ∙ append-nil line);
  written = is ∙ (ap (λ x. text ++ x) same ∙ ap (λ x. x ++ line) h.written);
}

-- lines without notes
pub unnoted : (lines : List ℕ) → AreNoted lines lines
unnoted lines = record {
  behind = lines;
  written = record { noted = []; rest = lines; given = refl; written = refl };
  added = none_added lines;
}
