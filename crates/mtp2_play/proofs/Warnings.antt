-- The lines of warnings, one more after others.
use Rattle.std.proofs.Common.{◌≡◌, ◌⊎◌, ◌+◌, ◌-◌, ◌<◌, ◌≤◌, ◌==◌, ℕ, zero, suc, Bool, true, false, not, List, [], ◌∷◌, ◌++◌, Ok, IfOk, Err, Result, length, take, get_or, min, string_bytes, nat_lt, refl, sym, ap, subst, ◌∙◌, inl, inr, append_assoc, arith, lt-ltb, ltb-true, ltb-false, ne_eqb}
use Rattle.std.specs.declared.alloc.AllocError.{AllocError}
use Rattle.std.specs.Global.{Vec}
use Rattle.std.specs.List.{AllZip, flat_map}
use Rattle.std.proofs.lemmas.Bool.{cases_eq}
use Rattle.std.proofs.lemmas.List.{append-nil, nil_from_length, take_all}
use Rattle.std.proofs.lemmas.List.Sorted.{length_permutation}
use Rattle.std.proofs.lemmas.Grind.{flat_map-append}
use Rattle.plain_laws.proofs.Pairwise.{zip_push}
use Rattle.sdl_tables.proofs.Growing.{taken_more}
use Rattle.sdl_lex.specs.Lexed.{Answers}
use Rattle.sdl_lex.specs.declared.lexemes.Token.{Token}
use Rattle.sdl_tree.specs.Syntax.{Reads}
use Rattle.sdl_tables.specs.Plain.{PlainBlock}
use Rattle.turn_verify.specs.Meanings.{meaning_of}
use Rattle.script_point.specs.Pointed.{IsPointed, IsHead, IsBegin, IsEnd}
use Rattle.script_point.specs.Pointing.{token_end}
use Rattle.script_point.specs.declared.notes.Notes.{Notes}
use Rattle.sdl_warnings.specs.Printed.{kind_name, kind_text}
use Rattle.sdl_warnings.specs.Warned.{AreWarnings, text_warnings}
use Rattle.sdl_warnings.specs.declared.warning.Warning.{Warning}
use Rattle.mtp2_words.specs.declared.requests.Warned.{Warned}
use Rattle.mtp2_words.specs.declared.requests.Warned.TheVariants.{Unsaid, Told, Counted}
use Rattle.mtp2_play.specs.Checking.{IsWarned, IsUnwarned, warned_status}
use Rattle.mtp2_play.specs.Warned.{IsMeant, IsLong, IsShort, PointsWhole, IsWarning, AreTold, WarnsOf, MOST_SHOWN, warned_at}

-- ---- the lines of one warning

pub is_long : (text : List ℕ) (place begin end : ℕ) → IsBegin text place begin → IsEnd text place end → nat_lt MOST_SHOWN (end - begin) ≡ true → IsLong text place
is_long text place begin end from to long = record {
  begin = begin;
  end = end;
  from = from;
  to = to;
  long = omega (arith, ltb-true MOST_SHOWN (end - begin) long);
}

pub is_short : (text : List ℕ) (place begin end : ℕ) → IsBegin text place begin → IsEnd text place end → nat_lt MOST_SHOWN (end - begin) ≡ false → IsShort text place
is_short text place begin end from to short = record {
  begin = begin;
  end = end;
  from = from;
  to = to;
  short = omega (arith, ltb-false MOST_SHOWN (end - begin) short);
}

pub whole : (r : Result (Vec ℕ) AllocError) (text : List ℕ) (tokens : List Token) (w : Warning) (notes : Notes) (end : ℕ) (name : List ℕ) → string_bytes notes.said ≡ kind_text w.kind
    → string_bytes notes.under ≡ [] → string_bytes notes.hint ≡ [] → end ≡ token_end tokens w.at → name ≡ kind_name w.kind
    → IfOk r (λ v. IsPointed text (record { start = w.at; end = end }) name notes v.items) → IfOk r (λ v. PointsWhole text tokens w v.items)
whole (Err e) text tokens w notes end name said under hint to named h = tt
whole (Ok v) text tokens w notes end name said under hint to named h = record {
  notes = notes;
  said = said;
  under = under;
  hint = hint;
  points =
      let P : ℕ → Type 0 = λ n. IsPointed text (record { start = w.at; end = n }) (kind_name w.kind) notes v.items in
      let Q : List ℕ → Type 0 = λ l. IsPointed text (record { start = w.at; end = end }) l notes v.items in
      subst P to (subst Q named h);
}

-- only its place and its sentence
pub by_head : (r : Result (Vec ℕ) AllocError) (bytes text : List ℕ) (tokens : List Token) (w : Warning) (place : ℕ) (name said : List ℕ) → bytes ≡ text → place ≡ min w.at (length bytes)
    → name ≡ kind_name w.kind → said ≡ kind_text w.kind → IsLong bytes place → IfOk r (λ v. IsHead bytes (min place (length bytes)) name said v.items)
    → IfOk r (λ v. IsWarning text tokens w v.items)
by_head (Err e) bytes text tokens w place name said same at named told long h = tt
by_head (Ok v) bytes text tokens w place name said same at named told long h =
    let twice : min place (length bytes) ≡ place = omega (arith, at) in
    let N : ℕ → Type 0 = λ n. IsHead bytes n name said v.items in
    let M : List ℕ → Type 0 = λ l. IsHead bytes place l said v.items in
    let S : List ℕ → Type 0 = λ l. IsHead bytes place (kind_name w.kind) l v.items in
    let head : IsHead bytes place (kind_name w.kind) (kind_text w.kind) v.items = subst S told (subst M named (subst N twice h)) in
    let B : ℕ → Type 0 = λ n. IsLong bytes n × IsHead bytes n (kind_name w.kind) (kind_text w.kind) v.items in
    let T : List ℕ → Type 0 = λ l. IsLong l (warned_at l w) × IsHead l (warned_at l w) (kind_name w.kind) (kind_text w.kind) v.items in
    inr (subst T same (subst B at (long, head)))

-- all its lines
pub by_all : (r : Result (Vec ℕ) AllocError) (bytes text : List ℕ) (tokens : List Token) (w : Warning) (place : ℕ) → bytes ≡ text → place ≡ min w.at (length bytes)
    → IsShort bytes place → IfOk r (λ v. PointsWhole bytes tokens w v.items) → IfOk r (λ v. IsWarning text tokens w v.items)
by_all (Err e) bytes text tokens w place same at short h = tt
by_all (Ok v) bytes text tokens w place same at short h =
    let B : ℕ → Type 0 = λ n. IsShort bytes n × PointsWhole bytes tokens w v.items in
    let T : List ℕ → Type 0 = λ l. IsShort l (warned_at l w) × PointsWhole l tokens w v.items in
    inl (subst T same (subst B at (short, h)))

-- ---- the lines of several

pub none_told : (name text : List ℕ) (tokens : List Token) (old : List ℕ) → AreTold name text tokens [] old old
none_told name text tokens old = record { each = []; point = tt; all = sym (append-nil old) }

pub one_told : (name text : List ℕ) (tokens : List Token) (w : Warning) (lines whole old new : List ℕ) → IsWarning text tokens w lines → whole ≡ name ++ lines → new ≡ old ++ whole
    → AreTold name text tokens (w ∷ []) old new
one_told name text tokens w lines whole old new is called then_whole = record {
  each = lines ∷ [];
  point = (is, tt);
  all = then_whole ∙ ap (λ l. old ++ l) (called ∙ sym (append-nil (name ++ lines)));
}

one_more : (name text : List ℕ) (tokens : List Token) (ws : List Warning) (w : Warning) (start now new : List ℕ) → AreTold name text tokens ws start now
    → AreTold name text tokens (w ∷ []) now new → AreTold name text tokens (ws ++ w ∷ []) start new
one_more name text tokens ws w start now new before one = two one.each one.point one.all
  where
    two : (each : List (List ℕ)) → AllZip (IsWarning text tokens) (w ∷ []) each → new ≡ now ++ flat_map (λ lines. name ++ lines) each → AreTold name text tokens (ws ++ w ∷ []) start new
    two [] point all = absurd point
    two (lines ∷ []) point all = record {
      each = before.each ++ lines ∷ [];
      point = zip_push (IsWarning text tokens) ws before.each w lines before.point point.0;
      all =
          all ∙ (ap (λ l. l ++ flat_map (λ k. name ++ k) (lines ∷ [])) before.all
          ∙ (append_assoc start (flat_map (λ k. name ++ k) before.each) (flat_map (λ k. name ++ k) (lines ∷ []))
          ∙ ap (λ l. start ++ l) (sym (flat_map-append (λ k. name ++ k) before.each (lines ∷ [])))));
    }
    two (lines ∷ other ∷ more) point all = absurd point.1

pub more_told : (name text : List ℕ) (tokens : List Token) (ws : List Warning) (i : ℕ) (w : Warning) (start now new : List ℕ) → i < length ws → w ≡ get_or ws i w
    → AreTold name text tokens (take i ws) start now → AreTold name text tokens (w ∷ []) now new → AreTold name text tokens (take (i + 1) ws) start new
more_told name text tokens ws i w start now new lt is before one =
    let P : List Warning → Type 0 = λ l. AreTold name text tokens l start new in
    subst P (sym (taken_more ws i w lt is)) (one_more name text tokens (take i ws) w start now new before one)

pub all_told : (name text : List ℕ) (tokens : List Token) (ws : List Warning) (i : ℕ) (start now : List ℕ) → length ws ≤ i → AreTold name text tokens (take i ws) start now
    → AreTold name text tokens ws start now
all_told name text tokens ws i start now past told =
    let P : List Warning → Type 0 = λ l. AreTold name text tokens l start now in subst P (take_all i ws past) told

-- ---- the warnings of a text

not_zero : (n : ℕ) → not (n == 0) ≡ nat_lt 0 n
not_zero n = elim (cases_eq n 0) [
  | inl e ↦ (let P : ℕ → Type 0 = λ k. not (k == 0) ≡ nat_lt 0 k in subst P (sym e) refl)
  | inr other ↦ ap not (ne_eqb n 0 other) ∙ sym (lt-ltb 0 n (omega (arith, other)))
]

pub text_warned : (name text : List ℕ) (tokens : List Token) (written block : PlainBlock) (found shown seen : List Warning) (old new : List ℕ) (none : Bool) → Answers text (Ok tokens)
    → Reads tokens written → block ≡ meaning_of written → AreWarnings written block found → shown ≡ found → seen ≡ found → AreTold name text tokens shown old new → none ≡ (length seen == 0) → WarnsOf name text old new (not none)
text_warned name text tokens written block found shown seen old new none lexed reads means are same sees told empty = record {
  tokens = tokens;
  lexed = lexed;
  block = block;
  meant = record { written = written; reads = reads; means = means };
  found = found;
  are = are;
  told = let P : List Warning → Type 0 = λ l. AreTold name text tokens l old new in subst P same told;
  is_some = ap not (empty ∙ ap (λ (l : List Warning). length l == 0) sees) ∙ not_zero (length found);
}

-- ---- the exit status

warned_by_one : (name text old new : List ℕ) → WarnsOf name text old new true → IsWarned text
warned_by_one name text old new w = record {
  tokens = w.tokens;
  lexed = w.lexed;
  block = w.block;
  meant = w.meant;
  some = λ none.
      let many = ltb-true 0 (length w.found) (sym w.is_some) in
      let count = length_permutation (text_warnings w.meant.written w.block) w.found w.are.all in
      let few = ap length none in
      (let bad : ⊥ = omega (arith, many, count, few) in bad);
}

unwarned_by_none : (name text old new : List ℕ) → WarnsOf name text old new false → IsUnwarned text
unwarned_by_none name text old new w = record {
  tokens = w.tokens;
  lexed = w.lexed;
  block = w.block;
  meant = w.meant;
  none =
      let few = ltb-false 0 (length w.found) (sym w.is_some) in
      let count = length_permutation (text_warnings w.meant.written w.block) w.found w.are.all in
      nil_from_length (text_warnings w.meant.written w.block) (omega (arith, few, count));
}

pub counted_by : (name text old new : List ℕ) (warned : Warned) (some : Bool) (status : ℕ) → WarnsOf name text old new some → status ≡ warned_status warned some → status ≡ 1 → IsWarned text
counted_by name text old new Unsaid some status w is one = absurd (let bad : ⊥ = omega (arith, is, one) in bad)
counted_by name text old new Told some status w is one = absurd (let bad : ⊥ = omega (arith, is, one) in bad)
counted_by name text old new Counted true status w is one = warned_by_one name text old new w
counted_by name text old new Counted false status w is one = absurd (let bad : ⊥ = omega (arith, is, one) in bad)

pub asked_by : (warned : Warned) (some : Bool) (status : ℕ) → status ≡ warned_status warned some → status ≡ 1 → warned ≡ Counted
asked_by Unsaid some status is one = absurd (let bad : ⊥ = omega (arith, is, one) in bad)
asked_by Told some status is one = absurd (let bad : ⊥ = omega (arith, is, one) in bad)
asked_by Counted some status is one = refl

pub clean_by : (name text old new : List ℕ) (warned : Warned) (some : Bool) (status : ℕ) → WarnsOf name text old new some → status ≡ warned_status warned some → warned ≡ Counted → status ≡ 0
    → IsUnwarned text
clean_by name text old new Unsaid some status w is asked none = absurd (let bad : ⊥ = cc in bad)
clean_by name text old new Told some status w is asked none = absurd (let bad : ⊥ = cc in bad)
clean_by name text old new Counted true status w is asked none = absurd (let bad : ⊥ = omega (arith, is, none) in bad)
clean_by name text old new Counted false status w is asked none = unwarned_by_none name text old new w

pub ended_by : (warned : Warned) (some : Bool) (status : ℕ) → status ≡ warned_status warned some → (status ≡ 0) ⊎ (status ≡ 1) ⊎ (status ≡ 4)
ended_by Unsaid some status is = inl is
ended_by Told some status is = inl is
ended_by Counted true status is = inr (inl is)
ended_by Counted false status is = inl is
