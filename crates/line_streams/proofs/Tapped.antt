-- The records of a tap, octet by octet.
use Rattle.std.proofs.Common.{◌≡◌, ℕ, ◌+◌, ◌-◌, ◌<◌, ◌≤◌, zero, suc, Bool, List, [], ◌∷◌, ◌++◌, length, map, take, drop, get_or, Option, refl, sym, ap, ◌∙◌, subst, append_assoc, append-nil, arith}
use Rattle.std.specs.List.{flat_map}
use Rattle.std.specs.Io.KnownBytes.{Appends}
use Rattle.std.proofs.lemmas.List.{map_push, take_more, take_all, length-drop}
use Rattle.rtrb.specs.Ring.{received}
use Rattle.line_filter.specs.Filters.{turned}
use Rattle.line_filter.specs.declared.filter.Bits.{Bits}
use Rattle.line_streams.specs.declared.seen.Seen.{Seen}
use Rattle.line_streams.specs.declared.taps.OutTap.{OutTap}
use Rattle.line_streams.specs.Records.{record_of}
use Rattle.line_streams.specs.Repeats.{kept}
use Rattle.line_streams.specs.Capturing.{Captures, listed}
use Rattle.line_streams.specs.Tapping.{HasTapped}
use Rattle.line_streams.proofs.Exchanging.{written}

turned_one : (bits : Bits) (xs all : List ℕ) (x y : ℕ) → y ≡ turned bits x → all ≡ xs ++ x ∷ [] → map (turned bits) xs ++ y ∷ [] ≡ map (turned bits) all
turned_one bits xs all x y is are =
    ap (λ z. map (turned bits) xs ++ z ∷ []) is ∙ sym (map_push (turned bits) xs x) ∙ ap (map (turned bits)) (sym are)

-- One more octet in each direction.
pub tapped_one : {W S : Type 0} (contents : S → Option (List ℕ)) (before : Option (List ℕ)) (gone : List ℕ) (octet octet_in out come : ℕ) (seen : List Seen)
    (old new : OutTap W S) (mid : Option (List ℕ)) (went came : Option Seen) → HasTapped contents before gone seen old → new.bits ≡ old.bits
    → out ≡ turned old.bits octet → come ≡ turned old.bits octet_in → received new.octets ≡ received old.octets ++ octet_in ∷ []
    → new.capture.repeats.every ≡ old.capture.repeats.every
    → ((first second : List ℕ) (units : List Seen) → Captures first second units old.capture → (more : List Seen)
    × Captures (first ++ out ∷ []) (second ++ come ∷ []) more new.capture
    × (kept old.capture.repeats.every more ≡ listed came ++ (listed went ++ kept old.capture.repeats.every units)))
    → Appends (contents old.sink) mid (flat_map record_of (listed went)) → Appends mid (contents new.sink) (flat_map record_of (listed came))
    → (more : List Seen) × HasTapped contents before (gone ++ octet ∷ []) more new
tapped_one contents before gone octet octet_in out come seen old new mid went came has bits is_out is_come ring every exchanges first second =
    let made = exchanges (map (turned old.bits) gone) (map (turned old.bits) (received old.octets)) seen has.captures in
    let P : List ℕ → Type 0 = λ xs. Captures xs (map (turned old.bits) (received old.octets) ++ come ∷ []) made.0 new.capture in
    let Q : List ℕ → Type 0 = λ ys. Captures (map (turned old.bits) (gone ++ octet ∷ [])) ys made.0 new.capture in
    let R : Bits → Type 0 = λ b. Captures (map (turned b) (gone ++ octet ∷ [])) (map (turned b) (received new.octets)) made.0 new.capture in (
      made.0,
      record {
        captures = subst R (sym bits) (subst Q (turned_one old.bits (received old.octets) (received new.octets) octet_in come is_come ring)
            (subst P (turned_one old.bits gone (gone ++ octet ∷ []) octet out is_out refl) made.1));
        file = written before (contents old.sink) mid (contents new.sink) old.capture.repeats.every new.capture.repeats.every seen made.0 went came every made.2 has.file
            first second;
      },
    )

-- ---- octets in succession

pub record Went {W S : Type 0} (contents : S → Option (List ℕ)) (octets : List ℕ) (old new : OutTap W S) : Type 0 where
  pub tapped : (before : Option (List ℕ)) (gone : List ℕ) (seen : List Seen) → HasTapped contents before gone seen old
      → (more : List Seen) × HasTapped contents before (gone ++ octets) more new
  pub writer : new.writer ≡ old.writer
  pub ahead : new.ahead ≡ old.ahead

pub went_none : {W S : Type 0} (contents : S → Option (List ℕ)) (t : OutTap W S) → Went contents [] t t
went_none contents t = record {
  tapped = λ before gone seen has. (let P : List ℕ → Type 0 = λ xs. HasTapped contents before xs seen t in (seen, subst P (sym (append-nil gone)) has));
  writer = refl;
  ahead = refl;
}

pub went_more : {W S : Type 0} (contents : S → Option (List ℕ)) (octets : List ℕ) (i d : ℕ) (old mid new : OutTap W S) → i < length octets
    → Went contents (take i octets) old mid → ((before : Option (List ℕ)) (gone : List ℕ) (seen : List Seen) → HasTapped contents before gone seen mid
    → (more : List Seen) × HasTapped contents before (gone ++ get_or octets i d ∷ []) more new)
    → new.writer ≡ mid.writer → new.ahead ≡ mid.ahead → Went contents (take (i + 1) octets) old new
went_more contents octets i d old mid new within went goes writer ahead = record {
  tapped = λ before gone seen has.
      (let first = went.tapped before gone seen has in
      let second = goes before (gone ++ take i octets) first.0 first.1 in
      let P : List ℕ → Type 0 = λ xs. HasTapped contents before xs second.0 new in
      (second.0, subst P (append_assoc gone (take i octets) (get_or octets i d ∷ []) ∙ ap (λ l. gone ++ l) (sym (take_more octets i d within))) second.1));
  writer = writer ∙ went.writer;
  ahead = ahead ∙ went.ahead;
}

pub went_all : {W S : Type 0} (contents : S → Option (List ℕ)) (octets : List ℕ) (i : ℕ) (old new : OutTap W S) → length octets ≤ i
    → Went contents (take i octets) old new → Went contents octets old new
went_all contents octets i old new over went =
    let P : List ℕ → Type 0 = λ xs. Went contents xs old new in subst P (take_all i octets over) went

-- ---- octets after those that go ahead

-- The number of octets that go ahead doesn't affect the records.
pub same_tapped : {W S : Type 0} (contents : S → Option (List ℕ)) (before : Option (List ℕ)) (gone : List ℕ) (seen : List Seen) (ahead : ℕ) (t : OutTap W S)
    → HasTapped contents before gone seen t → HasTapped contents before gone seen (record t { ahead = ahead })
same_tapped contents before gone seen ahead t has = record { captures = has.captures; file = has.file }

pub tail_is : (xs : List ℕ) (n : ℕ) → take (length xs - n) (drop n xs) ≡ drop n xs
tail_is xs n = take_all (length xs - n) (drop n xs) (let e : length (drop n xs) ≤ length xs - n = omega (arith, length-drop n xs) in e)
