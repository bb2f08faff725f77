-- Octets received and sent on the line of a link, and a round of it.
use Rattle.std.proofs.Common.{◌≡◌, ◌∙◌, ℕ, ◌+◌, ◌-◌, ◌%◌, ◌<◌, ◌≤◌, ◌==◌, ◌&&◌, nat_le, Bool, true, false, if◌then◌else◌, List, [], ◌∷◌, ◌++◌, append-nil, append_assoc, length-drop, take-append-drop, length, take, drop, replicate, Result, Ok, Err, IfOk, refl, sym, ap, subst, arith}
use Rattle.std.proofs.lemmas.Bool.Decides.{nat_tests}
use Rattle.std.proofs.lemmas.List.{replicate_more, take_all}
use Rattle.line_filter.specs.Speaking.{Voice}
use Rattle.line_tending.specs.Tended.{Tended}
use Rattle.line_tending.specs.LinkLines.{Speaks, nothing, octet, GivesNext, HearsPart, Hears, no_part, one_part, PATIENCE, SILENCE, SILENT, rounds_on, ahead_at, heard_at, passed_by, passed_on, Waits, Passes, some, none}
use Rattle.line_tending.specs.declared.link_line.LineChange.{LineChange}
use Rattle.line_tending.specs.declared.link_line.LineChange.TheVariants.{Same, Silent, Back}
use Rattle.line_tending.specs.declared.link_line.LinkLine.{LinkLine}

pub speaks_nothing : (link : ℕ) (t : Tended) (v : Voice) (out : List ℕ) → Speaks link 0 t v out t v out
speaks_nothing link t v out = nothing t v out

-- As many octets as were to be sent.
pub speaks_all : (link count gone : ℕ) (t u : Tended) (v x : Voice) (out after : List ℕ) → Speaks link gone t v out u x after → gone ≤ count → count ≤ gone
    → Speaks link count t v out u x after
speaks_all link count gone t u v x out after speaks most least =
    let whole : gone ≡ count = omega arith in
    subst (λ (n : ℕ). Speaks link n t v out u x after) whole speaks

-- One more octet.
pub speaks_more : (link count : ℕ) (t u w : Tended) (v x y : Voice) (out after last : List ℕ) (gives : ℕ)
    → Speaks link count t v out u x after → GivesNext link u x gives w y → last ≡ after ++ gives ∷ []
    → Speaks link (count + 1) t v out w y last
speaks_more link count t u w v x y out after last gives before next is =
    subst (λ (xs : List ℕ). Speaks link (count + 1) t v out w y xs) (sym is) (octet gives before next)

-- ---- a round without received octets

none_low : (ahead q : ℕ) → q < PATIENCE → ahead_at ahead q ≡ []
none_low ahead q low =
    let e : nat_le PATIENCE q ≡ false = grind (arith, nat_tests) in
    ap (λ (b : Bool). if b && (q % PATIENCE == 0) then replicate ahead SILENCE else []) e

none_between : (ahead q : ℕ) → PATIENCE ≤ q → (q % PATIENCE ≡ 0 → ⊥) → ahead_at ahead q ≡ []
none_between ahead q high between =
    let e : nat_le PATIENCE q ≡ true = grind (arith, nat_tests) in
    let f : (q % PATIENCE == 0) ≡ false = grind (arith, nat_tests) in
    ap (λ (b : Bool). if b && (q % PATIENCE == 0) then replicate ahead SILENCE else []) e
    ∙ ap (λ (b : Bool). if b then replicate ahead SILENCE else []) f

each_thousand : (ahead q : ℕ) → PATIENCE ≤ q → q % PATIENCE ≡ 0 → ahead_at ahead q ≡ replicate ahead SILENCE
each_thousand ahead q high whole =
    let e : nat_le PATIENCE q ≡ true = grind (arith, nat_tests) in
    let f : (q % PATIENCE == 0) ≡ true = grind (arith, nat_tests) in
    ap (λ (b : Bool). if b && (q % PATIENCE == 0) then replicate ahead SILENCE else []) e
    ∙ ap (λ (b : Bool). if b then replicate ahead SILENCE else []) f

passed_same : (q : ℕ) → (q ≡ PATIENCE → ⊥) → Same ≡ passed_by q
passed_same q not =
    let e : (q == PATIENCE) ≡ false = grind (arith, nat_tests) in
    sym (ap (λ (b : Bool). if b then Silent else Same) e)

passed_silent : (q : ℕ) → q ≡ PATIENCE → Silent ≡ passed_by q
passed_silent q is =
    let e : (q == PATIENCE) ≡ true = grind (arith, nat_tests) in
    sym (ap (λ (b : Bool). if b then Silent else Same) e)

-- Sending 1s.
pub silent_none : (out : List ℕ) → out ≡ out ++ replicate 0 SILENCE
silent_none out = sym (append-nil out)

pub silent_more : (out before after : List ℕ) (gone : ℕ) → before ≡ out ++ replicate gone SILENCE → after ≡ before ++ SILENCE ∷ []
    → after ≡ out ++ replicate (gone + 1) SILENCE
silent_more out before after gone is pushed =
    pushed
    ∙ (ap (λ (xs : List ℕ). xs ++ SILENCE ∷ []) is
    ∙ (append_assoc out (replicate gone SILENCE) (SILENCE ∷ []) ∙ ap (λ (xs : List ℕ). out ++ xs) (replicate_more gone SILENCE)))

pub silent_all : (out after : List ℕ) (ahead gone : ℕ) → after ≡ out ++ replicate gone SILENCE → gone ≤ ahead → ahead ≤ gone
    → after ≡ out ++ replicate ahead SILENCE
silent_all out after ahead gone is most least =
    let whole : gone ≡ ahead = omega arith in
    is ∙ ap (λ (n : ℕ). out ++ replicate n SILENCE) whole

-- ---- octets heard

none_in : (octets : List ℕ) → length octets ≡ 0 → octets ≡ []
none_in [] none_there = refl
none_in (x ∷ octets) none_there = absurd (omega (arith, none_there))

-- All octets after the first `gone`.
pub all_behind : (octets : List ℕ) (gone : ℕ) → take (length octets - gone) (drop gone octets) ≡ drop gone octets
all_behind octets gone = take_all (length octets - gone) (drop gone octets) (omega (arith, length-drop gone octets))

pub is_none : (octets : List ℕ) (b : Bool) → b ≡ (length octets == 0) → b ≡ true → octets ≡ []
is_none octets b is shown = none_in octets (grind (arith, nat_tests))

pub is_some_there : (octets : List ℕ) (b : Bool) → b ≡ (length octets == 0) → b ≡ false → 0 < length octets
is_some_there octets b is denied = grind (arith, nat_tests)

-- Some first octets were heard, the rest not yet.
pub record HeardSoFar (link : ℕ) (t : Tended) (octets rest : List ℕ) (u : Tended) : Type 0 where
  pub heard : List ℕ
  pub hears : Hears link t heard u
  pub parts : octets ≡ heard ++ rest

pub heard_none : (link : ℕ) (t : Tended) (octets : List ℕ) → HeardSoFar link t octets octets t
heard_none link t octets = record { heard = []; hears = no_part; parts = refl }

pub heard_more : (link : ℕ) (t u w : Tended) (octets rest left : List ℕ) → HeardSoFar link t octets rest u → HearsPart link u rest left w
    → HeardSoFar link t octets left w
heard_more link t u w octets rest left before part = record {
  heard = before.heard ++ take part.taken rest;
  hears = one_part rest left before.hears part;
  parts =
      before.parts
      ∙ (ap (λ (xs : List ℕ). before.heard ++ xs) (sym (take-append-drop part.taken rest) ∙ ap (λ (xs : List ℕ). take part.taken rest ++ xs) (sym part.left_is))
      ∙ sym (append_assoc before.heard (take part.taken rest) left));
}

pub heard_all : (link : ℕ) (t u : Tended) (octets rest : List ℕ) → HeardSoFar link t octets rest u → rest ≡ [] → Hears link t octets u
heard_all link t u octets rest before none_left =
    let whole : before.heard ≡ octets = sym (before.parts ∙ (ap (λ (xs : List ℕ). before.heard ++ xs) none_left ∙ append-nil before.heard)) in
    subst (λ (xs : List ℕ). Hears link t xs u) whole before.hears

hears_nothing : (link q : ℕ) (t : Tended) → q < PATIENCE → Hears link t (heard_at q) t
hears_nothing link q t low =
    let e : nat_le PATIENCE q ≡ false = grind (arith, nat_tests) in
    subst (λ (xs : List ℕ). Hears link t xs t) (sym (ap (λ (b : Bool). if b then SILENT else []) e)) no_part

hears_silence : (link q : ℕ) (t u : Tended) → PATIENCE ≤ q → Hears link t SILENT u → Hears link t (heard_at q) u
hears_silence link q t u high hears =
    let e : nat_le PATIENCE q ≡ true = grind (arith, nat_tests) in
    subst (λ (xs : List ℕ). Hears link t xs u) (sym (ap (λ (b : Bool). if b then SILENT else []) e)) hears

-- ---- a round without received octets

-- The line doesn't count as silent yet.
pub waits_on : (link ahead quiet next : ℕ) (t : Tended) (out : List ℕ) → next ≡ rounds_on quiet → next < PATIENCE
    → Waits link ahead quiet t out Same t out next
waits_on link ahead quiet next t out next_is low = record {
  next_is = next_is;
  hears = hears_nothing link next t low;
  out_is = sym (ap (λ (xs : List ℕ). out ++ xs) (none_low ahead next low) ∙ append-nil out);
  passed_is = passed_same next (λ is. omega arith);
}

-- The line is silent, and no 1s are sent in this round.
pub waits_between : (link ahead quiet next : ℕ) (t u : Tended) (out : List ℕ) → next ≡ rounds_on quiet → PATIENCE ≤ next → (next % PATIENCE ≡ 0 → ⊥)
    → Hears link t SILENT u → Waits link ahead quiet t out Same u out next
waits_between link ahead quiet next t u out next_is high between hears = record {
  next_is = next_is;
  hears = hears_silence link next t u high hears;
  out_is = sym (ap (λ (xs : List ℕ). out ++ xs) (none_between ahead next high between) ∙ append-nil out);
  passed_is = passed_same next (λ is. between (ap (λ (n : ℕ). n % PATIENCE) is));
}

-- The line falls silent.
pub waits_first : (link ahead quiet next : ℕ) (t u : Tended) (out after : List ℕ) → next ≡ rounds_on quiet → next ≡ PATIENCE
    → after ≡ out ++ replicate ahead SILENCE → Hears link t SILENT u → Waits link ahead quiet t out Silent u after next
waits_first link ahead quiet next t u out after next_is first after_is hears = record {
  next_is = next_is;
  hears = hears_silence link next t u (omega (arith, first)) hears;
  out_is = after_is ∙ sym (ap (λ (xs : List ℕ). out ++ xs) (each_thousand ahead next (omega (arith, first)) (ap (λ (n : ℕ). n % PATIENCE) first)));
  passed_is = passed_silent next first;
}

-- The line is silent, and 1s are sent again.
pub waits_anew : (link ahead quiet next : ℕ) (t u : Tended) (out after : List ℕ) → next ≡ rounds_on quiet → PATIENCE ≤ next → next % PATIENCE ≡ 0
    → (next ≡ PATIENCE → ⊥) → after ≡ out ++ replicate ahead SILENCE → Hears link t SILENT u → Waits link ahead quiet t out Same u after next
waits_anew link ahead quiet next t u out after next_is high whole later after_is hears = record {
  next_is = next_is;
  hears = hears_silence link next t u high hears;
  out_is = after_is ∙ sym (ap (λ (xs : List ℕ). out ++ xs) (each_thousand ahead next high whole));
  passed_is = passed_same next later;
}

-- ---- a round

pub passes_none : {E : Type 0} (r : Result LineChange E) (link ahead : ℕ) (came : List ℕ) (old : Tended) (w : LinkLine) (out : List ℕ) (new : Tended) (x : LinkLine)
    (after : List ℕ) → came ≡ [] → x.voice ≡ w.voice → IfOk r (λ (passed : LineChange). Waits link ahead w.quiet old out passed new after x.quiet)
    → IfOk r (λ (passed : LineChange). Passes link ahead came old w out passed new x after)
passes_none (Ok passed) link ahead came old w out new x after empty voice waits = none empty voice waits
passes_none (Err e) link ahead came old w out new x after empty voice waits = tt

passed_back : (quiet : ℕ) → PATIENCE ≤ quiet → Back ≡ passed_on quiet
passed_back quiet high =
    let e : nat_le PATIENCE quiet ≡ true = grind (arith, nat_tests) in
    sym (ap (λ (b : Bool). if b then Back else Same) e)

passed_still : (quiet : ℕ) → quiet < PATIENCE → Same ≡ passed_on quiet
passed_still quiet low =
    let e : nat_le PATIENCE quiet ≡ false = grind (arith, nat_tests) in
    sym (ap (λ (b : Bool). if b then Back else Same) e)

pub passes_some : (link ahead count : ℕ) (came : List ℕ) (old heard : Tended) (w : LinkLine) (out : List ℕ) (passed : LineChange) (new : Tended) (x : LinkLine)
    (after : List ℕ) → 0 < length came → count ≡ length came → Hears link old came heard → Speaks link count heard w.voice out new x.voice after
    → x.quiet ≡ 0 → passed ≡ passed_on w.quiet → Passes link ahead came old w out passed new x after
passes_some link ahead count came old heard w out passed new x after more count_is hears speaks quiet passed_is =
    some heard more hears (subst (λ (n : ℕ). Speaks link n heard w.voice out new x.voice after) count_is speaks) quiet passed_is

pub passes_back : (link ahead count : ℕ) (came : List ℕ) (old heard : Tended) (w : LinkLine) (out : List ℕ) (new : Tended) (x : LinkLine) (after : List ℕ)
    → 0 < length came → count ≡ length came → Hears link old came heard → Speaks link count heard w.voice out new x.voice after → x.quiet ≡ 0
    → PATIENCE ≤ w.quiet → Passes link ahead came old w out Back new x after
passes_back link ahead count came old heard w out new x after more count_is hears speaks quiet high =
    passes_some link ahead count came old heard w out Back new x after more count_is hears speaks quiet (passed_back w.quiet high)

pub passes_still : (link ahead count : ℕ) (came : List ℕ) (old heard : Tended) (w : LinkLine) (out : List ℕ) (new : Tended) (x : LinkLine) (after : List ℕ)
    → 0 < length came → count ≡ length came → Hears link old came heard → Speaks link count heard w.voice out new x.voice after → x.quiet ≡ 0
    → w.quiet < PATIENCE → Passes link ahead came old w out Same new x after
passes_still link ahead count came old heard w out new x after more count_is hears speaks quiet low =
    passes_some link ahead count came old heard w out Same new x after more count_is hears speaks quiet (passed_still w.quiet low)
