-- Plays with the coverage of the set's text.
use Rattle.std.proofs.Common.{◌≡◌, ◌∙◌, ℕ, List, [], ◌∷◌, ◌++◌, Option, None, Some, Result, Ok, Err, IfOk, IfSome, false, length, nat_lt, refl, sym, ap, subst}
use Rattle.std.specs.Global.{Vec}
use Rattle.plain_text.specs.Reading.{LONGEST, IsReading}
use Rattle.plain_text.specs.declared.reading.TextRead.{TextRead}
use Rattle.turn_code.specs.declared.draft.Draft.{Draft}
use Rattle.script_check.proofs.Long.{all_kept}
use Rattle.script_check.specs.Checked.{IsSetOf, IsFound, IsGiven, IsAccepted, PrintsRefusal}
use Rattle.script_check.specs.declared.sets.FoundSet.{FoundSet}
use Rattle.mtp2_text.specs.declared.limits.TextLimits.{TextLimits}
use Rattle.script_seen.specs.Turn.{Turn}
use Rattle.script_seen.specs.Watched.{Notice, TurnEnd, Throw as OneThrow, ends, throws}
use Rattle.script_covered.specs.Texts.{IsCovering, IsLcov}
use Rattle.script_covered.specs.declared.text_coverage.TextCoverage.{TextCoverage}
use Rattle.script_play.specs.Played.{IsOnSet, IsRefused, set_refused, script_refused}
use Rattle.script_play.specs.Seen.{IsToldTo, IsPlayTold, IsPlayToldInPart, turns_run, IsCoveredBy, IsTextCovered, IsTextCoveredInPart, IsPlaySeen, IsPlaySeenInPart}
use Rattle.script_play.specs.declared.seeing.Wanted.{Wanted}
use Rattle.script_play.specs.declared.seeing.Wanted.TheVariants.{Coverage}

-- ---- a turn that ends, and an item that is discarded

runs_more : (ns : List Notice) (t : TurnEnd) → turns_run ns ++ t.turn ∷ [] ≡ turns_run (ns ++ ends t ∷ [])
runs_more [] t = refl
runs_more (ends s ∷ ns) t = ap (λ (l : List Turn). s.turn ∷ l) (runs_more ns t)
runs_more (throws x ∷ ns) t = runs_more ns t

runs_same : (ns : List Notice) (x : OneThrow) → turns_run ns ≡ turns_run (ns ++ throws x ∷ [])
runs_same [] x = refl
runs_same (ends s ∷ ns) x = ap (λ (l : List Turn). s.turn ∷ l) (runs_same ns x)
runs_same (throws y ∷ ns) x = runs_same ns x

pub covering_end : (ns : List Notice) (t : TurnEnd) (u : Turn) (c : TextCoverage) → u ≡ t.turn → IsCovering (turns_run ns ++ u ∷ []) c → IsCovering (turns_run (ns ++ ends t ∷ [])) c
covering_end ns t u c is known = subst (λ (l : List Turn). IsCovering l c) (ap (λ (v : Turn). turns_run ns ++ v ∷ []) is ∙ runs_more ns t) known

pub covering_throw : (ns : List Notice) (x : OneThrow) (c : TextCoverage) → IsCovering (turns_run ns) c → IsCovering (turns_run (ns ++ throws x ∷ [])) c
covering_throw ns x c known = subst (λ (l : List Turn). IsCovering l c) (runs_same ns x) known

-- ---- the report at the end

pub covered_to : {E : Type 0} (r : Result (Vec ℕ) E) (old new : Option (List ℕ)) (name text : List ℕ) (c : TextCoverage) → IsToldTo r old new
    → IfOk r (λ v. (ts : List Turn) → IsCovering ts c → IsLcov name text ts v.items) → (ns : List Notice) → IsCovering (turns_run ns) c → IsCoveredBy name text old new ns
covered_to (Ok v) old new name text c told is ns known = record { out = v.items; is_lcov = is (turns_run ns) known; written = told }
covered_to (Err e) old new name text c told is ns known = absurd told

-- ---- a text that is known, or isn't

given_as : (known : Option (List ℕ)) (bytes : List ℕ) (P : List ℕ → Type 0) → IfSome known (λ all. bytes ≡ all) → IsGiven (Some bytes) P → IsGiven known P
given_as None bytes P is g = record { bytes = g.bytes; are_known = tt; holds = g.holds }
given_as (Some all) bytes P is g = record { bytes = g.bytes; are_known = g.are_known ∙ is; holds = g.holds }

known_as : (known : Option (List ℕ)) (bytes text : List ℕ) → IfSome known (λ all. bytes ≡ all) → text ≡ bytes → IfSome known (λ all. text ≡ all)
known_as None bytes text is same = tt
known_as (Some all) bytes text is same = same ∙ is

-- a text that isn't too long is kept whole
pub is_kept : (known : Option (List ℕ)) (read : TextRead) (bytes : List ℕ) → IsReading known read → nat_lt LONGEST (length read.kept.items) ≡ false → bytes ≡ read.kept.items
    → IfSome known (λ all. bytes ≡ all)
is_kept known read bytes r short is = known_as known r.bytes bytes r.are_known (is ∙ all_kept r.bytes read r.keeps short)

pub accepted_as : (known : Option (List ℕ)) (bytes : List ℕ) → IfSome known (λ all. bytes ≡ all) → IsAccepted bytes → IfSome known IsAccepted
accepted_as None bytes is a = tt
accepted_as (Some all) bytes is a = subst IsAccepted is a

pub covered_as : (name : List ℕ) (known : Option (List ℕ)) (bytes : List ℕ) (script old new from to : Option (List ℕ)) → IfSome known (λ all. bytes ≡ all)
    → IsOnSet (Some bytes) script (λ l. IsTextCovered name (Some bytes) l old new from to) → IsOnSet known script (λ l. IsTextCovered name known l old new from to)
covered_as name known bytes script old new from to is s = record {
  found = s.found;
  is_set = given_as known bytes (λ all. IsFound all s.found) is s.is_set;
  turns = s.turns;
  of_script = record {
    bytes = s.of_script.bytes;
    are_known = s.of_script.are_known;
    holds = record {
      text = s.of_script.holds.text;
      is_known = known_as known bytes s.of_script.holds.text is s.of_script.holds.is_known;
      is_set = s.of_script.holds.is_set;
      told = s.of_script.holds.told;
    };
  };
}

pub covered_in_part_as : (name : List ℕ) (known : Option (List ℕ)) (bytes : List ℕ) (script old new from to : Option (List ℕ)) → IfSome known (λ all. bytes ≡ all)
    → IsOnSet (Some bytes) script (λ l. IsTextCoveredInPart name (Some bytes) l old new from to) → IsOnSet known script (λ l. IsTextCoveredInPart name known l old new from to)
covered_in_part_as name known bytes script old new from to is s = record {
  found = s.found;
  is_set = given_as known bytes (λ all. IsFound all s.found) is s.is_set;
  turns = s.turns;
  of_script = record {
    bytes = s.of_script.bytes;
    are_known = s.of_script.are_known;
    holds = record {
      text = s.of_script.holds.text;
      is_known = known_as known bytes s.of_script.holds.text is s.of_script.holds.is_known;
      is_set = s.of_script.holds.is_set;
      told = s.of_script.holds.told;
    };
  };
}

-- `IsSomeCovered` follows if there is such a text
as_some : (name : List ℕ) (known : Option (List ℕ)) (usual : TextLimits) (old new from to : Option (List ℕ)) (d : Draft) (said : List ℕ)
    → IsTextCovered name known usual old new from to d said → IsPlaySeen usual Coverage old new from to d said
as_some name known usual old new from to d said c = record { name = name; text = c.text; is_set = c.is_set; told = c.told }

as_some_in_part : (name : List ℕ) (known : Option (List ℕ)) (usual : TextLimits) (old new from to : Option (List ℕ)) (d : Draft) (said : List ℕ)
    → IsTextCoveredInPart name known usual old new from to d said → IsPlaySeenInPart usual Coverage old new from to d said
as_some_in_part name known usual old new from to d said c = record { name = name; text = c.text; is_set = c.is_set; told = c.told }

pub some_covered : (name : List ℕ) (known : Option (List ℕ)) (wanted : Wanted) (set script old new from to : Option (List ℕ)) → wanted ≡ Coverage
    → IsOnSet set script (λ l. IsTextCovered name known l old new from to) → IsOnSet set script (λ l. IsPlaySeen l wanted old new from to)
some_covered name known wanted set script old new from to is s = record {
  found = s.found;
  is_set = s.is_set;
  turns = s.turns;
  of_script =
      let P : Wanted → Type 0 = λ w. IsPlaySeen s.found.limits w old new from to s.found.set s.of_script.bytes in
      record {
        bytes = s.of_script.bytes;
        are_known = s.of_script.are_known;
        holds = subst P (sym is) (as_some name known s.found.limits old new from to s.found.set s.of_script.bytes s.of_script.holds);
      };
}

pub some_covered_in_part : (name : List ℕ) (known : Option (List ℕ)) (wanted : Wanted) (set script old new from to : Option (List ℕ)) → wanted ≡ Coverage
    → IsOnSet set script (λ l. IsTextCoveredInPart name known l old new from to) → IsOnSet set script (λ l. IsPlaySeenInPart l wanted old new from to)
some_covered_in_part name known wanted set script old new from to is s = record {
  found = s.found;
  is_set = s.is_set;
  turns = s.turns;
  of_script =
      let P : Wanted → Type 0 = λ w. IsPlaySeenInPart s.found.limits w old new from to s.found.set s.of_script.bytes in
      record {
        bytes = s.of_script.bytes;
        are_known = s.of_script.are_known;
        holds = subst P (sym is) (as_some_in_part name known s.found.limits old new from to s.found.set s.of_script.bytes s.of_script.holds);
      };
}

pub refused_as : (known : Option (List ℕ)) (bytes : List ℕ) (script old new : Option (List ℕ)) → IfSome known (λ all. bytes ≡ all) → IsRefused (Some bytes) script old new
    → IsRefused known script old new
refused_as known bytes script old new is (set_refused g) = set_refused (given_as known bytes (PrintsRefusal old new) is g)
refused_as known bytes script old new is (script_refused s) =
    script_refused (record {
      found = s.found;
      is_set = given_as known bytes (λ all. IsFound all s.found) is s.is_set;
      turns = s.turns;
      of_script = s.of_script;
    })

-- for the bytes of a text
pub of_bytes : (usual : TextLimits) (old new from to : Option (List ℕ)) (name text bytes : List ℕ) (d : Draft) (said : List ℕ) → text ≡ bytes
    → IsPlayTold usual old new (IsCoveredBy name text from to) d said → IsPlayTold usual old new (IsCoveredBy name bytes from to) d said
of_bytes usual old new from to name text bytes d said is told =
    let P : List ℕ → Type 0 = λ bs. IsPlayTold usual old new (IsCoveredBy name bs from to) d said in
    subst P is told

pub of_bytes_in_part : (usual : TextLimits) (old new from to : Option (List ℕ)) (name text bytes : List ℕ) (d : Draft) (said : List ℕ) → text ≡ bytes
    → IsPlayToldInPart usual old new (IsCoveredBy name text from to) d said → IsPlayToldInPart usual old new (IsCoveredBy name bytes from to) d said
of_bytes_in_part usual old new from to name text bytes d said is told =
    let P : List ℕ → Type 0 = λ bs. IsPlayToldInPart usual old new (IsCoveredBy name bs from to) d said in
    subst P is told

-- for the set of these bytes
pub bytes_covered : (name bytes : List ℕ) (old new from to : Option (List ℕ)) (found : FoundSet) (said : List ℕ) → IsGiven (Some bytes) (λ all. IsFound all found)
    → IsPlayTold found.limits old new (IsCoveredBy name bytes from to) found.set said → IsTextCovered name (Some bytes) found.limits old new from to found.set said
bytes_covered name bytes old new from to found said given told = record {
  text = bytes;
  is_known = refl;
  is_set = subst (λ (all : List ℕ). IsSetOf all found.set) given.are_known given.holds.is_set;
  told = told;
}

pub bytes_covered_in_part : (name bytes : List ℕ) (old new from to : Option (List ℕ)) (found : FoundSet) (said : List ℕ) → IsGiven (Some bytes) (λ all. IsFound all found)
    → IsPlayToldInPart found.limits old new (IsCoveredBy name bytes from to) found.set said → IsTextCoveredInPart name (Some bytes) found.limits old new from to found.set said
bytes_covered_in_part name bytes old new from to found said given told = record {
  text = bytes;
  is_known = refl;
  is_set = subst (λ (all : List ℕ). IsSetOf all found.set) given.are_known given.holds.is_set;
  told = told;
}
