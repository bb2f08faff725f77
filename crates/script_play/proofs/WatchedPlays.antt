-- A script that was played with its views.
use Rattle.std.proofs.Common.{◌≡◌, ℕ, Bool, true, false, List, Option, Some, None, sym, subst}
use Rattle.turn_code.specs.declared.draft.Draft.{Draft}
use Rattle.mtp2_text.specs.declared.limits.TextLimits.{TextLimits}
use Rattle.script_play.specs.Played.{IsOnSet, IsPlayed, IsPlayedInPart}
use Rattle.script_play.specs.Seen.{IsPlaySeen, IsPlaySeenInPart, IsWatched, has_lines, has_neither, has_file, IsWatchedInPart, has_lines_in_part, has_neither_in_part, has_file_in_part}
use Rattle.script_play.specs.declared.seeing.Wanted.{Wanted}
use Rattle.script_play.specs.declared.seeing.Wanted.TheVariants.{Trace, Capture, AtEnd, Coverage}

pub with_lines : (echo : Bool) (wanted : Wanted) (set script old new : Option (List ℕ)) (begun now : Option (Option (List ℕ))) → echo ≡ true
    → IsOnSet set script (λ l. IsPlayed l echo old new) → IsOnSet set script (λ l. IsWatched l echo wanted old new begun now)
with_lines echo wanted set script old new begun now echoed s = record {
  found = s.found;
  is_set = s.is_set;
  turns = s.turns;
  of_script = record { bytes = s.of_script.bytes; are_known = s.of_script.are_known; holds = has_lines echoed s.of_script.holds };
}

pub with_neither : (echo : Bool) (wanted : Wanted) (set script old new : Option (List ℕ)) (begun now : Option (Option (List ℕ))) → echo ≡ false
    → begun ≡ None → IsOnSet set script (λ l. IsPlayed l echo old new) → IsOnSet set script (λ l. IsWatched l echo wanted old new begun now)
with_neither echo wanted set script old new begun now unlined none s = record {
  found = s.found;
  is_set = s.is_set;
  turns = s.turns;
  of_script = record { bytes = s.of_script.bytes; are_known = s.of_script.are_known; holds = has_neither unlined none s.of_script.holds };
}

pub with_file : (echo : Bool) (wanted : Wanted) (set script old new was has : Option (List ℕ)) (begun now : Option (Option (List ℕ)))
    → echo ≡ false → begun ≡ Some was → now ≡ Some has → IsOnSet set script (λ l. IsPlaySeen l wanted old new was has)
    → IsOnSet set script (λ l. IsWatched l echo wanted old new begun now)
with_file echo wanted set script old new was has begun now unlined first last s = record {
  found = s.found;
  is_set = s.is_set;
  turns = s.turns;
  of_script = record { bytes = s.of_script.bytes; are_known = s.of_script.are_known; holds = has_file was has unlined first last s.of_script.holds };
}

was_seen : (usual : TextLimits) (wanted : Wanted) (old new begun now : Option (List ℕ)) (d : Draft) (bytes : List ℕ)
    → IsPlaySeen usual wanted old new begun now d bytes → IsPlayed usual false old new d bytes
was_seen usual (Trace every) old new begun now d bytes p = record { utf8 = p.utf8; script = p.script; reads = p.reads; usual = p.usual; is_usual = p.is_usual; run = p.run }
was_seen usual (Capture every) old new begun now d bytes p = record { utf8 = p.utf8; script = p.script; reads = p.reads; usual = p.usual; is_usual = p.is_usual; run = p.run }
was_seen usual (AtEnd told) old new begun now d bytes p = record { utf8 = p.utf8; script = p.script; reads = p.reads; usual = p.usual; is_usual = p.is_usual; run = p.run }
was_seen usual Coverage old new begun now d bytes p = record { utf8 = p.told.utf8; script = p.told.script; reads = p.told.reads; usual = p.told.usual; is_usual = p.told.is_usual; run = p.told.run }

was_played_in : (usual : TextLimits) (echo : Bool) (wanted : Wanted) (old new : Option (List ℕ)) (begun now : Option (Option (List ℕ))) (d : Draft) (bytes : List ℕ)
    → IsWatched usual echo wanted old new begun now d bytes → IsPlayed usual echo old new d bytes
was_played_in usual echo wanted old new begun now d bytes (has_lines echoed p) = p
was_played_in usual echo wanted old new begun now d bytes (has_neither unlined none p) = p
was_played_in usual echo wanted old new begun now d bytes (has_file was has unlined first last p) =
    let E : Bool → Type 0 = λ e. IsPlayed usual e old new d bytes in
    subst E (sym unlined) (was_seen usual wanted old new was has d bytes p)

pub was_played : (echo : Bool) (wanted : Wanted) (set script old new : Option (List ℕ)) (begun now : Option (Option (List ℕ)))
    → IsOnSet set script (λ l. IsWatched l echo wanted old new begun now) → IsOnSet set script (λ l. IsPlayed l echo old new)
was_played echo wanted set script old new begun now s = record {
  found = s.found;
  is_set = s.is_set;
  turns = s.turns;
  of_script = record {
    bytes = s.of_script.bytes;
    are_known = s.of_script.are_known;
    holds = was_played_in s.found.limits echo wanted old new begun now s.found.set s.of_script.bytes s.of_script.holds;
  };
}

-- ---- up to an expectation that fails

pub with_lines_in_part : (echo : Bool) (wanted : Wanted) (set script old new : Option (List ℕ)) (begun now : Option (Option (List ℕ))) → echo ≡ true
    → IsOnSet set script (λ l. IsPlayedInPart l echo old new) → IsOnSet set script (λ l. IsWatchedInPart l echo wanted old new begun now)
with_lines_in_part echo wanted set script old new begun now echoed s = record {
  found = s.found;
  is_set = s.is_set;
  turns = s.turns;
  of_script = record { bytes = s.of_script.bytes; are_known = s.of_script.are_known; holds = has_lines_in_part echoed s.of_script.holds };
}

pub with_neither_in_part : (echo : Bool) (wanted : Wanted) (set script old new : Option (List ℕ)) (begun now : Option (Option (List ℕ))) → echo ≡ false
    → begun ≡ None → IsOnSet set script (λ l. IsPlayedInPart l echo old new) → IsOnSet set script (λ l. IsWatchedInPart l echo wanted old new begun now)
with_neither_in_part echo wanted set script old new begun now unlined none s = record {
  found = s.found;
  is_set = s.is_set;
  turns = s.turns;
  of_script = record { bytes = s.of_script.bytes; are_known = s.of_script.are_known; holds = has_neither_in_part unlined none s.of_script.holds };
}

pub with_file_in_part : (echo : Bool) (wanted : Wanted) (set script old new was has : Option (List ℕ)) (begun now : Option (Option (List ℕ)))
    → echo ≡ false → begun ≡ Some was → now ≡ Some has → IsOnSet set script (λ l. IsPlaySeenInPart l wanted old new was has)
    → IsOnSet set script (λ l. IsWatchedInPart l echo wanted old new begun now)
with_file_in_part echo wanted set script old new was has begun now unlined first last s = record {
  found = s.found;
  is_set = s.is_set;
  turns = s.turns;
  of_script = record { bytes = s.of_script.bytes; are_known = s.of_script.are_known; holds = has_file_in_part was has unlined first last s.of_script.holds };
}

was_seen_in_part : (usual : TextLimits) (wanted : Wanted) (old new begun now : Option (List ℕ)) (d : Draft) (bytes : List ℕ)
    → IsPlaySeenInPart usual wanted old new begun now d bytes → IsPlayedInPart usual false old new d bytes
was_seen_in_part usual (Trace every) old new begun now d bytes p = record { utf8 = p.utf8; script = p.script; reads = p.reads; usual = p.usual; is_usual = p.is_usual; missed = p.missed }
was_seen_in_part usual (Capture every) old new begun now d bytes p = record { utf8 = p.utf8; script = p.script; reads = p.reads; usual = p.usual; is_usual = p.is_usual; missed = p.missed }
was_seen_in_part usual (AtEnd told) old new begun now d bytes p = record { utf8 = p.utf8; script = p.script; reads = p.reads; usual = p.usual; is_usual = p.is_usual; missed = p.missed }
was_seen_in_part usual Coverage old new begun now d bytes p = record { utf8 = p.told.utf8; script = p.told.script; reads = p.told.reads; usual = p.told.usual; is_usual = p.told.is_usual; missed = p.told.missed }

was_played_in_part_in : (usual : TextLimits) (echo : Bool) (wanted : Wanted) (old new : Option (List ℕ)) (begun now : Option (Option (List ℕ))) (d : Draft) (bytes : List ℕ)
    → IsWatchedInPart usual echo wanted old new begun now d bytes → IsPlayedInPart usual echo old new d bytes
was_played_in_part_in usual echo wanted old new begun now d bytes (has_lines_in_part echoed p) = p
was_played_in_part_in usual echo wanted old new begun now d bytes (has_neither_in_part unlined none p) = p
was_played_in_part_in usual echo wanted old new begun now d bytes (has_file_in_part was has unlined first last p) =
    let E : Bool → Type 0 = λ e. IsPlayedInPart usual e old new d bytes in
    subst E (sym unlined) (was_seen_in_part usual wanted old new was has d bytes p)

pub was_played_in_part : (echo : Bool) (wanted : Wanted) (set script old new : Option (List ℕ)) (begun now : Option (Option (List ℕ)))
    → IsOnSet set script (λ l. IsWatchedInPart l echo wanted old new begun now) → IsOnSet set script (λ l. IsPlayedInPart l echo old new)
was_played_in_part echo wanted set script old new begun now s = record {
  found = s.found;
  is_set = s.is_set;
  turns = s.turns;
  of_script = record {
    bytes = s.of_script.bytes;
    are_known = s.of_script.are_known;
    holds = was_played_in_part_in s.found.limits echo wanted old new begun now s.found.set s.of_script.bytes s.of_script.holds;
  };
}
