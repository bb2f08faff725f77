-- The output of a run, however it ends.
use Rattle.std.proofs.Common.{◌≡◌, ℕ, ◌+◌, ◌-◌, ◌≤◌, Bool, true, List, [], ◌++◌, length, take, drop, map, Option, refl, sym, ap, ◌∙◌, subst, append_assoc, append-nil, take-append-drop, take-add, take_all, drop_of_length-le, length-drop, arith}
use Rattle.std.specs.Prelude.{replicate}
use Rattle.std.specs.Io.KnownBytes.{Appends, Consumes, Keeps}
use Rattle.std.proofs.KnownBytes.{Appends-nil, Appends-trans, Consumes-nil, Consumes-trans, Consumes-kept}
use Rattle.std.proofs.lemmas.List.{length-map, map-append}
use Rattle.line_filter.specs.Acts.{Act}
use Rattle.line_filter.specs.Runs.{State, Runs, begins}
use Rattle.line_filter.specs.Desks.{Told}
use Rattle.line_filter.specs.Reporting.{Stand}
use Rattle.line_filter.specs.Filters.{turned, SILENCE, Goes, Streams, Served, WritesPart, ServesPart, IsBegun}
use Rattle.line_filter.specs.declared.filter.Bits.{Bits}
use Rattle.line_filter.proofs.Passing.{runs_joined, none_left}

-- ---- octets written
rest_of : (octets : List ℕ) (gone : ℕ) → take (length octets - gone) (drop gone octets) ≡ drop gone octets
rest_of octets gone =
    take_all (length octets - gone) (drop gone octets) (let e : length (drop gone octets) ≤ length octets - gone = omega (arith, length-drop gone octets) in e)

pub written_within : (octets : List ℕ) (gone count : ℕ) → gone ≤ length octets → count ≤ length (take (length octets - gone) (drop gone octets)) → gone + count ≤ length octets
written_within octets gone count within few = omega (arith, within, few, ap length (rest_of octets gone), length-drop gone octets)

pub written_more : (old mid new : Option (List ℕ)) (octets : List ℕ) (gone count : ℕ) → Appends old mid (take gone octets)
    → Appends mid new (take count (take (length octets - gone) (drop gone octets))) → Appends old new (take (gone + count) octets)
written_more old mid new octets gone count first more =
    let P : List ℕ → Type 0 = λ l. Appends old new l in
    let rest : List ℕ = take (length octets - gone) (drop gone octets) in
    subst P (ap (λ l. take gone octets ++ take count l) (rest_of octets gone) ∙ sym (take-add gone count octets))
    (Appends-trans old mid new (take gone octets) (take count rest) first more)

pub written_part : (old new : Option (List ℕ)) (octets : List ℕ) (gone : ℕ) → Appends old new (take gone octets) → WritesPart old new octets
written_part old new octets gone appends =
    record { part = take gone octets; rest = drop gone octets; parts = sym (take-append-drop gone octets); appends = appends }

pub written_none : (old : Option (List ℕ)) (octets : List ℕ) → WritesPart old old octets
written_none old octets = record { part = []; rest = octets; parts = refl; appends = Appends-nil old }

-- Octets converted in place.
pub out_turned : (f : ℕ → ℕ) (now items there out before given : List ℕ) (len : ℕ) → now ≡ take len (out ++ drop (length out) items) → there ≡ items → out ≡ map f there
    → len ≡ length there → items ≡ before ++ given → before ≡ [] → now ≡ map f given
out_turned f now items there out before given len is same made many parts none =
    let long : length out ≡ length items = ap length made ∙ (length-map there f ∙ ap length same) in
    let gone : drop (length out) items ≡ [] = drop_of_length-le items (let e : length items ≤ length out = omega (arith, long) in e) in
    let whole : take len out ≡ out = take_all len out (let e : length out ≤ len = omega (arith, long, many, ap length same) in e) in
    is
    ∙ (ap (λ l. take len (out ++ l)) gone
    ∙ (ap (λ l. take len l) (append-nil out) ∙ (whole ∙ (made ∙ ap (λ l. map f l) (same ∙ (parts ∙ ap (λ l. l ++ given) none))))))

-- ---- the output for a part of the line
pub part_none : {T : Type 0} (acts : T → Act → T → Type 0) (bits : Bits) (ahead count : ℕ) (s : State T) (read : List ℕ) (old new : Option (List ℕ))
    → WritesPart old new (replicate ahead SILENCE) → ServesPart acts bits ahead count s read old new
part_none acts bits ahead count s read old new writes =
    let P : List ℕ → Type 0 = λ l. WritesPart old new l in
    record {
      come = [];
      not_come = map (turned bits) read;
      all = refl;
      out = [];
      bytes = [];
      goes_on = true;
      last = s;
      runs = begins;
      writes = subst P (sym (append-nil (replicate ahead SILENCE))) writes;
    }

pub part_some : {T : Type 0} (acts : T → Act → T → Type 0) (bits : Bits) (count : ℕ) (s t : State T) (goes_on : Bool) (next : ℕ) (read turned_in given out : List ℕ)
    (told_before told : Stand) (old new : Option (List ℕ)) → turned_in ≡ map (turned bits) read → out ≡ map (turned bits) given
    → Told (λ bytes. Goes acts count s turned_in given bytes goes_on next t) told_before told → WritesPart old new out → ServesPart acts bits 0 count s read old new
part_some acts bits count s t goes_on next read turned_in given out told_before told old new is made goes writes =
    let P : List ℕ → Type 0 = λ l. WritesPart old new l in
    record {
      come = goes.are.come;
      not_come = goes.are.dropped;
      all = sym is ∙ goes.are.all;
      out = given;
      bytes = goes.bytes;
      goes_on = goes_on;
      last = t;
      runs = goes.are.runs;
      writes = subst P made writes;
    }

-- ---- a run
pub begun_none : {T : Type 0} (acts : T → Act → T → Type 0) (bits : Bits) (ahead count : ℕ) (s : State T) (read old new : Option (List ℕ))
    → WritesPart old new (replicate ahead SILENCE) → IsBegun acts bits ahead count s (record { read = read; written = old }) (record { read = read; written = new })
begun_none acts bits ahead count s read old new writes =
    record { read = []; consumes = Consumes-nil read; serves = part_none acts bits ahead count s [] old new writes }

pub begun_ahead : {T : Type 0} (acts : T → Act → T → Type 0) (bits : Bits) (ahead count : ℕ) (s : State T) (read old new : Option (List ℕ))
    → Appends old new (replicate ahead SILENCE) → IsBegun acts bits ahead count s (record { read = read; written = old }) (record { read = read; written = new })
begun_ahead acts bits ahead count s read old new appends =
    begun_none acts bits ahead count s read old new
    (record { part = replicate ahead SILENCE; rest = []; parts = sym (append-nil (replicate ahead SILENCE)); appends = appends })

-- After complete parts, a part of which a prefix was written.
pub begun_more : {T : Type 0} (acts : T → Act → T → Type 0) (bits : Bits) (ahead count : ℕ) (s m : State T) (next : ℕ) (old new : Streams) (later later_written : Option (List ℕ))
    (part : List ℕ) → Served acts bits ahead count s true next m old new → Consumes new.read later part → ServesPart acts bits 0 next m part new.written later_written
    → IsBegun acts bits ahead count s (record { read = old.read; written = old.written }) (record { read = later; written = later_written })
begun_more acts bits ahead count s m next old new later later_written part so_far consumes more =
    let a : Goes acts count s (map (turned bits) so_far.read) so_far.serves.out so_far.bytes true next m = so_far.serves.goes in
    let P : ℕ → Type 0 = λ n. Runs acts n m more.come more.out more.bytes more.goes_on more.last in
    record {
      read = so_far.read ++ part;
      consumes = Consumes-trans old.read new.read later so_far.read part so_far.consumes consumes;
      serves = record {
        come = a.come ++ more.come;
        not_come = more.not_come;
        all =
            map-append (turned bits) so_far.read part
            ∙ (ap (λ l. l ++ map (turned bits) part) (a.all ∙ none_left a.come a.dropped (a.none_dropped refl))
            ∙ (ap (λ l. a.come ++ l) more.all ∙ sym (append_assoc a.come more.come more.not_come)));
        out = so_far.serves.out ++ more.out;
        bytes = so_far.bytes ++ more.bytes;
        goes_on = more.goes_on;
        last = more.last;
        runs = runs_joined acts count s m a.come so_far.serves.out so_far.bytes more.last more.goes_on more.come more.out more.bytes a.runs (subst P a.counted more.runs);
        writes = record {
          part = (replicate ahead SILENCE ++ so_far.written) ++ more.writes.part;
          rest = more.writes.rest;
          parts =
              ap (λ l. replicate ahead SILENCE ++ l)
              (map-append (turned bits) so_far.serves.out more.out
              ∙ (ap (λ l. l ++ map (turned bits) more.out) (sym so_far.serves.written_is) ∙ ap (λ l. so_far.written ++ l) more.writes.parts))
              ∙ (sym (append_assoc (replicate ahead SILENCE) so_far.written (more.writes.part ++ more.writes.rest))
              ∙ sym (append_assoc (replicate ahead SILENCE ++ so_far.written) more.writes.part more.writes.rest));
          appends =
              Appends-trans old.written new.written later_written (replicate ahead SILENCE ++ so_far.written) more.writes.part so_far.appends more.writes.appends;
        };
      };
    }

-- After complete parts, with no further part.
pub begun_served : {T : Type 0} (acts : T → Act → T → Type 0) (bits : Bits) (ahead count : ℕ) (s m : State T) (next : ℕ) (old new : Streams) (later : Option (List ℕ)) (part : List ℕ)
    → Served acts bits ahead count s true next m old new → Consumes new.read later part
    → IsBegun acts bits ahead count s (record { read = old.read; written = old.written }) (record { read = later; written = new.written })
begun_served acts bits ahead count s m next old new later part so_far consumes =
    begun_more acts bits ahead count s m next old new later new.written part so_far consumes
    (part_none acts bits 0 next m part new.written new.written (written_none new.written []))

-- After a read that returned nothing.
pub begun_kept : {T : Type 0} (acts : T → Act → T → Type 0) (bits : Bits) (ahead count : ℕ) (s m : State T) (next : ℕ) (old new : Streams) (later : Option (List ℕ))
    → Served acts bits ahead count s true next m old new → Keeps new.read later
    → IsBegun acts bits ahead count s (record { read = old.read; written = old.written }) (record { read = later; written = new.written })
begun_kept acts bits ahead count s m next old new later so_far kept =
    begun_served acts bits ahead count s m next old new later [] so_far (Consumes-kept new.read new.read later [] (Consumes-nil new.read) kept)
