-- Octets of the line, exchanged part by part.
use Rattle.std.proofs.Common.{◌≡◌, ℕ, ◌+◌, ◌<◌, Bool, true, false, List, [], ◌∷◌, ◌++◌, length, take, drop, map, Option, refl, sym, ap, ◌∙◌, subst, append_assoc, append-nil, length-append, get_or, set, zero, suc, arith}
use Rattle.std.specs.Prelude.{replicate}
use Rattle.std.specs.Io.KnownBytes.{Appends, Consumes, IsAtEnd, Keeps}
use Rattle.std.proofs.KnownBytes.{Appends-trans, Consumes-nil, Consumes-trans, Consumes-kept}
use Rattle.std.proofs.lemmas.List.{map-append}
use Rattle.line_filter.specs.Acts.{Act}
use Rattle.line_filter.specs.Runs.{State, Steps, Runs, begins, octet}
use Rattle.line_filter.specs.Desks.{Told}
use Rattle.line_filter.specs.Reporting.{Stand, ToldLine, TellsLines}
use Rattle.line_filter.proofs.Reporting.{tells_none, tells_trans}
use Rattle.line_filter.specs.Filters.{turned, SILENCE, Goes, Serves, Streams, Served, IsOver}
use Rattle.line_filter.specs.declared.filter.Bits.{Bits}

runs_as : {T : Type 0} (acts : T → Act → T → Type 0) (count : ℕ) (s t : State T) (goes_on : Bool) (xs ys os ps : List ℕ) (bs cs : List ToldLine) → xs ≡ ys → os ≡ ps → bs ≡ cs
    → Runs acts count s xs os bs goes_on t → Runs acts count s ys ps cs goes_on t
runs_as acts count s t goes_on xs ys os ps bs cs h k l runs =
    let P : List ℕ → Type 0 = λ zs. Runs acts count s zs os bs goes_on t in
    let Q : List ℕ → Type 0 = λ zs. Runs acts count s ys zs bs goes_on t in
    let R : List ToldLine → Type 0 = λ zs. Runs acts count s ys ps zs goes_on t in
    subst R l (subst Q k (subst P h runs))

steps_as : {T : Type 0} (acts : T → Act → T → Type 0) (m n : ℕ) (s t : State T) (comes gives : ℕ) (bytes : List ToldLine) (goes_on : Bool) → m ≡ n
    → Steps acts m s comes gives bytes goes_on t → Steps acts n s comes gives bytes goes_on t
steps_as acts m n s t comes gives bytes goes_on is steps = let P : ℕ → Type 0 = λ k. Steps acts k s comes gives bytes goes_on t in subst P is steps

-- Two runs in succession are one run: it doesn't depend on where the input is cut.
pub runs_joined : {T : Type 0} (acts : T → Act → T → Type 0) (count : ℕ) (s m : State T) (xs os : List ℕ) (bs : List ToldLine) (t : State T) (goes_on : Bool) (ys ps : List ℕ) (cs : List ToldLine)
    → Runs acts count s xs os bs true m → Runs acts (count + length xs) m ys ps cs goes_on t → Runs acts count s (xs ++ ys) (os ++ ps) (bs ++ cs) goes_on t
runs_joined acts count s m xs os bs _ _ _ _ _ first begins =
    runs_as acts count s m true xs (xs ++ []) os (os ++ []) bs (bs ++ []) (sym (append-nil xs)) (sym (append-nil os)) (sym (append-nil bs)) first
runs_joined acts count s m xs os bs _ _ _ _ _ first (octet {come} {out} {bytes} {t} comes gives more goes last rest steps) =
    runs_as acts count s last goes ((xs ++ come) ++ comes ∷ []) (xs ++ (come ++ comes ∷ [])) ((os ++ out) ++ gives ∷ []) (os ++ (out ++ gives ∷ []))
    ((bs ++ bytes) ++ more) (bs ++ (bytes ++ more)) (append_assoc xs come (comes ∷ [])) (append_assoc os out (gives ∷ [])) (append_assoc bs bytes more)
    (octet comes gives more goes last (runs_joined acts count s m xs os bs t true come out bytes first rest)
    (steps_as acts ((count + length xs) + length come) (count + length (xs ++ come)) t last comes gives more goes
    (let e : (count + length xs) + length come ≡ count + length (xs ++ come) = omega (arith, length-append xs come) in e) steps))

-- ---- a part of octets
pub record Passed {T : Type 0} (acts : T → Act → T → Type 0) (count : ℕ) (s : State T) (come before now : List ℕ) (next : ℕ) (t : State T) (old new : Stand) : Type 0 where
  pub given : List ℕ
  pub out : now ≡ before ++ given
  pub told : Told (λ bytes. Runs acts count s come given bytes true t) old new
  pub counted : next ≡ count + length come

pub passed_none : {T : Type 0} (acts : T → Act → T → Type 0) (count : ℕ) (s : State T) (out : List ℕ) (old : Stand) → Passed acts count s [] out out count s old old
passed_none acts count s out old = record {
  given = [];
  out = sym (append-nil out);
  told = record { bytes = []; are = begins; tells = tells_none old };
  counted = omega arith;
}

one_more : {T : Type 0} (acts : T → Act → T → Type 0) (count : ℕ) (s t u : State T) (come before now after : List ℕ) (next : ℕ) (old mid new : Stand) (comes gives : ℕ)
    (goes_on : Bool) → (p : Passed acts count s come before now next t old mid) → Told (λ bytes. Steps acts next t comes gives bytes goes_on u) mid new
    → Told (λ bytes. Runs acts count s (come ++ comes ∷ []) (p.given ++ gives ∷ []) bytes goes_on u) old new
one_more acts count s t u come before now after next old mid new comes gives goes_on p step = record {
  bytes = p.told.bytes ++ step.bytes;
  are = octet comes gives step.bytes goes_on u p.told.are (steps_as acts next (count + length come) t u comes gives step.bytes goes_on p.counted step.are);
  tells = tells_trans old mid new p.told.bytes step.bytes p.told.tells step.tells;
}

grown : (before now after given : List ℕ) (gives : ℕ) → now ≡ before ++ given → after ≡ now ++ gives ∷ [] → after ≡ before ++ (given ++ gives ∷ [])
grown before now after given gives h k = k ∙ (ap (λ l. l ++ gives ∷ []) h ∙ append_assoc before given (gives ∷ []))

longer : (count next now comes : ℕ) (come : List ℕ) → next ≡ count + length come → now ≡ next + 1 → now ≡ count + length (come ++ comes ∷ [])
longer count next now comes come h k = omega (arith, h, k, length-append come (comes ∷ []))

pub passed_more : {T : Type 0} (acts : T → Act → T → Type 0) (count : ℕ) (s t u : State T) (come more before now after : List ℕ) (next last : ℕ) (old mid new : Stand)
    (comes gives : ℕ) → Passed acts count s come before now next t old mid → after ≡ now ++ gives ∷ [] → Told (λ bytes. Steps acts next t comes gives bytes true u) mid new
    → last ≡ next + 1 → more ≡ come ++ comes ∷ [] → Passed acts count s more before after last u old new
passed_more acts count s t u come more before now after next last old mid new comes gives p out step is same =
    let Q : List ℕ → Type 0 = λ l. Passed acts count s l before after last u old new in
    subst Q (sym same)
    (record {
      given = p.given ++ gives ∷ [];
      out = grown before now after p.given gives p.out out;
      told = one_more acts count s t u come before now after next old mid new comes gives true p step;
      counted = longer count next last comes come p.counted is;
    })

-- An order ended the run.
pub passed_ended : {T : Type 0} (acts : T → Act → T → Type 0) (count : ℕ) (s t u : State T) (come octets dropped before now after : List ℕ) (next last : ℕ) (old mid new : Stand)
    (comes gives : ℕ) → Passed acts count s come before now next t old mid → after ≡ now ++ gives ∷ [] → Told (λ bytes. Steps acts next t comes gives bytes false u) mid new
    → last ≡ next + 1 → octets ≡ (come ++ comes ∷ []) ++ dropped
    → (given : List ℕ) × (after ≡ before ++ given) × Told (λ bytes. Goes acts count s octets given bytes false last u) old new
passed_ended acts count s t u come octets dropped before now after next last old mid new comes gives p out step is parts =
    let runs = one_more acts count s t u come before now after next old mid new comes gives false p step in (
      p.given ++ gives ∷ [],
      grown before now after p.given gives p.out out,
      record {
        bytes = runs.bytes;
        are = record {
          come = come ++ comes ∷ [];
          dropped = dropped;
          runs = runs.are;
          all = parts;
          none_dropped = λ h. absurd (let e : false ≡ true = h in cc);
          counted = longer count next last comes come p.counted is;
        };
        tells = runs.tells;
      },
    )

-- All octets were exchanged.
pub passed_all : {T : Type 0} (acts : T → Act → T → Type 0) (count : ℕ) (s t : State T) (come octets before now : List ℕ) (next : ℕ) (old new : Stand)
    → Passed acts count s come before now next t old new → octets ≡ come
    → (given : List ℕ) × (now ≡ before ++ given) × Told (λ bytes. Goes acts count s octets given bytes true next t) old new
passed_all acts count s t come octets before now next old new p all = (
  p.given,
  p.out,
  record {
    bytes = p.told.bytes;
    are = record { come = come; dropped = []; runs = p.told.are; all = all ∙ sym (append-nil come); none_dropped = λ h. refl; counted = p.counted };
    tells = p.told.tells;
  },
)

-- ---- octets converted in place
turned_there : (f : ℕ → ℕ) (init : List ℕ) (i : ℕ) → i < length init
    → set (map f (take i init) ++ drop i init) i (f (get_or (map f (take i init) ++ drop i init) i 0)) ≡ map f (take (suc i) init) ++ drop (suc i) init
turned_there f [] i low = absurd (omega (arith, low))
turned_there f (x ∷ xs) zero low = refl
turned_there f (x ∷ xs) (suc i) low = ap (λ l. f x ∷ l) (turned_there f xs i (omega (arith, low)))

pub turned_next : (f : ℕ → ℕ) (init now : List ℕ) (i value : ℕ) → i < length init → now ≡ map f (take i init) ++ drop i init → value ≡ f (get_or now i 0)
    → set now i value ≡ map f (take (i + 1) init) ++ drop (i + 1) init
turned_next f init now i value low is turns =
    ap (λ v. set now i v) turns
    ∙ (ap (λ l. set l i (f (get_or l i 0))) is
    ∙ (turned_there f init i low ∙ ap (λ n. map f (take n init) ++ drop n init) (let e : suc i ≡ i + 1 = omega arith in e)))

-- ---- parts of a line
pub served_one : {T : Type 0} (acts : T → Act → T → Type 0) (bits : Bits) (count : ℕ) (s t : State T) (goes_on : Bool) (next : ℕ) (read turned_in given out : List ℕ) (old new : Stand)
    → turned_in ≡ map (turned bits) read → out ≡ map (turned bits) given → Told (λ bytes. Goes acts count s turned_in given bytes goes_on next t) old new
    → Told (λ bytes. Serves acts bits count s read out bytes goes_on next t) old new
served_one acts bits count s t goes_on next read turned_in given out old new is made goes =
    let P : List ℕ → Type 0 = λ l. Goes acts count s l given goes.bytes goes_on next t in
    record { bytes = goes.bytes; are = record { out = given; goes = subst P is goes.are; written_is = made }; tells = goes.tells }

pub served_none : {T : Type 0} (acts : T → Act → T → Type 0) (bits : Bits) (ahead count : ℕ) (s : State T) (read written mid : Option (List ℕ)) (told : Stand)
    → Appends written mid (replicate ahead SILENCE)
    → Served acts bits ahead count s true count s (record { read = read; written = written; told = told }) (record { read = read; written = mid; told = told })
served_none acts bits ahead count s read written mid told silence = record {
  read = [];
  written = [];
  bytes = [];
  serves = record {
    out = [];
    goes = record { come = []; dropped = []; runs = begins; all = refl; none_dropped = λ h. refl; counted = omega arith };
    written_is = refl;
  };
  consumes = Consumes-nil read;
  appends = let P : List ℕ → Type 0 = λ l. Appends written mid l in subst P (sym (append-nil (replicate ahead SILENCE))) silence;
  tells = tells_none told;
}

-- A read that returned nothing.
pub served_kept : {T : Type 0} (acts : T → Act → T → Type 0) (bits : Bits) (ahead count : ℕ) (s t : State T) (goes_on : Bool) (next : ℕ) (old new last : Streams)
    → Served acts bits ahead count s goes_on next t old new → Keeps new.read last.read → last.written ≡ new.written → last.told ≡ new.told
    → Served acts bits ahead count s goes_on next t old last
served_kept acts bits ahead count s t goes_on next old new last so_far kept same_written same_told =
    let P : Option (List ℕ) → Type 0 = λ o. Appends old.written o (replicate ahead SILENCE ++ so_far.written) in
    let Q : Stand → Type 0 = λ o. TellsLines old.told o so_far.bytes in
    record {
      read = so_far.read;
      written = so_far.written;
      bytes = so_far.bytes;
      serves = so_far.serves;
      consumes = Consumes-kept old.read new.read last.read so_far.read so_far.consumes kept;
      appends = subst P (sym same_written) so_far.appends;
      tells = subst Q (sym same_told) so_far.tells;
    }

pub none_left : (come dropped : List ℕ) → dropped ≡ [] → come ++ dropped ≡ come
none_left come dropped none = ap (λ l. come ++ l) none ∙ append-nil come

-- One more part.
pub served_more : {T : Type 0} (acts : T → Act → T → Type 0) (bits : Bits) (ahead count : ℕ) (s m t : State T) (goes_on : Bool) (next last : ℕ) (old new later : Streams) (part written : List ℕ)
    → Served acts bits ahead count s true next m old new → Consumes new.read later.read part → Appends new.written later.written written
    → Told (λ bytes. Serves acts bits next m part written bytes goes_on last t) new.told later.told → Served acts bits ahead count s goes_on last t old later
served_more {T} acts bits ahead count s m t goes_on next last old new later part written so_far consumes appends more =
    let a : Goes acts count s (map (turned bits) so_far.read) so_far.serves.out so_far.bytes true next m = so_far.serves.goes in
    let b : Goes acts next m (map (turned bits) part) more.are.out more.bytes goes_on last t = more.are.goes in
    let P : ℕ → Type 0 = λ n. Runs acts n m b.come more.are.out more.bytes goes_on t in
    record {
      read = so_far.read ++ part;
      written = so_far.written ++ written;
      bytes = so_far.bytes ++ more.bytes;
      serves = record {
        out = so_far.serves.out ++ more.are.out;
        goes = record {
          come = a.come ++ b.come;
          dropped = b.dropped;
          runs = runs_joined acts count s m a.come so_far.serves.out so_far.bytes t goes_on b.come more.are.out more.bytes a.runs (subst P a.counted b.runs);
          all =
              map-append (turned bits) so_far.read part
              ∙ (ap (λ l. l ++ map (turned bits) part) (a.all ∙ none_left a.come a.dropped (a.none_dropped refl))
              ∙ (ap (λ l. a.come ++ l) b.all ∙ sym (append_assoc a.come b.come b.dropped)));
          none_dropped = b.none_dropped;
          counted = let e : last ≡ count + length (a.come ++ b.come) = omega (arith, a.counted, b.counted, length-append a.come b.come) in e;
        };
        written_is =
            ap (λ l. l ++ written) so_far.serves.written_is
            ∙ (ap (λ l. map (turned bits) so_far.serves.out ++ l) more.are.written_is ∙ sym (map-append (turned bits) so_far.serves.out more.are.out));
      };
      consumes = Consumes-trans old.read new.read later.read so_far.read part so_far.consumes consumes;
      appends =
          let Q : List ℕ → Type 0 = λ l. Appends old.written later.written l in
          subst Q (append_assoc (replicate ahead SILENCE) so_far.written written)
          (Appends-trans old.written new.written later.written (replicate ahead SILENCE ++ so_far.written) written so_far.appends appends);
      tells = tells_trans old.told new.told later.told so_far.bytes more.bytes so_far.tells more.tells;
    }

pub steps_on : {T : Type 0} (acts : T → Act → T → Type 0) (count : ℕ) (s t : State T) (comes gives : ℕ) (goes_on is : Bool) (old new : Stand) → goes_on ≡ is
    → Told (λ bytes. Steps acts count s comes gives bytes goes_on t) old new → Told (λ bytes. Steps acts count s comes gives bytes is t) old new
steps_on acts count s t comes gives goes_on is old new same told = let P : Bool → Type 0 = λ b. Told (λ bytes. Steps acts count s comes gives bytes b t) old new in subst P same told

-- The end of the input.
pub over_end : {T : Type 0} (acts : T → Act → T → Type 0) (bits : Bits) (ahead count : ℕ) (s t : State T) (next : ℕ) (old new last : Streams) (part : List ℕ)
    → Served acts bits ahead count s true next t old new → Consumes new.read last.read part → part ≡ [] → IsAtEnd last.read → last.written ≡ new.written → last.told ≡ new.told
    → IsOver acts bits ahead count s next t old last
over_end acts bits ahead count s t next old new last part so_far consumes none end same_written same_told =
    let P : Option (List ℕ) → Type 0 = λ o. Appends old.written o (replicate ahead SILENCE ++ so_far.written) in
    let Q : Stand → Type 0 = λ o. TellsLines old.told o so_far.bytes in
    let R : List ℕ → Type 0 = λ l. Consumes old.read last.read l in
    record {
      goes_on = true;
      served = record {
        read = so_far.read;
        written = so_far.written;
        bytes = so_far.bytes;
        serves = so_far.serves;
        consumes = subst R (none_left so_far.read part none) (Consumes-trans old.read new.read last.read so_far.read part so_far.consumes consumes);
        appends = subst P (sym same_written) so_far.appends;
        tells = subst Q (sym same_told) so_far.tells;
      };
      end_met = λ h. end;
    }

pub over_quit : {T : Type 0} (acts : T → Act → T → Type 0) (bits : Bits) (ahead count : ℕ) (s m t : State T) (goes_on : Bool) (next last : ℕ) (old new later : Streams) (part written : List ℕ)
    → Served acts bits ahead count s true next m old new → Consumes new.read later.read part → Appends new.written later.written written
    → Told (λ bytes. Serves acts bits next m part written bytes goes_on last t) new.told later.told → goes_on ≡ false → IsOver acts bits ahead count s last t old later
over_quit acts bits ahead count s m t goes_on next last old new later part written so_far consumes appends more is = record {
  goes_on = goes_on;
  served = served_more acts bits ahead count s m t goes_on next last old new later part written so_far consumes appends more;
  end_met = λ h. absurd (let e : false ≡ true = sym is ∙ h in cc);
}

pub served_on : {T : Type 0} (acts : T → Act → T → Type 0) (bits : Bits) (ahead count : ℕ) (s m t : State T) (goes_on : Bool) (next last : ℕ) (old new later : Streams) (part written : List ℕ)
    → Served acts bits ahead count s true next m old new → Consumes new.read later.read part → Appends new.written later.written written
    → Told (λ bytes. Serves acts bits next m part written bytes goes_on last t) new.told later.told → goes_on ≡ true → Served acts bits ahead count s true last t old later
served_on acts bits ahead count s m t goes_on next last old new later part written so_far consumes appends more is =
    let P : Bool → Type 0 = λ b. Served acts bits ahead count s b last t old later in
    subst P is (served_more acts bits ahead count s m t goes_on next last old new later part written so_far consumes appends more)
