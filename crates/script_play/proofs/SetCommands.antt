-- The capture of one command of a link set's script, on the addressed link.
use Rattle.std.proofs.Common.{◌≡◌, ◌∙◌, ℕ, zero, suc, ◌<◌, Bool, true, false, List, [], ◌∷◌, ◌++◌, length, slice_set, Option, Some, sym, ap, subst}
use Rattle.std.specs.Prelude.{slice_get}
use Rattle.std.specs.List.{flat_map}
use Rattle.std.specs.Io.KnownBytes.{Appends}
use Rattle.std.proofs.KnownBytes.{Appends-trans}
use Rattle.std.proofs.lemmas.Grind.{flat_map-append}
use Rattle.std.proofs.lemmas.Option.{none-some, same_Some, slice_get_within}
use Rattle.line_streams.specs.declared.seen.Seen.{Seen}
use Rattle.script_links.specs.GroupCommands.{PlainGroupCommand}
use Rattle.script_links.specs.GroupCommands as group
use Rattle.script_links.specs.GroupScripts.{PlainGroupSaid}
use Rattle.plain_text.specs.Lines.{line_of}
use Rattle.script_seen.specs.GroupAnswers.{Playing, Obeys, Outputs}
use Rattle.script_seen.specs.GroupRuns.{prints, IsGroupRun, HasGivenOut, HasObeyed, was_met, was_done}
use Rattle.script_play.specs.Captured.{Hears, IsCapturing}
use Rattle.script_play.specs.CapturedSets.{IsComing, is_noted, set_time, SendsOn, Goes, goes_out, comes_in, holds, IsCapturedThere}
use Rattle.script_play.specs.declared.capturing.LinkSeen.{LinkSeen}
use Rattle.script_play.proofs.OtherLinks.{heard_apart, sent_apart}

-- replacing an item by itself changes nothing
set_same : {A : Type 0} (xs : List A) (n : ℕ) (x : A) → slice_get xs n ≡ Some x → slice_set xs n x ≡ xs
set_same [] n x is = absurd (none-some x is)
set_same (y ∷ ys) zero x is = ap (λ z. z ∷ ys) (sym (same_Some y x is))
set_same (y ∷ ys) (suc n) x is = ap (λ zs. y ∷ zs) (set_same ys n x is)

-- ---- signal units requested

out_obeys : (c : PlainGroupCommand) (n : ℕ) (old new last printed : Option (List ℕ)) (now next : Playing) → c ≡ group.out n
    → (given : HasGivenOut now.on n old new last printed now.set next.set) → next.on ≡ now.on → Obeys c now given.lines next
out_obeys c n old new last printed now next is given on =
    let C : PlainGroupCommand → Type 0 = λ x. Obeys x now given.lines next in
    let made : Outputs n now given.lines next = record { goes = given.out; on = on } in
    subst C (sym is) made

pub set_gone_out : (first : Playing) (before : List PlainGroupSaid) (said : PlainGroupSaid) (n : ℕ) (begun old new : Option (List ℕ)) (now next : Playing)
    (last printed : Option (List ℕ)) → said.command ≡ group.out n → HasGivenOut now.on n old new last printed now.set next.set
    → next.on ≡ now.on → IsGroupRun first before begun old now last → IsGroupRun first (before ++ said ∷ []) begun new next printed
set_gone_out first before said n begun old new now next last printed is given on run =
    let L : Option (List ℕ) → Type 0 = λ l. IsGroupRun first (before ++ said ∷ []) begun new next l in
    let A : List ℕ → Type 0 = λ bs. Appends begun new bs in
    subst L (sym given.printed.latest_is) (record {
      lines = run.lines ++ given.lines;
      goes = prints said given.lines next (out_obeys said.command n old new last printed now next is given on) run.goes;
      written =
          subst A (sym (flat_map-append line_of run.lines given.lines))
          (Appends-trans begun old new (flat_map line_of run.lines) (flat_map line_of given.lines) run.written given.printed.written);
    })

pub there_out : (every : Bool) (first : Playing) (before : List PlainGroupSaid) (said : PlainGroupSaid) (n : ℕ) (begun old new from to : Option (List ℕ))
    (now next : Playing) (last printed : Option (List ℕ)) (all : List (List ℕ)) (came : List ℕ) (seen : List Seen) (at : ℕ) (l m : LinkSeen)
    → said.command ≡ group.out n → at ≡ set_time now → HasGivenOut now.on n from to last printed now.set next.set → next.on ≡ now.on
    → (IsCapturing now.on every came seen begun old l
    → (more : List Seen) × SendsOn now.on at n now.set seen next.set more × IsCapturing now.on every came more begun new m)
    → Goes first before now last all seen → slice_get all now.on ≡ Some came → IsCapturing now.on every came seen begun old l
    → IsCapturedThere every first (before ++ said ∷ []) next printed all now.on seen begun new m
there_out every first before said n begun old new from to now next last printed all came seen at l m is time given on step goes there known =
    let s = step known in
    let S : ℕ → Type 0 = λ k. SendsOn now.on k n now.set seen next.set s.0 in
    let sends = subst S time s.1 in
    let obeys : Obeys said.command now given.lines next = out_obeys said.command n from to last printed now next is given on in
    let within : now.on < length all = slice_get_within all now.on came there in
    let G : Option (List ℕ) → Type 0 = λ x. Goes first (before ++ said ∷ []) next x all s.0 in
    let A : List (List ℕ) → Type 0 = λ cs. Goes first (before ++ said ∷ []) next printed cs s.0 in
    record {
      came = came;
      last = s.0;
      goes =
          subst A (sym (set_same all now.on came there))
          (subst G (sym given.printed.latest_is) (goes_out said n given.lines next s.0 is within goes obeys sends));
      capturing = s.2;
      apart = λ other apart r x. sent_apart every now.on other (set_time now) n now.set next.set seen s.0 r apart sends x;
    }

-- ---- octets received

-- the octets that a command delivers, if the command is replaced by an equal one
pub set_comes_as : (c d : PlainGroupCommand) (come : List ℕ) → c ≡ d → IsComing d come → IsComing c come
set_comes_as c d come same coming = let P : PlainGroupCommand → Type 0 = λ k. IsComing k come in subst P (sym same) coming

no_out : (c : PlainGroupCommand) (n : ℕ) → is_noted c ≡ true → c ≡ group.out n → ⊥
no_out c n noted is =
    let P : PlainGroupCommand → Type 0 = λ x. is_noted x ≡ true in
    let contrary : false ≡ true = subst P is noted in cc

pub no_expectation : (c : PlainGroupCommand) (text : List ℕ) → is_noted c ≡ true → c ≡ group.expected text → ⊥
no_expectation c text noted is =
    let P : PlainGroupCommand → Type 0 = λ x. is_noted x ≡ true in
    let contrary : false ≡ true = subst P is noted in cc

pub there_come : (every : Bool) (first : Playing) (before : List PlainGroupSaid) (said : PlainGroupSaid) (come : List ℕ) (begun old new from to : Option (List ℕ))
    (now next : Playing) (last printed : Option (List ℕ)) (all : List (List ℕ)) (came : List ℕ) (seen : List Seen) (at n : ℕ) (l m : LinkSeen)
    → is_noted said.command ≡ true → n ≡ now.on → at ≡ set_time now → IsComing said.command come → HasObeyed said.command from to last printed now next
    → (IsCapturing n every came seen begun old l
    → (more : List Seen) × Hears n at came come seen more × IsCapturing n every (came ++ come) more begun new m)
    → Goes first before now last all seen → slice_get all now.on ≡ Some came → IsCapturing now.on every came seen begun old l
    → IsCapturedThere every first (before ++ said ∷ []) next printed all now.on seen begun new m
there_come every first before said come begun old new from to now next last printed all came seen at n l m noted number time coming (was_met text is met same kept stays) step goes there known =
    absurd (no_expectation said.command text noted is)
there_come every first before said come begun old new from to now next last printed all came seen at n l m noted number time coming (was_done lines obeys has) step goes there known =
    let N : ℕ → Type 0 =
    λ k. IsCapturing k every came seen begun old l → (more : List Seen) × Hears k at came come seen more × IsCapturing k every (came ++ come) more begun new m in
    let s = subst N number step known in
    let H : ℕ → Type 0 = λ k. Hears now.on k came come seen s.0 in
    let hears = subst H time s.1 in
    let G : Option (List ℕ) → Type 0 = λ x. Goes first (before ++ said ∷ []) next x (slice_set all now.on (came ++ come)) s.0 in
    record {
      came = came ++ come;
      last = s.0;
      goes =
          subst G (sym has.latest_is)
          (comes_in said came come lines next s.0 (λ n is. no_out said.command n noted is) there coming goes obeys hears);
      capturing = s.2;
      apart = λ other apart r x. heard_apart every now.on other (set_time now) came come seen s.0 r apart hears x;
    }

-- ---- an expectation

pub there_met : (every : Bool) (first : Playing) (before : List PlainGroupSaid) (said : PlainGroupSaid) (text : List ℕ) (begun old from to : Option (List ℕ))
    (now next : Playing) (last printed : Option (List ℕ)) (all : List (List ℕ)) (came : List ℕ) (seen : List Seen) (l : LinkSeen)
    → said.command ≡ group.expected text → HasObeyed said.command from to last printed now next
    → Goes first before now last all seen → slice_get all now.on ≡ Some came → IsCapturing now.on every came seen begun old l
    → IsCapturedThere every first (before ++ said ∷ []) next printed all now.on seen begun old l
there_met every first before said text begun old from to now next last printed all came seen l expects (was_met other is met same kept stays) goes there known =
    let M : Option (List ℕ) → Type 0 = λ x. Goes first before now x all seen in
    let N : Option (List ℕ) → Type 0 = λ x. Goes first (before ++ said ∷ []) now x all seen in
    let T : Playing → Type 0 = λ p. Goes first (before ++ said ∷ []) p printed all seen in
    let A : List (List ℕ) → Type 0 = λ cs. Goes first (before ++ said ∷ []) next printed cs seen in
    record {
      came = came;
      last = seen;
      goes = subst A (sym (set_same all now.on came there)) (subst T (sym stays) (subst N (sym (same ∙ met)) (holds said is (subst M met goes))));
      capturing = known;
      apart = λ _other _apart _r x. x;
    }
there_met every first before said text begun old from to now next last printed all came seen l expects (was_done lines obeys has) goes there known =
    let C : PlainGroupCommand → Type 0 = λ c. Obeys c now lines next in
    absurd (subst C expects obeys)
