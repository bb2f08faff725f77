-- A sound text, and its set, are refused only if memory runs out.
use Rattle.std.proofs.Common.{◌≡◌, ℕ, List, [], ◌++◌, Option, None, Some, refl, sym, ap, subst, ◌∙◌, arith}
use Rattle.std.specs.Prelude.{Contains, Result, Ok, Err, IfOk, IfErr, IsOkUnless}
use Rattle.std.proofs.lemmas.List.Elements.{All-contains}
use Rattle.turn_code.specs.declared.draft.Draft.{Draft}
use Rattle.sdl_lex.specs.declared.lexemes.Token.{Token}
use Rattle.sdl_ast.specs.Plain.{PlainBlock}
use Rattle.sdl_tables.specs.Names.{processes_of}
use Rattle.sdl_tables.specs.Scopes.{double_names}
use Rattle.sdl_sound.specs.Names.{unknown_names}
use Rattle.sdl_sound.specs.Sorts.{wrong_sorts}
use Rattle.sdl_sound.specs.Divisors.{bad_divisors}
use Rattle.sdl_sound.specs.Paths.{NeverReadsUnset}
use Rattle.sdl_sound.specs.Sound.{Sound}
use Rattle.sdl_sound.specs.Refusals.{Refuses}
use Rattle.sdl_sound.specs.declared.fault.Limit.{Limit as limit}
use Rattle.sdl_sound.specs.declared.fault.RuleFault.{RuleFault}
use Rattle.sdl_sound.specs.declared.fault.RuleFault.TheVariants.{DoubleName, UnknownName, WrongSort, NoState, NoReceiver, TwoReceivers, JoinCycle, NoAnswer, BadDivisor, Limit, Unset, NoMemory}
use Rattle.sdl_compile.specs.Expansion.{expanded}
use Rattle.sdl_compile.specs.Texts.{WellDeclared, SoundText, RefusesText}
use Rattle.sdl_compile.specs.Blocks.{MatchesBlock}
use Rattle.sdl_compile.specs.Meaning.{RunsAsMeant}
use Rattle.sdl_compile.specs.Meant.{IsSetOfBlock}
use Rattle.turn_verify.specs.Loaded.{Gives, IsWritten, IsRead, IsSoundText, IsLoaded, IsRefused}
use Rattle.turn_verify.specs.declared.loading.LoadFault.{LoadFault}
use Rattle.turn_verify.specs.declared.loading.LoadFault.TheVariants as loading

-- An empty list contains no place.
nowhere : (places : List ℕ) (place : ℕ) → places ≡ [] → Contains places place → ⊥
nowhere places place none (k, within, is) =
    let P : List ℕ → Type 0 = λ l. Contains l place in
    let bad : Contains [] place = subst P none (k, within, is) in
    omega (arith, bad.1)

in_neither : (xs ys : List ℕ) (place : ℕ) → xs ≡ [] → ys ≡ [] → Contains (xs ++ ys) place → ⊥
in_neither xs ys place none nothing there = nowhere (xs ++ ys) place (ap (λ l. l ++ ys) none ∙ nothing) there

no_refusal : (b : PlainBlock) (fault : RuleFault) → Sound b → Refuses b fault → fault ≡ NoMemory
no_refusal b (DoubleName place) sound refuses = absurd (nowhere _ place sound.distinct refuses)
no_refusal b (UnknownName place) sound refuses = absurd (nowhere _ place sound.known refuses.1)
no_refusal b (WrongSort place) sound refuses = absurd (nowhere _ place sound.sorted refuses.1)
no_refusal b (NoState place) sound refuses = absurd (nowhere _ place sound.ended refuses.1)
no_refusal b (NoReceiver place) sound refuses = absurd (nowhere _ place sound.received refuses.1)
no_refusal b (TwoReceivers place) sound refuses = absurd (nowhere _ place sound.single refuses.1)
no_refusal b (JoinCycle place) sound refuses = absurd (nowhere _ place sound.joined refuses.1)
no_refusal b (NoAnswer place) sound refuses = absurd (nowhere _ place sound.answered refuses.1)
no_refusal b (BadDivisor place) sound refuses = absurd (nowhere _ place sound.divided refuses.1)
no_refusal b (Limit which) sound refuses =
    let bad : (let none : Option limit = None in none ≡ Some which) = sym sound.within ∙ refuses.1 in absurd (cc)
no_refusal b (Unset x path) sound refuses =
    absurd (All-contains NeverReadsUnset (processes_of b) refuses.1 sound.set refuses.2 path.steps.items x refuses.3)
no_refusal b NoMemory sound refuses = refl

pub never_refused : (b : PlainBlock) (fault : RuleFault) → SoundText b → RefusesText b fault → fault ≡ NoMemory
never_refused b (DoubleName place) s refuses = absurd (in_neither (double_names (expanded b)) _ place s.sound.distinct s.declared.distinct refuses)
never_refused b (UnknownName place) s refuses = absurd (in_neither (unknown_names (expanded b)) _ place s.sound.known s.declared.known refuses.1)
never_refused b (WrongSort place) s refuses = absurd (in_neither (wrong_sorts (expanded b)) _ place s.sound.sorted s.declared.sorted refuses.1)
never_refused b (NoState place) s refuses = no_refusal (expanded b) (NoState place) s.sound refuses.1
never_refused b (NoReceiver place) s refuses = no_refusal (expanded b) (NoReceiver place) s.sound refuses.1
never_refused b (TwoReceivers place) s refuses = no_refusal (expanded b) (TwoReceivers place) s.sound refuses.1
never_refused b (JoinCycle place) s refuses = no_refusal (expanded b) (JoinCycle place) s.sound refuses.1
never_refused b (NoAnswer place) s refuses = no_refusal (expanded b) (NoAnswer place) s.sound refuses.1
never_refused b (BadDivisor place) s refuses = absurd (in_neither (bad_divisors (expanded b)) _ place s.sound.divided s.declared.divided refuses.2)
never_refused b (Limit which) s refuses = no_refusal (expanded b) (Limit which) s.sound refuses.1
never_refused b (Unset x path) s refuses = no_refusal (expanded b) (Unset x path) s.sound refuses.1
never_refused b NoMemory s refuses = refl

-- A result that has P, unless memory ran out.
pub gives_unless : {A : Type 0} (r : Result A LoadFault) (P : A → Type 0) → IfOk r P → IsOkUnless r loading.NoMemory → Gives r P
gives_unless (Ok x) P given memory = given
gives_unless (Err e) P given memory = subst (λ f. Gives (Err f) P) (sym memory) tt

pub refused_unless : {A : Type 0} (r : Result A LoadFault) (text : List ℕ) → IsOkUnless r loading.NoMemory → IfErr r (λ e. IsRefused text e)
refused_unless (Ok x) text memory = tt
refused_unless (Err e) text memory = subst (IsRefused text) (sym memory) tt

pub without_memory : {A : Type 0} (e : LoadFault) (P : A → Type 0) → e ≡ loading.NoMemory → (let r : Result A LoadFault = Err e in Gives r P)
without_memory e P memory = subst (λ f. Gives (Err f) P) (sym memory) tt

-- ---- what a text means, by the block that is written

pub loaded : (r : Result Draft LoadFault) (text : List ℕ) (ts : List Token) (b : PlainBlock) → IsWritten text ts b → IfOk r (λ v. SoundText b) → IfOk r (MatchesBlock (expanded b))
    → IfOk r (RunsAsMeant (expanded b)) → IfOk r (IsLoaded text)
loaded (Err e) text ts b written sound matches runs = tt
loaded (Ok v) text ts b written sound matches runs = record {
  tokens = ts;
  block = expanded b;
  sound = record {
    read = record { written = b; is_written = written; means = refl };
    sound = sound.sound;
    declared = sound.declared;
  };
  matches = matches;
  runs = runs;
}

pub exactly : {A : Type 0} (r : Result A LoadFault) (P : PlainBlock → A → Type 0) (text : List ℕ) (ts tokens : List Token) (b block : PlainBlock) (s : IsSoundText text ts b) → ts ≡ tokens
    → ((w : PlainBlock) → IsWritten text tokens w → block ≡ w) → (SoundText block → Gives r (P (expanded block))) → Gives r (P b)
exactly r P text ts tokens b block s same reads gives =
    let written = s.read.written in
    let there : IsWritten text tokens written = subst (λ (l : List Token). IsWritten text l written) same s.read.is_written in
    let is : block ≡ written = reads written there in
    let meant : expanded block ≡ b = ap expanded is ∙ sym s.read.means in
    subst (λ (x : PlainBlock). Gives r (P x)) meant
    (gives (record { sound = subst (λ (x : PlainBlock). Sound x) (sym meant) s.sound; declared = subst (λ (x : PlainBlock). WellDeclared x) (sym is) s.declared }))

pub in_every : {A : Type 0} (r : Result A LoadFault) (P : PlainBlock → A → Type 0) (text : List ℕ) (ts tokens : List Token) (b block : PlainBlock) (s : IsRead text ts b) → ts ≡ tokens
    → ((w : PlainBlock) → IsWritten text tokens w → block ≡ w) → IfOk r (P (expanded block)) → IfOk r (P b)
in_every r P text ts tokens b block s same reads has =
    let there : IsWritten text tokens s.written = subst (λ (l : List Token). IsWritten text l s.written) same s.is_written in
    subst (λ (x : PlainBlock). IfOk r (P x)) (ap expanded (reads s.written there) ∙ sym s.means) has
