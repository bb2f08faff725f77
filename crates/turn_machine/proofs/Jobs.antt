-- Facts about a job, from the set that it is made of.
use Rattle.std.proofs.Common.{◌≡◌, ℕ, zero, suc, ◌≤◌, List, length, Option, Some, None, option_map, slice_get, refl, sym, ap, ◌∙◌, subst}
use Rattle.turn_code.specs.Machine.{progress_of}
use Rattle.turn_code.specs.Run.{Ran, run, ended}
use Rattle.turn_code.specs.Transitions.{Transition, transition_at, process_at, start_of, start_at, input_at, input_of}
use Rattle.turn_code.specs.Valid.{IsValid, IsValidTransition}
use Rattle.turn_code.specs.Fits.{Fits, FitsTransition}
use Rattle.turn_code.specs.Safe.{SafeLaw}
use Rattle.turn_code.specs.declared.input.Input.{Input}
use Rattle.turn_code.specs.declared.input.Place.{Place}
use Rattle.turn_code.specs.declared.input.Place.TheVariants.{Start, State}
use Rattle.turn_code.specs.declared.numbers.ProcessNumber.{ProcessNumber}
use Rattle.turn_code.specs.declared.instruction.Instruction.{Instruction}
use Rattle.turn_code.specs.declared.machine.End.{End}
use Rattle.turn_code.specs.declared.machine.Machine.{Machine}
use Rattle.turn_code.specs.declared.draft.Cert.{Cert}
use Rattle.turn_code.specs.declared.draft.Draft.{Draft}
use Rattle.turn_code.specs.declared.draft.DraftSignal.{DraftSignal}
use Rattle.turn_code.specs.declared.draft.DraftProcess.{DraftProcess}
use Rattle.turn_code.specs.declared.draft.DraftState.{DraftState}
use Rattle.turn_code.specs.declared.draft.DraftInput.{DraftInput}
use Rattle.turn_code.specs.declared.sorts.Sorts.{Sorts}
use Rattle.turn_code.specs.Sorts.{AreSortsOf}
use Rattle.turn_check.proofs.Whole.{start_small}
use Rattle.turn_machine.specs.Turn.{Turn, turn_of, IsRunnableBy}
use Rattle.turn_machine.specs.Ends.{EndsSo}
use Rattle.turn_machine.specs.Safety.{IsSafeWithin}

pub code_small : (d : Draft) (p : ℕ) (s : Place) (i : ℕ) (t : Transition) → IsValid d → Some t ≡ transition_at d p s i → length t.piece.code ≤ 512
code_small d p s i t valid e = (((valid.each p s i t (sym e)).limit 0).piece refl).size

-- a transition has the number of its process
named_by_input : (ss : List DraftSignal) (n : ℕ) (p : DraftProcess) (q : DraftState) (o : Option DraftInput) (t : Transition)
    → option_map (input_of ss n p q) o ≡ Some t → t.number ≡ n
named_by_input ss n p q None t e = cc
named_by_input ss n p q (Some x) t e = let same : input_of ss n p q x ≡ t = cc in ap (λ (t : Transition). t.number) (sym same)

named_by_state : (ss : List DraftSignal) (n : ℕ) (p : DraftProcess) (i : ℕ) (o : Option DraftState) (t : Transition)
    → input_at ss n p i o ≡ Some t → t.number ≡ n
named_by_state ss n p i None t e = cc
named_by_state ss n p i (Some q) t e = named_by_input ss n p q (slice_get q.inputs i) t e

named_by_start : (n : ℕ) (p : DraftProcess) (i : ℕ) (t : Transition) → start_at n p i ≡ Some t → t.number ≡ n
named_by_start n p zero t e = let same : start_of n p ≡ t = cc in ap (λ (t : Transition). t.number) (sym same)
named_by_start n p (suc i) t e = cc

named_by : (ss : List DraftSignal) (n : ℕ) (s : Place) (i : ℕ) (o : Option DraftProcess) (t : Transition) → process_at ss n s i o ≡ Some t → t.number ≡ n
named_by ss n s i None t e = cc
named_by ss n Start i (Some p) t e = named_by_start n p i t e
named_by ss n (State q) i (Some p) t e = named_by_state ss n p i (slice_get p.states q.0) t e

-- a transition has its process
own_by_input : (ss : List DraftSignal) (n : ℕ) (p : DraftProcess) (q : DraftState) (o : Option DraftInput) (t : Transition)
    → option_map (input_of ss n p q) o ≡ Some t → p ≡ t.process
own_by_input ss n p q None t e = cc
own_by_input ss n p q (Some x) t e = let same : input_of ss n p q x ≡ t = cc in ap (λ (t : Transition). t.process) same

own_by_state : (ss : List DraftSignal) (n : ℕ) (p : DraftProcess) (i : ℕ) (o : Option DraftState) (t : Transition)
    → input_at ss n p i o ≡ Some t → p ≡ t.process
own_by_state ss n p i None t e = cc
own_by_state ss n p i (Some q) t e = own_by_input ss n p q (slice_get q.inputs i) t e

own_by_start : (n : ℕ) (p : DraftProcess) (i : ℕ) (t : Transition) → start_at n p i ≡ Some t → p ≡ t.process
own_by_start n p zero t e = let same : start_of n p ≡ t = cc in ap (λ (t : Transition). t.process) same
own_by_start n p (suc i) t e = cc

own_by : (ss : List DraftSignal) (n : ℕ) (s : Place) (i : ℕ) (o : Option DraftProcess) (t : Transition) → process_at ss n s i o ≡ Some t → o ≡ Some t.process
own_by ss n s i None t e = cc
own_by ss n Start i (Some p) t e = ap Some (own_by_start n p i t e)
own_by ss n (State q) i (Some p) t e = ap Some (own_by_state ss n p i (slice_get p.states q.0) t e)

own_process : (d : Draft) (p : ℕ) (s : Place) (i : ℕ) (t : Transition) → Some t ≡ transition_at d p s i → slice_get d.processes p ≡ Some t.process
own_process d p s i t e = own_by d.signals p s i (slice_get d.processes p) t (sym e)

-- the sorts are those of a process of the draft
abbrev pub AreSortsAt : Draft → ℕ → Sorts → Type 0
AreSortsAt d p s = (q : DraftProcess) → slice_get d.processes p ≡ Some q → AreSortsOf d.signals q.variables s

pub job_runs : (d : Draft) (actor turn : ℕ) (p : ProcessNumber) (s : Place) (i : ℕ) (x : Input) (t : Transition) (code : List Instruction) (sorts : Sorts)
    → IsValid d → Some t ≡ transition_at d p.0 s i → Fits d p.0 s i x → code ≡ t.piece.code → AreSortsAt d p.0 sorts
    → IsRunnableBy (turn_of actor turn p s i code t.piece.certificate x) sorts
job_runs d actor turn p s i x t code sorts valid e fits same own =
    let both : Some fits.transition ≡ Some t = sym fits.there ∙ sym e in
    let one : fits.transition ≡ t = cc in
    let there : slice_get d.processes p.0 ≡ Some t.process = own_process d p.0 s i t e in
    record {
      runnable = record {
        draft = d;
        transition = t;
        limits = valid.limits;
        valid = valid.each p.0 s i t (sym e);
        number = named_by d.signals p.0 s i (slice_get d.processes p.0) t (sym e);
        code = sym same;
        certificate = refl;
        fits = subst (λ t. FitsTransition d t x) one fits.fits;
      };
      few = start_small d p.0 t.process valid there;
      sorts = own t.process there;
    }

pub own_run : (j : Turn) (code : List Instruction) (x : Input) (r : Ran) → code ≡ j.code → x ≡ j.input → run code x ≡ r → run j.code j.input ≡ r
own_run j code x r c p h = sym (ap (λ u. run code u) p ∙ ap (λ u. run u j.input) c) ∙ h

-- the run of a job is safe within its counts
runs_safely : (j : Turn) (s : Sorts) → SafeLaw → IsRunnableBy j s → IsSafeWithin j.code j.input s j.certificate
runs_safely j s law h = record {
  draft = h.runnable.draft;
  transition = h.runnable.transition;
  limits = h.runnable.limits;
  valid = h.runnable.valid;
  few = h.few;
  code_is = h.runnable.code;
  certificate_is = h.runnable.certificate;
  sorts = h.sorts;
  fits = h.runnable.fits;
  small = law.budget h.runnable.draft h.runnable.transition h.runnable.valid;
  safe = law.safe h.runnable.draft h.runnable.transition j.input h.runnable.valid h.runnable.fits;
}

pub safe_of : (j : Turn) (code : List Instruction) (x : Input) (s : Sorts) (c : Cert) → SafeLaw → IsRunnableBy j s
    → code ≡ j.code → x ≡ j.input → c ≡ j.certificate → IsSafeWithin code x s c
safe_of j code x s c law r e f g =
    subst (λ u. IsSafeWithin u x s c) (sym e) (
    subst (λ u. IsSafeWithin j.code u s c) (sym f) (
    subst (λ u. IsSafeWithin j.code j.input s u) (sym g) (runs_safely j s law r)))

-- ---- a transition that runs without a copy of its code

same_there : (o : Option Transition) (t u : Transition) → Some t ≡ o → o ≡ Some u → u ≡ t
same_there o t u e h = let both : Some t ≡ Some u = e ∙ h in cc

pub safe_in : (d : Draft) (p : ℕ) (s : Place) (i : ℕ) (x : Input) (t : Transition) (code : List Instruction) (sorts : Sorts) → SafeLaw → IsValid d
    → Some t ≡ transition_at d p s i → Fits d p s i x → code ≡ t.piece.code → AreSortsAt d p sorts → IsSafeWithin code x sorts t.piece.certificate
safe_in d p s i x t code sorts law valid e fits same own =
    let is : fits.transition ≡ t = same_there (transition_at d p s i) t fits.transition e fits.there in
    let there : slice_get d.processes p ≡ Some t.process = own_process d p s i t e in
    let ok : IsValidTransition d t = valid.each p s i t (sym e) in
    let right : FitsTransition d t x = subst (λ u. FitsTransition d u x) is fits.fits in
    record {
      draft = d;
      transition = t;
      limits = valid.limits;
      valid = ok;
      few = start_small d p t.process valid there;
      code_is = sym same;
      certificate_is = refl;
      sorts = own t.process there;
      fits = right;
      small = law.budget d t ok;
      safe = law.safe d t x ok right;
    }

pub ends_in : (d : Draft) (p : ℕ) (s : Place) (i : ℕ) (x : Input) (t : Transition) (code : List Instruction) (e : End) (m : Machine)
    → Some t ≡ transition_at d p s i → code ≡ t.piece.code → run code x ≡ ended e (progress_of m) → m.count ≤ t.piece.certificate.budget
    → length m.effects.items ≤ t.piece.certificate.effects → EndsSo d p s i x e m
ends_in d p s i x t code e m h same ran within few =
    record { transition = t; there = sym h; ran = ap (λ u. run u x) (sym same) ∙ ran; within = within; few = few }
