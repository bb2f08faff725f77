-- The counts of a valid transition are those of its longest paths.
use Rattle.std.proofs.Common.{◌≡◌, ℕ, zero, suc, ◌+◌, ◌<◌, ◌≤◌, List, [], ◌∷◌, length, map, Some, refl, sym, subst, arith, ⊎_elim}
use Rattle.std.specs.Prelude.{slice_get, Contains}
use Rattle.std.proofs.Math.Nat.{eq-or-lt_of_le}
use Rattle.turn_code.proofs.Lists.{map_length}
use Rattle.turn_code.proofs.Greatest.{attained, IsIn, long_enough, in_map}
use Rattle.turn_code.proofs.SafeRuns.{facts_at, code_at, next_at, count_above, effects_above}
use Rattle.turn_code.specs.Code.{successors, effects_of}
use Rattle.turn_code.specs.Transitions.{Transition}
use Rattle.turn_code.specs.Rules.{greatest, count_in, effects_in, counts_at, effects_at}
use Rattle.turn_code.specs.Valid.{IsValidTransition}
use Rattle.turn_code.specs.Paths.{Path, last, more, IsLongest, IsMostEffects}
use Rattle.turn_code.specs.declared.instruction.Instruction.{Instruction}
use Rattle.turn_code.specs.declared.draft.Draft.{Draft}
use Rattle.turn_code.specs.declared.draft.PlaceFacts.{PlaceFacts}

module _ (d : Draft) (t : Transition) (valid : IsValidTransition d t) where
  counts : (k : ℕ) (f : PlaceFacts) (i : Instruction) → slice_get t.piece.facts k ≡ Some f → slice_get t.piece.code k ≡ Some i
      → f.count ≡ 1 + greatest (counts_at t.piece (successors i k))
  counts k f i fe ie = (valid.budget k).counts i f ie fe

  effects : (k : ℕ) (f : PlaceFacts) (i : Instruction) → slice_get t.piece.facts k ≡ Some f → slice_get t.piece.code k ≡ Some i
      → f.effects ≡ effects_of i + greatest (effects_at t.piece (successors i k))
  effects k f i fe ie = (valid.budget k).effects i f ie fe

  -- no path is longer, and none has more effects
  most : {k n e : ℕ} → Path t.piece.code k n e → (f : PlaceFacts) → slice_get t.piece.facts k ≡ Some f → (n ≤ f.count) × (e ≤ f.effects)
  most {k} (last i ie none) f fe =
      let own = counts k f i fe ie in
      let given = effects k f i fe ie in
      (omega arith, omega arith)
  most {k} (more i j ie c path) f fe =
      let g = next_at d t valid k f i fe ie j c in
      let rest = most path g.0 g.1 in
      let longer = count_above d t valid k f i fe ie j g.0 c g.1 in
      let richer = effects_above d t valid k f i fe ie j g.0 c g.1 in
      (omega (arith, rest.0), omega (arith, rest.1))

  record Reached (k : ℕ) (f : PlaceFacts) : Type 0 where
    long_effects : ℕ
    long : Path t.piece.code k f.count long_effects
    rich_length : ℕ
    rich : Path t.piece.code k rich_length f.effects

  reached_last : (k : ℕ) (f : PlaceFacts) (i : Instruction) → slice_get t.piece.facts k ≡ Some f → slice_get t.piece.code k ≡ Some i → successors i k ≡ [] → Reached k f
  reached_last k f i fe ie none =
      let own : f.count ≡ 1 + greatest (counts_at t.piece []) = rw none at (counts k f i fe ie) in
      let given : f.effects ≡ effects_of i + greatest (effects_at t.piece []) = rw none at (effects k f i fe ie) in
      let own' : 1 ≡ f.count = omega arith in
      let given' : effects_of i ≡ f.effects = omega arith in
      let path = last i ie none in
      record {
        long_effects = effects_of i;
        long = subst (λ n. Path t.piece.code k n (effects_of i)) own' path;
        rich_length = 1;
        rich = subst (λ e. Path t.piece.code k 1 e) given' path;
      }

  reached_more : (k : ℕ) (f : PlaceFacts) (i : Instruction) → slice_get t.piece.facts k ≡ Some f → slice_get t.piece.code k ≡ Some i
      → (j : ℕ) (js : List ℕ) → successors i k ≡ j ∷ js
      → ((j : ℕ) (g : PlaceFacts) → slice_get t.piece.facts j ≡ Some g → suc g.count ≤ f.count → Reached j g) → Reached k f
  reached_more k f i fe ie j js some rest =
      let count = λ (j : ℕ). count_in (slice_get t.piece.facts j) in
      let effect = λ (j : ℕ). effects_in (slice_get t.piece.facts j) in
      let a = attained count j js in
      let b = attained effect j js in
      let ac : Contains (successors i k) a.at = rw some a.in_list in
      let bc : Contains (successors i k) b.at = rw some b.in_list in
      let ag = next_at d t valid k f i fe ie a.at ac in
      let bg = next_at d t valid k f i fe ie b.at bc in
      let ar = rest a.at ag.0 ag.1 (count_above d t valid k f i fe ie a.at ag.0 ac ag.1) in
      let br = rest b.at bg.0 bg.1 (count_above d t valid k f i fe ie b.at bg.0 bc bg.1) in
      let own : f.count ≡ 1 + greatest (counts_at t.piece (j ∷ js)) = rw some at (counts k f i fe ie) in
      let given : f.effects ≡ effects_of i + greatest (effects_at t.piece (j ∷ js)) = rw some at (effects k f i fe ie) in
      let ais : ag.0.count ≡ greatest (counts_at t.piece (j ∷ js)) = rw ag.1 at a.is in
      let bis : bg.0.effects ≡ greatest (effects_at t.piece (j ∷ js)) = rw bg.1 at b.is in
      let own' : suc ag.0.count ≡ f.count = omega arith in
      let given' : effects_of i + bg.0.effects ≡ f.effects = omega arith in
      record {
        long_effects = effects_of i + ar.long_effects;
        long = subst (λ n. Path t.piece.code k n (effects_of i + ar.long_effects)) own' (more i a.at ie ac ar.long);
        rich_length = suc br.rich_length;
        rich = subst (λ e. Path t.piece.code k (suc br.rich_length) e) given' (more i b.at ie bc br.rich);
      }

  reached_by : (k : ℕ) (f : PlaceFacts) (i : Instruction) → slice_get t.piece.facts k ≡ Some f → slice_get t.piece.code k ≡ Some i
      → (js : List ℕ) → successors i k ≡ js
      → ((j : ℕ) (g : PlaceFacts) → slice_get t.piece.facts j ≡ Some g → suc g.count ≤ f.count → Reached j g) → Reached k f
  reached_by k f i fe ie [] e rest = reached_last k f i fe ie e
  reached_by k f i fe ie (j ∷ js) e rest = reached_more k f i fe ie j js e rest

  reached : (m k : ℕ) (f : PlaceFacts) → slice_get t.piece.facts k ≡ Some f → f.count ≤ m → Reached k f
  reached zero k f fe h =
      let i = code_at d t valid k f fe in
      let own = counts k f i.0 fe i.1 in
      absurd (omega arith)
  reached (suc m) k f fe h =
      let i = code_at d t valid k f fe in
      reached_by k f i.0 fe i.1 (successors i.0 k) refl (λ j g ge less. reached m j g ge (omega arith))

  start : (f : PlaceFacts) × (slice_get t.piece.facts 0 ≡ Some f)
  start = facts_at d t valid 0 ((valid.jump 0).entry refl)

  budget_is : t.piece.certificate.budget ≡ (start).0.count
  budget_is = rw (start).1 at ((valid.budget 0).certificate refl).budget

  effects_is : t.piece.certificate.effects ≡ (start).0.effects
  effects_is = rw (start).1 at ((valid.budget 0).certificate refl).effects

  pub longest : IsLongest t.piece.code t.piece.certificate.budget
  longest =
      let r = reached (start).0.count 0 (start).0 (start).1 (omega arith) in
      rw budget_is (record {
        effects = r.long_effects;
        reached = r.long;
        greatest = λ m e path. (most path (start).0 (start).1).0;
      })

  pub most_effects : IsMostEffects t.piece.code t.piece.certificate.effects
  most_effects =
      let r = reached (start).0.count 0 (start).0 (start).1 (omega arith) in
      rw effects_is (record {
        length = r.rich_length;
        reached = r.rich;
        greatest = λ m e path. (most path (start).0 (start).1).1;
      })

  -- each number from 1 to a count is the count of a place
  counted_by : (k : ℕ) (f : PlaceFacts) (i : Instruction) → slice_get t.piece.facts k ≡ Some f → slice_get t.piece.code k ≡ Some i
      → (js : List ℕ) → successors i k ≡ js → (c : ℕ) → 1 ≤ c → suc c ≤ f.count
      → ((j : ℕ) (g : PlaceFacts) → slice_get t.piece.facts j ≡ Some g → suc g.count ≤ f.count → c ≤ g.count → IsIn c (map (λ (g : PlaceFacts). g.count) t.piece.facts))
      → IsIn c (map (λ (g : PlaceFacts). g.count) t.piece.facts)
  counted_by k f i fe ie [] e c low high rest =
      let own : f.count ≡ 1 + greatest (counts_at t.piece []) = rw e at (counts k f i fe ie) in
      absurd (omega arith)
  counted_by k f i fe ie (j ∷ js) e c low high rest =
      let a = attained (λ (j : ℕ). count_in (slice_get t.piece.facts j)) j js in
      let ac : Contains (successors i k) a.at = rw e a.in_list in
      let g = next_at d t valid k f i fe ie a.at ac in
      let own : f.count ≡ 1 + greatest (counts_at t.piece (j ∷ js)) = rw e at (counts k f i fe ie) in
      let ais : g.0.count ≡ greatest (counts_at t.piece (j ∷ js)) = rw g.1 at a.is in
      rest a.at g.0 g.1 (omega arith) (omega arith)

  counted : (m k : ℕ) (f : PlaceFacts) → slice_get t.piece.facts k ≡ Some f → f.count ≤ m → (c : ℕ) → 1 ≤ c → c ≤ f.count
      → IsIn c (map (λ (g : PlaceFacts). g.count) t.piece.facts)
  counted zero k f fe h c low high = absurd (omega arith)
  counted (suc m) k f fe h c low high =
      let i = code_at d t valid k f fe in
      ⊎_elim
      (λ (same : c ≡ f.count). subst (λ c. IsIn c (map (λ (g : PlaceFacts). g.count) t.piece.facts)) (sym same) (in_map (λ (g : PlaceFacts). g.count) t.piece.facts k f fe))
      (λ (less : c < f.count). counted_by k f i.0 fe i.1 (successors i.0 k) refl c low (omega (arith, less))
      (λ j g ge below deep. counted m j g ge (omega arith) c low deep))
      (eq-or-lt_of_le high)

  pub budget_small : t.piece.certificate.budget ≤ 512
  budget_small =
      let many = long_enough (start).0.count (map (λ (g : PlaceFacts). g.count) t.piece.facts)
      (λ c low high. counted (start).0.count 0 (start).0 (start).1 (omega arith) c low high) in
      let long : length (map (λ (g : PlaceFacts). g.count) t.piece.facts) ≡ length t.piece.facts = map_length (λ (g : PlaceFacts). g.count) t.piece.facts in
      let same : length t.piece.facts ≡ length t.piece.code = (valid.shape 0).facts refl in
      let size : length t.piece.code ≤ 512 = ((valid.limit 0).piece refl).size in
      let is = budget_is in
      omega arith
