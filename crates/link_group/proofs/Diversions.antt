-- A diversion, selection by selection.
use Rattle.std.proofs.Common.{◌≡◌, ℕ, ◌+◌, ◌-◌, ◌<◌, suc, List, Some, None, refl, sym, ap, ◌∙◌, arith}
use Rattle.group_changeover.specs.Limits.{SELECTIONS}
use Rattle.group_changeover.specs.declared.errors.DivertFault.{DivertFault}
use Rattle.link_group.specs.Moving.{Diversion, Diverted, moved, move_fault, moves, goes_on}

one_step : (ls : List ℕ) (k s : ℕ) (d : Diversion) → moves ls (suc k) s d ≡ goes_on (moves ls k (s + 1)) d (moved ls s d) (move_fault ls s d)
unfolding moves
one_step ls k s d = refl

more : (ls : List ℕ) (s : ℕ) (d : Diversion) → s < SELECTIONS → moves ls (SELECTIONS - s) s d ≡ goes_on (moves ls (SELECTIONS - (s + 1)) (s + 1)) d (moved ls s d) (move_fault ls s d)
more ls s d h = let count : SELECTIONS - s ≡ suc (SELECTIONS - (s + 1)) = omega (arith, h) in ap (λ (n : ℕ). moves ls n s d) count ∙ one_step ls (SELECTIONS - (s + 1)) s d

pub moves_on : (ls : List ℕ) (s : ℕ) (d e : Diversion) (whole : Diverted) → s < SELECTIONS → None ≡ move_fault ls s d → e ≡ moved ls s d
    → moves ls (SELECTIONS - s) s d ≡ whole → moves ls (SELECTIONS - (s + 1)) (s + 1) e ≡ whole
moves_on ls s d e whole h fault step is =
    ap (moves ls (SELECTIONS - (s + 1)) (s + 1)) step
    ∙ ap (goes_on (moves ls (SELECTIONS - (s + 1)) (s + 1)) d (moved ls s d)) fault ∙ sym (more ls s d h) ∙ is

stopped : (ls : List ℕ) (s : ℕ) (f : DivertFault) (d : Diversion) (whole : Diverted) → s < SELECTIONS → Some f ≡ move_fault ls s d → moves ls (SELECTIONS - s) s d ≡ whole
    → record { at = d; fault = Some f } ≡ whole
stopped ls s f d whole h fault is = ap (goes_on (moves ls (SELECTIONS - (s + 1)) (s + 1)) d (moved ls s d)) fault ∙ sym (more ls s d h) ∙ is

pub stop_fault : (ls : List ℕ) (s : ℕ) (f : DivertFault) (d : Diversion) (whole : Diverted) → s < SELECTIONS → Some f ≡ move_fault ls s d → moves ls (SELECTIONS - s) s d ≡ whole
    → Some f ≡ whole.fault
stop_fault ls s f d whole h fault is = ap (λ (w : Diverted). w.fault) (stopped ls s f d whole h fault is)

pub stop_at : (ls : List ℕ) (s : ℕ) (f : DivertFault) (d e : Diversion) (whole : Diverted) → s < SELECTIONS → Some f ≡ move_fault ls s d → e ≡ d → moves ls (SELECTIONS - s) s d ≡ whole
    → e ≡ whole.at
stop_at ls s f d e whole h fault same is = same ∙ ap (λ (w : Diverted). w.at) (stopped ls s f d whole h fault is)

done : (ls : List ℕ) (s : ℕ) (d : Diversion) (whole : Diverted) → s ≡ SELECTIONS → moves ls (SELECTIONS - s) s d ≡ whole → record { at = d; fault = None } ≡ whole
unfolding moves
done ls s d whole e is = let count : 0 ≡ SELECTIONS - s = omega (arith, e) in ap (λ (n : ℕ). moves ls n s d) count ∙ is

pub end_fault : (ls : List ℕ) (s : ℕ) (d : Diversion) (whole : Diverted) → s ≡ SELECTIONS → moves ls (SELECTIONS - s) s d ≡ whole → None ≡ whole.fault
end_fault ls s d whole e is = ap (λ (w : Diverted). w.fault) (done ls s d whole e is)

pub end_at : (ls : List ℕ) (s : ℕ) (d : Diversion) (whole : Diverted) → s ≡ SELECTIONS → moves ls (SELECTIONS - s) s d ≡ whole → d ≡ whole.at
end_at ls s d whole e is = ap (λ (w : Diverted). w.at) (done ls s d whole e is)
