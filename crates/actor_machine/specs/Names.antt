-- The actors of a set, by name and by number (Z.100, instance sets of processes).
use Rattle.std.specs.Prelude.{ℕ, zero, suc, ◌==◌, Bool, false, List, [], ◌∷◌, ◌++◌, map, Option}
use Rattle.std.specs.Prelude.{None, Some, option_map, if◌then◌else◌}
use Rattle.turn_code.specs.declared.numbers.ProcessNumber.{ProcessNumber}
use Rattle.turn_code.specs.declared.numbers.InstanceNumber.{InstanceNumber}
use Rattle.turn_code.specs.declared.input.Address.{Address}
use Rattle.turn_code.specs.declared.input.Party.TheVariants.{Process}
use Rattle.turn_code.specs.declared.draft.DraftProcess.{DraftProcess}
use Rattle.actor_machine.specs.declared.name.ActorName.{ActorName}

-- instance k of process p
abbrev pub named : ℕ → ℕ → ActorName
named p k = record { process = record { 0 = p }; instance = record { 0 = k } }

-- n instances of process p, the first of which is instance k
abbrev pub instances_from : ℕ → ℕ → ℕ → List ActorName
instances_from p k zero = []
instances_from p k (suc n) = named p k ∷ instances_from p (suc k) n

-- the actors of processes with these numbers of instances, the first of which is process p: by
-- process, then by instance
abbrev pub names_from : ℕ → List ℕ → List ActorName
names_from p [] = []
names_from p (n ∷ ns) = instances_from p 1 n ++ names_from (suc p) ns

abbrev pub counts_of : List DraftProcess → List ℕ
counts_of ps = map (λ (p : DraftProcess). p.instances) ps

-- the actors of a set of processes, by number
abbrev pub actors_of : List DraftProcess → List ActorName
actors_of ps = names_from 0 (counts_of ps)

abbrev pub same_actor : ActorName → ActorName → Bool
same_actor x y = if x.process.0 == y.process.0 then x.instance.0 == y.instance.0 else false

-- the first place of a name in a list
abbrev pub place_of : ActorName → List ActorName → Option ℕ
place_of x [] = None
place_of x (y ∷ ys) = if same_actor x y then Some 0 else option_map (λ n. suc n) (place_of x ys)

-- an actor as the sender of a signal
abbrev pub address_of : ActorName → Address
address_of x = record { party = Process x.process; instance = Some x.instance }

-- ---- the receiver of a signal

abbrev pub first_some : Option ℕ → Option ℕ → Option ℕ
first_some None o = o
first_some (Some n) o = Some n

-- The number of the actor that receives a signal from `me` to process p. If an instance is named,
-- as in a signal TO SENDER, it is that one. Otherwise it is the instance with the number of `me`,
-- or the first instance if the process has no such one.
abbrev pub number_for :
    List ActorName → ActorName → ProcessNumber → Option InstanceNumber → Option ℕ
number_for names me p (Some k) = place_of (record { process = p; instance = k }) names
number_for names me p None =
    first_some (place_of (record { process = p; instance = me.instance }) names)
    (place_of (record { process = p; instance = record { 0 = 1 } }) names)
