-- The classes and types of messages (RFC 4666, 3.1.2).
use Rattle.std.specs.Prelude.{ℕ, ◌==◌, if◌then◌else◌, Result, Ok, Err}
use Rattle.m3ua_frames.specs.declared.faults.Fault.{Fault}
use Rattle.m3ua_frames.specs.declared.faults.Fault.TheVariants.{UnknownClass, UnknownType}
use Rattle.m3ua_frames.specs.declared.kinds.Kind.{Kind}
use Rattle.m3ua_frames.specs.declared.kinds.Kind.TheVariants as kind

-- Management, Transfer, SS7 Signalling Network Management, ASP State Maintenance, ASP Traffic
-- Maintenance, Routing Key Management
abbrev pub class_of : Kind → ℕ
class_of kind.Error = 0
class_of kind.Notify = 0
class_of kind.Data = 1
class_of kind.Duna = 2
class_of kind.Dava = 2
class_of kind.Daud = 2
class_of kind.Scon = 2
class_of kind.Dupu = 2
class_of kind.Drst = 2
class_of kind.Up = 3
class_of kind.Down = 3
class_of kind.Beat = 3
class_of kind.UpAck = 3
class_of kind.DownAck = 3
class_of kind.BeatAck = 3
class_of kind.Active = 4
class_of kind.Inactive = 4
class_of kind.ActiveAck = 4
class_of kind.InactiveAck = 4
class_of kind.Register = 9
class_of kind.Registered = 9
class_of kind.Deregister = 9
class_of kind.Deregistered = 9

abbrev pub type_of : Kind → ℕ
type_of kind.Error = 0
type_of kind.Notify = 1
type_of kind.Data = 1
type_of kind.Duna = 1
type_of kind.Dava = 2
type_of kind.Daud = 3
type_of kind.Scon = 4
type_of kind.Dupu = 5
type_of kind.Drst = 6
type_of kind.Up = 1
type_of kind.Down = 2
type_of kind.Beat = 3
type_of kind.UpAck = 4
type_of kind.DownAck = 5
type_of kind.BeatAck = 6
type_of kind.Active = 1
type_of kind.Inactive = 2
type_of kind.ActiveAck = 3
type_of kind.InactiveAck = 4
type_of kind.Register = 1
type_of kind.Registered = 2
type_of kind.Deregister = 3
type_of kind.Deregistered = 4

-- ---- the kind by type in each class, and by class

abbrev pub management : ℕ → Result Kind Fault
management t =
    if t == 0 then Ok kind.Error
    else (if t == 1 then Ok kind.Notify
    else Err UnknownType)

abbrev pub transfer : ℕ → Result Kind Fault
transfer t =
    if t == 1 then Ok kind.Data
    else Err UnknownType

abbrev pub network : ℕ → Result Kind Fault
network t =
    if t == 1 then Ok kind.Duna
    else (if t == 2 then Ok kind.Dava
    else (if t == 3 then Ok kind.Daud
    else (if t == 4 then Ok kind.Scon
    else (if t == 5 then Ok kind.Dupu
    else (if t == 6 then Ok kind.Drst
    else Err UnknownType)))))

abbrev pub state : ℕ → Result Kind Fault
state t =
    if t == 1 then Ok kind.Up
    else (if t == 2 then Ok kind.Down
    else (if t == 3 then Ok kind.Beat
    else (if t == 4 then Ok kind.UpAck
    else (if t == 5 then Ok kind.DownAck
    else (if t == 6 then Ok kind.BeatAck
    else Err UnknownType)))))

abbrev pub traffic : ℕ → Result Kind Fault
traffic t =
    if t == 1 then Ok kind.Active
    else (if t == 2 then Ok kind.Inactive
    else (if t == 3 then Ok kind.ActiveAck
    else (if t == 4 then Ok kind.InactiveAck
    else Err UnknownType)))

abbrev pub keys : ℕ → Result Kind Fault
keys t =
    if t == 1 then Ok kind.Register
    else (if t == 2 then Ok kind.Registered
    else (if t == 3 then Ok kind.Deregister
    else (if t == 4 then Ok kind.Deregistered
    else Err UnknownType)))

-- the kind of a class and a type
abbrev pub kind_by : ℕ → ℕ → Result Kind Fault
kind_by c t =
    if c == 0 then management t
    else (if c == 1 then transfer t
    else (if c == 2 then network t
    else (if c == 3 then state t
    else (if c == 4 then traffic t
    else (if c == 9 then keys t
    else Err UnknownClass)))))
