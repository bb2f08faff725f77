-- The error code that reports a fault (RFC 4666, 3.8.1).
use Rattle.std.specs.Prelude.{ℕ}
use Rattle.m3ua_frames.specs.declared.faults.Fault.{Fault}
use Rattle.m3ua_frames.specs.declared.faults.Fault.TheVariants as fault

-- Invalid Version, Unsupported Message Class, Unsupported Message Type, Protocol Error, Parameter
-- Field Error, Missing Parameter
abbrev pub code_of : Fault → ℕ
code_of fault.Version = 0x01
code_of fault.UnknownClass = 0x03
code_of fault.UnknownType = 0x04
code_of fault.Length = 0x07
code_of fault.Field = 0x12
code_of fault.Missing = 0x16
