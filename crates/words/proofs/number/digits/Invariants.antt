use Rattle.std.proofs.Common.{◌≡◌, ◌^◌, ◌<◌, drop}
use Rattle.words.specs.Numbers.{digits_from}
use Rattle.words.proofs.number.digits.Given as goal

-- the digits left make of the value what all make of 0, and the value has as many digits as were read
abbrev pub invariant-loop-byte : goal.invariant-loop-byte
invariant-loop-byte l =
    (digits_from l.value (drop l.byte-index l.bytes) ≡ digits_from 0 l.bytes) × (l.value < 10 ^ l.byte-index)
