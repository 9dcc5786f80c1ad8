-- The faults that reading lines can answer.
-- Told in docs/PROOFS.md, "Reading a makefile".
use Rattle.mk_lines.specs.declared.fault.Fault.{Fault}
use Rattle.mk_lines.specs.declared.fault.Fault.TheVariants.{NoMemory, TooLong, TooDeep, BadDepth, Read, Write}

-- a fault that reading lines can answer; it is TooDeep only if they are too deep
abbrev pub IsReadingFault : (too_deep : Type 0) → Fault → Type 0
IsReadingFault deep NoMemory = Unit {0}
IsReadingFault deep TooLong = ⊥
IsReadingFault deep TooDeep = deep
IsReadingFault deep BadDepth = ⊥
IsReadingFault deep Read = ⊥
IsReadingFault deep Write = ⊥

-- a fault that parsing a text can answer; it is TooLong only if the text is too long, and TooDeep
-- only if it is too deep
abbrev pub IsParsingFault : (too_long too_deep : Type 0) → Fault → Type 0
IsParsingFault long deep TooLong = long
IsParsingFault long deep fault = IsReadingFault deep fault
