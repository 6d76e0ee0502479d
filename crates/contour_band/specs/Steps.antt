-- How many bytes a call of the system moved, and where they lie, and which failed calls are made again.
use Rattle.std.specs.Prelude.{◌≡◌, ℕ, ◌+◌, ◌≤◌, ◌⊎◌, Option, Some, None, Result, Ok, Err}
use Rattle.std.specs.IoError.{error_kind}
use Rattle.std.specs.declared.io.Error.{Error}
use Rattle.std.specs.declared.io.ErrorKind.TheVariants.{Interrupted, WouldBlock}

-- a step from place i on stays inside a list of n
abbrev pub Fits : Result (Option ℕ) Error → ℕ → ℕ → Type 0
Fits (Ok (Some k)) i n = i + k ≤ n
Fits (Ok None) i n = Unit {0}
Fits (Err error) i n = Unit {0}

-- a step that moved nothing
abbrev pub Idle : Result (Option ℕ) Error → Type 0
Idle (Ok (Some k)) = ⊥
Idle (Ok None) = Unit {0}
Idle (Err error) = Unit {0}

-- a list of n holds the text that was read
abbrev pub InputFits : Result ℕ Error → ℕ → Type 0
InputFits (Ok k) n = k ≤ n
InputFits (Err error) n = Unit {0}

-- a call that failed so is made again
abbrev pub IsRetried : Error → Type 0
IsRetried error = (error_kind error ≡ Interrupted) ⊎ (error_kind error ≡ WouldBlock)
